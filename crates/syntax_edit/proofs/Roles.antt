-- What the roles of tokens say about their texts: all facts about their shape that are used.
use Rattle.std.proofs.Common.{◌≡◌, ◌⊎◌, ℕ, Bool, true, false, IsTrue, inl, inr, List, ◌∷◌, ◌++◌, ◌&&◌, length, take, drop, is_none, Option, None, Some, refl, sym, ap, ap₂, ◌∙◌, arith, length-append, if◌then◌else◌}
use Rattle.std.proofs.Math.Seq.{drop-length, take-append_seam, take-length}
use Rattle.std.specs.Prelude.{nat_lt}
use Rattle.syntax_lex.specs.declared.token.Base.TheVariants.{Binary, Octal, Decimal, Hexadecimal}
use Rattle.syntax_lex.specs.declared.token.DocStyle.{DocStyle}
use Rattle.syntax_lex.specs.declared.token.LiteralKind.{LiteralKind}
use Rattle.syntax_lex.specs.declared.token.LiteralKind.TheVariants as literals
use Rattle.syntax_lex.specs.declared.token.TokenKind.{TokenKind}
use Rattle.syntax_lex.specs.declared.token.TokenKind.TheVariants as kinds
use Rattle.syntax_lex.specs.Stops.{is_closed}
use Rattle.syntax_parse.proofs.Hashes.{none_wrong}
use Rattle.syntax_parse.specs.Doc.{block_text, line_text}
use Rattle.syntax_parse.specs.Inside.{bare_return, before_suffix, block_fault, fault_if, first_of, hashes_fault, inner_return, inside_fault, line_fault, literal_fault, return_fault, suffix_fault, takes_suffix}
use Rattle.syntax_parse.specs.RawLiteral.{raw_fault}
use Rattle.syntax_parse.specs.Role.{literal_role, role_in, with_inside}
use Rattle.syntax_parse.specs.declared.fault.BadToken.{BadToken}
use Rattle.syntax_parse.specs.declared.fault.BadToken.TheVariants as bad
use Rattle.syntax_parse.specs.declared.role.Role.{Role}
use Rattle.syntax_parse.specs.declared.role.Role.TheVariants.{Bad, Leaf}
use Rattle.syntax_unparse.proofs.KindFacts.{closed_leaf, lifetime_cases}
use Rattle.syntax_unparse.specs.Writable.{is_lifetime}

-- a leaf, or bad
abbrev pub IsEither : Role → Type 0
IsEither role = (role ≡ Leaf) ⊎ ((why : BadToken) × (role ≡ Bad why))

-- a role that is not bad is a leaf
pub leaf_valid : (role : Role) → IsEither role → ((why : BadToken) → role ≡ Bad why → ⊥) → role ≡ Leaf
leaf_valid role (inl e) fine = e
leaf_valid role (inr (why, e)) fine = absurd (fine why e)

bad_leaf : (why : BadToken) → Bad why ≡ Leaf → ⊥
bad_leaf why e = cc

leaf_or_bad : (wrong : Bool) (why : BadToken) (inside : Option BadToken) → IsEither (with_inside (if wrong then Bad why else Leaf) inside)
leaf_or_bad true why None = inr (why, refl)
leaf_or_bad true why (Some other) = inr (why, refl)
leaf_or_bad false why None = inl refl
leaf_or_bad false why (Some other) = inr (other, refl)

other_base : (empty : Bool) (inside : Option BadToken) → IsEither (with_inside (if empty then Bad bad.EmptyExponent else Bad bad.FloatOfAnotherBase) inside)
other_base true None = inr (bad.EmptyExponent, refl)
other_base true (Some why) = inr (bad.EmptyExponent, refl)
other_base false None = inr (bad.FloatOfAnotherBase, refl)
other_base false (Some why) = inr (bad.FloatOfAnotherBase, refl)

literal_either : (kind : LiteralKind) (text : List ℕ) (inside : Option BadToken) → IsEither (with_inside (literal_role kind text) inside)
literal_either (literals.Float Decimal empty) text inside = leaf_or_bad empty bad.EmptyExponent inside
literal_either (literals.Float Binary empty) text inside = other_base empty inside
literal_either (literals.Float Octal empty) text inside = other_base empty inside
literal_either (literals.Float Hexadecimal empty) text inside = other_base empty inside
literal_either kind text inside = leaf_or_bad _ _ inside

-- a token that is a leaf is one whatever its text is
role_leaf : (role : Role) (inside : Option BadToken) → with_inside role inside ≡ Leaf → role ≡ Leaf
role_leaf Leaf inside h = refl
role_leaf role None h = h
role_leaf role (Some other) h = h

leaf_stays : (wrong : Bool) (why other : BadToken) → (if wrong then Bad why else Leaf) ≡ Leaf → (if wrong then Bad other else Leaf) ≡ Leaf
leaf_stays true why other h = absurd (bad_leaf why h)
leaf_stays false why other h = refl

literal_stays : (kind : LiteralKind) (text other : List ℕ) → literal_role kind text ≡ Leaf → literal_role kind other ≡ Leaf
literal_stays (literals.RawStr hashes) text other h = leaf_stays (is_none hashes) (raw_fault (drop 1 text)) (raw_fault (drop 1 other)) h
literal_stays (literals.RawByteStr hashes) text other h = leaf_stays (is_none hashes) (raw_fault (drop 2 text)) (raw_fault (drop 2 other)) h
literal_stays (literals.RawCStr hashes) text other h = leaf_stays (is_none hashes) (raw_fault (drop 2 text)) (raw_fault (drop 2 other)) h
literal_stays kind text other h = h

first_none : (a b : Option BadToken) → first_of a b ≡ None → a ≡ None
first_none None b h = refl
first_none (Some why) b h = h

-- no suffix is too long
no_suffix : (kind : LiteralKind) (start : ℕ) (word : List ℕ) → start ≡ length word → suffix_fault kind start word ≡ None
no_suffix kind start word place = ap (λ t. fault_if (takes_suffix kind && nat_lt 255 (length t)) bad.SuffixTooLong) (ap (λ n. drop n word) place ∙ drop-length word) ∙ never (takes_suffix kind)
  where
    never : (takes : Bool) → fault_if (takes && false) bad.SuffixTooLong ≡ None
    never true = refl
    never false = refl

-- a literal
pub literal_two : (kind : LiteralKind) (start : ℕ) (word : List ℕ) → IsEither (role_in (kinds.Literal kind start) word)
literal_two kind start word = literal_either kind word (literal_fault kind start word)

-- a literal that is a leaf is closed
pub literal_closed : (kind : LiteralKind) (start : ℕ) (word : List ℕ) → role_in (kinds.Literal kind start) word ≡ Leaf → is_closed kind ≡ true
literal_closed kind start word fine = closed_leaf kind word (literal_fault kind start word) fine

-- and is a leaf without its suffix
pub literal_kept : (kind : LiteralKind) (start : ℕ) (word suffix : List ℕ) → start ≡ length word → role_in (kinds.Literal kind start) (word ++ suffix) ≡ Leaf → role_in (kinds.Literal kind start) word ≡ Leaf
literal_kept kind start word suffix place fine =
    let longs = length-append word suffix in
    let cut : before_suffix start (word ++ suffix) ≡ word = ap (λ n. take n (word ++ suffix)) (omega (arith, place, longs)) ∙ take-append_seam word suffix in
    let all : before_suffix start word ≡ word = ap (λ n. take n word) (omega (arith, place)) ∙ take-length word in
    let role = literal_stays kind (word ++ suffix) word (role_leaf (literal_role kind (word ++ suffix)) (literal_fault kind start (word ++ suffix)) fine) in
    let none = none_wrong (literal_role kind (word ++ suffix)) (literal_fault kind start (word ++ suffix)) fine in
    let inside = first_none (inside_fault kind (before_suffix start (word ++ suffix))) (suffix_fault kind start (word ++ suffix)) none in
    let quiet : inside_fault kind (before_suffix start word) ≡ None = ap (inside_fault kind) (all ∙ sym cut) ∙ inside in
    ap₂ with_inside role (ap₂ first_of quiet (no_suffix kind start word place))

-- a raw string without a bare carriage return is a leaf
pub raw_role : (n start : ℕ) (word : List ℕ) → start ≡ length word → bare_return word ≡ false → role_in (kinds.Literal (literals.RawStr (Some n)) start) word ≡ Leaf
raw_role n start word place quiet =
    let all : before_suffix start word ≡ word = ap (λ k. take k word) (omega (arith, place)) ∙ take-length word in
    ap (λ t. with_inside Leaf (first_of (return_fault t) None)) all ∙ ap (λ b. with_inside Leaf (first_of (fault_if b bad.BareReturn) None)) quiet

none_if : (wrong : Bool) → fault_if wrong bad.BareReturn ≡ None → wrong ≡ false
none_if false h = refl
none_if true h = cc

-- a leaf, if nothing is wrong inside
pub leaf_two : (inside : Option BadToken) → IsEither (with_inside Leaf inside)
leaf_two inside = leaf_or_bad false bad.BareReturn inside

-- a documenting comment of one line that is a leaf has no carriage return except before an end of a line
pub line_role : (style : DocStyle) (word : List ℕ) → role_in (kinds.LineComment (Some style)) word ≡ Leaf → inner_return word ≡ false
line_role style word fine = none_if (inner_return word) (first_none (fault_if (inner_return word) bad.BareReturn) (hashes_fault (line_text style word)) (none_wrong Leaf (line_fault style word) fine))

-- a documenting block comment that is a leaf has no bare carriage return
pub block_role : (style : DocStyle) (word : List ℕ) → role_in (kinds.BlockComment (Some style) true) word ≡ Leaf → bare_return word ≡ false
block_role style word fine = none_if (bare_return word) (first_none (return_fault word) (hashes_fault (block_text style word)) (none_wrong Leaf (block_fault style word) fine))

-- the kind of the name of a lifetime
abbrev pub name_kind : TokenKind → TokenKind
name_kind kinds.RawLifetime = kinds.RawIdent
name_kind _ = kinds.Ident

-- the name of a lifetime that is a leaf is one
pub life_name : (kind : TokenKind) (tail : List ℕ) → IsTrue (is_lifetime kind) → role_in kind (39 ∷ tail) ≡ Leaf → role_in (name_kind kind) tail ≡ Leaf
life_name kind tail lasts fine = lifetime_cases (λ k. role_in k (39 ∷ tail) ≡ Leaf → role_in (name_kind k) tail ≡ Leaf) kind (λ digit h. refl) (λ h. h) lasts fine
