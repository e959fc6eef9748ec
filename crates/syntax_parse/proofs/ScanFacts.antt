-- The scan that a lexer gives fits the text of the token.
use Rattle.std.proofs.Common.{◌≡◌, ℕ, ◌+◌, ◌-◌, true, List, [], ◌∷◌, ◌++◌, ◌&&◌, length, take, drop, refl, sym, ap, ap₂, ◌∙◌, subst, arith, append_assoc, length-append, Option, None, Some, ◌<◌, false}
use Rattle.std.proofs.Math.Utf8.{encodes, scalars}
use Rattle.std.proofs.lemmas.Bool.{and_parts}
use Rattle.std.proofs.Math.Seq.{take-append_seam}
use Rattle.std.proofs.lemmas.Str.{IsCharBoundary-at_seam, encodes-append, encodes-chars, scalars-chars}
use Rattle.std.specs.Str.{chars, IsCharBoundary, IsUtf8}
use Rattle.tt_base.specs.Scan.{FitsText, closing_len, opening_len}
use Rattle.syntax_lex.specs.Front.{byte_length}
use Rattle.syntax_lex.specs.Reading.{first_token_of, reading}
use Rattle.syntax_lex.proofs.TokenFacts.{len_first}
use Rattle.syntax_lex.specs.declared.token.LiteralKind.{LiteralKind}
use Rattle.syntax_lex.specs.declared.token.LiteralKind.TheVariants as literals
use Rattle.syntax_lex.proofs.FrontFacts.{empty_from_chars}
use Rattle.syntax_lex.specs.declared.token.Token.{Token}
use Rattle.syntax_lex.specs.declared.token.TokenKind.{TokenKind}
use Rattle.syntax_lex.specs.declared.token.TokenKind.TheVariants as kinds
use Rattle.syntax_parse.specs.Inside.{literal_fault}
use Rattle.syntax_parse.specs.Pieces.{scan_of}
use Rattle.syntax_parse.specs.RawLiteral.{raw_fault}
use Rattle.syntax_parse.specs.Role.{literal_role, role_in, with_inside}
use Rattle.syntax_parse.specs.Scanned.{IsScanned}
use Rattle.syntax_parse.specs.declared.fault.BadToken.{BadToken}
use Rattle.syntax_parse.specs.declared.fault.BadToken.TheVariants as bad
use Rattle.syntax_parse.specs.declared.role.Role.TheVariants.{Bad, Leaf}
use Rattle.syntax_parse.proofs.ShapeFacts.{ShapeAs, literal_shape, after_of, ahead_of, is_closed}
use Rattle.syntax_parse.proofs.ShapeParts.{Shape, front_of}

-- the numbers of the lexer's kind are those of the scan
ahead_is : (kind : LiteralKind) → opening_len (scan_of kind) ≡ ahead_of kind
ahead_is (literals.Int base empty) = refl
ahead_is (literals.Float base empty) = refl
ahead_is (literals.Char terminated) = refl
ahead_is (literals.Byte terminated) = refl
ahead_is (literals.Str terminated) = refl
ahead_is (literals.ByteStr terminated) = refl
ahead_is (literals.CStr terminated) = refl
ahead_is (literals.RawStr hashes) = refl
ahead_is (literals.RawByteStr hashes) = refl
ahead_is (literals.RawCStr hashes) = refl

after_is : (kind : LiteralKind) → is_closed kind ≡ true → closing_len (scan_of kind) ≡ after_of kind
after_is (literals.Int base empty) h = refl
after_is (literals.Float base empty) h = refl
after_is (literals.Char terminated) h = rw h refl
after_is (literals.Byte terminated) h = rw h refl
after_is (literals.Str terminated) h = rw h refl
after_is (literals.ByteStr terminated) h = rw h refl
after_is (literals.CStr terminated) h = rw h refl
after_is (literals.RawStr hashes) h = refl
after_is (literals.RawByteStr hashes) h = refl
after_is (literals.RawCStr hashes) h = refl

byte_length-is : (cs : List ℕ) → byte_length cs ≡ length (encodes cs)
unfolding byte_length
byte_length-is cs = refl

scalars-parts : (xs ys : List ℕ) → scalars (xs ++ ys) ≡ true → scalars ys ≡ true
scalars-parts [] ys h = h
scalars-parts (x ∷ xs) ys h = scalars-parts xs ys (and_parts _ _ h).1

-- a boundary after the characters in front
seam : (word xs ys : List ℕ) (n : ℕ) → word ≡ encodes (xs ++ ys) → scalars (xs ++ ys) ≡ true → n ≡ byte_length xs → IsCharBoundary word n
seam word xs ys n is fine len =
    subst (λ k. IsCharBoundary word k) (sym (len ∙ byte_length-is xs))
    (IsCharBoundary-at_seam word (encodes xs) (encodes ys) (is ∙ encodes-append xs ys) (ys, (scalars-parts xs ys fine, refl)))

byte_length-join : (xs ys : List ℕ) → byte_length (xs ++ ys) ≡ byte_length xs + byte_length ys
unfolding byte_length
byte_length-join xs ys = ap length (encodes-append xs ys) ∙ length-append (encodes xs) (encodes ys)

-- a word made of what precedes the value, the value, what follows it, and a suffix
pub parts_fit : (word before body after suffix : List ℕ) (kind : LiteralKind) (place : ℕ) → is_closed kind ≡ true
    → word ≡ encodes (before ++ (body ++ (after ++ suffix))) → scalars (before ++ (body ++ (after ++ suffix))) ≡ true
    → byte_length before ≡ ahead_of kind → byte_length after ≡ after_of kind → place ≡ byte_length (before ++ (body ++ after))
    → FitsText word (scan_of kind) place
parts_fit word before body after suffix kind place closed is fine ahead behind at =
    let whole : (before ++ (body ++ after)) ++ suffix ≡ before ++ (body ++ (after ++ suffix)) = append_assoc before (body ++ after) suffix ∙ ap (λ t. before ++ t) (append_assoc body after suffix) in
    let value : (before ++ body) ++ (after ++ suffix) ≡ before ++ (body ++ (after ++ suffix)) = append_assoc before body (after ++ suffix) in
    let a = ahead_is kind in
    let b = after_is kind closed in
    let lens = byte_length-join before (body ++ after) in
    let inner = byte_length-join body after in
    let front = byte_length-join before body in record {
      suffix_starts = seam word (before ++ (body ++ after)) suffix place (is ∙ ap encodes (sym whole)) (subst (λ t. scalars t ≡ true) (sym whole) fine) at;
      room = omega (arith, a, b, ahead, behind, at, lens, inner);
      value_starts = seam word before (body ++ (after ++ suffix)) (opening_len (scan_of kind)) is fine (a ∙ sym ahead);
      value_ends = seam word (before ++ body) (after ++ suffix) (place - closing_len (scan_of kind)) (is ∙ ap encodes (sym value)) (subst (λ t. scalars t ≡ true) (sym value) fine)
          (omega (arith, b, behind, at, lens, inner, front));
    }

scalars-front : (xs ys : List ℕ) → scalars (xs ++ ys) ≡ true → scalars xs ≡ true
scalars-front [] ys h = refl
scalars-front (x ∷ xs) ys h = let both = and_parts _ _ h in ap₂ (λ a b. a && b) both.0 (scalars-front xs ys both.1)

-- the scan of the first token fits the token's text
pub scan_fits : (bs : List ℕ) (c : ℕ) (cs : List ℕ) (kind : LiteralKind) (place : ℕ) → IsUtf8 bs → chars bs ≡ c ∷ cs → is_closed kind ≡ true
    → Shape (c ∷ cs) (reading (c ∷ cs)).1 (ahead_of kind) (after_of kind) place
    → FitsText (take (first_token_of (c ∷ cs)).len bs) (scan_of kind) place
scan_fits bs c cs kind place utf8 are closed shape =
    let left = (reading (c ∷ cs)).1 in
    let tail = front_of shape.ends in
    let x : List ℕ = shape.before ++ (shape.body ++ (shape.after ++ tail.0)) in
    let inner : shape.before ++ ((shape.body ++ shape.after) ++ shape.rest) ≡ c ∷ cs = ap (λ t. shape.before ++ t) (append_assoc shape.body shape.after shape.rest) ∙ sym shape.text in
    let all : c ∷ cs ≡ x ++ left =
    shape.text ∙ ap (λ t. shape.before ++ (shape.body ++ (shape.after ++ t))) tail.1
    ∙ sym (append_assoc shape.before (shape.body ++ (shape.after ++ tail.0)) left ∙ ap (λ t. shape.before ++ t) (append_assoc shape.body (shape.after ++ tail.0) left ∙ ap (λ t. shape.body ++ t) (append_assoc shape.after tail.0 left))) in
    let bytes : bs ≡ encodes x ++ encodes left = sym (encodes-chars bs utf8) ∙ ap encodes (are ∙ all) ∙ encodes-append x left in
    let len : (first_token_of (c ∷ cs)).len ≡ length (encodes x) = omega (arith, (len_first c cs).1, ap byte_length all, byte_length-join x left, byte_length-is x) in
    let word : take (first_token_of (c ∷ cs)).len bs ≡ encodes x = ap (λ n. take n bs) len ∙ ap (λ b. take (length (encodes x)) b) bytes ∙ take-append_seam (encodes x) (encodes left) in
    let fine : scalars x ≡ true = scalars-front x left (subst (λ t. scalars t ≡ true) (are ∙ all) (scalars-chars bs utf8)) in
    let regroup : (shape.before ++ (shape.body ++ shape.after)) ++ shape.rest ≡ c ∷ cs = append_assoc shape.before (shape.body ++ shape.after) shape.rest ∙ inner in
    let at : place ≡ byte_length (shape.before ++ (shape.body ++ shape.after)) =
    omega (arith, shape.suffix, ap byte_length regroup, byte_length-join (shape.before ++ (shape.body ++ shape.after)) shape.rest) in
    parts_fit (take (first_token_of (c ∷ cs)).len bs) shape.before shape.body shape.after tail.0 kind place closed word fine shape.open_len shape.close_len at

-- a bad token stays bad
bad_stays : (why : BadToken) (inside : Option BadToken) → with_inside (Bad why) inside ≡ Leaf → ⊥
bad_stays why None h = cc
bad_stays why (Some other) h = cc

-- a literal that is a leaf is closed
closed_leaf : (kind : LiteralKind) (text : List ℕ) (inside : Option BadToken) → with_inside (literal_role kind text) inside ≡ Leaf → is_closed kind ≡ true
closed_leaf (literals.Int base empty) text inside h = refl
closed_leaf (literals.Float base empty) text inside h = refl
closed_leaf (literals.Char true) text inside h = refl
closed_leaf (literals.Char false) text inside h = absurd (bad_stays bad.UnterminatedLiteral inside h)
closed_leaf (literals.Byte true) text inside h = refl
closed_leaf (literals.Byte false) text inside h = absurd (bad_stays bad.UnterminatedLiteral inside h)
closed_leaf (literals.Str true) text inside h = refl
closed_leaf (literals.Str false) text inside h = absurd (bad_stays bad.UnterminatedLiteral inside h)
closed_leaf (literals.ByteStr true) text inside h = refl
closed_leaf (literals.ByteStr false) text inside h = absurd (bad_stays bad.UnterminatedLiteral inside h)
closed_leaf (literals.CStr true) text inside h = refl
closed_leaf (literals.CStr false) text inside h = absurd (bad_stays bad.UnterminatedLiteral inside h)
closed_leaf (literals.RawStr (Some hashes)) text inside h = refl
closed_leaf (literals.RawStr None) text inside h = absurd (bad_stays (raw_fault (drop 1 text)) inside h)
closed_leaf (literals.RawByteStr (Some hashes)) text inside h = refl
closed_leaf (literals.RawByteStr None) text inside h = absurd (bad_stays (raw_fault (drop 2 text)) inside h)
closed_leaf (literals.RawCStr (Some hashes)) text inside h = refl
closed_leaf (literals.RawCStr None) text inside h = absurd (bad_stays (raw_fault (drop 2 text)) inside h)

-- the scan fits the word of a first token that is a leaf
scanned : (bs : List ℕ) (c : ℕ) (cs : List ℕ) (kind : TokenKind) → IsUtf8 bs → chars bs ≡ c ∷ cs → (reading (c ∷ cs)).0 ≡ kind
    → role_in kind (take (first_token_of (c ∷ cs)).len bs) ≡ Leaf → IsScanned kind (take (first_token_of (c ∷ cs)).len bs)
scanned bs c cs (kinds.Literal kind place) utf8 are is role =
    let word = take (first_token_of (c ∷ cs)).len bs in
    let closed = closed_leaf kind word (literal_fault kind place word) role in
    scan_fits bs c cs kind place utf8 are closed ((subst (λ k. ShapeAs k (reading (c ∷ cs)).1 (c ∷ cs)) is (literal_shape c cs)) closed)
scanned bs c cs (kinds.LineComment doc) utf8 are is role = tt
scanned bs c cs (kinds.BlockComment doc terminated) utf8 are is role = tt
scanned bs c cs kinds.Whitespace utf8 are is role = tt
scanned bs c cs kinds.Ident utf8 are is role = tt
scanned bs c cs kinds.InvalidIdent utf8 are is role = tt
scanned bs c cs kinds.RawIdent utf8 are is role = tt
scanned bs c cs kinds.UnknownPrefix utf8 are is role = tt
scanned bs c cs kinds.UnknownPrefixLifetime utf8 are is role = tt
scanned bs c cs kinds.RawLifetime utf8 are is role = tt
scanned bs c cs kinds.GuardedStrPrefix utf8 are is role = tt
scanned bs c cs (kinds.Lifetime digit) utf8 are is role = tt
scanned bs c cs kinds.Semi utf8 are is role = tt
scanned bs c cs kinds.Comma utf8 are is role = tt
scanned bs c cs kinds.Dot utf8 are is role = tt
scanned bs c cs kinds.OpenParen utf8 are is role = tt
scanned bs c cs kinds.CloseParen utf8 are is role = tt
scanned bs c cs kinds.OpenBrace utf8 are is role = tt
scanned bs c cs kinds.CloseBrace utf8 are is role = tt
scanned bs c cs kinds.OpenBracket utf8 are is role = tt
scanned bs c cs kinds.CloseBracket utf8 are is role = tt
scanned bs c cs kinds.At utf8 are is role = tt
scanned bs c cs kinds.Pound utf8 are is role = tt
scanned bs c cs kinds.Tilde utf8 are is role = tt
scanned bs c cs kinds.Question utf8 are is role = tt
scanned bs c cs kinds.Colon utf8 are is role = tt
scanned bs c cs kinds.Dollar utf8 are is role = tt
scanned bs c cs kinds.Eq utf8 are is role = tt
scanned bs c cs kinds.Bang utf8 are is role = tt
scanned bs c cs kinds.Lt utf8 are is role = tt
scanned bs c cs kinds.Gt utf8 are is role = tt
scanned bs c cs kinds.Minus utf8 are is role = tt
scanned bs c cs kinds.And utf8 are is role = tt
scanned bs c cs kinds.Or utf8 are is role = tt
scanned bs c cs kinds.Plus utf8 are is role = tt
scanned bs c cs kinds.Star utf8 are is role = tt
scanned bs c cs kinds.Slash utf8 are is role = tt
scanned bs c cs kinds.Caret utf8 are is role = tt
scanned bs c cs kinds.Percent utf8 are is role = tt
scanned bs c cs kinds.Unknown utf8 are is role = tt

kind_first : (cs : List ℕ) → (reading cs).0 ≡ (first_token_of cs).kind
unfolding first_token_of
kind_first cs = refl

pub word_scanned : (bs word : List ℕ) (token : Token) → IsUtf8 bs → 0 < length bs → token ≡ first_token_of (chars bs) → word ≡ take token.len bs
    → role_in token.kind word ≡ Leaf → IsScanned token.kind word
word_scanned bs word token utf8 some is word_is role = go (chars bs) refl
  where
    go : (cs : List ℕ) → chars bs ≡ cs → IsScanned token.kind word
    go [] e = absurd (omega (arith, empty_from_chars bs utf8 e))
    go (c ∷ cs) e =
        let same : token ≡ first_token_of (c ∷ cs) = is ∙ ap first_token_of e in
        let at : word ≡ take (first_token_of (c ∷ cs)).len bs = word_is ∙ ap (λ t. take t.len bs) same in
        subst (λ w. IsScanned token.kind w) (sym at)
        (scanned bs c cs token.kind utf8 e (kind_first (c ∷ cs) ∙ ap (λ t. t.kind) (sym same)) (subst (λ w. role_in token.kind w ≡ Leaf) at role))
