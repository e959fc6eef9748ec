-- Sorts of leaves and brackets that can be written one after another, and trees that they spell.
use Rattle.std.proofs.Common.{◌≡◌, ◌⊎◌, ℕ, ◌+◌, Bool, true, false, ◌==◌, ◌||◌, IsTrue, inl, inr, List, [], ◌∷◌, ◌++◌, None, Some, refl, sym, ap, ap₂, ◌∙◌, subst, if◌then◌else◌}
use Rattle.tt_base.specs.Forest.{Forest, end, leaf, node, size}
use Rattle.tt_base.specs.LeafText.{ident_text}
use Rattle.tt_base.specs.TreeText.{is_alone}
use Rattle.tt_base.specs.declared.delimiter.DelimiterKind.{DelimiterKind}
use Rattle.tt_base.specs.declared.delimiter.DelimiterKind.TheVariants as delimits
use Rattle.tt_base.specs.declared.ident.Ident.{Ident}
use Rattle.tt_base.specs.declared.ident.IdentIsRaw.{IdentIsRaw}
use Rattle.tt_base.specs.declared.leaf.Leaf.TheVariants as leaf_of
use Rattle.tt_base.specs.declared.literal.Literal.{Literal}
use Rattle.tt_base.specs.declared.punct.Punct.{Punct}
use Rattle.tt_base.specs.declared.punct.Spacing.{Spacing}
use Rattle.tt_base.specs.declared.punct.Spacing.TheVariants.{Alone, Joint as JointSpacing}
use Rattle.syntax_lex.specs.declared.token.TokenKind.{TokenKind}
use Rattle.syntax_edit.proofs.Words.{punct_alone}
use Rattle.tt_base.specs.Literal.{kind_of as literal_kind, suffix_len_of, symbol_of}
use Rattle.tt_base.specs.declared.literal.LitKind.{LitKind}
use Rattle.syntax_parse.specs.Pieces.{punct_char}
use Rattle.syntax_parse.specs.Role.{kind_of}
use Rattle.syntax_parse.specs.Spelled.{Piece, Sort, name, sign, value, opening as opening_sort, closing as closing_sort, at_span, sort_of, spelled}
use Rattle.syntax_parse.specs.declared.bracket.Bracket.TheVariants.{Parenthesis, Brace, Square}
use Rattle.syntax_unparse.specs.Marks.{Mark, word, opening, closing, opens, closes, brackets_of, marks, shown}
use Rattle.syntax_unparse.specs.Settled.{joins, settled, sorts}
use Rattle.syntax_unparse.specs.Text.{behind_punct}
use Rattle.syntax_unparse.specs.Writable.{IsFirstRefused, MakesLifetime, MayEnd, MayFollow, ReadsAlone, ReadsAs}
use Rattle.syntax_unparse.specs.declared.behind.Behind.{Behind}
use Rattle.syntax_unparse.specs.declared.behind.Behind.TheVariants.{Opening, Apart, Slash, Pound, Quote}

-- marks as sorts
abbrev pub raw : List Mark → List Sort
raw [] = []
raw (word at it ∷ rest) = sort_of it ∷ raw rest
raw (opening pair ∷ rest) = opening_sort (kind_of pair) ∷ raw rest
raw (closing pair ∷ rest) = closing_sort (kind_of pair) ∷ raw rest

-- no `'` was written last
abbrev pub NoQuote : Behind → Type 0
NoQuote Quote = ⊥
NoQuote _ = Unit {0}

-- a name reads alone
abbrev pub NameAlone : (text : List ℕ) → IdentIsRaw → Type 0
NameAlone text is_raw = (ident : Ident) → ident.sym ≡ text → ident.is_raw ≡ is_raw → ReadsAs (ident_text ident) (leaf_of.Ident ident)

-- a name makes a lifetime with a `'` before it
abbrev pub QuoteFits : Behind → (text : List ℕ) → IdentIsRaw → Type 0
QuoteFits Quote text is_raw = (ident : Ident) → ident.sym ≡ text → ident.is_raw ≡ is_raw → MakesLifetime (leaf_of.Ident ident)
QuoteFits _ text is_raw = Unit {0}

-- a punct may follow
abbrev pub SignFollows : Behind → (c : ℕ) → Type 0
SignFollows Quote c = ⊥
SignFollows Slash c = ((c == 47) || (c == 42)) ≡ false
SignFollows Pound c = (c == 35) ≡ false
SignFollows _ c = Unit {0}

-- a punct reads alone
abbrev pub SignAlone : (c : ℕ) → Type 0
SignAlone c = (IsTrue (c == 39)) ⊎ ((kind : TokenKind) × (punct_char kind ≡ Some c))

-- whether the first is a punct
abbrev pub begins_sign : List Sort → Bool
begins_sign (sign c spacing ∷ rest) = true
begins_sign _ = false

-- the spacing of a punct when it is read before these
abbrev pub settled_before : (c : ℕ) → Spacing → List Sort → Spacing
settled_before c spacing rest = if c == 39 then JointSpacing else (if is_alone spacing then Alone else (if begins_sign rest then JointSpacing else Alone))

-- a kind of brackets
abbrev pub IsPair : DelimiterKind → Type 0
IsPair delimits.Invisible = ⊥
IsPair delimits.InvisibleOpaque = ⊥
IsPair _ = Unit {0}

-- a literal reads alone
abbrev pub ValueAlone : LitKind → (symbol : List ℕ) → (suffix_len : ℕ) → Type 0
ValueAlone kind symbol suffix_len =
    (literal : Literal) → symbol_of literal ≡ symbol → literal_kind literal ≡ kind → suffix_len_of literal ≡ suffix_len
    → ReadsAlone (leaf_of.Literal literal)

-- these can be written after what was written last, and are read with the same spacings
abbrev pub SortFits : Behind → List Sort → Type 0
SortFits behind [] = NoQuote behind
SortFits behind (name text is_raw ∷ rest) = NameAlone text is_raw × QuoteFits behind text is_raw × SortFits Apart rest
SortFits behind (sign c spacing ∷ rest) = SignFollows behind c × SignAlone c × (settled_before c spacing rest ≡ spacing) × SortFits (behind_punct c spacing) rest
SortFits behind (value kind symbol suffix_len ∷ rest) = NoQuote behind × ValueAlone kind symbol suffix_len × SortFits Apart rest
SortFits behind (opening_sort kind ∷ rest) = NoQuote behind × IsPair kind × SortFits Opening rest
SortFits behind (closing_sort kind ∷ rest) = NoQuote behind × IsPair kind × SortFits Apart rest

joins_raw : (ms : List Mark) → begins_sign (raw ms) ≡ joins ms
joins_raw [] = refl
joins_raw (word at (leaf_of.Punct punct) ∷ rest) = refl
joins_raw (word at (leaf_of.Literal literal) ∷ rest) = refl
joins_raw (word at (leaf_of.Ident ident) ∷ rest) = refl
joins_raw (opening pair ∷ rest) = refl
joins_raw (closing pair ∷ rest) = refl

-- marks that are such sorts are read as these sorts
pub settled_are : (behind : Behind) (ms : List Mark) → SortFits behind (raw ms) → settled ms ≡ raw ms
settled_are behind [] f = refl
settled_are behind (word at (leaf_of.Ident ident) ∷ rest) f = ap (λ t. sort_of (leaf_of.Ident ident) ∷ t) (settled_are Apart rest f.2)
settled_are behind (word at (leaf_of.Literal literal) ∷ rest) f = ap (λ t. sort_of (leaf_of.Literal literal) ∷ t) (settled_are Apart rest f.2)
settled_are behind (word at (leaf_of.Punct punct) ∷ rest) f =
    let (follows, alone, spacing, more) = f in
    ap₂ (λ s t. sign punct.char s ∷ t)
    (ap (λ b. if punct.char == 39 then JointSpacing else (if is_alone punct.spacing then Alone else (if b then JointSpacing else Alone))) (sym (joins_raw rest)) ∙ spacing)
    (settled_are (behind_punct punct.char punct.spacing) rest more)
settled_are behind (opening pair ∷ rest) f = let (no_quote, is, more) = f in ap (λ t. opening_sort (kind_of pair) ∷ t) (settled_are Opening rest more)
settled_are behind (closing pair ∷ rest) f = let (no_quote, is, more) = f in ap (λ t. closing_sort (kind_of pair) ∷ t) (settled_are Apart rest more)

name_follows : (behind : Behind) (ident : Ident) → QuoteFits behind ident.sym ident.is_raw → MayFollow behind (leaf_of.Ident ident)
name_follows Slash ident f = refl
name_follows Pound ident f = refl
name_follows Quote ident f = f ident refl refl
name_follows behind ident f = tt

literal_follows : (behind : Behind) (literal : Literal) → NoQuote behind → MayFollow behind (leaf_of.Literal literal)
literal_follows Slash literal f = refl
literal_follows Pound literal f = refl
literal_follows Quote literal f = absurd f
literal_follows behind literal f = tt

sign_follows : (behind : Behind) (punct : Punct) → SignFollows behind punct.char → MayFollow behind (leaf_of.Punct punct)
sign_follows Slash punct f = f
sign_follows Pound punct f = f
sign_follows Quote punct f = absurd f
sign_follows behind punct f = tt

may_end : (behind : Behind) → NoQuote behind → MayEnd behind
may_end Quote f = absurd f
may_end behind f = tt

sign_alone : (punct : Punct) → SignAlone punct.char → ReadsAlone (leaf_of.Punct punct)
sign_alone punct (inl quote) = inl quote
sign_alone punct (inr (kind, is)) = inr (punct_alone punct kind is)

-- marks that are such sorts can be written
pub writable : (last : ℕ) (behind : Behind) (ms : List Mark) → SortFits behind (raw ms) → IsFirstRefused last behind ms None
writable last behind [] f = inl (may_end behind f, refl)
writable last behind (word at (leaf_of.Ident ident) ∷ rest) f =
    inl (name_follows behind ident f.1, inl (inr (f.0 ident refl refl), writable at Apart rest f.2))
writable last behind (word at (leaf_of.Literal literal) ∷ rest) f =
    inl (literal_follows behind literal f.0, inl (f.1 literal refl refl refl, writable at Apart rest f.2))
writable last behind (word at (leaf_of.Punct punct) ∷ rest) f =
    inl (sign_follows behind punct f.0, inl (sign_alone punct f.1, writable at (behind_punct punct.char punct.spacing) rest f.3))
writable last behind (opening pair ∷ rest) f = inl (may_end behind f.0, writable last Opening rest f.2)
writable last behind (closing pair ∷ rest) f = inl (may_end behind f.0, writable last Apart rest f.2)

-- a bracket is one of a pair
abbrev IsPaired : Sort → Type 0
IsPaired (opening_sort kind) = IsPair kind
IsPaired (closing_sort kind) = IsPair kind
IsPaired _ = Unit {0}

-- the brackets among sorts are pairs
abbrev Paired : List Sort → Type 0
Paired [] = Unit {0}
Paired (s ∷ rest) = IsPaired s × Paired rest

paired : (behind : Behind) (ss : List Sort) → SortFits behind ss → Paired ss
paired behind [] f = tt
paired behind (name text is_raw ∷ rest) f = (tt, paired Apart rest f.2)
paired behind (sign c spacing ∷ rest) f = (tt, paired (behind_punct c spacing) rest f.3)
paired behind (value kind symbol suffix_len ∷ rest) f = (tt, paired Apart rest f.2)
paired behind (opening_sort kind ∷ rest) f = (f.1, paired Opening rest f.2)
paired behind (closing_sort kind ∷ rest) f = (f.1, paired Apart rest f.2)

paired_both : (xs ys : List Sort) → Paired (xs ++ ys) → Paired xs × Paired ys
paired_both [] ys p = (tt, p)
paired_both (x ∷ xs) ys p = let (front, back) = paired_both xs ys p.1 in ((p.0, front), back)

pub sorts-append : (xs ys : List Piece) → sorts (xs ++ ys) ≡ sorts xs ++ sorts ys
sorts-append [] ys = refl
sorts-append (x ∷ xs) ys = ap (λ t. x.sort ∷ t) (sorts-append xs ys)

raw-append : (xs ys : List Mark) → raw (xs ++ ys) ≡ raw xs ++ raw ys
raw-append [] ys = refl
raw-append (word at it ∷ xs) ys = ap (λ t. sort_of it ∷ t) (raw-append xs ys)
raw-append (opening pair ∷ xs) ys = ap (λ t. opening_sort (kind_of pair) ∷ t) (raw-append xs ys)
raw-append (closing pair ∷ xs) ys = ap (λ t. closing_sort (kind_of pair) ∷ t) (raw-append xs ys)

-- a subtree in brackets, by its children
round : (kind : DelimiterKind) (held : ℕ) (inner rest : List Mark) → IsPair kind
    → raw (opens (brackets_of kind held) ++ (inner ++ (closes (brackets_of kind held) ++ rest))) ≡ opening_sort kind ∷ (raw inner ++ closing_sort kind ∷ raw rest)
round delimits.Parenthesis held inner rest is = ap (λ t. opening_sort delimits.Parenthesis ∷ t) (raw-append inner (closing Parenthesis ∷ rest))
round delimits.Brace held inner rest is = ap (λ t. opening_sort delimits.Brace ∷ t) (raw-append inner (closing Brace ∷ rest))
round delimits.Bracket held inner rest is = ap (λ t. opening_sort delimits.Bracket ∷ t) (raw-append inner (closing Square ∷ rest))
round delimits.Invisible held inner rest is = absurd is
round delimits.InvisibleOpaque held inner rest is = absurd is

-- the marks of trees whose brackets are pairs are their sorts
raw_marks : (at : ℕ) (trees : Forest) → Paired (sorts (spelled trees)) → raw (marks at trees) ≡ sorts (spelled trees)
raw_marks at end p = refl
raw_marks at (leaf it rest) p = ap (λ t. sort_of it ∷ t) (raw_marks (at + 1) rest p.1)
raw_marks at (node delimiter children rest) p =
    let held = sorts (spelled children) in
    let whole : sorts (spelled children ++ at_span (closing_sort delimiter.kind) delimiter.close ∷ spelled rest) ≡ held ++ closing_sort delimiter.kind ∷ sorts (spelled rest) =
    sorts-append (spelled children) (at_span (closing_sort delimiter.kind) delimiter.close ∷ spelled rest) in
    let (inner, outer) = paired_both held (closing_sort delimiter.kind ∷ sorts (spelled rest)) (subst Paired whole p.1) in
    round delimiter.kind (shown children) (marks (at + 1) children) (marks ((at + 1) + size children) rest) p.0
    ∙ ap₂ (λ a b. opening_sort delimiter.kind ∷ (a ++ closing_sort delimiter.kind ∷ b)) (raw_marks (at + 1) children inner) (raw_marks ((at + 1) + size children) rest outer.1)
    ∙ ap (λ t. opening_sort delimiter.kind ∷ t) (sym whole)

-- the marks of trees that such sorts spell are these sorts
pub marks_are : (behind : Behind) (trees : Forest) → SortFits behind (sorts (spelled trees)) → raw (marks 0 trees) ≡ sorts (spelled trees)
marks_are behind trees f = raw_marks 0 trees (paired behind (sorts (spelled trees)) f)
