-- Trees with the same spelling are equal.
use Rattle.std.proofs.Common.{◌≡◌, List, [], ◌∷◌, ◌++◌, refl, sym, ap, ap₂, ◌∙◌, subst, append_assoc, append-nil}
use Rattle.tt_base.proofs.Equality.{same_literal}
use Rattle.tt_base.proofs.Ranges.{same_range}
use Rattle.tt_base.specs.Forest.{Forest, end, leaf, node}
use Rattle.tt_base.specs.Literal.{kind_of, suffix_len_of, symbol_of}
use Rattle.tt_base.specs.Span.{end_of, part_of, span_in, start_of}
use Rattle.tt_base.specs.Token.{delimiter}
use Rattle.tt_base.specs.declared.delimiter.Delimiter.{Delimiter}
use Rattle.tt_base.specs.declared.delimiter.DelimiterKind.{DelimiterKind}
use Rattle.tt_base.specs.declared.ident.Ident.{Ident}
use Rattle.tt_base.specs.declared.leaf.Leaf.{Leaf}
use Rattle.tt_base.specs.declared.leaf.Leaf.TheVariants as leaf_of
use Rattle.tt_base.specs.declared.punct.Punct.{Punct}
use Rattle.tt_base.specs.declared.span.Span.{Span}
use Rattle.syntax_parse.specs.Spelled.{Piece, Sort, name, sign, value, opening, closing, at_span, piece_of, sort_of, spelled}

-- the part and the numbers of a span determine it
span_is : (a b : Span) → part_of a ≡ part_of b → start_of a.range ≡ start_of b.range → end_of a.range ≡ end_of b.range → a ≡ b
span_is a b part starts ends = ap₂ (λ p r. span_in p r) part (same_range a.range b.range starts ends)

-- a piece determines its span
at_span_is : (x y : Sort) (a b : Span) → at_span x a ≡ at_span y b → (x ≡ y) × (a ≡ b)
at_span_is x y a b e = (ap (λ p. p.sort) e, span_is a b (ap (λ p. p.part) e) (ap (λ p. p.start) e) (ap (λ p. p.end) e))

punct_is : (a b : Punct) → sign a.char a.spacing ≡ sign b.char b.spacing → a.span ≡ b.span → a ≡ b
punct_is a b sorts spans =
    let chars : a.char ≡ b.char = cc in
    let spacings : a.spacing ≡ b.spacing = cc in
    ap (λ c. record a { char = c }) chars ∙ ap (λ s. record a { char = b.char; spacing = s }) spacings ∙ ap (λ s. record b { span = s }) spans

ident_is : (a b : Ident) → name a.sym a.is_raw ≡ name b.sym b.is_raw → a.span ≡ b.span → a ≡ b
ident_is a b sorts spans =
    let texts : a.sym ≡ b.sym = cc in
    let raws : a.is_raw ≡ b.is_raw = cc in
    ap (λ t. record a { sym = t }) texts ∙ ap (λ r. record a { sym = b.sym; is_raw = r }) raws ∙ ap (λ s. record b { span = s }) spans

-- a piece determines its leaf
leaf_is : (a b : Leaf) → piece_of a ≡ piece_of b → a ≡ b
leaf_is (leaf_of.Literal a) (leaf_of.Literal b) e =
    let answer = at_span_is _ _ _ _ e in
    let sorts : value (kind_of a) (symbol_of a) (suffix_len_of a) ≡ value (kind_of b) (symbol_of b) (suffix_len_of b) = answer.0 in
    ap leaf_of.Literal (same_literal a b (record { symbol = cc; span = answer.1; kind = cc; suffix_len = cc }))
leaf_is (leaf_of.Punct a) (leaf_of.Punct b) e = let answer = at_span_is _ _ _ _ e in ap leaf_of.Punct (punct_is a b answer.0 answer.1)
leaf_is (leaf_of.Ident a) (leaf_of.Ident b) e = let answer = at_span_is _ _ _ _ e in ap leaf_of.Ident (ident_is a b answer.0 answer.1)
leaf_is (leaf_of.Literal a) (leaf_of.Punct b) e = let s = ap (λ p. p.sort) e in absurd (cc)
leaf_is (leaf_of.Literal a) (leaf_of.Ident b) e = let s = ap (λ p. p.sort) e in absurd (cc)
leaf_is (leaf_of.Punct a) (leaf_of.Literal b) e = let s = ap (λ p. p.sort) e in absurd (cc)
leaf_is (leaf_of.Punct a) (leaf_of.Ident b) e = let s = ap (λ p. p.sort) e in absurd (cc)
leaf_is (leaf_of.Ident a) (leaf_of.Literal b) e = let s = ap (λ p. p.sort) e in absurd (cc)
leaf_is (leaf_of.Ident a) (leaf_of.Punct b) e = let s = ap (λ p. p.sort) e in absurd (cc)

-- no leaf is an opening
no_opening : (it : Leaf) (kind : DelimiterKind) → sort_of it ≡ opening kind → ⊥
no_opening (leaf_of.Literal it) kind e = cc
no_opening (leaf_of.Punct it) kind e = cc
no_opening (leaf_of.Ident it) kind e = cc

-- a closing
abbrev IsClosing : Sort → Type 0
IsClosing (closing kind) = Unit {0}
IsClosing _ = ⊥

-- nothing, or a closing first
abbrev IsBehind : List Piece → Type 0
IsBehind [] = Unit {0}
IsBehind (it ∷ rest) = IsClosing it.sort

-- no leaf is a closing
no_closing : (it : Leaf) → IsClosing (sort_of it) → ⊥
no_closing (leaf_of.Literal it) h = h
no_closing (leaf_of.Punct it) h = h
no_closing (leaf_of.Ident it) h = h

head_is : (p q : Piece) (ps qs : List Piece) → ◌≡◌ {A = List Piece} (p ∷ ps) (q ∷ qs) → p ≡ q
head_is p q ps qs e = cc

tail_is : (p q : Piece) (ps qs : List Piece) → ◌≡◌ {A = List Piece} (p ∷ ps) (q ∷ qs) → ps ≡ qs
tail_is p q ps qs e = cc

delimiter_is : (a b : Delimiter) → a.kind ≡ b.kind → a.open_span ≡ b.open_span → a.close ≡ b.close → a ≡ b
delimiter_is a b kinds opens closes =
    ap (λ k. delimiter k a.open_span a.close) kinds ∙ ap (λ s. delimiter b.kind s a.close) opens ∙ ap (λ s. delimiter b.kind b.open_span s) closes

-- trees before pieces that begin no tree
front_is : (a b : Forest) (xs ys : List Piece) → IsBehind xs → IsBehind ys → spelled a ++ xs ≡ spelled b ++ ys → (a ≡ b) × (xs ≡ ys)
front_is end end xs ys h k e = (refl, e)
front_is end (leaf it rest) xs ys h k e = absurd (no_closing it (subst IsBehind e h))
front_is end (node d inner rest) xs ys h k e = absurd (subst IsBehind e h)
front_is (leaf it rest) end xs ys h k e = absurd (no_closing it (subst IsBehind (sym e) k))
front_is (node d inner rest) end xs ys h k e = absurd (subst IsBehind (sym e) k)
front_is (leaf it rest) (leaf other more) xs ys h k e =
    let same = leaf_is it other (head_is (piece_of it) (piece_of other) (spelled rest ++ xs) (spelled more ++ ys) e) in
    let others = front_is rest more xs ys h k (tail_is (piece_of it) (piece_of other) (spelled rest ++ xs) (spelled more ++ ys) e) in
    (ap₂ (λ l f. leaf l f) same others.0, others.1)
front_is (leaf it rest) (node d inner more) xs ys h k e =
    absurd (no_opening it d.kind (ap (λ p. p.sort) (head_is (piece_of it) (at_span (opening d.kind) d.open_span) (spelled rest ++ xs) ((spelled inner ++ at_span (closing d.kind) d.close ∷ spelled more) ++ ys) e)))
front_is (node d inner rest) (leaf it more) xs ys h k e =
    absurd (no_opening it d.kind (sym (ap (λ p. p.sort) (head_is (at_span (opening d.kind) d.open_span) (piece_of it) ((spelled inner ++ at_span (closing d.kind) d.close ∷ spelled rest) ++ xs) (spelled more ++ ys) e))))
front_is (node d inner rest) (node f within more) xs ys h k e =
    let left = (spelled inner ++ at_span (closing d.kind) d.close ∷ spelled rest) ++ xs in
    let right = (spelled within ++ at_span (closing f.kind) f.close ∷ spelled more) ++ ys in
    let opens = at_span_is (opening d.kind) (opening f.kind) d.open_span f.open_span (head_is (at_span (opening d.kind) d.open_span) (at_span (opening f.kind) f.open_span) left right e) in
    let kinds : d.kind ≡ f.kind = (let sorts : opening d.kind ≡ opening f.kind = opens.0 in cc) in
    let tails : spelled inner ++ (at_span (closing d.kind) d.close ∷ (spelled rest ++ xs)) ≡ spelled within ++ (at_span (closing f.kind) f.close ∷ (spelled more ++ ys)) =
    sym (append_assoc (spelled inner) (at_span (closing d.kind) d.close ∷ spelled rest) xs)
    ∙ tail_is (at_span (opening d.kind) d.open_span) (at_span (opening f.kind) f.open_span) left right e
    ∙ append_assoc (spelled within) (at_span (closing f.kind) f.close ∷ spelled more) ys in
    let inside = front_is inner within (at_span (closing d.kind) d.close ∷ (spelled rest ++ xs)) (at_span (closing f.kind) f.close ∷ (spelled more ++ ys)) tt tt tails in
    let closes = at_span_is (closing d.kind) (closing f.kind) d.close f.close (head_is (at_span (closing d.kind) d.close) (at_span (closing f.kind) f.close) (spelled rest ++ xs) (spelled more ++ ys) inside.1) in
    let others = front_is rest more xs ys h k (tail_is (at_span (closing d.kind) d.close) (at_span (closing f.kind) f.close) (spelled rest ++ xs) (spelled more ++ ys) inside.1) in
    (ap (λ x. node x inner rest) (delimiter_is d f kinds opens.1 closes.1) ∙ ap (λ x. node f x rest) inside.0 ∙ ap (λ x. node f within x) others.0, others.1)

pub one_spelling : (a b : Forest) → spelled a ≡ spelled b → a ≡ b
one_spelling a b e = (front_is a b [] [] tt tt (append-nil (spelled a) ∙ e ∙ sym (append-nil (spelled b)))).0
