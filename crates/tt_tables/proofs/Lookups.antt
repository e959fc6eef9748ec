-- The numbers of a token determine it, if the tables have all values that it uses.
use Rattle.std.proofs.Common.{◌≡◌, ℕ, suc, ◌<◌, Bool, true, false, cond, bytes_eq, List, [], ◌∷◌, ◌++◌, length, refl, ap, sym, ◌∙◌, arith}
use Rattle.tt_base.specs.declared.delimiter.Subtree.{Subtree}
use Rattle.tt_base.specs.declared.leaf.Leaf.{Leaf}
use Rattle.tt_base.specs.declared.leaf.Leaf.TheVariants as leaf
use Rattle.tt_base.specs.declared.span.Span.{Span}
use Rattle.tt_base.specs.declared.span.SpanPart.{SpanPart}
use Rattle.tt_base.specs.declared.token_tree.TokenTree.{TokenTree}
use Rattle.tt_base.specs.declared.token_tree.TokenTree.TheVariants as token
use Rattle.tt_base.specs.Span.{part_of}
use Rattle.tt_tables.specs.OneToken.{span_from, literal_is}
use Rattle.tt_tables.specs.TableOrder.{index_in, IsIn}
use Rattle.tt_tables.specs.Tables.{Tables, Knows, numbers_of_span, leaf_entry, header_entry, entry_of}
use Rattle.tt_tables.specs.Uses.{same_part}
use Rattle.tt_tables.proofs.TokenTables.{part_sound, text_sound}

-- An index that a list has is the same in a longer list.
pub index_in-more : {X : Type 0} (test : X → Bool) (xs ys : List X) → index_in test xs < length xs → index_in test (xs ++ ys) ≡ index_in test xs
index_in-more test [] ys found = absurd (none found)
  where
    none : 0 < 0 → ⊥
    none h = omega arith
index_in-more test (x ∷ xs) ys found = by_test (test x) found (index_in-more test xs ys)
  where
    by_test : (t : Bool) → cond t 0 (suc (index_in test xs)) < suc (length xs)
        → (index_in test xs < length xs → index_in test (xs ++ ys) ≡ index_in test xs)
        → cond t 0 (suc (index_in test (xs ++ ys))) ≡ cond t 0 (suc (index_in test xs))
    by_test true found later = refl
    by_test false found later = ap suc (later (omega arith))

-- If two tests find one index, the value at that index passes both.
pub same_index : {X : Type 0} (f g : X → Bool) (xs : List X) → index_in f xs < length xs → index_in f xs ≡ index_in g xs
    → (x : X) × (f x ≡ true) × (g x ≡ true)
same_index f g [] found e = absurd (none found)
  where
    none : 0 < 0 → ⊥
    none h = omega arith
same_index f g (x ∷ xs) found e = by_tests (f x) refl (g x) refl (same_index f g xs) found e
  where
    by_tests : (a : Bool) → f x ≡ a → (b : Bool) → g x ≡ b
        → (index_in f xs < length xs → index_in f xs ≡ index_in g xs → (y : _) × (f y ≡ true) × (g y ≡ true))
        → cond a 0 (suc (index_in f xs)) < suc (length xs) → cond a 0 (suc (index_in f xs)) ≡ cond b 0 (suc (index_in g xs))
        → (y : _) × (f y ≡ true) × (g y ≡ true)
    by_tests true p true q later found e = (x, p, q)
    by_tests true p false q later found e = cc
    by_tests false p true q later found e = cc
    by_tests false p false q later found e = later (omega arith) (omega arith)

-- Parts at one index are equal.
pub part_is : (parts : List SpanPart) (a b : SpanPart) → IsIn same_part parts a → index_in (same_part a) parts ≡ index_in (same_part b) parts → a ≡ b
part_is parts a b found e =
    let (x, p, q) = same_index (same_part a) (same_part b) parts found e in
    part_sound a x p ∙ sym (part_sound b x q)

-- Symbols at one index are equal.
pub symbol_is : (symbols : List (List ℕ)) (a b : List ℕ) → IsIn bytes_eq symbols a → index_in (bytes_eq a) symbols ≡ index_in (bytes_eq b) symbols → a ≡ b
symbol_is symbols a b found e =
    let (x, p, q) = same_index (bytes_eq a) (bytes_eq b) symbols found e in
    text_sound a x p ∙ sym (text_sound b x q)

-- Spans at one index are equal.
pub span_is : (tables : Tables) (a b : Span) → IsIn same_part tables.parts (part_of a) → numbers_of_span tables a ≡ numbers_of_span tables b → a ≡ b
span_is tables a b found e =
    span_from a b (part_is tables.parts (part_of a) (part_of b) found (ap (λ p. p.part) e)) (ap (λ p. p.start) e) (ap (λ p. p.length) e)

-- Leaves with the same numbers are equal.
pub leaf_is : (tables : Tables) (a b : Leaf) → Knows tables (token.Leaf a) → leaf_entry tables a ≡ leaf_entry tables b → a ≡ b
leaf_is tables (leaf.Literal l) (leaf.Literal o) knows e =
    ap leaf.Literal
    (literal_is l o (symbol_is tables.symbols _ _ knows.symbols.0 (cc e)) (span_is tables l.span o.span knows.parts.0 (cc e)) (cc e) (cc e))
leaf_is tables (leaf.Punct p) (leaf.Punct q) knows e =
    λ i. leaf.Punct (record { char = char i; spacing = spacing i; span = span i })
  where
    char : p.char ≡ q.char
    char = cc e

    spacing : p.spacing ≡ q.spacing
    spacing = cc e

    span : p.span ≡ q.span
    span = span_is tables p.span q.span knows.parts.0 (cc e)
leaf_is tables (leaf.Ident m) (leaf.Ident n) knows e =
    λ i. leaf.Ident (record { sym = text i; span = span i; is_raw = raw i })
  where
    text : m.sym ≡ n.sym
    text = symbol_is tables.symbols m.sym n.sym knows.symbols.0 (cc e)

    raw : m.is_raw ≡ n.is_raw
    raw = cc e

    span : m.span ≡ n.span
    span = span_is tables m.span n.span knows.parts.0 (cc e)
leaf_is tables (leaf.Literal l) (leaf.Punct q) knows e = cc
leaf_is tables (leaf.Literal l) (leaf.Ident n) knows e = cc
leaf_is tables (leaf.Punct p) (leaf.Literal o) knows e = cc
leaf_is tables (leaf.Punct p) (leaf.Ident n) knows e = cc
leaf_is tables (leaf.Ident m) (leaf.Literal o) knows e = cc
leaf_is tables (leaf.Ident m) (leaf.Punct q) knows e = cc

-- Headers with the same numbers are equal.
pub subtree_is : (tables : Tables) (a b : Subtree) (m n : ℕ) → Knows tables (token.Subtree a) → header_entry tables a m ≡ header_entry tables b n → a ≡ b
subtree_is tables a b m n knows e =
    λ i. record { delimiter = record { open_span = opens i; close = closes i; kind = (e i).kind }; len = (e i).len }
  where
    opens : a.delimiter.open_span ≡ b.delimiter.open_span
    opens = span_is tables _ _ knows.parts.0 (ap (λ it. it.opening) e)

    closes : a.delimiter.close ≡ b.delimiter.close
    closes = span_is tables _ _ knows.parts.1.0 (ap (λ it. it.closing) e)

-- Tokens with the same numbers are equal.
pub token_is : (tables : Tables) (a b : TokenTree) (m n : ℕ) → Knows tables a → entry_of tables a m ≡ entry_of tables b n → a ≡ b
token_is tables (token.Leaf a) (token.Leaf b) m n knows e = ap token.Leaf (leaf_is tables a b knows (cc e))
token_is tables (token.Subtree a) (token.Subtree b) m n knows e = ap token.Subtree (subtree_is tables a b m n knows (cc e))
token_is tables (token.Leaf a) (token.Subtree b) m n knows e = cc
token_is tables (token.Subtree a) (token.Leaf b) m n knows e = cc
