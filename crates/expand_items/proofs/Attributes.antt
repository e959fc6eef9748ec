-- Attributes that come first, and calls, are trees that exist.
use Rattle.std.proofs.Common.{◌≡◌, ◌+◌, ◌<◌, ◌≤◌, ℕ, zero, suc, Bool, true, false, List, inl, inr, ◌⊎◌, refl, ap, sym, ◌∙◌, arith, cond}
use Rattle.std.proofs.lemmas.Bool.{and_parts, false≢true}
use Rattle.std.specs.Prelude.{◌&&◌, ◌||◌, ◌==◌, codes}
use Rattle.tt.specs.Forest.{Forest, end, leaf, node, join, size}
use Rattle.tt.specs.Gluing.{after_trees}
use Rattle.tt.specs.Types.Delimiter.{Delimiter}
use Rattle.tt.specs.Types.Leaf.{Leaf}
use Rattle.tt.specs.Types.Leaf.TheVariants as leaf_of
use Rattle.expand_items.specs.Attributes.{attributes_len, is_at_attribute, is_attribute_sign}
use Rattle.expand_items.specs.Items.{Call, calls, item_in}
use Rattle.expand_items.specs.MacroRulesItems.{has_attribute}
use Rattle.expand_items.specs.Positions.{begins_with_attribute, is_at_attribute_of, is_at_inner, is_attribute_of, is_bracket}
use Rattle.expand_items.proofs.Shapes.{call_ends}
use Rattle.mbe_pattern.specs.Units.{front_trees, is_at_punct}
use Rattle.mbe_pattern.proofs.Passing.{after_end}

-- no brackets are there
no_brackets : (sign : Bool) → (sign && false) ≡ true → ⊥
no_brackets sign e = false≢true (and_parts sign false e).1

-- The first attribute, and then the others.
pub one_attribute : (trees : Forest) → is_at_attribute trees ≡ true → attributes_len trees ≡ 2 + attributes_len (after_trees 2 trees)
one_attribute end e = absurd (false≢true e)
one_attribute (node delimiter children rest) e = absurd (false≢true e)
one_attribute (leaf (leaf_of.Literal it) rest) e = absurd (false≢true e)
one_attribute (leaf (leaf_of.Ident it) rest) e = absurd (false≢true e)
one_attribute (leaf (leaf_of.Punct it) end) e = absurd (no_brackets (it.char == 35) e)
one_attribute (leaf (leaf_of.Punct it) (leaf next rest)) e = absurd (no_brackets (it.char == 35) e)
one_attribute (leaf (leaf_of.Punct it) (node delimiter children rest)) e = ap (λ b. cond b (2 + attributes_len rest) 0) e

-- If no attribute comes first, the attributes are no trees.
pub no_attribute : (trees : Forest) → is_at_attribute trees ≡ false → attributes_len trees ≡ 0
no_attribute end e = refl
no_attribute (node delimiter children rest) e = refl
no_attribute (leaf it end) e = refl
no_attribute (leaf it (leaf next rest)) e = refl
no_attribute (leaf (leaf_of.Literal it) (node delimiter children rest)) e = refl
no_attribute (leaf (leaf_of.Ident it) (node delimiter children rest)) e = refl
no_attribute (leaf (leaf_of.Punct it) (node delimiter children rest)) e = ap (λ b. cond b (2 + attributes_len rest) 0) e

-- An attribute that comes first is two trees that exist.
pub attribute_fits : (trees : Forest) → is_at_attribute trees ≡ true → 2 + size (after_trees 2 trees) ≤ size trees
attribute_fits end e = absurd (false≢true e)
attribute_fits (node delimiter children rest) e = absurd (false≢true e)
attribute_fits (leaf (leaf_of.Literal it) rest) e = absurd (false≢true e)
attribute_fits (leaf (leaf_of.Ident it) rest) e = absurd (false≢true e)
attribute_fits (leaf (leaf_of.Punct it) end) e = absurd (no_brackets (it.char == 35) e)
attribute_fits (leaf (leaf_of.Punct it) (leaf next rest)) e = absurd (no_brackets (it.char == 35) e)
attribute_fits (leaf (leaf_of.Punct it) (node delimiter children rest)) e = omega arith

-- The trees after two trees are these.
two_more : (n : ℕ) (it : Leaf) (delimiter : Delimiter) (children rest : Forest) → after_trees (2 + n) (leaf it (node delimiter children rest)) ≡ after_trees n rest
two_more n it delimiter children rest = let more : 2 + n ≡ suc (suc n) = omega arith in ap (λ k. after_trees k (leaf it (node delimiter children rest))) more

-- All attributes that come first exist, before the trees after them.
pub attributes_fit : (trees : Forest) → attributes_len trees + size (after_trees (attributes_len trees) trees) ≤ size trees
attributes_fit end = omega arith
attributes_fit (node delimiter children rest) = omega arith
attributes_fit (leaf it end) = omega arith
attributes_fit (leaf it (leaf next rest)) = omega arith
attributes_fit (leaf it (node delimiter children rest)) = by (is_attribute_sign it && is_bracket delimiter.kind) (attributes_fit rest)
  where
    whole : Forest
    whole = leaf it (node delimiter children rest)

    by : (b : Bool) → attributes_len rest + size (after_trees (attributes_len rest) rest) ≤ size rest
        → cond b (2 + attributes_len rest) 0 + size (after_trees (cond b (2 + attributes_len rest) 0) whole) ≤ size whole
    by true fit = omega (arith, fit, ap size (two_more (attributes_len rest) it delimiter children rest))
    by false fit = omega arith

-- trees end with a subtree
abbrev pub EndsWithNode : Forest → Type 0
EndsWithNode trees = (front : Forest) × (delimiter : Delimiter) × (children : Forest) × (trees ≡ join front (node delimiter children end))

-- The last of the attributes ends with its brackets, if there is one.
pub attributes_end : (trees : Forest) → (attributes_len trees ≡ 0) ⊎ EndsWithNode (front_trees (attributes_len trees) trees)
attributes_end end = inl refl
attributes_end (node delimiter children rest) = inl refl
attributes_end (leaf it end) = inl refl
attributes_end (leaf it (leaf next rest)) = inl refl
attributes_end (leaf it (node delimiter children rest)) = by (is_attribute_sign it && is_bracket delimiter.kind) (attributes_end rest)
  where
    whole : Forest
    whole = leaf it (node delimiter children rest)

    two : (n : ℕ) → front_trees (2 + n) whole ≡ leaf it (node delimiter children (front_trees n rest))
    two n = let more : 2 + n ≡ suc (suc n) = omega arith in ap (λ k. front_trees k whole) more

    last : (attributes_len rest ≡ 0) ⊎ EndsWithNode (front_trees (attributes_len rest) rest) → EndsWithNode (front_trees (2 + attributes_len rest) whole)
    last (inl none) =
        (leaf it end, delimiter, children, two (attributes_len rest) ∙ ap (λ n. leaf it (node delimiter children (front_trees n rest))) none)
    last (inr (front, brackets, inside, is)) =
        (leaf it (node delimiter children front), brackets, inside, two (attributes_len rest) ∙ ap (λ f. leaf it (node delimiter children f)) is)

    by : (b : Bool) → (attributes_len rest ≡ 0) ⊎ EndsWithNode (front_trees (attributes_len rest) rest)
        → (cond b (2 + attributes_len rest) 0 ≡ 0) ⊎ EndsWithNode (front_trees (cond b (2 + attributes_len rest) 0) whole)
    by true ends = inr (last ends)
    by false ends = inl refl

-- Trees before a subtree, and the subtree, exist.
before_fits : (n : ℕ) (trees : Forest) (delimiter : Delimiter) (children rest : Forest) → after_trees n trees ≡ node delimiter children rest → n < size trees
before_fits zero trees delimiter children rest is = omega (arith, ap size is)
before_fits (suc n) end delimiter children rest is = absurd (none (sym (after_end n) ∙ is))
  where
    none : end ≡ node delimiter children rest → ⊥
    none e = cc
before_fits (suc n) (leaf it others) delimiter children rest is = omega (arith, before_fits n others delimiter children rest is)
before_fits (suc n) (node brackets inside others) delimiter children rest is = omega (arith, before_fits n others delimiter children rest is)

-- A call is trees that exist.
pub call_fits : (root : List ℕ) (trees : Forest) (it : Call) → item_in root trees ≡ calls it → it.len ≤ size trees
call_fits root trees it is =
    let call = call_ends root trees it is in
    omega (arith, call.len, before_fits (suc call.before) trees it.delimiter it.input call.rest call.shape)

-- Three trees of an inner attribute exist.
pub inner_fits : (trees : Forest) → is_at_inner trees ≡ true → 3 + size (after_trees 3 trees) ≤ size trees
inner_fits end e = absurd (false≢true e)
inner_fits (node delimiter children rest) e = absurd (false≢true e)
inner_fits (leaf it end) e = absurd (false≢true (and_parts (is_at_punct (codes "#") (leaf it end)) false e).1)
inner_fits (leaf it (node delimiter children rest)) e = absurd (false≢true (and_parts (is_at_punct (codes "#") (leaf it end)) false e).1)
inner_fits (leaf it (leaf next end)) e = absurd (no_brackets (is_at_punct (codes "!") (leaf next end)) (and_parts (is_at_punct (codes "#") (leaf it end)) _ e).1)
inner_fits (leaf it (leaf next (leaf third rest))) e = absurd (no_brackets (is_at_punct (codes "!") (leaf next end)) (and_parts (is_at_punct (codes "#") (leaf it end)) _ e).1)
inner_fits (leaf it (leaf next (node delimiter children rest))) e = omega arith

-- The first inner attribute begins with the word, or one of the others does.
pub one_inner : (word : List ℕ) (trees : Forest) → is_at_inner trees ≡ true
    → begins_with_attribute word trees ≡ (is_at_attribute_of word (after_trees 2 trees) || begins_with_attribute word (after_trees 3 trees))
one_inner word end e = absurd (false≢true e)
one_inner word (node delimiter children rest) e = absurd (false≢true e)
one_inner word (leaf it end) e = absurd (false≢true (and_parts (is_at_punct (codes "#") (leaf it end)) false e).1)
one_inner word (leaf it (node delimiter children rest)) e = absurd (false≢true (and_parts (is_at_punct (codes "#") (leaf it end)) false e).1)
one_inner word (leaf it (leaf next end)) e = absurd (no_brackets (is_at_punct (codes "!") (leaf next end)) (and_parts (is_at_punct (codes "#") (leaf it end)) _ e).1)
one_inner word (leaf it (leaf next (leaf third rest))) e = absurd (no_brackets (is_at_punct (codes "!") (leaf next end)) (and_parts (is_at_punct (codes "#") (leaf it end)) _ e).1)
one_inner word (leaf it (leaf next (node delimiter children rest))) e = ap (λ b. cond b (is_attribute_of word delimiter.kind children || begins_with_attribute word rest) false) e

-- If no inner attribute comes first, none begins with the word.
pub no_inner : (word : List ℕ) (trees : Forest) → is_at_inner trees ≡ false → begins_with_attribute word trees ≡ false
no_inner word end e = refl
no_inner word (node delimiter children rest) e = refl
no_inner word (leaf it end) e = refl
no_inner word (leaf it (node delimiter children rest)) e = refl
no_inner word (leaf it (leaf next end)) e = refl
no_inner word (leaf it (leaf next (leaf third rest))) e = refl
no_inner word (leaf it (leaf next (node delimiter children rest))) e = ap (λ b. cond b (is_attribute_of word delimiter.kind children || begins_with_attribute word rest) false) e

-- One of the attributes that come first begins with a word: the first, or one of the others.
pub one_named : (word : List ℕ) (trees : Forest) → is_at_attribute trees ≡ true
    → has_attribute word trees ≡ is_at_attribute_of word (after_trees 1 trees) || has_attribute word (after_trees 2 trees)
one_named word end e = absurd (false≢true e)
one_named word (node delimiter children rest) e = absurd (false≢true e)
one_named word (leaf (leaf_of.Literal it) rest) e = absurd (false≢true e)
one_named word (leaf (leaf_of.Ident it) rest) e = absurd (false≢true e)
one_named word (leaf (leaf_of.Punct it) end) e = absurd (no_brackets (it.char == 35) e)
one_named word (leaf (leaf_of.Punct it) (leaf next rest)) e = absurd (no_brackets (it.char == 35) e)
one_named word (leaf (leaf_of.Punct it) (node delimiter children rest)) e =
    ap (λ b. cond b (is_attribute_of word delimiter.kind children || has_attribute word rest) false) e

-- If no attribute comes first, none does.
pub none_named : (word : List ℕ) (trees : Forest) → is_at_attribute trees ≡ false → has_attribute word trees ≡ false
none_named word end e = refl
none_named word (node delimiter children rest) e = refl
none_named word (leaf it end) e = refl
none_named word (leaf it (leaf next rest)) e = refl
none_named word (leaf (leaf_of.Literal it) (node delimiter children rest)) e = refl
none_named word (leaf (leaf_of.Ident it) (node delimiter children rest)) e = refl
none_named word (leaf (leaf_of.Punct it) (node delimiter children rest)) e =
    ap (λ b. cond b (is_attribute_of word delimiter.kind children || has_attribute word rest) false) e
