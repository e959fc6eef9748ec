-- Parts are added one by one.
use Rattle.std.proofs.Common.{◌≡◌, ◌<◌, ℕ, zero, suc, Bool, true, false, List, [], ◌∷◌, length, drop, get_or, refl, ap, sym, ◌∙◌, arith, cond}
use Rattle.std.proofs.lemmas.Bool.{and_parts, false≢true}
use Rattle.std.specs.Prelude.{◌&&◌, ◌==◌}
use Rattle.tt.specs.Building.{Stack, append}
use Rattle.tt.specs.Forest.{Forest, end, leaf, node, join}
use Rattle.tt.specs.Gluing.{after_trees}
use Rattle.tt.specs.Types.Delimiter.{Delimiter}
use Rattle.tt.specs.Types.Leaf.TheVariants as leaf_of
use Rattle.expand_items.specs.declared.part.Part.{Part}
use Rattle.expand_items.specs.Spreads.{before, put_part, spread}
use Rattle.expand_items.specs.Attributes.{before_if, conditions_of, is_at_attribute, is_at_condition}
use Rattle.mbe_pattern.specs.Units.{front_trees}
use Rattle.tt_base.proofs.Appending.{append-end, append-join}

-- no brackets are there
no_brackets : (sign : Bool) → (sign && false) ≡ true → ⊥
no_brackets sign e = false≢true (and_parts sign false e).1

-- The first attribute is added, if it is a condition, and then those among the others.
pub conditions_more : (trees : Forest) → is_at_attribute trees ≡ true → (stack : Stack)
    → append (conditions_of (after_trees 2 trees)) (append (cond (is_at_condition (front_trees 2 trees)) (front_trees 2 trees) end) stack) ≡ append (conditions_of trees) stack
conditions_more end is stack = absurd (false≢true is)
conditions_more (node it children rest) is stack = absurd (false≢true is)
conditions_more (leaf (leaf_of.Literal it) rest) is stack = absurd (false≢true is)
conditions_more (leaf (leaf_of.Ident it) rest) is stack = absurd (false≢true is)
conditions_more (leaf (leaf_of.Punct it) end) is stack = absurd (no_brackets (it.char == 35) is)
conditions_more (leaf (leaf_of.Punct it) (leaf next rest)) is stack = absurd (no_brackets (it.char == 35) is)
conditions_more (leaf (leaf_of.Punct it) (node brackets children rest)) is stack =
    by (is_at_condition whole) ∙ ap (λ a. append (cond a (before_if (is_at_condition whole) one (conditions_of rest)) end) stack) (sym is)
  where
    whole : Forest
    whole = leaf (leaf_of.Punct it) (node brackets children rest)

    one : Forest
    one = leaf (leaf_of.Punct it) (node brackets children end)

    by : (c : Bool) → append (conditions_of rest) (append (cond c one end) stack) ≡ append (before_if c one (conditions_of rest)) stack
    by true = sym (append-join one (conditions_of rest) stack)
    by false = ap (append (conditions_of rest)) (append-end stack)

-- If no attribute comes first, no condition does.
pub conditions_none : (trees : Forest) → is_at_attribute trees ≡ false → (stack : Stack) → append (conditions_of trees) stack ≡ stack
conditions_none trees is stack = ap (λ f. append f stack) (none trees is) ∙ append-end stack
  where
    none : (trees : Forest) → is_at_attribute trees ≡ false → conditions_of trees ≡ end
    none end is = refl
    none (node it children rest) is = refl
    none (leaf it end) is = refl
    none (leaf it (leaf next rest)) is = refl
    none (leaf it (node brackets children rest)) is =
        let whole = leaf it (node brackets children rest) in
        ap (λ a. cond a (before_if (is_at_condition whole) (leaf it (node brackets children end)) (conditions_of rest)) end) is

-- The part of a number precedes those after it.
part_there : (parts : List Part) (place : ℕ) (part other : Part) → place < length parts → part ≡ get_or parts place other → drop place parts ≡ part ∷ drop (suc place) parts
part_there [] place part other less is = absurd (omega (arith, less))
part_there (first ∷ parts) zero part other less is = ap (λ p. p ∷ parts) (sym is)
part_there (first ∷ parts) (suc place) part other less is = part_there parts place part other (omega (arith, less)) is

-- One part is added after what precedes it, and then the others.
pub spread_more : (braces : Delimiter) (conditions : Forest) (parts : List Part) (place : ℕ) (part other : Part) → place < length parts → part ≡ get_or parts place other
    → (trees : Forest) (stack : Stack)
    → append (spread braces conditions (suc place) (drop (suc place) parts) (after_trees part.len trees))
    (append (put_part braces part.is_expression (front_trees part.len trees)) (append (before conditions place) stack))
    ≡ append (spread braces conditions place (drop place parts) trees) stack
spread_more braces conditions parts place part other less is trees stack =
    sym (append-join one more (append (before conditions place) stack)) ∙ sym (append-join (before conditions place) (join one more) stack)
    ∙ ap (λ ps. append (spread braces conditions place ps trees) stack) (sym (part_there parts place part other less is))
  where
    one : Forest
    one = put_part braces part.is_expression (front_trees part.len trees)

    more : Forest
    more = spread braces conditions (suc place) (drop (suc place) parts) (after_trees part.len trees)

-- After all parts no part is added.
pub spread_end : (braces : Delimiter) (conditions : Forest) (parts : List Part) (trees : Forest) (stack : Stack)
    → append (spread braces conditions (length parts) (drop (length parts) parts) trees) stack ≡ stack
spread_end braces conditions parts trees stack = by (length parts) parts refl
  where
    none : (parts : List Part) → drop (length parts) parts ≡ []
    none [] = refl
    none (first ∷ others) = none others

    by : (place : ℕ) (parts : List Part) → place ≡ length parts → append (spread braces conditions place (drop place parts) trees) stack ≡ stack
    by place parts same =
        ap (λ n. append (spread braces conditions place (drop n parts) trees) stack) same
        ∙ ap (λ ps. append (spread braces conditions place ps trees) stack) (none parts) ∙ append-end stack
