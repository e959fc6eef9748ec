-- If neither a definition nor a call may begin, neither comes first.
use Rattle.std.proofs.Common.{◌≡◌, ℕ, Bool, true, false, List, Option, None, Some, refl, ap, ap₂, cond, codes}
use Rattle.std.proofs.lemmas.Bool.{or_parts}
use Rattle.std.specs.Prelude.{◌==◌, ◌||◌, ◌&&◌}
use Rattle.tt.specs.Forest.{Forest, end, leaf, node}
use Rattle.tt.specs.Gluing.{after_trees}
use Rattle.tt.specs.Moves.{after_tree}
use Rattle.tt.specs.Types.Ident.{Ident}
use Rattle.tt.specs.Types.Leaf.TheVariants as leaf_of
use Rattle.expand_items.specs.Items.{other, call_behind, call_behind_colons, call_from, definition_behind, is_at_colons, is_at_root, is_at_sign, item_from, item_in, may_begin_item, name_in}
use Rattle.expand_items.specs.declared.item.MacroPath.TheVariants as path
use Rattle.mbe_pattern.specs.Units.{is_at_word, is_at_punct, unit_size}

-- If no sign comes first, no `!` and no `:` does.
no_sign : (trees : Forest) → is_at_sign trees ≡ false → (is_at_punct (codes "!") trees ≡ false) × (is_at_punct (codes ":") trees ≡ false)
no_sign end e = (refl, refl)
no_sign (node delimiter children rest) e = (refl, refl)
no_sign (leaf (leaf_of.Literal it) rest) e = (refl, refl)
no_sign (leaf (leaf_of.Ident it) rest) e = (refl, refl)
no_sign (leaf (leaf_of.Punct it) rest) e = let (bang, colon) = or_parts (it.char == 33) (it.char == 58) e in (ap (λ b. b || false) bang, ap (λ b. b || false) colon)

-- No `::` comes first if no `:` does.
no_colons : (trees : Forest) → is_at_punct (codes ":") trees ≡ false → is_at_colons trees ≡ false
no_colons trees e = by (unit_size trees == 2)
  where
    by : (two : Bool) → cond two (is_at_punct (codes ":") trees && is_at_punct (codes ":") (after_tree trees)) false ≡ false
    by true = ap (λ b. b && is_at_punct (codes ":") (after_tree trees)) e
    by false = refl

-- If neither may begin, something else comes first.
pub begins_none : (root : List ℕ) (trees : Forest) → may_begin_item trees ≡ false → item_in root trees ≡ other
begins_none root end e = refl
begins_none root (node delimiter children rest) e = refl
begins_none root (leaf (leaf_of.Literal it) rest) e = refl
begins_none root (leaf (leaf_of.Punct it) rest) e =
    ap (λ b. item_from None (cond b (call_behind_colons root (after_trees 2 (leaf (leaf_of.Punct it) rest))) None)) (no_colons (leaf (leaf_of.Punct it) rest) (ap (λ b. b || false) e))
begins_none root (leaf (leaf_of.Ident it) rest) e =
    let trees = leaf (leaf_of.Ident it) rest in
    let (bang, colon) = no_sign rest e in
    ap₂ item_from (no_definition (is_at_word (codes "macro_rules") trees) bang) (no_call (is_at_root root trees) (no_colons rest colon) bang (name_in trees))
  where
    no_definition : (a : Bool) → is_at_punct (codes "!") rest ≡ false
        → cond a (cond (is_at_punct (codes "!") rest) (definition_behind (after_tree rest)) None) None ≡ None
    no_definition true bang = ap (λ b. cond b (definition_behind (after_tree rest)) None) bang
    no_definition false bang = refl

    no_call : (a : Bool) → is_at_colons rest ≡ false → is_at_punct (codes "!") rest ≡ false → (name : Option Ident)
        → cond (a && is_at_colons rest) (call_behind 3 path.Root (after_trees 3 (leaf (leaf_of.Ident it) rest))) (call_from 0 path.Name name (is_at_punct (codes "!") rest) (after_tree rest)) ≡ None
    no_call a colons bang None = by a
      where
        by : (a : Bool) → cond (a && is_at_colons rest) (call_behind 3 path.Root (after_trees 3 (leaf (leaf_of.Ident it) rest))) None ≡ None
        by true = ap (λ b. cond b (call_behind 3 path.Root (after_trees 3 (leaf (leaf_of.Ident it) rest))) None) colons
        by false = refl
    no_call true colons bang (Some name) =
        ap₂ (λ b c. cond b (call_behind 3 path.Root (after_trees 3 (leaf (leaf_of.Ident it) rest))) (call_from 0 path.Name (Some name) c (after_tree rest))) colons bang
    no_call false colons bang (Some name) = ap (λ c. call_from 0 path.Name (Some name) c (after_tree rest)) bang
