-- Definitions and calls have at least one tree.
use Rattle.std.proofs.Common.{◌≡◌, ◌<◌, ◌≤◌, ℕ, zero, suc, Bool, true, false, List, Option, None, Some, refl, ap, sym, subst, ◌∙◌, arith, cond, codes}
use Rattle.tt.specs.Forest.{Forest, end, leaf, node, size}
use Rattle.tt.specs.Gluing.{after_trees}
use Rattle.tt.specs.Moves.{after_tree}
use Rattle.tt.specs.Types.Ident.{Ident}
use Rattle.expand_items.specs.Items.{Definition, Call, defines, calls, defined_as, definition_from, definition_in, call_from, call_behind, call_behind_colons, is_at_colons, is_at_root_path, call_in, item_from, item_in, name_in}
use Rattle.expand_items.specs.declared.item.MacroPath.{MacroPath}
use Rattle.expand_items.specs.declared.item.MacroPath.TheVariants as path
use Rattle.mbe_pattern.specs.Units.{is_at_word, is_brace, is_at_punct}

-- it has at least one tree, if it is there
abbrev pub IsLong : Option Definition → Type 0
IsLong None = Unit {0}
IsLong (Some it) = 0 < it.len

abbrev pub IsLongCall : Option Call → Type 0
IsLongCall None = Unit {0}
IsLongCall (Some it) = 0 < it.len

long_as : (name : Ident) (trees : Forest) → IsLong (defined_as name trees)
long_as name end = tt
long_as name (leaf it rest) = tt
long_as name (node delimiter children rest) = by (is_brace delimiter.kind) (is_at_punct (codes ";") rest)
  where
    by : (a b : Bool) → 0 < cond a 4 (cond b 5 4)
    by true b = omega arith
    by false true = omega arith
    by false false = omega arith

long_definition : (trees : Forest) → IsLong (definition_in trees)
long_definition trees =
    by (is_at_word (codes "macro_rules") trees) (is_at_punct (codes "!") (after_tree trees)) (name_in (after_tree (after_tree trees)))
  where
    from : (name : Option Ident) (behind : Forest) → IsLong (definition_from name behind)
    from None behind = tt
    from (Some name) behind = long_as name behind

    by : (a b : Bool) (name : Option Ident) → IsLong (cond a (cond b (definition_from name (after_tree (after_tree (after_tree trees)))) None) None)
    by true true name = from name (after_tree (after_tree (after_tree trees)))
    by true false name = tt
    by false b name = tt

long_behind : (before : ℕ) (way : MacroPath) (trees : Forest) → IsLongCall (call_behind before way trees)
long_behind before way trees = by (name_in trees) (is_at_punct (codes "!") (after_tree trees)) (after_trees 2 trees)
  where
    by : (name : Option Ident) (there : Bool) (behind : Forest) → IsLongCall (call_from before way name there behind)
    by None there behind = tt
    by (Some name) false behind = tt
    by (Some name) true end = tt
    by (Some name) true (leaf it rest) = tt
    by (Some name) true (node delimiter children rest) = omega arith

long_behind_colons : (root : List ℕ) (trees : Forest) → IsLongCall (call_behind_colons root trees)
long_behind_colons root trees = by (is_at_root_path root trees)
  where
    by : (a : Bool) → IsLongCall (cond a (call_behind 5 path.Other (after_trees 3 trees)) (call_behind 2 path.Other trees))
    by true = long_behind 5 path.Other (after_trees 3 trees)
    by false = long_behind 2 path.Other trees

long_call : (root : List ℕ) (trees : Forest) → IsLongCall (call_in root trees)
long_call root trees = by (is_at_colons trees) (is_at_root_path root trees)
  where
    by : (a b : Bool)
        → IsLongCall (cond a (call_behind_colons root (after_trees 2 trees)) (cond b (call_behind 3 path.Root (after_trees 3 trees)) (call_behind 0 path.Name trees)))
    by true b = long_behind_colons root (after_trees 2 trees)
    by false true = long_behind 3 path.Root (after_trees 3 trees)
    by false false = long_behind 0 path.Name trees

-- After some trees no more tokens are left.
pub fewer_behind : (n : ℕ) (trees : Forest) → size (after_trees n trees) ≤ size trees
fewer_behind zero trees = omega arith
fewer_behind (suc n) end = fewer_behind n end
fewer_behind (suc n) (leaf it rest) = omega (arith, fewer_behind n rest)
fewer_behind (suc n) (node delimiter children rest) = omega (arith, fewer_behind n rest)

-- After one tree or more, if there is one, fewer tokens are left.
pub less_behind : (n : ℕ) (trees : Forest) → 0 < n → (trees ≡ end → ⊥) → size (after_trees n trees) < size trees
less_behind zero trees some there = absurd (omega (arith, some))
less_behind (suc n) end some there = absurd (there refl)
less_behind (suc n) (leaf it rest) some there = omega (arith, fewer_behind n rest)
less_behind (suc n) (node delimiter children rest) some there = omega (arith, fewer_behind n rest)

module _ (root : List ℕ) (trees : Forest) where
  -- After a definition fewer tokens are left.
  pub definition_less : (it : Definition) → item_in root trees ≡ defines it → size (after_trees it.len trees) < size trees
  definition_less it is = less_behind it.len trees (by (definition_in trees) (call_in root trees) (long_definition trees) is) there
    where
      by : (found : Option Definition) (call : Option Call) → IsLong found → item_from found call ≡ defines it → 0 < it.len
      by None None long e = absurd (cc e)
      by None (Some c) long e = absurd (cc e)
      by (Some d) call long e = subst (λ x. 0 < x.len) (same e) long
        where
          same : defines d ≡ defines it → d ≡ it
          same e = cc

      none : item_in root end ≡ defines it → ⊥
      none e = cc

      there : trees ≡ end → ⊥
      there e = none (ap (item_in root) (sym e) ∙ is)

  -- A call has at least one tree.
  pub call_long : (it : Call) → item_in root trees ≡ calls it → 0 < it.len
  call_long it is = by (definition_in trees) (call_in root trees) (long_call root trees) is
    where
      by : (found : Option Definition) (call : Option Call) → IsLongCall call → item_from found call ≡ calls it → 0 < it.len
      by None None long e = absurd (cc e)
      by None (Some c) long e = subst (λ x. 0 < x.len) (same e) long
        where
          same : calls c ≡ calls it → c ≡ it
          same e = cc
      by (Some d) call long e = absurd (cc e)

  -- After a call fewer tokens are left.
  pub call_less : (it : Call) → item_in root trees ≡ calls it → size (after_trees it.len trees) < size trees
  call_less it is = less_behind it.len trees (call_long it is) there
    where
      none : item_in root end ≡ calls it → ⊥
      none e = cc

      there : trees ≡ end → ⊥
      there e = none (ap (item_in root) (sym e) ∙ is)
