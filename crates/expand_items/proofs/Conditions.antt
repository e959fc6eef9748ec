-- What comes first at a position: attributes before a call may be a part of it; those before a definition are not.
use Rattle.std.proofs.Common.{◌≡◌, ◌<◌, ◌+◌, ℕ, Bool, true, false, List, Option, None, Some, inl, inr, ◌⊎◌, refl, ap, sym, subst, ◌∙◌, arith, cond, codes}
use Rattle.tt.specs.Forest.{Forest, end, leaf, node, join, size}
use Rattle.tt.specs.Gluing.{after_trees}
use Rattle.tt.specs.Moves.{after_tree}
use Rattle.tt.specs.Types.Delimiter.{Delimiter}
use Rattle.tt.specs.Types.Ident.{Ident}
use Rattle.expand_items.specs.Attributes.{attributes_len, begins_attributes, item_at, item_behind, with_attributes}
use Rattle.expand_items.specs.Items.{Definition, Call, Item, defines, calls, inactive, other, call_behind, call_behind_colons, call_from, call_in, definition_in, is_at_colons, is_at_root_path, item_from, item_in, name_in}
use Rattle.expand_items.specs.declared.item.MacroPath.{MacroPath}
use Rattle.expand_items.specs.declared.item.MacroPath.TheVariants as path
use Rattle.expand_items.specs.Positions.{is_statement}
use Rattle.expand_items.specs.declared.position.Position.{Position}
use Rattle.expand_items.proofs.Attributes.{EndsWithNode, attributes_end}
use Rattle.expand_items.proofs.Lengths.{call_long, definition_less, less_behind}
use Rattle.mbe_pattern.specs.Units.{front_trees, is_at_punct}
use Rattle.mbe_pattern.proofs.Passing.{after_end}

-- it has no attributes, if it is there
abbrev IsBare : Option Call → Type 0
IsBare None = Unit {0}
IsBare (Some it) = it.attributes ≡ 0

bare_behind : (before : ℕ) (way : MacroPath) (trees : Forest) → IsBare (call_behind before way trees)
bare_behind before way trees = by (name_in trees) (is_at_punct (codes "!") (after_tree trees)) (after_trees 2 trees)
  where
    by : (name : Option Ident) (there : Bool) (behind : Forest) → IsBare (call_from before way name there behind)
    by None there behind = tt
    by (Some name) false behind = tt
    by (Some name) true end = tt
    by (Some name) true (leaf it rest) = tt
    by (Some name) true (node delimiter children rest) = refl

bare_behind_colons : (root : List ℕ) (trees : Forest) → IsBare (call_behind_colons root trees)
bare_behind_colons root trees = by (is_at_root_path root trees)
  where
    by : (a : Bool) → IsBare (cond a (call_behind 5 path.Other (after_trees 3 trees)) (call_behind 2 path.Other trees))
    by true = bare_behind 5 path.Other (after_trees 3 trees)
    by false = bare_behind 2 path.Other trees

bare_in : (root : List ℕ) (trees : Forest) → IsBare (call_in root trees)
bare_in root trees = by (is_at_colons trees) (is_at_root_path root trees)
  where
    by : (a b : Bool)
        → IsBare (cond a (call_behind_colons root (after_trees 2 trees)) (cond b (call_behind 3 path.Root (after_trees 3 trees)) (call_behind 0 path.Name trees)))
    by true b = bare_behind_colons root (after_trees 2 trees)
    by false true = bare_behind 3 path.Root (after_trees 3 trees)
    by false false = bare_behind 0 path.Name trees

-- A call that comes first by itself has no attributes.
pub bare_call : (root : List ℕ) (trees : Forest) (it : Call) → item_in root trees ≡ calls it → it.attributes ≡ 0
bare_call root trees it is = by (definition_in trees) (call_in root trees) (bare_in root trees) is
  where
    by : (found : Option Definition) (call : Option Call) → IsBare call → item_from found call ≡ calls it → it.attributes ≡ 0
    by None None bare e = absurd (cc e)
    by None (Some c) bare e = subst (λ x. x.attributes ≡ 0) (same e) bare
      where
        same : calls c ≡ calls it → c ≡ it
        same e = cc
    by (Some d) call bare e = absurd (cc e)

-- a call at a position is one after its attributes
pub record IsCallBehind (root : List ℕ) (trees : Forest) (it : Call) : Type 0 where
  pub bare : Call
  pub shape : item_in root (after_trees it.attributes trees) ≡ calls bare
  pub same : it ≡ with_attributes it.attributes bare

-- the same, and these are none or all attributes that come first
record IsCallThere (root : List ℕ) (trees : Forest) (it : Call) : Type 0 where
  behind : IsCallBehind root trees it
  attributes : (it.attributes ≡ 0) ⊎ (it.attributes ≡ attributes_len trees)

-- A call by itself has no attributes.
by_itself : (root : List ℕ) (trees : Forest) (it : Call) → item_in root trees ≡ calls it → IsCallThere root trees it
by_itself root trees it is =
    let none : it.attributes ≡ 0 = bare_call root trees it is in
    let len : it.len ≡ it.attributes + it.len = omega (arith, none) in
    record {
      behind =
          record {
            bare = it;
            shape = subst (λ n. item_in root (after_trees n trees) ≡ calls it) (sym none) is;
            same = ap (λ n. record it { len = n }) len;
          };
      attributes = inl none;
    }

-- A call after all first attributes has them as a part.
behind_all : (root : List ℕ) (trees : Forest) (it bare : Call) → item_in root (after_trees (attributes_len trees) trees) ≡ calls bare
    → with_attributes (attributes_len trees) bare ≡ it → IsCallThere root trees it
behind_all root trees it bare shape same =
    let all : attributes_len trees ≡ it.attributes = ap (λ c. c.attributes) same in
    record {
      behind =
          record {
            bare = bare;
            shape = subst (λ n. item_in root (after_trees n trees) ≡ calls bare) all shape;
            same = sym same ∙ ap (λ n. with_attributes n bare) all;
          };
      attributes = inr (sym all);
    }

module _ (root : List ℕ) (position : Position) (trees : Forest) where
  -- what follows all attributes
  abbrev behind : Forest
  behind = after_trees (attributes_len trees) trees

  call_there : (it : Call) → item_at root position trees ≡ calls it → IsCallThere root trees it
  call_there it is = at position.is_verbatim is
    where
      judged : (bare : Call) (statement : Bool) → item_in root behind ≡ calls bare
          → cond statement (calls (with_attributes (attributes_len trees) bare)) other ≡ calls it → IsCallThere root trees it
      judged bare true shape e = behind_all root trees it bare shape (same e)
        where
          same : calls (with_attributes (attributes_len trees) bare) ≡ calls it → with_attributes (attributes_len trees) bare ≡ it
          same e = cc
      judged bare false shape e = absurd (cc e)

      found : (item : Item) → item_in root behind ≡ item → item_behind position (attributes_len trees) behind item ≡ calls it → IsCallThere root trees it
      found (defines d) shape e = absurd (cc e)
      found (inactive len) shape e = absurd (cc e)
      found (calls bare) shape e = judged bare (is_statement (attributes_len trees) bare.delimiter.kind (after_trees bare.len behind) position) shape e
      found other shape e = absurd (cc e)

      by : (begins : Bool) → cond begins (item_behind position (attributes_len trees) behind (item_in root behind)) (item_in root trees) ≡ calls it
          → IsCallThere root trees it
      by true e = found (item_in root behind) refl e
      by false e = by_itself root trees it e

      at : (verbatim : Bool)
          → cond verbatim other (cond (begins_attributes position trees) (item_behind position (attributes_len trees) behind (item_in root behind)) (item_in root trees)) ≡ calls it
          → IsCallThere root trees it
      at true e = absurd (cc e)
      at false e = by (begins_attributes position trees) e

  -- A call at a position is one after its attributes.
  pub call_at : (it : Call) → item_at root position trees ≡ calls it → IsCallBehind root trees it
  call_at it is = (call_there it is).behind

  -- A definition at a position has no attributes.
  pub definition_at : (it : Definition) → item_at root position trees ≡ defines it → item_in root trees ≡ defines it
  definition_at it is = at position.is_verbatim is
    where
      judged : (bare : Call) (statement : Bool) → cond statement (calls (with_attributes (attributes_len trees) bare)) other ≡ defines it → ⊥
      judged bare true e = cc e
      judged bare false e = cc e

      none : (item : Item) → item_behind position (attributes_len trees) behind item ≡ defines it → ⊥
      none (defines d) e = cc e
      none (inactive len) e = cc e
      none (calls bare) e = judged bare (is_statement (attributes_len trees) bare.delimiter.kind (after_trees bare.len behind) position) e
      none other e = cc e

      by : (begins : Bool) → cond begins (item_behind position (attributes_len trees) behind (item_in root behind)) (item_in root trees) ≡ defines it
          → item_in root trees ≡ defines it
      by true e = absurd (none (item_in root behind) e)
      by false e = e

      at : (verbatim : Bool)
          → cond verbatim other (cond (begins_attributes position trees) (item_behind position (attributes_len trees) behind (item_in root behind)) (item_in root trees)) ≡ defines it
          → item_in root trees ≡ defines it
      at true e = absurd (cc e)
      at false e = by (begins_attributes position trees) e

  -- Attributes before a call end with a subtree, if there are any.
  pub attributes_closed : (it : Call) → item_at root position trees ≡ calls it
      → (it.attributes ≡ 0) ⊎ ((front : Forest) × (delimiter : Delimiter) × (children : Forest) × (front_trees it.attributes trees ≡ join front (node delimiter children end)))
  attributes_closed it is = by (call_there it is).attributes
    where
      all : it.attributes ≡ attributes_len trees → (attributes_len trees ≡ 0) ⊎ EndsWithNode (front_trees (attributes_len trees) trees)
          → (it.attributes ≡ 0) ⊎ EndsWithNode (front_trees it.attributes trees)
      all same (inl none) = inl (same ∙ none)
      all same (inr ends) = inr (subst (λ n. EndsWithNode (front_trees n trees)) (sym same) ends)

      by : (it.attributes ≡ 0) ⊎ (it.attributes ≡ attributes_len trees) → (it.attributes ≡ 0) ⊎ EndsWithNode (front_trees it.attributes trees)
      by (inl none) = inl none
      by (inr same) = all same (attributes_end trees)

  -- A call is more trees than its attributes.
  pub call_at_long : (it : Call) → item_at root position trees ≡ calls it → it.attributes < it.len
  call_at_long it is =
      let call = call_at it is in
      omega (arith, ap (λ c. c.len) call.same, call_long root (after_trees it.attributes trees) call.bare call.shape)

  -- After a call at a position fewer tokens are left.
  pub call_at_less : (it : Call) → item_at root position trees ≡ calls it → size (after_trees it.len trees) < size trees
  call_at_less it is = less_behind it.len trees (omega (arith, call_at_long it is)) there
    where
      call : IsCallBehind root trees it
      call = call_at it is

      none : item_in root end ≡ calls call.bare → ⊥
      none e = cc

      there : trees ≡ end → ⊥
      there e =
          none (ap (item_in root) (sym (after_end it.attributes) ∙ ap (after_trees it.attributes) (sym e)) ∙ call.shape)

  -- After a definition at a position fewer tokens are left.
  pub definition_at_less : (it : Definition) → item_at root position trees ≡ defines it → size (after_trees it.len trees) < size trees
  definition_at_less it is = definition_less root trees it (definition_at it is)
