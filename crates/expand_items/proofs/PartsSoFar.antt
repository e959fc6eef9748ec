-- Parts of trees, one after the other.
use Rattle.std.proofs.Common.{◌≡◌, ◌<◌, ◌++◌, ℕ, suc, zero, Bool, true, false, List, [], ◌∷◌, Option, None, Some, refl, ap, sym, subst, ◌∙◌, arith, cond, append_assoc, append-nil, codes}
use Rattle.std.proofs.lemmas.Bool.{false≢true}
use Rattle.std.specs.Prelude.{option_map}
use Rattle.tt.specs.Forest.{Forest, end, leaf, node, size}
use Rattle.tt.specs.Gluing.{after_trees}
use Rattle.tt.specs.Siblings.{is_end}
use Rattle.expand_items.specs.declared.part.Part.{Part}
use Rattle.expand_items.specs.Parts.{AreParts, ends, stops, goes_on, IsPart, item, no_item, statement, no_statement, Takes, item_part, statement_part}
use Rattle.expand_items.proofs.Lengths.{fewer_behind}
use Rattle.expand_items.specs.Positions.{is_items}
use Rattle.expand_items.specs.declared.position.Siblings.{Siblings}
use Rattle.mbe_pattern.specs.Units.{is_at_punct}
use Rattle.mbe_pattern.specs.declared.pattern.GrammarFragment.TheVariants as fragment

-- the parts found so far, and those of the rest, if it is a run of parts
abbrev pub behind : List Part → Option (List Part) → Option (List Part)
behind so_far left = option_map (λ parts. so_far ++ parts) left

-- whatever parts the rest is, all of the trees are the parts so far and these
abbrev pub ArePartsSoFar : Siblings → (all left : Forest) → (so_far : List Part) → Type 0
ArePartsSoFar its all left so_far = (found : Option (List Part)) → AreParts its left found → AreParts its all (behind so_far found)

-- No part is found yet.
pub none_so_far : (its : Siblings) (all : Forest) → ArePartsSoFar its all all []
none_so_far its all None are = are
none_so_far its all (Some parts) are = are

-- One part more is found.
pub more_so_far : (its : Siblings) (all left : Forest) (so_far now : List Part) (part : Part) → ArePartsSoFar its all left so_far → is_end left ≡ false → IsPart its left (Some part)
    → now ≡ so_far ++ part ∷ [] → ArePartsSoFar its all (after_trees part.len left) now
more_so_far its all left so_far now part so some is more found are =
    subst (AreParts its all) (same found ∙ ap (λ ps. behind ps found) (sym more)) (so (option_map (λ parts. part ∷ parts) found) (goes_on some is are))
  where
    same : (found : Option (List Part)) → behind so_far (option_map (λ parts. part ∷ parts) found) ≡ behind (so_far ++ part ∷ []) found
    same None = refl
    same (Some parts) = ap Some (sym (append_assoc so_far (part ∷ []) parts))

-- The rest is no run of parts, so all trees are none.
pub stop_so_far : (its : Siblings) (all left : Forest) (so_far : List Part) → ArePartsSoFar its all left so_far → is_end left ≡ false → IsPart its left None → AreParts its all None
stop_so_far its all left so_far so some is = so None (stops some is)

-- All parts are found.
pub all_so_far : (its : Siblings) (all left : Forest) (so_far : List Part) → ArePartsSoFar its all left so_far → is_end left ≡ true → AreParts its all (Some so_far)
all_so_far its all left so_far so none = subst (AreParts its all) (ap Some (append-nil so_far)) (so (Some []) (by left none))
  where
    by : (left : Forest) → is_end left ≡ true → AreParts its left (Some [])
    by end none = ends
    by (leaf it rest) none = absurd (false≢true none)
    by (node delimiter children rest) none = absurd (false≢true none)

-- a part that may be there has at least one tree
abbrev IsLong : Option Part → Type 0
IsLong None = Unit {0}
IsLong (Some part) = 0 < part.len

long : {its : Siblings} {trees : Forest} {found : Option Part} → IsPart its trees found → IsLong found
long (item {more = more} is) = omega arith
long (no_item items is) = tt
long (statement {trees = trees} {more = more} no_items none is) = by (is_at_punct (codes ";") (after_trees (suc more) trees))
  where
    by : (b : Bool) → 0 < cond b (suc (suc more)) (suc more)
    by true = omega arith
    by false = omega arith
long (no_statement no_items none is) = tt

-- A part has at least one tree.
pub part_long : (its : Siblings) (trees : Forest) (part : Part) → IsPart its trees (Some part) → 0 < part.len
part_long its trees part is = long is

-- After some trees fewer tokens are left.
pub less_left : (n : ℕ) (trees : Forest) → 0 < n → is_end trees ≡ false → size (after_trees n trees) < size trees
less_left n end some there = absurd (false≢true (sym there))
less_left (suc n) (leaf it rest) some there = omega (arith, fewer_behind n rest)
less_left (suc n) (node delimiter children rest) some there = omega (arith, fewer_behind n rest)
less_left zero trees some there = absurd (omega (arith, some))

-- A `;` after so many trees is a further tree.
pub semicolon_there : (n : ℕ) (trees : Forest) → is_at_punct (codes ";") (after_trees n trees) ≡ true → n < size trees
semicolon_there zero end there = absurd (false≢true there)
semicolon_there zero (leaf it rest) there = omega arith
semicolon_there zero (node delimiter children rest) there = omega arith
semicolon_there (suc n) end there = absurd (omega (arith, semicolon_there n end there))
semicolon_there (suc n) (leaf it rest) there = omega (arith, semicolon_there n rest there)
semicolon_there (suc n) (node delimiter children rest) there = omega (arith, semicolon_there n rest there)

module _ (its : Siblings) (trees : Forest) where
  -- An item comes first,
  pub item_first : (n : ℕ) → Takes fragment.Item trees n → 0 < n → IsPart its trees (Some (item_part n))
  item_first zero is some = absurd (omega (arith, some))
  item_first (suc n) is some = item is

  -- or a statement does,
  pub statement_first : (n : ℕ) → is_items its ≡ false → Takes fragment.Item trees 0 → Takes fragment.Stmt trees n → 0 < n → IsPart its trees (Some (statement_part n trees))
  statement_first zero no_items none is some = absurd (omega (arith, some))
  statement_first (suc n) no_items none is some = statement no_items none is
