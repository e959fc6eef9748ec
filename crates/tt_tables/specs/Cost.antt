-- The cost of an order of the used values, in bytes of the references to them, and the orders that cost least.
use Rattle.std.specs.Prelude.{ℕ, suc, ◌+◌, ◌*◌, ◌≤◌, Bool, nat_lt, if◌then◌else◌, List, [], ◌∷◌}
use Rattle.std.specs.List.{AllByRecursion, IsDistinct}
use Rattle.tt_tables.specs.TableOrder.{IsIn, uses_of}

-- the weight of an index: the number of bytes that name it
abbrev pub weight : (index : ℕ) → ℕ
weight index = if nat_lt index 64 then 1 else if nat_lt index 8192 then 2 else 4

-- `same` is whether two values are equal
module _ {X : Type 0} (same : X → X → Bool) where
  -- the cost of an order whose first value has that index
  abbrev pub cost_from : (index : ℕ) → (uses order : List X) → ℕ
  cost_from index uses [] = 0
  cost_from index uses (x ∷ order) = weight index * uses_of same uses x + cost_from (suc index) uses order

  -- the cost of an order: the sum, over its indices, of the index's weight times the uses of the value there
  abbrev pub cost : (uses order : List X) → ℕ
  cost uses order = cost_from 0 uses order

  -- an order: a list with each different used value exactly once
  pub record IsOrderOf (uses order : List X) : Type 0 where
    pub has_all : AllByRecursion (IsIn same order) uses
    pub has_no_other : AllByRecursion (IsIn same uses) order
    pub once : IsDistinct same order

  -- an order such that no other one costs less
  abbrev pub IsCheapest : (uses order : List X) → Type 0
  IsCheapest uses order =
      IsOrderOf uses order × ((other : List X) → IsOrderOf uses other → cost uses order ≤ cost uses other)
