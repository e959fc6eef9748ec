-- Numbers of uses, beside values.
use Rattle.std.specs.Prelude.{◌≡◌, ℕ, ◌+◌, Bool, List, nat_lt, count_by}
use Rattle.std.specs.Option.{unwrap_or}
use Rattle.std.specs.Map.{lookup}
use Rattle.tt_tables.specs.TableOrder.{uses_of}

-- the number of values that have uses; an entry may have none
abbrev pub used_count : {X : Type 0} → List (X × ℕ) → ℕ
used_count counts = count_by (λ entry. nat_lt 0 entry.1) counts

-- `same` is whether two values are equal
module _ {X : Type 0} (same : X → X → Bool) where
  -- the number of a value among the counts, or 0 if it has none
  abbrev pub number_in : List (X × ℕ) → X → ℕ
  number_in counts x = unwrap_or (lookup (same x) counts) 0

  -- the counts have each value's number of uses
  abbrev pub CountsUses : (uses : List X) → List (X × ℕ) → Type 0
  CountsUses uses counts = (x : X) → number_in counts x ≡ uses_of same uses x

  -- the second counts have for each value the number of the first counts and its uses together
  abbrev pub CountsMore : (uses : List X) (less more : List (X × ℕ)) → Type 0
  CountsMore uses less more = (x : X) → number_in more x ≡ number_in less x + uses_of same uses x
