-- The place of a value in a list.
use Rattle.std.proofs.Common.{◌≡◌, ◌+◌, ◌<◌, suc, Bool, true, false, cond, not, Some, None, nat_lt, List, [], ◌∷◌, length, refl, arith}
use Rattle.std.specs.List.{position, position_or_len}
use Rattle.std.proofs.lemmas.Bool.{ltb-true, ltb-false}
use Rattle.tt_tables.specs.TableOrder.{index_in}
use Rattle.tt_tables.specs.Searches.{IsIndex}

-- The first index that passes, by two words.
pub same_index : {X : Type 0} (p : X → Bool) (xs : List X) → position_or_len p xs ≡ index_in p xs
same_index p [] = refl
same_index p (x ∷ xs) = by_test (p x) (same_index p xs)
  where
    by_test : (t : Bool) → position_or_len p xs ≡ index_in p xs → cond (not t) (1 + position_or_len p xs) 0 ≡ cond t 0 (suc (index_in p xs))
    by_test true e = refl
    by_test false e = omega arith

-- The result of `position` is the index of the first item that passes.
pub position_is_index : {X : Type 0} (p : X → Bool) (xs : List X) → IsIndex p xs (position p xs)
position_is_index p xs = by_test (nat_lt (position_or_len p xs) (length xs)) refl
  where
    by_test : (t : Bool) → nat_lt (position_or_len p xs) (length xs) ≡ t → IsIndex p xs (cond t (Some (position_or_len p xs)) None)
    by_test true e = (same_index p xs, ltb-true _ _ e)
    by_test false e = λ h. absurd (late h)
      where
        late : index_in p xs < length xs → ⊥
        late h = omega (arith, ltb-false _ _ e, same_index p xs, h)
