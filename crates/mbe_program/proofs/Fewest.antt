-- The fewest tokens that are left at arrivals, and the arrival of a number.
use Rattle.std.proofs.Common.{◌≡◌, inl, inr, ◌<◌, ◌≤◌, ℕ, zero, suc, List, [], ◌∷◌, ◌++◌, map, length, get_or, refl, ap, ◌∙◌, arith}
use Rattle.std.specs.Prelude.{◌⊎◌, min}
use Rattle.mbe_matcher.specs.Marks.{Note}
use Rattle.mbe_program.specs.Searching.{coming_of, IsFewest}
use Rattle.mbe_program.specs.Tables.{Table}
use Rattle.mbe_program.specs.Ways.{Coming, IsAt}
use Rattle.mbe_program.specs.declared.cell.Cell.{Cell}
use Rattle.mbe_program.specs.declared.search.Arrival.{Arrival}
use Rattle.mbe_program.proofs.Paths.{at_grown, at_newest, at_either}
use Rattle.mbe_program.proofs.Results.{less_or_not}

-- The arrival of a number is in the log.
pub logged_at : (log : List Arrival) (k : ℕ) (it : Arrival) → k < length log → it ≡ get_or log k it → IsAt Cell Note (map coming_of log) k (coming_of it)
logged_at [] k it less is = absurd (omega (arith, less))
logged_at (own ∷ log) zero it less is = ap coming_of is
logged_at (own ∷ log) (suc k) it less is = logged_at log k it (omega (arith, less)) is

pub fewest_none : (table : Table) (most : ℕ) → IsFewest table most [] most
fewest_none table most = record { upto = omega arith; found = inl refl; least = λ k it there. absurd there }

module _ (table : Table) (most left : ℕ) (log : List (Coming Cell Note)) (it : Coming Cell Note) (fewest : IsFewest table most log left) where
  own : ℕ
  own = table.left it.cell.position

  -- One more arrival.
  pub fewer : IsFewest table most (log ++ it ∷ []) (min left (table.left it.cell.position))
  fewer = record { upto = let most_is = fewest.upto in omega (arith, most_is); found = found; least = least }
    where
      found : (min left (table.left it.cell.position) ≡ most)
          ⊎ ((k : ℕ) × (other : Coming Cell Note) × IsAt Cell Note (log ++ it ∷ []) k other × (min left (table.left it.cell.position) ≡ table.left other.cell.position))
      found =
          elim (less_or_not left (table.left it.cell.position)) [
            | inl less ↦
                let same : min left (table.left it.cell.position) ≡ left = omega (arith, less) in
                elim fewest.found [
                  | inl all ↦ inl (same ∙ all)
                  | inr (k, other, there, is) ↦ inr (k, other, at_grown Cell Note log (it ∷ []) k other there, same ∙ is)
                ]
            | inr least ↦ inr (length log, it, at_newest Cell Note log it, omega (arith, least))
          ]

      least : (k : ℕ) (other : Coming Cell Note) → IsAt Cell Note (log ++ it ∷ []) k other → min left (table.left it.cell.position) ≤ table.left other.cell.position
      least k other there =
          elim (at_either Cell Note log it k other there) [
            | inl old ↦ let few = fewest.least k other old in omega (arith, few)
            | inr (count, same) ↦ let is : table.left other.cell.position ≡ table.left it.cell.position = ap (λ (it : Coming Cell Note). table.left it.cell.position) same in omega (arith, is)
          ]
