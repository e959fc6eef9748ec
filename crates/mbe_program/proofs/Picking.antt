-- The first instruction of a place.
use Rattle.std.proofs.Common.{◌≡◌, ◌-◌, ◌<◌, ◌≤◌, ℕ, zero, suc, List, [], ◌∷◌, Some, length, drop, ap, sym, subst, ◌∙◌, arith}
use Rattle.std.proofs.lemmas.List.{length-drop, drop_all, length-map}
use Rattle.std.specs.Prelude.{slice_get}
use Rattle.mbe_program.specs.Moving.{AreMovesAt, AreMovesOf, instruction_of, instructions_of}
use Rattle.mbe_program.specs.Program.{place_at}
use Rattle.mbe_program.specs.Tables.{Table}
use Rattle.mbe_program.specs.declared.instruction.Instruction.{Instruction as Own}
use Rattle.mbe_program.specs.declared.moves.Moves.{Moves}
use Rattle.mbe_program.specs.declared.moves.Moves.TheVariants as moves

first_at : (program : List Own) (k : ℕ) (it : Own) → slice_get program k ≡ Some it → drop k (instructions_of program) ≡ instruction_of it ∷ drop (suc k) (instructions_of program)
first_at [] k it is = absurd (cc is)
first_at (own ∷ program) zero it is = let same : own ≡ it = cc is in ap (λ (first : Own). instruction_of first ∷ instructions_of program) same
first_at (own ∷ program) (suc k) it is = first_at program k it is

module _ (program : List Own) (table : Table) (left n : ℕ) (within : left ≤ length program) where
  count : length (instructions_of program) ≡ length program
  count = length-map program instruction_of

  -- Nothing is left, so there is no step.
  pub picked_none : left ≡ 0 → AreMovesAt (instructions_of program) table (place_at (instructions_of program) left) n moves.Nowhere
  picked_none none =
      let all : length (instructions_of program) ≤ length (instructions_of program) - left = omega (arith, none) in
      subst (λ place. AreMovesAt (instructions_of program) table place n moves.Nowhere) (sym (drop_all (length (instructions_of program) - left) (instructions_of program) all)) (λ to its hop. hop)

  -- The steps of the first instruction are those of the place.
  pub picked : (it : Own) (its : Moves) → 0 < left → slice_get program (length program - left) ≡ Some it
      → AreMovesOf table (instruction_of it) n (length program) (left - 1) its
      → AreMovesAt (instructions_of program) table (place_at (instructions_of program) left) n its
  picked it its some is are =
      let k = length program - left in
      let rest = drop (suc k) (instructions_of program) in
      let rest_count = length-drop (suc k) (instructions_of program) in
      let same : k ≡ length (instructions_of program) - left = ap (λ n. n - left) (sym count) in
      let place : place_at (instructions_of program) left ≡ instruction_of it ∷ rest = ap (λ k. drop k (instructions_of program)) (sym same) ∙ first_at program k it is in
      subst (λ place. AreMovesAt (instructions_of program) table place n its) (sym place)
      (are (instructions_of program) rest count (omega (arith, rest_count, count, within, some)))
