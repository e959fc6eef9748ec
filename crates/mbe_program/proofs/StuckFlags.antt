-- Flags of the parts at which arrivals are stuck.
use Rattle.std.proofs.Common.{◌≡◌, inl, inr, ◌<◌, ℕ, Bool, true, false, List, [], ◌∷◌, ◌++◌, get_or, set, length, sym, subst, ap, ◌∙◌}
use Rattle.std.proofs.lemmas.Bool.Decides.{eqb_tells}
use Rattle.std.proofs.lemmas.List.{get_or-set_same, get_or-set_other, length-set}
use Rattle.std.specs.Prelude.{◌⊎◌}
use Rattle.mbe_matcher.specs.Marks.{Note}
use Rattle.mbe_matcher.specs.Waiting.{IsSet}
use Rattle.mbe_program.specs.Numbering.{part_at}
use Rattle.mbe_program.specs.Program.{Instruction}
use Rattle.mbe_program.specs.Stuck.{AreStuck, HasStuck, IsStuckCell}
use Rattle.mbe_program.specs.Tables.{Table}
use Rattle.mbe_program.specs.Ways.{Coming}
use Rattle.mbe_program.specs.declared.cell.Cell.{Cell}
use Rattle.mbe_program.proofs.Paths.{at_either, at_grown, at_newest}

-- One more flag is set: its own, and those that were.
set_too : (flags : List Bool) (at n : ℕ) → n < length flags → (at ≡ n) ⊎ IsSet flags n → IsSet (set flags at true) n
set_too flags at n less (inl same) =
    subst (λ m. get_or (set flags m true) n false ≡ true) (sym same) (get_or-set_same flags n true false less)
set_too flags at n less (inr is) = elim (eqb_tells n at) [
  | inl (b, same) ↦ subst (λ m. get_or (set flags m true) n false ≡ true) same (get_or-set_same flags n true false less)
  | inr (b, other) ↦ get_or-set_other flags at n true false other ∙ is
]

set_only : (flags : List Bool) (at n : ℕ) → IsSet (set flags at true) n → IsSet flags n ⊎ (at ≡ n)
set_only flags at n is = elim (eqb_tells n at) [
  | inl (b, same) ↦ inr (sym same)
  | inr (b, other) ↦ inl (sym (get_or-set_other flags at n true false other) ∙ is)
]

module _ (program : List Instruction) (table : Table) (left : ℕ) (parts : List ℕ) where
  module _ (log : List (Coming Cell Note)) (it : Coming Cell Note) (flags : List Bool) (are : AreStuck program table left parts log flags) where
    grown : (number : ℕ) → HasStuck program table left parts log number → HasStuck program table left parts (log ++ it ∷ []) number
    grown number (k, other, there, stuck, at) = (k, other, at_grown Cell Note log (it ∷ []) k other there, stuck, at)

    either : (number : ℕ) → HasStuck program table left parts (log ++ it ∷ []) number
        → HasStuck program table left parts log number ⊎ (IsStuckCell program table left it.cell × (part_at parts it.cell.left ≡ number))
    either number (k, other, there, stuck, at) = elim (at_either Cell Note log it k other there) [
      | inl old ↦ inl (k, other, old, stuck, at)
      | inr (count, same) ↦
          inr (
            subst (λ (other : Coming Cell Note). IsStuckCell program table left other.cell) same stuck,
            ap (λ (other : Coming Cell Note). part_at parts other.cell.left) (sym same) ∙ at,
          )
    ]

    -- One more arrival, which is not stuck,
    pub stuck_as_before : (IsStuckCell program table left it.cell → ⊥) → AreStuck program table left parts (log ++ it ∷ []) flags
    stuck_as_before free =
        record {
          each = λ number is. grown number (are.each number is);
          all = λ number has less. elim (either number has) [ inl old ↦ are.all number old less | inr now ↦ absurd (free now.0) ];
          count = are.count;
        }

    -- or is.
    pub stuck_too : IsStuckCell program table left it.cell → AreStuck program table left parts (log ++ it ∷ []) (set flags (part_at parts it.cell.left) true)
    stuck_too stuck =
        record {
          each = λ number is. elim (set_only flags (part_at parts it.cell.left) number is) [
            | inl before ↦ grown number (are.each number before)
            | inr same ↦ (length log, it, at_newest Cell Note log it, stuck, same)
          ];
          all = λ number has less.
              let within : number < length flags = subst (λ n. number < n) (length-set flags (part_at parts it.cell.left) true) less in
              elim (either number has) [
                | inl old ↦ set_too flags (part_at parts it.cell.left) number within (inr (are.all number old within))
                | inr now ↦ set_too flags (part_at parts it.cell.left) number within (inl now.1)
              ];
          count = length-set flags (part_at parts it.cell.left) true ∙ are.count;
        }
