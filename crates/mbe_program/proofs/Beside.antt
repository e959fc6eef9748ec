-- The numbers of parts beside the instructions of a program.
use Rattle.std.proofs.Common.{◌≡◌, ◌+◌, ℕ, suc, List, [], ◌∷◌, ◌++◌, length, ap, ap₂, sym, ◌∙◌, arith, append_assoc}
use Rattle.std.proofs.Math.Seq.{get_or-append_seam}
use Rattle.std.proofs.lemmas.List.{length-append}
use Rattle.std.specs.Prelude.{◌-◌, slice_index_or}
use Rattle.mbe_matcher.specs.Parts.{place_count, separator_count}
use Rattle.mbe_matcher.specs.Marks.{step_count}
use Rattle.mbe_pattern.specs.Patterns.{Pattern, nothing, variable, token, subtree, repetition}
use Rattle.tt.specs.Types.Leaf.{Leaf}
use Rattle.mbe_program.specs.Numbering.{part_at, parts_before, separator_part}
use Rattle.mbe_program.specs.Program.{Instruction, take, pass, enter, leave, begin, close, again_at, separator_before, instructions_before}
use Rattle.mbe_program.proofs.Rounds.{close_place, round_place}

module _ (parts : List ℕ) where
  -- these are the last numbers, those beside a place
  abbrev pub IsBeside : (numbers : List ℕ) → (place : List Instruction) → Type 0
  IsBeside numbers place = (before : List ℕ) × (parts ≡ before ++ numbers) × (length numbers ≡ length place)

  -- The first of them is the number at the place.
  pub number_at : (number : ℕ) (others : List ℕ) (it : Instruction) (rest : List Instruction) → IsBeside (number ∷ others) (it ∷ rest) → part_at parts (suc (length rest)) ≡ number
  number_at number others it rest (before, are, count) =
      let all : length parts ≡ length before + length (number ∷ others) = ap length are ∙ length-append before (number ∷ others) in
      let skipped : length parts - suc (length rest) ≡ length before = omega (arith, all, count) in
      ap₂ (λ its n. slice_index_or its n 0) are skipped ∙ get_or-append_seam before number others 0

  -- The others are those beside the rest,
  pub beside_first : (number : ℕ) (others : List ℕ) (it : Instruction) (rest : List Instruction) → IsBeside (number ∷ others) (it ∷ rest) → IsBeside others rest
  beside_first number others it rest (before, are, count) =
      (before ++ number ∷ [], are ∙ sym (append_assoc before (number ∷ []) others), omega (arith, count))

  -- also behind a separator
  pub beside_separator : (separator : List Leaf) (number : ℕ) (others : List ℕ) (round : List Instruction)
      → IsBeside (separator_part separator number others) (separator_before separator round) → IsBeside others round
  beside_separator [] number others round is = is
  beside_separator (it ∷ separator) number others round is = beside_first number others (pass (it ∷ separator)) round is

  -- and behind a pattern.
  pub beside_behind : (at : ℕ) (pattern : Pattern) (numbers : List ℕ) (behind : List Instruction)
      → IsBeside (parts_before at pattern numbers) (instructions_before pattern behind) → IsBeside numbers behind
  beside_behind at nothing numbers behind is = is
  beside_behind at (variable it others) numbers behind is =
      beside_behind (suc at) others numbers behind (beside_first at (parts_before (suc at) others numbers) (take it) (instructions_before others behind) is)
  beside_behind at (token its others) numbers behind is =
      beside_behind (suc at) others numbers behind (beside_first at (parts_before (suc at) others numbers) (pass its) (instructions_before others behind) is)
  beside_behind at (subtree kind inner others) numbers behind is =
      let ends = suc at + place_count inner in
      let after = instructions_before others behind in
      let later = parts_before (suc ends) others numbers in
      beside_behind (suc ends) others numbers behind
      (beside_first ends later leave after
      (beside_behind (suc at) inner (ends ∷ later) (leave ∷ after)
      (beside_first at (parts_before (suc at) inner (ends ∷ later)) (enter kind) (instructions_before inner (leave ∷ after)) is)))
  beside_behind at (repetition inner separator op others) numbers behind is =
      let next = at + place_count inner + separator_count separator in
      let after = instructions_before others behind in
      let later = parts_before next others numbers in
      let round = round_place inner separator op after in
      let rounds = parts_before at inner (0 ∷ later) in
      beside_behind next others numbers behind
      (beside_first 0 later (close op (again_at separator (step_count inner) (length after))) after
      (beside_behind at inner (0 ∷ later) (close_place inner separator op after)
      (beside_separator separator (at + place_count inner) rounds round
      (beside_first 0 (separator_part separator (at + place_count inner) rounds) (begin op (step_count inner + suc (length after)) (length after)) (separator_before separator round) is))))

-- A pattern has as many numbers as instructions.
separator_even : (separator : List Leaf) (number : ℕ) (others : List ℕ) (round : List Instruction) → length others ≡ length round
    → length (separator_part separator number others) ≡ length (separator_before separator round)
separator_even [] number others round even = even
separator_even (it ∷ separator) number others round even = ap suc even

pub parts_even : (at : ℕ) (pattern : Pattern) (numbers : List ℕ) (behind : List Instruction) → length numbers ≡ length behind
    → length (parts_before at pattern numbers) ≡ length (instructions_before pattern behind)
parts_even at nothing numbers behind even = even
parts_even at (variable it others) numbers behind even = ap suc (parts_even (suc at) others numbers behind even)
parts_even at (token its others) numbers behind even = ap suc (parts_even (suc at) others numbers behind even)
parts_even at (subtree kind inner others) numbers behind even =
    let ends = suc at + place_count inner in
    ap suc (parts_even (suc at) inner (ends ∷ parts_before (suc ends) others numbers) (leave ∷ instructions_before others behind) (ap suc (parts_even (suc ends) others numbers behind even)))
parts_even at (repetition inner separator op others) numbers behind even =
    let next = at + place_count inner + separator_count separator in
    let after = instructions_before others behind in
    let later = parts_before next others numbers in
    ap suc (separator_even separator (at + place_count inner) (parts_before at inner (0 ∷ later)) (round_place inner separator op after)
    (parts_even at inner (0 ∷ later) (close_place inner separator op after) (ap suc (parts_even next others numbers behind even))))
