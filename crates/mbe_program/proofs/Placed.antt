-- Where the instructions of a pattern are in a program.
use Rattle.std.proofs.Common.{◌≡◌, ◌+◌, ℕ, suc, List, [], ◌∷◌, ◌++◌, length, refl, ap, ap₂, sym, subst, ◌∙◌, arith, append_assoc}
use Rattle.std.proofs.Math.Seq.{drop-append_seam}
use Rattle.std.proofs.lemmas.List.{length-append}
use Rattle.std.proofs.lemmas.List.Elements.{Contains-append_right}
use Rattle.std.specs.Prelude.{◌-◌, Contains, drop}
use Rattle.mbe_matcher.specs.Marks.{pass_count, step_count}
use Rattle.mbe_pattern.specs.Patterns.{Pattern, nothing, variable, token, subtree, repetition}
use Rattle.tt.specs.Types.Leaf.{Leaf}
use Rattle.mbe_program.specs.Program.{Instruction, take, pass, enter, leave, begin, close, place_at, separator_before, again_at, instructions_before}

pub separator_length : (separator : List Leaf) (round : List Instruction) → length (separator_before separator round) ≡ pass_count (length separator) + length round
separator_length [] round = omega arith
separator_length (it ∷ others) round = omega arith

-- A pattern has as many instructions as steps.
pub length_is : (pattern : Pattern) (behind : List Instruction) → length (instructions_before pattern behind) ≡ step_count pattern + length behind
length_is nothing behind = omega arith
length_is (variable it others) behind = let rest = length_is others behind in omega (arith, rest)
length_is (token its others) behind = let rest = length_is others behind in omega (arith, rest)
length_is (subtree kind inner others) behind =
    let rest = length_is others behind in
    let inside = length_is inner (leave ∷ instructions_before others behind) in
    omega (arith, rest, inside)
length_is (repetition inner separator op others) behind =
    let after = instructions_before others behind in
    let rest = length_is others behind in
    let ends = close op (again_at separator (step_count inner) (length after)) ∷ after in
    let inside = length_is inner ends in
    let own = separator_length separator (instructions_before inner ends) in
    omega (arith, rest, inside, own)

module _ (program : List Instruction) where
  -- it is a place of the program
  abbrev pub IsPlace : List Instruction → Type 0
  IsPlace place = (before : List Instruction) × (program ≡ before ++ place)

  -- The first instruction at a place is one of the program.
  pub is_within : (it : Instruction) (rest : List Instruction) → IsPlace (it ∷ rest) → Contains program it
  is_within it rest (before, is) = subst (λ its. Contains its it) (sym is) (Contains-append_right before (it ∷ rest) it (0, omega arith, refl))

  -- What follows it is a place too,
  pub behind_first : (it : Instruction) (rest : List Instruction) → IsPlace (it ∷ rest) → IsPlace rest
  behind_first it rest (before, is) = (before ++ it ∷ [], is ∙ sym (append_assoc before (it ∷ []) rest))

  pub behind_separator : (separator : List Leaf) (round : List Instruction) → IsPlace (separator_before separator round) → IsPlace round
  behind_separator [] round is = is
  behind_separator (it ∷ others) round is = behind_first (pass (it ∷ others)) round is

  -- and what follows a pattern.
  pub behind_pattern : (pattern : Pattern) (behind : List Instruction) → IsPlace (instructions_before pattern behind) → IsPlace behind
  behind_pattern nothing behind is = is
  behind_pattern (variable it others) behind is =
      behind_pattern others behind (behind_first (take it) (instructions_before others behind) is)
  behind_pattern (token its others) behind is =
      behind_pattern others behind (behind_first (pass its) (instructions_before others behind) is)
  behind_pattern (subtree kind inner others) behind is =
      let after = instructions_before others behind in
      behind_pattern others behind
      (behind_first leave after (behind_pattern inner (leave ∷ after) (behind_first (enter kind) (instructions_before inner (leave ∷ after)) is)))
  behind_pattern (repetition inner separator op others) behind is =
      let after = instructions_before others behind in
      let ends = close op (again_at separator (step_count inner) (length after)) in
      let round = instructions_before inner (ends ∷ after) in
      let begins = begin op (step_count inner + suc (length after)) (length after) in
      behind_pattern others behind
      (behind_first ends after
      (behind_pattern inner (ends ∷ after)
      (behind_separator separator round (behind_first begins (separator_before separator round) is))))

  -- A jump to where so many instructions are left as the place has leads to the place.
  pub jumps_to : (place : List Instruction) (left : ℕ) → IsPlace place → length place ≡ left → place_at program left ≡ place
  jumps_to place left (before, is) count =
      let all : length program ≡ length before + length place = ap length is ∙ length-append before place in
      let skipped : length program - left ≡ length before = omega (arith, all, count) in
      ap₂ drop skipped is ∙ drop-append_seam before place
