-- The pieces of a pattern make its program.
use Rattle.std.proofs.Common.{◌≡◌, ◌+◌, ◌-◌, ℕ, suc, List, [], ◌∷◌, ◌++◌, reverse, length, refl, ap, ap₂, ◌∙◌, arith}
use Rattle.std.proofs.lemmas.List.{reverse-append}
use Rattle.tt.specs.Types.Leaf.{Leaf}
use Rattle.mbe_matcher.specs.Marks.{pass_count, step_count}
use Rattle.mbe_pattern.specs.Patterns.{Pattern, nothing, variable, token, subtree, repetition}
use Rattle.mbe_program.specs.Assembling.{Made, made_with, made_by, nothing_made}
use Rattle.mbe_program.specs.Moving.{instruction_of, instructions_of}
use Rattle.mbe_program.specs.Pieces.{Bit, plain, begin, close, bits_of, all_bits, separator_bits}
use Rattle.mbe_program.specs.Program.{take, pass, enter, leave, instructions_before, program_of, separator_before}
use Rattle.mbe_program.specs.Program as to
use Rattle.mbe_program.specs.declared.instruction.Instruction.{Instruction as Own}
use Rattle.mbe_program.proofs.Placed.{length_is}

-- The last instruction that was added comes first.
pub added_first : (its new : List Own) (it : Own) → new ≡ its ++ it ∷ [] → instructions_of (reverse new) ≡ instruction_of it ∷ instructions_of (reverse its)
added_first its new it pushed = ap (λ (l : List Own). instructions_of (reverse l)) pushed ∙ ap instructions_of (reverse-append its (it ∷ []))

module _ (total : ℕ) where
  -- The last piece comes first.
  pub made_last : (bits : List Bit) (it : Bit) (made : Made) → made_by total (bits ++ it ∷ []) made ≡ made_by total bits (made_with total it made)
  made_last [] it made = refl
  made_last (own ∷ bits) it made = ap (made_with total own) (made_last bits it made)

  separator_made : (its : List Leaf) (bits : List Bit) (made : Made)
      → made_by total (separator_bits its bits) made ≡ record { program = separator_before its (made_by total bits made).program; ends = (made_by total bits made).ends }
  separator_made [] bits made = refl
  separator_made (it ∷ others) bits made = refl

  -- The pieces of a pattern before others make its instructions before theirs.
  pub made_pattern : (at : ℕ) (pattern : Pattern) (behind : List Bit) (made : Made) → total ≡ at + (step_count pattern + length (made_by total behind made).program)
      → made_by total (bits_of at pattern behind) made ≡ record { program = instructions_before pattern (made_by total behind made).program; ends = (made_by total behind made).ends }
  made_pattern at nothing behind made count = refl
  made_pattern at (variable it others) behind made count = ap (made_with total (plain (take it))) (made_pattern (suc at) others behind made (omega (arith, count)))
  made_pattern at (token its others) behind made count = ap (made_with total (plain (pass its))) (made_pattern (suc at) others behind made (omega (arith, count)))
  made_pattern at (subtree kind inner others) behind made count =
      let after = suc (suc at + step_count inner) in
      let rest = made_pattern after others behind made (omega (arith, count)) in
      let left = ap (made_with total (plain leave)) rest in
      let more = ap (λ (m : Made). length m.program) left in
      let long = length_is others (made_by total behind made).program in
      let inside = made_pattern (suc at) inner (plain leave ∷ bits_of after others behind) made (omega (arith, count, more, long)) in
      ap (made_with total (plain (enter kind))) (inside ∙ ap (λ (m : Made). let it : Made = record { program = instructions_before inner m.program; ends = m.ends } in it) left)
  made_pattern at (repetition inner separator op others) behind made count =
      let passes = pass_count (length separator) in
      let after = suc (suc at + passes + step_count inner) in
      let rest = made_pattern after others behind made (omega (arith, count)) in
      let closed = ap (made_with total (close op (suc at))) rest in
      let more = ap (λ (m : Made). length m.program) closed in
      let ours = instructions_before others (made_by total behind made).program in
      let long = length_is others (made_by total behind made).program in
      let inside = made_pattern (suc at + passes) inner (close op (suc at) ∷ bits_of after others behind) made (omega (arith, count, more, long)) in
      let held = inside ∙ ap (λ (m : Made). let it : Made = record { program = instructions_before inner m.program; ends = m.ends } in it) closed in
      let passed = separator_made separator (bits_of (suc at + passes) inner (close op (suc at) ∷ bits_of after others behind)) made
      ∙ ap (λ (m : Made). let it : Made = record { program = separator_before separator m.program; ends = m.ends } in it) held in
      let first : total - (suc at + passes) ≡ step_count inner + suc (length ours) = omega (arith, count, long) in
      let again : total - suc at ≡ passes + (step_count inner + suc (length ours)) = omega (arith, count, long) in
      ap (made_with total (begin op (suc at + passes))) passed
      ∙ ap₂ (λ (n m : ℕ). let it : Made = record {
        program = to.begin op n (length ours) ∷ separator_before separator (instructions_before inner (to.close op m ∷ ours));
        ends = (made_by total behind made).ends;
      } in it) first again

pub bits_count : (at : ℕ) (pattern : Pattern) (behind : List Bit) → length (bits_of at pattern behind) ≡ step_count pattern + length behind
bits_count at nothing behind = omega arith
bits_count at (variable it others) behind = let rest = bits_count (suc at) others behind in omega (arith, rest)
bits_count at (token its others) behind = let rest = bits_count (suc at) others behind in omega (arith, rest)
bits_count at (subtree kind inner others) behind =
    let after = suc (suc at + step_count inner) in
    let rest = bits_count after others behind in
    let inside = bits_count (suc at) inner (plain leave ∷ bits_of after others behind) in
    omega (arith, rest, inside)
bits_count at (repetition inner separator op others) behind =
    let passes = pass_count (length separator) in
    let after = suc (suc at + passes + step_count inner) in
    let rest = bits_count after others behind in
    let ends = close op (suc at) ∷ bits_of after others behind in
    let inside = bits_count (suc at + passes) inner ends in
    let own = size separator (bits_of (suc at + passes) inner ends) in
    omega (arith, rest, inside, own)
  where
    size : (its : List Leaf) (bits : List Bit) → length (separator_bits its bits) ≡ pass_count (length its) + length bits
    size [] bits = omega arith
    size (it ∷ others) bits = omega arith

-- All pieces make the whole program.
pub made_whole : (total : ℕ) (pattern : Pattern) → total ≡ length (all_bits pattern) → (made_by total (all_bits pattern) nothing_made).program ≡ program_of pattern
made_whole total pattern count =
    let all = bits_count 0 pattern (plain leave ∷ []) in
    ap (λ (m : Made). m.program) (made_pattern total 0 pattern (plain leave ∷ []) nothing_made (omega (arith, count, all)))
