use Rattle.std.proofs.Common.{rules, ◌≡◌, inl, inr, ◌≤◌, length, refl, sym, subst, ◌∙◌, arith}
use Rattle.std.proofs.lemmas.List.{length-map}
use Rattle.std.specs.Prelude.{slice_index_or}
use Rattle.mbe_program.specs.Moving.{instruction_of, instructions_of}
use Rattle.mbe_program.specs.Program.{enter}
use Rattle.mbe_program.proofs.Entering.{instruction_at}
use Rattle.mbe_program.proofs.Results.{less_or_not}
use Rattle.mbe_program.proofs.positions.enters.Goals as goal

pub returns-then-is_enter : goal.returns-then-is_enter
returns-then-is_enter c =
    let its = c.args.program.now in
    let number = c.loop-instruction.instruction-index in
    let less = c.loop-instruction-test.true in
    let is : instruction_of c.instruction-item.result ≡ enter c.args.kind = search rules in
    let here = instruction_at its number c.instruction-item.result (enter c.args.kind) less c.instruction-item.is in
    (λ yes. (number, omega (arith, less, length-map its instruction_of), here ∙ is), λ found. refl)

pub loop-instruction-preserved : goal.loop-instruction-preserved
loop-instruction-preserved c =
    let its = c.args.program.now in
    let number = c.loop-instruction.instruction-index in
    let other : instruction_of c.instruction-item.result ≡ enter c.args.kind → ⊥ = search rules in
    let here = instruction_at its number c.instruction-item.result (enter c.args.kind) c.loop-instruction-test.true c.instruction-item.is in
    λ k within is.
    elim (less_or_not k number) [
      | inl before ↦ c.loop-instruction.invariant k before is
      | inr behind ↦
          let same : k ≡ number = omega (arith, within, behind) in
          other (sym here ∙ subst (λ k. slice_index_or (instructions_of its) k (enter c.args.kind) ≡ enter c.args.kind) same is)
    ]

pub returns : goal.returns
returns c =
    let its = c.args.program.now in
    let over : length its ≤ c.loop-instruction.instruction-index = c.loop-instruction-test.false in
    (λ yes. absurd (cc yes), λ found. absurd (c.loop-instruction.invariant found.0 (omega (arith, found.1, over, length-map its instruction_of)) found.2))
