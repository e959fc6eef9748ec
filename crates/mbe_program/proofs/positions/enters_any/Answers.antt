use Rattle.std.proofs.Common.{rules, ◌≡◌, inl, inr, ◌≤◌, length, sym, subst, ◌∙◌, arith}
use Rattle.std.proofs.lemmas.List.{length-map}
use Rattle.std.specs.Prelude.{slice_index_or}
use Rattle.tt.specs.Types.DelimiterKind.{DelimiterKind}
use Rattle.mbe_program.specs.Moving.{instruction_of, instructions_of}
use Rattle.mbe_program.specs.Program.{enter}
use Rattle.mbe_program.proofs.Entering.{instruction_at}
use Rattle.mbe_program.proofs.Results.{less_or_not}
use Rattle.mbe_program.proofs.positions.enters_any.Goals as goal

pub loop-instruction-preserved : goal.loop-instruction-preserved
loop-instruction-preserved c =
    let its = c.args.program.now in
    let number = c.loop-instruction.instruction-index in
    let none : (kind : DelimiterKind) → instruction_of c.instruction-item.result ≡ enter kind → ⊥ = search rules in
    λ k within kind is.
    elim (less_or_not k number) [
      | inl before ↦ c.loop-instruction.invariant k before kind is
      | inr behind ↦
          let same : k ≡ number = omega (arith, within, behind) in
          let here = instruction_at its number c.instruction-item.result (enter kind) c.loop-instruction-test.true c.instruction-item.is in
          none kind (sym here ∙ subst (λ k. slice_index_or (instructions_of its) k (enter kind) ≡ enter kind) same is)
    ]

pub returns : goal.returns
returns c =
    let its = c.args.program.now in
    let over : length its ≤ c.loop-instruction.instruction-index = c.loop-instruction-test.false in
    λ no kind found. c.loop-instruction.invariant found.0 (omega (arith, found.1, over, length-map its instruction_of)) kind found.2
