use Rattle.std.proofs.Common.{◌≡◌, ◌+◌, ◌<◌, ℕ, List, None, Some, drop, get_or, length, option_map, ap, ap₂, sym, ◌∙◌, arith}
use Rattle.std.specs.Option.{option_or}
use Rattle.mbe_matcher.specs.Parts.{part_of}
use Rattle.mbe_pattern.specs.Patterns.{Pattern}
use Rattle.mbe_program.specs.Labelling.{label_of, labelled, required_at, required_by}
use Rattle.mbe_program.specs.Moving.{instruction_of, instructions_of}
use Rattle.mbe_program.specs.Numbering.{parts_of}
use Rattle.mbe_program.specs.Program.{Instruction, program_of}
use Rattle.mbe_program.proofs.Labelled.{labelled_next, labelled_part, labelled_past}
use Rattle.mbe_program.proofs.part.part_in.Goals as goal

in_pattern : (program : List Instruction) (numbers : List ℕ) (number : ℕ) (pattern : Pattern) → program ≡ program_of pattern → numbers ≡ parts_of pattern
    → part_of pattern number ≡ labelled program numbers number
in_pattern program numbers number pattern program_is numbers_are =
    sym (ap₂ (λ program numbers. labelled program numbers number) program_is numbers_are ∙ labelled_part pattern number)

pub returns-in-Some : goal.returns-in-Some
returns-in-Some c pattern program_is numbers_are =
    let program = c.args.program.now in
    let numbers = c.args.numbers.now in
    let number = c.args.number in
    let k = c.loop-index.index in
    let it = c.index-program-index.result in
    let less : k < length program = omega (arith, c.loop-index-test.true, c.min-index-end.ensures) in
    let also : k < length numbers = omega (arith, c.loop-index-test.true, c.min-index-end.ensures) in
    let here : required_at (required_by (instruction_of it)) (get_or numbers k 0) number ≡ Some (label_of c.in-Some.part) =
    sym c.numbered_part.ensures ∙ ap (option_map label_of) c.in-Some.is in
    in_pattern (instructions_of program) numbers number pattern program_is numbers_are ∙ sym c.loop-index.invariant
    ∙ labelled_next program numbers number k it less also c.index-program-index.is
    ∙ ap (λ o. option_or o (labelled (drop (k + 1) (instructions_of program)) (drop (k + 1) numbers) number)) here

pub loop-index-preserved : goal.loop-index-preserved
loop-index-preserved c =
    let program = c.args.program.now in
    let numbers = c.args.numbers.now in
    let number = c.args.number in
    let k = c.loop-index.index in
    let it = c.index-program-index.result in
    let less : k < length program = omega (arith, c.loop-index-test.true, c.min-index-end.ensures) in
    let also : k < length numbers = omega (arith, c.loop-index-test.true, c.min-index-end.ensures) in
    let none : required_at (required_by (instruction_of it)) (get_or numbers k 0) number ≡ None =
    sym c.numbered_part.ensures ∙ ap (option_map label_of) c.in_default.is in
    sym (labelled_next program numbers number k it less also c.index-program-index.is
    ∙ ap (λ o. option_or o (labelled (drop (k + 1) (instructions_of program)) (drop (k + 1) numbers) number)) none)
    ∙ c.loop-index.invariant

pub returns : goal.returns
returns c pattern program_is numbers_are =
    let program = c.args.program.now in
    let numbers = c.args.numbers.now in
    let number = c.args.number in
    in_pattern (instructions_of program) numbers number pattern program_is numbers_are ∙ sym c.loop-index.invariant
    ∙ labelled_past program numbers number c.loop-index.index (omega (arith, c.loop-index-test.false, c.min-index-end.ensures))
