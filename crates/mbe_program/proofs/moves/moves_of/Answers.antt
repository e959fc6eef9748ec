use Rattle.std.proofs.Common.{◌∷◌, sym, subst}
use Rattle.mbe_program.specs.Moving.{AreMovesAt, instruction_of}
use Rattle.mbe_program.specs.Positions.{table_of}
use Rattle.mbe_program.specs.Program.{pass}
use Rattle.mbe_program.specs.declared.instruction.Instruction.{Instruction}
use Rattle.mbe_program.proofs.Results.{if_ok}
use Rattle.mbe_program.proofs.moves.moves_of.Goals as goal

pub returns-in-Take : goal.returns-in-Take
returns-in-Take c =
    if_ok c.take_from.result
    (λ moves h program rest whole count.
    subst (λ (it : Instruction). AreMovesAt program (table_of c.args.positions.now) (instruction_of it ∷ rest) c.args.number moves) (sym c.in-Take.is) (h program rest count))
    c.take_from.ensures

pub returns-in-Pass : goal.returns-in-Pass
returns-in-Pass c = λ program rest whole count.
    subst (λ (it : Instruction). AreMovesAt program (table_of c.args.positions.now) (instruction_of it ∷ rest) c.args.number c.pass_from.result) (sym c.in-Pass.is)
    (subst (λ leaves. AreMovesAt program (table_of c.args.positions.now) (pass leaves ∷ rest) c.args.number c.pass_from.result) c.deref.ensures.value (c.pass_from.ensures program rest count))

pub returns-in-Enter : goal.returns-in-Enter
returns-in-Enter c = λ program rest whole count.
    subst (λ (it : Instruction). AreMovesAt program (table_of c.args.positions.now) (instruction_of it ∷ rest) c.args.number c.enter_from.result) (sym c.in-Enter.is)
    (c.enter_from.ensures program rest count)

pub returns-in-Leave : goal.returns-in-Leave
returns-in-Leave c = λ program rest whole count.
    subst (λ (it : Instruction). AreMovesAt program (table_of c.args.positions.now) (instruction_of it ∷ rest) c.args.number c.leave_from.result) (sym c.in-Leave.is)
    (c.leave_from.ensures program rest count)

pub returns-in-Begin : goal.returns-in-Begin
returns-in-Begin c = λ program rest whole count.
    subst (λ (it : Instruction). AreMovesAt program (table_of c.args.positions.now) (instruction_of it ∷ rest) c.args.number c.begin_from.result) (sym c.in-Begin.is)
    (c.begin_from.ensures program rest (table_of c.args.positions.now) whole)

pub returns-in-Close : goal.returns-in-Close
returns-in-Close c = λ program rest whole count.
    subst (λ (it : Instruction). AreMovesAt program (table_of c.args.positions.now) (instruction_of it ∷ rest) c.args.number c.close_from.result) (sym c.in-Close.is)
    (c.close_from.ensures program rest (table_of c.args.positions.now) whole count)
