use Rattle.std.proofs.Common.{rules}
use Rattle.app_console.specs.Stage.{stage_of}
use Rattle.app_console.proofs.Reporting.{Finishes-none, Finishes-line, Finishes-bad_line}
use Rattle.app_console.proofs.session.Session.finish.Goals as goal

pub returns-then-is_between_lines : goal.returns-then-is_between_lines
returns-then-is_between_lines g c = Finishes-none (stage_of g.W.Write.contents c.args.self.now c.args.writer.now) (search rules) c.requires.sound

pub returns-in-Some : goal.returns-in-Some
returns-in-Some g c =
    let q = rw c.in-Some.is at c.in_ok-number.ensures.answers in
    Finishes-bad_line (stage_of g.W.Write.contents c.args.self.now c.args.writer.now) (stage_of g.W.Write.contents c.answer_begun.new.self c.answer_begun.new.writer) _ (search rules) c.requires.begun q

pub returns-in-None : goal.returns-in-None
returns-in-None g c =
    let q = rw c.in-None.is at c.in_ok-number.ensures.answers in
    Finishes-line (stage_of g.W.Write.contents c.args.self.now c.args.writer.now) (stage_of g.W.Write.contents c.answer_begun.new.self c.answer_begun.new.writer) (search rules) c.requires.begun q
