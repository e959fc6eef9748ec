use Rattle.std.proofs.Common.{arith, length-take, rules}
use Rattle.std.proofs.lemmas.Result.{err_from_is_err_and}
use Rattle.app_console.specs.Stage.{stage_of}
use Rattle.app_console.proofs.Reporting.{Reads-none, Reads-written, Reads-more, Reports-finish, Reports-bad_line, Reports-fault, Reports-unread}
use Rattle.app_console.proofs.session.Session.answer_all.Goals as goal

pub reading-init : goal.reading-init
reading-init g c = (Reads-none g.W.Write.contents c.args.self.now c.args.writer.now _ c.requires.fresh, c.requires.reader_sound, c.requires.writer_sound)

pub returns-then-n-eq0-clause-reports : goal.returns-then-n-eq0-clause-reports
returns-then-n-eq0-clause-reports g c =
    let reads = Reads-written g.W.Write.contents c.reading.self c.write_out.new.self c.reading.writer c.write_out.new.writer _ _ _ c.reading.invariant.0 c.in_ok-write_out.ensures.written c.in_ok-write_out.ensures.empty in
    let read = c.in-Ok.ensures.bytes in
    Reports-finish _ (stage_of g.W.Write.contents c.finish.new.self c.finish.new.writer) _ _ _ _ _ _ _ reads read.0 c.if-n-eq0.true (read.1 c.if-n-eq0.true (search rules)) c.finish.ensures

pub returns-in_default-clause-reports : goal.returns-in_default-clause-reports
returns-in_default-clause-reports g c =
    let reads = Reads-written g.W.Write.contents c.reading.self c.write_out.new.self c.reading.writer c.write_out.new.writer _ _ _ c.reading.invariant.0 c.in_ok-write_out.ensures.written c.in_ok-write_out.ensures.empty in
    Reports-unread _ _ _ _ _ reads c.in_default.ensures.bytes

pub returns-in_err-number-clause-reports : goal.returns-in_err-number-clause-reports
returns-in_err-number-clause-reports g c =
    let reads = Reads-written g.W.Write.contents c.reading.self c.write_out.new.self c.reading.writer c.write_out.new.writer _ _ _ c.reading.invariant.0 c.in_ok-write_out.ensures.written c.in_ok-write_out.ensures.empty in
    let p = err_from_is_err_and c.from_residual-in_err-number.result c.from_residual-in_err-number.ensures.1 in
    rw (p.1, p.2) (Reports-fault _ (stage_of g.W.Write.contents c.feed.new.self c.feed.new.writer) _ _ _ _ _ _ reads c.in-Ok.ensures.bytes.0 (omega (arith, length-take c.in-Ok.n c.read.new.buf)) c.in_err-number.ensures)

pub returns-in-Some-clause-reports : goal.returns-in-Some-clause-reports
returns-in-Some-clause-reports g c =
    let reads = Reads-written g.W.Write.contents c.reading.self c.write_out.new.self c.reading.writer c.write_out.new.writer _ _ _ c.reading.invariant.0 c.in_ok-write_out.ensures.written c.in_ok-write_out.ensures.empty in
    let q = rw c.in-Some.is at c.in_ok-number.ensures in
    Reports-bad_line _ (stage_of g.W.Write.contents c.feed.new.self c.feed.new.writer) _ _ _ _ _ _ reads c.in-Ok.ensures.bytes.0 q

pub reading-preserved : goal.reading-preserved
reading-preserved g c =
    let reads = Reads-written g.W.Write.contents c.reading.self c.write_out.new.self c.reading.writer c.write_out.new.writer _ _ _ c.reading.invariant.0 c.in_ok-write_out.ensures.written c.in_ok-write_out.ensures.empty in
    let q = rw c.in_default-2.is at c.in_ok-number.ensures in
    (Reads-more _ _ _ _ _ _ _ reads c.in-Ok.ensures.bytes.0 q, search rules, q.1)
