use Rattle.std.proofs.Common.{rules}
use Rattle.std.proofs.Output.{has_written_append}
use Rattle.tt_base.proofs.Indents.{indent_more}
use Rattle.tt_base.proofs.debug_line.IndentDisplay.fmt.Goals as goal

pub loop-preserved : goal.loop-preserved
loop-preserved g c = λ plain.
    let before = c.loop.invariant plain in
    let one = c.write_str.ensures.writes before.plain (search rules) in
    rw (indent_more c.loop.counter) at (has_written_append _ _ _ _ _ _ before one)
