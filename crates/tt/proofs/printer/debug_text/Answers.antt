use Rattle.std.proofs.Common.{rules}
use Rattle.tt_base.specs.DebugText.{debug}
use Rattle.tt.proofs.printer.debug_text.Goals as goal

pub returns-clause-ok : goal.returns-clause-ok
unfolding debug
returns-clause-ok c = search rules
