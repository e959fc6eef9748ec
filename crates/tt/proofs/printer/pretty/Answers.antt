use Rattle.std.proofs.Common.{rules}
use Rattle.tt_base.specs.TreeText.{pretty}
use Rattle.tt.proofs.printer.pretty.Goals as goal

pub returns-clause-ok : goal.returns-clause-ok
unfolding pretty
returns-clause-ok c = search rules
