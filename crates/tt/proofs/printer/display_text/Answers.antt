use Rattle.std.proofs.Common.{rules}
use Rattle.tt_base.specs.TreeText.{display}
use Rattle.tt.proofs.printer.display_text.Goals as goal

pub returns-clause-ok : goal.returns-clause-ok
unfolding display
returns-clause-ok c = search rules
