use Rattle.std.proofs.Common.{sym, arith}
use Rattle.std.proofs.lemmas.List.{take_all, length-take-le}
use Rattle.app_cli.proofs.report.first_shown.Goals as goal

pub returns-then-findings-le-MOST_SHOWN : goal.returns-then-findings-le-MOST_SHOWN
returns-then-findings-le-MOST_SHOWN c = sym (take_all 100 c.args.findings.now (omega (arith, c.if-findings-le-MOST_SHOWN.true)))

pub slice_bounds-result-end : goal.slice_bounds-result-end
slice_bounds-result-end c = sym (length-take-le 100 c.args.findings.now (omega (arith, c.if-findings-le-MOST_SHOWN.false)))
