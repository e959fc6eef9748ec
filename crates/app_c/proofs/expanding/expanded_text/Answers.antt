use Rattle.app_c.proofs.Expanded.{is_expanded, not_expanded}
use Rattle.app_c.proofs.expanding.expanded_text.Goals as goal

pub returns-in-Ok-clause-ok : goal.returns-in-Ok-clause-ok
returns-in-Ok-clause-ok c =
    is_expanded c.usual.result c.args.text.now c.in_ok-text.text.now c.in-Ok.expanded c.usual.ensures c.in_ok-text.ensures.ok.0 c.in_ok-text.ensures.ok.1
    c.in-Ok.ensures.ok c.in-Ok.ensures.warnings

pub returns-clause-err : goal.returns-clause-err
returns-clause-err c =
    not_expanded c.usual.result c.args.text.now c.in_ok-text.text.now c.in-Err.error c.expand_text_failure.result c.usual.ensures c.in_ok-text.ensures.ok.0
    c.in-Err.ensures.err c.expand_text_failure.ensures
