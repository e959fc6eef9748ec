use Rattle.std.proofs.Common.{rules, ◌≡◌}
use Rattle.std.specs.Prelude.{Err}
use Rattle.app_c.proofs.Expanded.{is_listed, no_memory, not_read, not_said}
use Rattle.app_c.proofs.Results.{if_err, if_ok}
use Rattle.app_c.proofs.expanding.listed_text.Goals as goal

pub returns-in-Ok-clause-ok : goal.returns-in-Ok-clause-ok
returns-in-Ok-clause-ok c =
    if_ok c.of.result
    (λ it listing.
    is_listed c.args.asked c.options_of.result c.args.text.now c.in_ok-text.text.now it.bytes.items it.words.items c.in-Ok.expanded
    c.in_ok-text.ensures.ok.0 c.in_ok-text.ensures.ok.1 c.in_ok-root.ensures.ok.1 c.in_ok-only.ensures.ok.1 c.in_ok-cfg.ensures.utf8 c.options_of.ensures
    c.in-Ok.ensures.ok listing) c.of.ensures.ok

pub returns-in-Ok-clause-err : goal.returns-in-Ok-clause-err
returns-in-Ok-clause-err c = if_err c.of.result (no_memory c.args.asked c.args.text.now) c.of.ensures.err

pub returns-clause-err : goal.returns-clause-err
returns-clause-err c =
    not_read c.args.asked c.options_of.result c.args.text.now c.in_ok-text.text.now c.in-Err.error c.expand_text_failure.result c.in_ok-text.ensures.ok.0
    c.options_of.ensures c.in-Err.ensures.err c.expand_text_failure.ensures

pub returns-in_err-cfg-clause-err : goal.returns-in_err-cfg-clause-err
returns-in_err-cfg-clause-err c =
    let failed : c.from_residual-in_err-cfg.result ≡ Err c.in_err-cfg.field-0.0 = search rules in
    rw failed
    (not_said c.args.asked c.args.text.now c.in_err-cfg.field-0.0 c.in_ok-text.ensures.ok.1 c.in_ok-root.ensures.ok.1 c.in_ok-only.ensures.ok.1
    c.in_err-cfg.ensures.err)
