use Rattle.std.proofs.Common.{◌≡◌, ap, rules}
use Rattle.tt_base.specs.Token.{zero_punct, zero_span}
use Rattle.tt_base.specs.Span.{start_of, end_of}
use Rattle.tt_base.proofs.Ranges.{same_range}
use Rattle.tt_base.proofs.punct.PunctDefault.default.Goals as goal

pub returns : goal.returns
returns c =
    let starts : start_of c.empty.result ≡ 0 = search rules in
    let ends : end_of c.empty.result ≡ 0 = search rules in
    ap (λ range. record zero_punct { span = record zero_span { range = range } }) (same_range c.empty.result zero_span.range starts ends)
