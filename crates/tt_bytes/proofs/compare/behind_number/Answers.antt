use Rattle.std.proofs.Common.{rules, ◌≡◌, ◌<◌, ◌^◌, subst}
use Rattle.std.proofs.lemmas.Bool.Decides.{Decides-eqb}
use Rattle.std.proofs.lemmas.Slice.Eq.{strip_prefix_is}
use Rattle.tt_bytes.specs.Behind.{IsBehind}
use Rattle.tt_bytes.specs.Format.{number_bytes}
use Rattle.tt_bytes.proofs.Behind.{fits_behind}
use Rattle.tt_bytes.proofs.compare.behind_number.Goals as goal

pub returns : goal.returns
unfolding number_bytes
returns c =
    let fits : c.args.number < 2 ^ 32 = search rules in
    let is : c.to_le_bytes.result ≡ number_bytes c.args.number = search rules in
    subst (λ value. IsBehind (c.args.number < 2 ^ 32) value c.args.from.now c.strip_prefix.result) is
    (fits_behind _ c.to_le_bytes.result _ _ fits (strip_prefix_is Decides-eqb _ _ _ c.strip_prefix.ensures.cases))
