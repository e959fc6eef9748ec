use Rattle.std.proofs.Common.{rules, ◌≡◌, ◌++◌, ◌<◌, ◌^◌, length, subst}
use Rattle.std.proofs.lemmas.Bool.Decides.{Decides-eqb}
use Rattle.std.proofs.lemmas.Slice.Eq.{strip_prefix_is}
use Rattle.std.specs.Prelude.{IsUtf8}
use Rattle.tt_bytes.specs.Behind.{IsBehind}
use Rattle.tt_bytes.specs.Format.{number_bytes}
use Rattle.tt_bytes.proofs.Behind.{fits_behind, both_behind}
use Rattle.tt_bytes.proofs.compare.behind_symbol.Goals as goal

pub returns : goal.returns
returns c =
    let text : c.as_bytes-text.result.now ≡ c.args.symbol.now = search rules in
    let utf8 : IsUtf8 c.args.symbol.now = search rules in
    let count : (length c.args.symbol.now < 2 ^ 32) × (c.args.from.now ≡ number_bytes (length c.args.symbol.now) ++ c.in_ok-rest.rest.now) = search rules in
    let behind : IsBehind (IsUtf8 c.args.symbol.now) c.args.symbol.now c.in_ok-rest.rest.now c.strip_prefix.result =
    subst (λ value. IsBehind (IsUtf8 c.args.symbol.now) value c.in_ok-rest.rest.now c.strip_prefix.result) text
    (fits_behind _ c.as_bytes-text.result.now _ _ utf8 (strip_prefix_is Decides-eqb _ _ _ c.strip_prefix.ensures.cases)) in
    both_behind _ _ _ _ _ _ _ (λ fits. fits.utf8) (λ utf8. record { utf8 = utf8; short = count.0 }) count.1 behind
