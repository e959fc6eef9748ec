use Rattle.std.proofs.Common.{rules, ◌≡◌, ◌++◌, ◌<◌, ◌^◌, None}
use Rattle.tt_bytes.specs.Behind.{IsBehind, CountsFit, counts_bytes}
use Rattle.tt_bytes.specs.Format.{number_bytes}
use Rattle.tt_bytes.proofs.Behind.{Misses, three_behind, second_missing}
use Rattle.tt_bytes.proofs.compare.behind_counts.Goals as goal

pub returns-in_err-rest-2 : goal.returns-in_err-rest-2
returns-in_err-rest-2 c =
    let parts : c.args.from.now ≡ number_bytes c.args.parts ++ c.in_ok-rest.rest.now = search rules in
    let missing : Misses (c.args.symbols < 2 ^ 32) (number_bytes c.args.symbols) c.in_ok-rest.rest.now = search rules in
    let none : IsBehind (CountsFit c.args.parts c.args.symbols c.args.bytes) (counts_bytes c.args.parts c.args.symbols c.args.bytes) c.args.from.now None =
    second_missing _ _ _ _ _ _ _ (λ fits. fits.symbol_count) parts missing in
    search (rules, none)

pub returns : goal.returns
returns c =
    let parts : (c.args.parts < 2 ^ 32) × (c.args.from.now ≡ number_bytes c.args.parts ++ c.in_ok-rest.rest.now) = search rules in
    let symbols : (c.args.symbols < 2 ^ 32) × (c.in_ok-rest.rest.now ≡ number_bytes c.args.symbols ++ c.in_ok-rest-2.rest.now) = search rules in
    three_behind _ _ _ _ _ _ _ _ _ (λ fits. fits.byte_count) (λ bytes. record { part_count = parts.0; symbol_count = symbols.0; byte_count = bytes }) parts.1 symbols.1 c.behind_count-3.ensures
