use Rattle.std.proofs.Common.{rules, ◌≡◌, ◌++◌, length, None}
use Rattle.std.specs.List.{AllByRecursion}
use Rattle.tt_bytes.specs.Behind.{IsBehind, CountsFit, counts_bytes, front_bytes, StoredFits}
use Rattle.tt_bytes.specs.Format.{mark, parts_bytes, symbols_bytes, PartFits, TextFits}
use Rattle.tt_bytes.proofs.Behind.{Misses, both_behind, three_behind, first_missing, second_missing}
use Rattle.tt_tables.specs.Stored.{Stored, packed}
use Rattle.tt_bytes.proofs.compare.behind_front.Goals as goal

pub returns-in_err-rest-2 : goal.returns-in_err-rest-2
returns-in_err-rest-2 c =
    let it : Stored = packed c.args.tree.now in
    let marked : c.args.from.now ≡ mark ++ c.in_ok-rest.rest.now = search rules in
    let missing : Misses (CountsFit (length it.parts) (length it.symbols) (length it.bytes)) (counts_bytes (length it.parts) (length it.symbols) (length it.bytes)) c.in_ok-rest.rest.now = search rules in
    let none : IsBehind (StoredFits it) (front_bytes it) c.args.from.now None =
    both_behind (StoredFits it) _ mark _ _ _ None (λ fits. fits) (λ fits. fits) marked
    (first_missing _ (StoredFits it) _ (parts_bytes it.parts) (symbols_bytes it.symbols) _ (λ fits. record { part_count = fits.part_count; symbol_count = fits.symbol_count; byte_count = fits.byte_count }) missing) in
    search (rules, none)

pub returns-in_err-rest-3 : goal.returns-in_err-rest-3
returns-in_err-rest-3 c =
    let it : Stored = packed c.args.tree.now in
    let marked : c.args.from.now ≡ mark ++ c.in_ok-rest.rest.now = search rules in
    let counts : c.in_ok-rest.rest.now ≡ counts_bytes (length it.parts) (length it.symbols) (length it.bytes) ++ c.in_ok-rest-2.rest.now = search rules in
    let missing : Misses (AllByRecursion PartFits it.parts) (parts_bytes it.parts) c.in_ok-rest-2.rest.now = search rules in
    let none : IsBehind (StoredFits it) (front_bytes it) c.args.from.now None =
    both_behind (StoredFits it) _ mark _ _ _ None (λ fits. fits) (λ fits. fits) marked
    (second_missing _ (StoredFits it) _ _ (symbols_bytes it.symbols) _ _ (λ fits. fits.each_part) counts missing) in
    search (rules, none)

pub returns : goal.returns
returns c =
    let it : Stored = packed c.args.tree.now in
    let marked : c.args.from.now ≡ mark ++ c.in_ok-rest.rest.now = search rules in
    let counts : CountsFit (length it.parts) (length it.symbols) (length it.bytes) × (c.in_ok-rest.rest.now ≡ counts_bytes (length it.parts) (length it.symbols) (length it.bytes) ++ c.in_ok-rest-2.rest.now) = search rules in
    let parts : AllByRecursion PartFits it.parts × (c.in_ok-rest-2.rest.now ≡ parts_bytes it.parts ++ c.in_ok-rest-3.rest.now) = search rules in
    let symbols : IsBehind (AllByRecursion TextFits it.symbols) (symbols_bytes it.symbols) c.in_ok-rest-3.rest.now c.behind_symbols.result = search rules in
    both_behind (StoredFits it) _ mark _ _ _ _ (λ fits. fits) (λ fits. fits) marked
    (three_behind _ (StoredFits it) _ _ _ _ _ _ _ (λ fits. fits.each_text) (λ each_text. record { part_count = counts.0.part_count; symbol_count = counts.0.symbol_count; byte_count = counts.0.byte_count; each_part = parts.0; each_text = each_text }) counts.1 parts.1 symbols)
