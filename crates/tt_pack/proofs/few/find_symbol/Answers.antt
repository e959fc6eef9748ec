use Rattle.std.proofs.Common.{◌≡◌, ◌<◌, true, Some, bytes_eq, length, ap, ◌∙◌, arith, rules}
use Rattle.std.proofs.lemmas.Option.{slice_get_read}
use Rattle.tt_tables.proofs.TokenTables.{text_sound}
use Rattle.tt_pack.proofs.few.find_symbol.Goals as goal

pub returns-then-eq-clause-at : goal.returns-then-eq-clause-at
returns-then-eq-clause-at c =
    let symbols = c.args.symbols.now in
    let equal : bytes_eq c.index-symbols-index.result c.args.symbol.now ≡ true = search rules in
    let value : c.index-symbols-index.result ≡ c.args.symbol.now = text_sound _ _ equal in
    let within : c.loop-index.index < length symbols = omega (arith, c.loop-index-test.true) in
    slice_get_read symbols (length symbols) c.loop-index.index c.index-symbols-index.result (search rules) within c.index-symbols-index.is ∙ ap Some value
