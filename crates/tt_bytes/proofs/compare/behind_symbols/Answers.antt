use Rattle.std.proofs.Common.{rules, None, Some}
use Rattle.std.proofs.lemmas.List.{drop_all}
use Rattle.std.specs.List.{AllByRecursion}
use Rattle.tt_bytes.specs.Behind.{IsBehind}
use Rattle.tt_bytes.specs.Format.{symbol_bytes, symbols_bytes, TextFits}
use Rattle.tt_bytes.proofs.Behind.{Misses, symbol_missing, symbols_step, symbols_end}
use Rattle.tt_bytes.proofs.compare.behind_symbols.Goals as goal

pub returns-in_err-rest : goal.returns-in_err-rest
returns-in_err-rest c =
    let missing : Misses (TextFits c.symbol-item.result) (symbol_bytes c.symbol-item.result) c.loop-symbol.rest.now = search rules in
    let none : IsBehind (AllByRecursion TextFits c.args.symbols.now) (symbols_bytes c.args.symbols.now) c.args.from.now None =
    c.loop-symbol.invariant None (symbol_missing c.args.symbols.now c.loop-symbol.symbol-index _ _ c.loop-symbol-test.true c.symbol-item.is missing) in
    search (rules, none)

pub loop-symbol-preserved : goal.loop-symbol-preserved
loop-symbol-preserved c result later =
    c.loop-symbol.invariant result (symbols_step c.args.symbols.now c.loop-symbol.symbol-index _ _ _ result c.loop-symbol-test.true c.symbol-item.is c.in_ok-rest.ensures later)

pub returns : goal.returns
returns c =
    c.loop-symbol.invariant (Some c.loop-symbol.rest) (symbols_end _ c.loop-symbol.rest (drop_all c.loop-symbol.symbol-index c.args.symbols.now c.loop-symbol-test.false))
