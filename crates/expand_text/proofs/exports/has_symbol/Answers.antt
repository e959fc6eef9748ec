use Rattle.std.proofs.Common.{rules, tests}
use Rattle.std.specs.Prelude.{bytes_eq}
use Rattle.std.proofs.lemmas.Iterator.{YieldsList-from_slice}
use Rattle.std.proofs.lemmas.Iterator.Search.{any_from_yields_List}
use Rattle.expand_text.proofs.exports.has_symbol.Goals as goal

pub returns : goal.returns
returns c =
    any_from_yields_List (λ it. bytes_eq c.args.word.now it) _ _ _ c.any.ensures.ran (YieldsList-from_slice c.args.table.now cc) (λ x b q k. search (rules, tests))
