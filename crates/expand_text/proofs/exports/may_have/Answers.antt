use Rattle.std.proofs.Common.{◌∙◌, sym}
use Rattle.expand_text.proofs.Mentioned.{lacks_all}
use Rattle.expand_text.proofs.exports.may_have.Goals as goal

pub returns : goal.returns
returns c = λ none.
    lacks_all c.args.word.now c.symbol_table.result.now (sym c.has_symbol.ensures ∙ none) c.args.tree.now.children c.symbol_table.ensures.table.has_all
