use Rattle.std.proofs.Common.{rules}
use Rattle.tt_tables.specs.OneList.{list_is}
use Rattle.tt_tables.proofs.OneNode.{rest_of, all_behind}
use Rattle.tt_tables.proofs.counted.CountedTokens.behind.Goals as goal

pub returns : goal.returns
returns c =
    let are = rest_of c.args.self c.requires.node _ c.args.part_uses.now (all_behind c.args.self.tokens.now) c.requires.counted in
    search (rules, list_is, are)
