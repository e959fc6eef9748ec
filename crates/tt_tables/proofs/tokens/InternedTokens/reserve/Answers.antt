use Rattle.std.proofs.Common.{refl, rules}
use Rattle.tt_tables.specs.OneList.{held_is}
use Rattle.tt_tables.proofs.Growing.{seen, same_held}
use Rattle.tt_tables.proofs.tokens.InternedTokens.reserve.Goals as goal

pub returns : goal.returns
returns c =
    let is = seen _ _ _ c.self.inside.held _ c.self.view_is in
    let next = same_held _ _ _ _ _ _ _ is c.reserve.ensures.items refl refl in
    search (rules, held_is, next)
