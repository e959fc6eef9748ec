use Rattle.std.proofs.Common.{◌≡◌, rules}
use Rattle.tt_tables.specs.OneList.{held_is}
use Rattle.tt_tables.proofs.Growing.{seen, same_held}
use Rattle.tt_tables.proofs.tokens.InternedTokens.clone.Goals as goal

pub returns : goal.returns
returns c =
    let is = seen _ _ _ c.self.inside.held _ c.self.view_is in
    let copied : c.extend_from_slice.new.self.items ≡ c.self.inside.tokens.items = search rules in
    let next = same_held _ c.extend_from_slice.new.self.items _ _ _ _ _ is copied c.in_ok-clone.ensures c.in_ok-clone-2.ensures in
    search (rules, held_is, next)
