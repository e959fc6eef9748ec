use Rattle.std.proofs.Common.{◌≡◌, length, vec_len, rules, ◌∙◌}
use Rattle.tt_tables.proofs.Growing.{seen}
use Rattle.tt_tables.proofs.PlacesKept.{length-named}
use Rattle.tt_tables.proofs.tokens.InternedTokens.len.Goals as goal

pub returns : goal.returns
returns c =
    let is = seen _ _ _ c.self.inside.held _ c.self.view_is in
    let counted : vec_len c.self.inside.tokens ≡ length c.self.inside.tokens.items = search rules in
    c.len.ensures ∙ counted ∙ length-named _ _ _ is.named
