use Rattle.std.proofs.Common.{◌≡◌, length, vec_len, rules, ◌∙◌}
use Rattle.tt_tables.specs.OneSmall.{small_seen}
use Rattle.tt_tables.proofs.SmallClosing.{as_many_small}
use Rattle.tt_tables.proofs.small_tokens.SmallTokens.len.Goals as goal

pub returns : goal.returns
returns c =
    let is = small_seen _ _ _ _ _ c.self.inside.held _ c.self.view_is in
    let counted : vec_len c.self.inside.tokens ≡ length c.self.inside.tokens.items = search rules in
    c.len.ensures ∙ counted ∙ as_many_small _ _ _ _ _ is.means
