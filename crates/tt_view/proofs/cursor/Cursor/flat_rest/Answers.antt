use Rattle.std.proofs.Common.{◌≡◌, ap, sym, ◌∙◌}
use Rattle.tt_base.specs.Forest.{flat}
use Rattle.tt_base.specs.Walk.{events_ahead, tokens_of}
use Rattle.tt_view.specs.Frames.{events_left}
use Rattle.tt_base.proofs.Walks.{flat_left_is}
use Rattle.tt_view.proofs.Places.{ahead_is, tokens_left}
use Rattle.tt_view.proofs.cursor.Cursor.flat_rest.Goals as goal

pub returns-clause-tokens : goal.returns-clause-tokens
returns-clause-tokens c =
    let a = c.self.inside in
    let whole : events_ahead c.args.self.now ≡ events_left a = ahead_is a _ c.self.invariant c.self.view_is in
    ap flat c.trees.ensures ∙ sym (ap tokens_of whole ∙ tokens_left _ _ _ c.self.invariant)

pub returns-clause-left : goal.returns-clause-left
returns-clause-left c =
    let a = c.self.inside in
    let whole : events_ahead c.args.self.now ≡ events_left a = ahead_is a _ c.self.invariant c.self.view_is in
    ap flat c.trees.ensures ∙ sym (ap tokens_of whole ∙ tokens_left _ _ _ c.self.invariant) ∙ flat_left_is c.args.self.now
