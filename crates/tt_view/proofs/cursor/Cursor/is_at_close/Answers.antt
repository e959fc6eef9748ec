use Rattle.std.proofs.Common.{rules, ◌≡◌, ap, sym, ◌∙◌}
use Rattle.tt_base.specs.Forest.{size}
use Rattle.tt_view.specs.Innermost.{is_end_of}
use Rattle.tt_base.specs.Walk.{events_ahead, is_at_close}
use Rattle.tt_view.specs.Frames.{events_left, frames_of}
use Rattle.tt_view.proofs.Places.{ahead_is, close_is}
use Rattle.tt_view.proofs.cursor.Cursor.is_at_close.Goals as goal

pub returns : goal.returns
returns c =
    let a = c.self.inside in
    let whole : events_ahead c.args.self.now ≡ events_left a = ahead_is a _ c.self.invariant c.self.view_is in
    let same : c.ends_node.result ≡ is_end_of (frames_of a) (size a.ahead) = search rules in
    same ∙ close_is _ _ _ c.self.invariant ∙ sym (ap is_at_close whole)
