use Rattle.std.proofs.Common.{rules, ◌≡◌, false, ap, sym, ◌∙◌}
use Rattle.tt_base.specs.Moves.{first_token}
use Rattle.tt_base.specs.Walk.{events_ahead, is_at_close, token_at}
use Rattle.tt_view.specs.Frames.{events_left}
use Rattle.tt_view.proofs.Places.{ahead_is, token_ahead}
use Rattle.tt_view.proofs.cursor.Cursor.token_tree.Goals as goal

pub returns : goal.returns
returns c =
    let a = c.self.inside in
    let whole : events_ahead c.args.self.now ≡ events_left a = ahead_is a _ c.self.invariant c.self.view_is in
    let no : is_at_close (events_left a) ≡ false = sym (ap is_at_close whole) ∙ sym c.is_at_close.ensures ∙ c.if-is_at_close.false in
    let first : c.token.result ≡ first_token a.ahead = search rules in
    first ∙ token_ahead _ _ _ c.self.invariant no ∙ sym (ap token_at whole)
