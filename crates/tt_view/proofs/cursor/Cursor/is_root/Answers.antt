use Rattle.std.proofs.Common.{rules, vec_len, ◌≡◌, ◌==◌, length, ap, sym, ◌∙◌}
use Rattle.std.proofs.lemmas.List.{length-reverse}
use Rattle.tt_base.specs.Walk.{events_ahead, open_nodes}
use Rattle.tt_view.specs.Frames.{events_left}
use Rattle.tt_view.proofs.Places.{ahead_is, open_count}
use Rattle.tt_view.proofs.cursor.Cursor.is_root.Goals as goal

pub returns : goal.returns
returns c =
    let a = c.self.inside in
    let whole : events_ahead c.args.self.now ≡ events_left a = ahead_is a _ c.self.invariant c.self.view_is in
    let len : vec_len a.stack ≡ length a.stack.items = search rules in
    let count : open_nodes (events_ahead c.args.self.now) ≡ vec_len a.stack =
    ap open_nodes whole ∙ open_count _ _ _ c.self.invariant ∙ length-reverse a.stack.items ∙ sym len in
    c.is_empty.ensures ∙ ap (λ n. n == 0) (sym count)
