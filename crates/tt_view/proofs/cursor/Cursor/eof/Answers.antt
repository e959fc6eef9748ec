use Rattle.std.proofs.Common.{rules, vec_len, ◌≡◌, ◌==◌, true, false, length, ap, sym, ◌∙◌}
use Rattle.std.proofs.lemmas.List.{length-reverse}
use Rattle.tt_base.specs.Walk.{events_ahead, is_over}
use Rattle.tt_view.specs.Frames.{events_left, frames_of}
use Rattle.tt_view.proofs.Places.{ahead_is, over_none, over_some}
use Rattle.tt_view.proofs.cursor.Cursor.eof.Goals as goal

pub returns-then-is_empty : goal.returns-then-is_empty
returns-then-is_empty c =
    let a = c.self.inside in
    let whole : events_ahead c.args.self.now ≡ events_left a = ahead_is a _ c.self.invariant c.self.view_is in
    let len : vec_len a.stack ≡ length a.stack.items = search rules in
    let empty : (length (frames_of a) == 0) ≡ true = ap (λ n. n == 0) (length-reverse a.stack.items ∙ sym len) ∙ sym c.is_empty.ensures ∙ c.if-is_empty.true in
    c.is_empty-then-is_empty.ensures ∙ over_none (frames_of a) a.ahead empty ∙ sym (ap is_over whole)

pub returns-else-is_empty : goal.returns-else-is_empty
returns-else-is_empty c =
    let a = c.self.inside in
    let whole : events_ahead c.args.self.now ≡ events_left a = ahead_is a _ c.self.invariant c.self.view_is in
    let len : vec_len a.stack ≡ length a.stack.items = search rules in
    let some : (length (frames_of a) == 0) ≡ false = ap (λ n. n == 0) (length-reverse a.stack.items ∙ sym len) ∙ sym c.is_empty.ensures ∙ c.if-is_empty.false in
    c.if-is_empty.false ∙ over_some (frames_of a) a.ahead some ∙ sym (ap is_over whole)
