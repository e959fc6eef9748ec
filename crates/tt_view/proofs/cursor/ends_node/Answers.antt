use Rattle.std.proofs.Common.{rules, ◌≡◌, ◌-◌, Some, None, length, ap, sym}
use Rattle.std.specs.List.{slice_get}
use Rattle.tt_view.specs.Innermost.{is_end_of}
use Rattle.tt_view.proofs.Places.{last_frame, no_frame}
use Rattle.tt_view.proofs.cursor.ends_node.Goals as goal

pub returns-in-Some : goal.returns-in-Some
returns-in-Some c =
    let there : slice_get c.args.stack.now (length c.args.stack.now - 1) ≡ Some c.in-Some.frame.now = search rules in
    ap (λ v. is_end_of v c.args.ahead) (sym (last_frame c.args.stack.now c.in-Some.frame.now there).1)

pub returns-in-None : goal.returns-in-None
returns-in-None c =
    let there : slice_get c.args.stack.now (length c.args.stack.now - 1) ≡ None = search rules in
    ap (λ v. is_end_of v c.args.ahead) (sym (no_frame c.args.stack.now there))
