use Rattle.std.proofs.Common.{◌≡◌, ◌-◌, length, take, arith, ap, subst, length-append}
use Rattle.std.proofs.lemmas.Str.{IsCharBoundary-at_seam}
use Rattle.std.specs.Str.{IsCharBoundary}
use Rattle.syntax_layout.proofs.documenting.push_comment.Goals as goal

pub split_at-requires : goal.split_at-requires
split_at-requires c =
    let t = c.args.text.now in
    let rest = c.args.rest.now in
    let front = take (length t - length rest) t in
    let long : length front ≡ length t - length rest = omega (arith, ap length c.requires.seam, length-append front rest) in
    subst (IsCharBoundary t) long (IsCharBoundary-at_seam t front rest c.requires.seam c.utf8.rest)
