use Rattle.std.proofs.Common.{rules, ◌≡◌, reverse, ap, ◌∙◌}
use Rattle.tt.specs.Iters.{rest_of}
use Rattle.mbe_pattern.specs.Placed.{pattern_of}
use Rattle.mbe_follow.specs.Judging.{judged_of}
use Rattle.mbe_follow.proofs.Judged.{judged_whole}
use Rattle.mbe_follow.proofs.judge.follow_faults.Goals as goal

pub returns : goal.returns
returns c =
    let pattern = pattern_of (rest_of c.args.pattern) in
    let turned : c.reverse.new.self.items ≡ reverse c.in_ok-faults.faults.items = search rules in
    let here : c.deref.result.now ≡ c.in_ok-layout.layout.pieces.items = search rules in
    turned ∙ c.in_ok-faults.ensures ∙ ap (λ pieces. (judged_of pieces).faults) here ∙ ap (λ pieces. (judged_of pieces).faults) c.in_ok-layout.ensures.pieces
    ∙ judged_whole pattern
