use Rattle.std.proofs.Common.{rules, ◌≡◌, false, length, ap, arith}
use Rattle.tt.specs.Walk.{events_ahead, is_over, one_on}
use Rattle.tt_base.proofs.Walks.{one_fewer}
use Rattle.bench_store.proofs.walk.by_cursor.Goals as goal

pub loop-cursor-smaller : goal.loop-cursor-smaller
loop-cursor-smaller c =
    let at = c.loop-cursor.cursor in
    let more : is_over (events_ahead at) ≡ false = search rules in
    let moved : c.bump_or_end.new.self ≡ one_on at = search rules in
    omega (arith, one_fewer at more, ap (λ w. length (events_ahead w)) moved)
