use Rattle.std.proofs.Common.{[], arith, sym, ◌∙◌}
use Rattle.app_diff.proofs.Kept.{same_more}
use Rattle.app_diff.proofs.hunk.same_len.Goals as goal

pub loop-len-preserved : goal.loop-len-preserved
loop-len-preserved c =
    let (_, _, same) = c.loop-len.invariant in (
      omega (arith, c.loop-len-test.true),
      omega (arith, c.if-len-new.true),
      same_more c.args.old.now c.args.new.now c.loop-len.len (record { ref_ptr = (0, 0); now = [] }) c.loop-len-test.true c.if-len-new.true same
          (sym c.eq.ensures ∙ c.if-eq.true),
    )
