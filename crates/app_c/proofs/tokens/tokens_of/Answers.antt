use Rattle.tt_view.specs.Views.{trees_of}
use Rattle.app_c.proofs.Seen.{one_more}
use Rattle.app_c.proofs.tokens.tokens_of.Goals as goal

pub walk-preserved : goal.walk-preserved
walk-preserved c =
    let put = c.in_ok-put_here.ensures.put in
    one_more (trees_of c.args.trees) c.walk.cursor c.put_here.new.cursor c.walk.listing c.put_here.new.self put.0 put.1 put.2 c.in_ok-put_here.ensures.place
    put.3 c.walk.invariant
