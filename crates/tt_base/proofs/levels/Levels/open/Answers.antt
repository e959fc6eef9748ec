use Rattle.std.proofs.Common.{reverse, refl}
use Rattle.tt_base.proofs.CutLists.{opened_last, opened}
use Rattle.tt_base.proofs.levels.Levels.open.Goals as goal

pub returns-then-after-eq0-clause-ok : goal.returns-then-after-eq0-clause-ok
returns-then-after-eq0-clause-ok c = opened_last c.args.self.now.left c.args.below (reverse c.args.self.now.outer.items) c.if-after-eq0.true

pub returns-clause-ok : goal.returns-clause-ok
returns-clause-ok c = opened c.args.self.now.left c.args.below _ c.args.self.now.outer.items c.push.new.self.items refl c.in_ok-push.ensures.items
