use Rattle.std.proofs.Common.{◌≡◌, [], rules}
use Rattle.tt_base.proofs.CutLists.{stuck, went_back}
use Rattle.tt_base.proofs.levels.Levels.go_back.Goals as goal

pub returns-in_default-clause-levels : goal.returns-in_default-clause-levels
returns-in_default-clause-levels c =
    let none : c.args.self.now.outer.items ≡ [] = search rules in
    stuck c.args.self.now.left c.args.self.now.outer.items [] c.if-self-gt0.false none

pub returns-clause-levels : goal.returns-clause-levels
returns-clause-levels c = went_back c.args.self.now.left c.in-Some.after c.args.self.now.outer.items c.pop.new.self.items c.if-self-gt0.false c.in-Some.ensures.items
