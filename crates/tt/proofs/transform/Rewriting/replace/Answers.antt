use Rattle.std.proofs.Common.{◌≡◌, ◌++◌, rules}
use Rattle.tt_base.specs.Forest.{flat}
use Rattle.tt_view.specs.Views.{trees_of}
use Rattle.tt.proofs.WorkStands.{stands_given}
use Rattle.tt.proofs.transform.Rewriting.replace.Goals as goal

pub returns-in_ok-append : goal.returns-in_ok-append
returns-in_ok-append c = λ work one is.
    let adds : c.append.new.list.items ≡ c.args.self.now.list.items ++ flat (trees_of c.args.trees) = search rules in
    stands_given _ _ _ _ _ work (trees_of c.args.trees) one (λ fits. adds) is

pub returns-else-self : goal.returns-else-self
returns-else-self c = λ work one is.
    stands_given _ _ _ _ _ work (trees_of c.args.trees) one (λ fits. cc (fits, c.if-self.false)) is
