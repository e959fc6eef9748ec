use Rattle.std.proofs.Common.{◌≡◌, true, Err, reverse, arith, rules, sym, subst}
use Rattle.tt_base.specs.Levels.{open_levels, GoesBack, IsSameQuestion, Opens}
use Rattle.tt_base.proofs.CutLists.{takes_leaf, takes_node, takes_no_node}
use Rattle.tt_base.proofs.levels.Levels.take.Goals as goal

pub returns-then-not-go_back-clause-ok : goal.returns-then-not-go_back-clause-ok
returns-then-not-go_back-clause-ok c tokens = c.if-not-go_back.ensures.levels c.args.token.now tokens

pub returns-in_default-clause-ok : goal.returns-in_default-clause-ok
returns-in_default-clause-ok c =
    let back : GoesBack (open_levels c.args.self.now) (open_levels c.go_back.new.self) true = c.if-not-go_back.ensures.levels in
    rw c.in_default.is (takes_leaf (open_levels c.args.self.now) (reverse c.go_back.new.self.outer.items) c.go_back.new.self.left c.in_default.field-0 back c.if-not-go_back.ensures.room)

pub returns-then-self-below-clause-ok : goal.returns-then-self-below-clause-ok
returns-then-self-below-clause-ok c =
    let back : GoesBack (open_levels c.args.self.now) (open_levels c.go_back.new.self) true = c.if-not-go_back.ensures.levels in
    rw c.in-Subtree.is (takes_no_node (open_levels c.args.self.now) (reverse c.go_back.new.self.outer.items) (open_levels c.go_back.new.self) c.go_back.new.self.left c.in-Subtree.subtree back c.if-not-go_back.ensures.room (omega (arith, c.if-self-below.true, c.usize_len-below.ensures.value)))

pub returns-clause-ok : goal.returns-clause-ok
returns-clause-ok c =
    let back : GoesBack (open_levels c.args.self.now) (open_levels c.go_back.new.self) true = c.if-not-go_back.ensures.levels in
    let opens : Opens (open_levels c.go_back.new.self) c.in-Subtree.subtree.len (open_levels c.open.new.self) = rw c.usize_len-below.ensures.value at c.in_ok-open.ensures.ok in
    rw c.in-Subtree.is (takes_node (open_levels c.args.self.now) (reverse c.go_back.new.self.outer.items) (open_levels c.open.new.self) c.go_back.new.self.left c.in-Subtree.subtree back (omega (arith, c.if-self-below.false, c.usize_len-below.ensures.value)) opens)

pub returns-in_err-open-clause-err : goal.returns-in_err-open-clause-err
returns-in_err-open-clause-err c =
    let back : IsSameQuestion (open_levels c.args.self.now) (open_levels c.go_back.new.self) = c.if-not-go_back.ensures.levels in
    let same : open_levels c.open.new.self ≡ open_levels c.go_back.new.self = c.in_err-open.ensures.err in
    let is : c.from_residual.result ≡ Err c.in_err-open.field-0.0 = search rules in
    rw is (subst (IsSameQuestion (open_levels c.args.self.now)) (sym same) back)
