use Rattle.std.proofs.Common.{rules, ◌≡◌, Some, ap, sym, ◌∙◌}
use Rattle.tt_base.specs.Forest.{join}
use Rattle.tt_base.specs.Moves.{first_token, after_tree}
use Rattle.tt_view.specs.Views.{trees_of}
use Rattle.tt_base.specs.Siblings.{first_tree}
use Rattle.tt_base.proofs.Joins.{tree_by_tree}
use Rattle.tt_base.proofs.Joins.{join-cancel}
use Rattle.tt_view.proofs.Parts.{some_left}
use Rattle.tt_view.proofs.iter.TtIter.next_as_view.Goals as goal

pub before-requires : goal.before-requires
before-requires c =
    let f = trees_of c.args.self.now.inner in
    (first_tree f, tree_by_tree f ∙ ap (join (first_tree f)) (sym c.next_tree.ensures.rest))

pub returns-clause-first : goal.returns-clause-first
returns-clause-first c =
    let f = trees_of c.args.self.now.inner in
    let e : trees_of c.next_tree.new.self ≡ after_tree f = c.next_tree.ensures.rest in
    join-cancel _ _ (trees_of c.next_tree.new.self) (c.before-2.ensures ∙ tree_by_tree f ∙ ap (join (first_tree f)) (sym e))

pub returns-clause-some : goal.returns-clause-some
returns-clause-some c =
    let f = trees_of c.args.self.now.inner in
    let first : first_token f ≡ Some c.in_ok-next_tree.field-0.0 = search rules in
    some_left f _ first
