use Rattle.std.proofs.Common.{rules, ◌≡◌, Some, ◌∙◌}
use Rattle.tt_base.specs.OneRoot.{one_root}
use Rattle.tt_base.proofs.Joins.{stripped_of_one}
use Rattle.tt_view.specs.SubtreeViews.{root_of}
use Rattle.tt_view.specs.Views.{trees_of}
use Rattle.tt_view.proofs.view.TokenTreesView.strip_invisible.Goals as goal

pub returns-in-Some : goal.returns-in-Some
returns-in-Some c =
    let one : one_root (trees_of c.args.self) ≡ Some (root_of c.in-Some.subtree) = search rules in
    c.strip_invisible.ensures ∙ stripped_of_one (trees_of c.args.self) (root_of c.in-Some.subtree) one
