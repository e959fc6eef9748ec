use Rattle.std.proofs.Common.{rules, ◌≡◌, true, Some}
use Rattle.tt_base.specs.declared.token_tree.TokenTree.TheVariants as token
use Rattle.tt_base.specs.Moves.{first_token, after_tree}
use Rattle.tt_base.specs.Siblings.{children_of, is_end}
use Rattle.tt_view.specs.Views.{trees_of}
use Rattle.tt_view.proofs.Reading.{one_root_is}
use Rattle.tt_view.proofs.view.TokenTreesView.try_into_subtree.Goals as goal

pub of_one-requires : goal.of_one-requires
of_one-requires c =
    let f = trees_of c.args.self in
    let s = c.in-Subtree.field-0 in
    let first : first_token f ≡ Some (token.Subtree s) = search rules in
    let last : is_end (after_tree f) ≡ true = search rules in
    (record { delimiter = s.delimiter; children = children_of f }, one_root_is f s first last)
