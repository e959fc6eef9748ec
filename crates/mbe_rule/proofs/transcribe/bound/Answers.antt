use Rattle.std.proofs.Common.{rules, ◌≡◌, None, Some, map, slice_get, option_map, ap, sym, ◌∙◌}
use Rattle.std.specs.Prelude.{position}
use Rattle.tt.specs.Forest.{end}
use Rattle.tt.specs.Views.{trees_of}
use Rattle.mbe_rule.specs.contracts.variable.NamePartialEq.TheImpl as name_impl
use Rattle.mbe_rule.proofs.SameNames.{not_bound, bound_at, bound_past, slice_get-map}
use Rattle.mbe_rule.proofs.transcribe.bound.Goals as goal

pub returns-in_default : goal.returns-in_default
returns-in_default c =
    let none : position ((name_impl.ghosts).eq c.args.name.now) c.args.names.now.keys ≡ None = search rules in
    let empty : trees_of c.empty.result ≡ end = search rules in
    empty ∙ sym (not_bound c.args.name.now c.args.names.now.keys (map trees_of c.args.taken.now) none)

pub returns-in_default-tree_at : goal.returns-in_default-tree_at
returns-in_default-tree_at c =
    let at : position ((name_impl.ghosts).eq c.args.name.now) c.args.names.now.keys ≡ Some c.in-Some.index = search rules in
    let past : slice_get c.args.taken.now c.in-Some.index ≡ None = search rules in
    let empty : trees_of c.empty-in_default-tree_at.result ≡ end = search rules in
    empty ∙ sym (bound_past c.args.name.now c.args.names.now.keys (map trees_of c.args.taken.now) c.in-Some.index at (slice_get-map trees_of c.args.taken.now c.in-Some.index ∙ ap (option_map trees_of) past))

pub returns : goal.returns
returns c =
    let at : position ((name_impl.ghosts).eq c.args.name.now) c.args.names.now.keys ≡ Some c.in-Some.index = search rules in
    let there : slice_get c.args.taken.now c.in-Some.index ≡ Some c.in-Some-tree_at.tree = search rules in
    sym (bound_at c.args.name.now c.args.names.now.keys (map trees_of c.args.taken.now) c.in-Some.index at (trees_of c.in-Some-tree_at.tree) (slice_get-map trees_of c.args.taken.now c.in-Some.index ∙ ap (option_map trees_of) there))
