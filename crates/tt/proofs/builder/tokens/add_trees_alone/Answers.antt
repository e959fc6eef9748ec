use Rattle.std.proofs.Common.{◌≡◌, ◌++◌, map, false, rules}
use Rattle.tt_base.specs.Forest.{flat}
use Rattle.tt_base.specs.Siblings.{is_end}
use Rattle.tt_tables.specs.Held.{whole}
use Rattle.tt_view.specs.Views.{trees_of}
use Rattle.tt.proofs.Alone.{added_alone}
use Rattle.tt.proofs.builder.tokens.add_trees_alone.Goals as goal

pub returns-then-not-is_empty : goal.returns-then-not-is_empty
returns-then-not-is_empty c =
    let trees = trees_of c.args.trees in
    let some : is_end trees ≡ false = search rules in
    let added : c.add_trees.new.held ≡ c.args.held.now ++ map whole (flat trees) = search rules in
    added_alone c.args.held.now c.add_trees.new.held _ trees some added c.set_last_alone.ensures.alone
