use Rattle.std.proofs.Common.{rules}
use Rattle.tt.proofs.FlatGrowing.{new_fields}
use Rattle.tt.proofs.flat_builder.FlatBuilder.with_capacity.Goals as goal
use Rattle.tt.specs.FlatHeld.{none_held}
use Rattle.tt.specs.OneFlatHeld.{held_is}

pub invariant_of-result : goal.invariant_of-result
invariant_of-result c = ((none_held c.args.top, new_fields c.args.top _ _ c.in_ok-with_capacity.ensures (search rules)), tt)

pub returns-clause-ok : goal.returns-clause-ok
returns-clause-ok c =
    let next = new_fields c.args.top _ _ c.in_ok-with_capacity.ensures c.new.ensures.items in search (rules, held_is, next)
