use Rattle.std.proofs.Common.{None, rules}
use Rattle.tt_base.specs.Building.{empty_builder}
use Rattle.tt.specs.BuilderFields.{IsStateOf}
use Rattle.tt.specs.HeldList.{all_tokens}
use Rattle.tt.specs.OneState.{state_is}
use Rattle.tt.proofs.Steps.{new_keeps}
use Rattle.tt.proofs.builder.TopSubtreeBuilder.new.Goals as goal

pub invariant_of-result : goal.invariant_of-result
invariant_of-result c =
    let next = new_keeps c.args.top c.in_ok-with_capacity.field-0 c.new.result.items c.new-2.result.items (search rules) (search rules) (search rules) in
    ((empty_builder c.args.top, next.state), (next.opens, tt))

pub returns-clause-ok : goal.returns-clause-ok
returns-clause-ok c =
    let next = new_keeps c.args.top c.in_ok-with_capacity.field-0 c.new.result.items c.new-2.result.items (search rules) (search rules) (search rules) in
    let state : IsStateOf (all_tokens c.args.top c.in_ok-with_capacity.field-0) c.new.result.items None c.new-2.result.items 0 (empty_builder c.args.top) = next.state in
    search (rules, state_is, state)
