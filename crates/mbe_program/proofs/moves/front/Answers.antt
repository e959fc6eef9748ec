-- The trees between the start and what is left are those at the front.
use Rattle.std.proofs.Common.{rules, ◌≡◌, ◌-◌, ◌+◌, ◌<◌, ◌≤◌, ℕ, ap, sym, ◌∙◌, arith}
use Rattle.tt.specs.Forest.{Forest, join}
use Rattle.tt.specs.Gluing.{after_trees}
use Rattle.tt.specs.Iters.{rest_of, saved_of}
use Rattle.tt.specs.Moves.{after_tree}
use Rattle.tt.specs.Views.{trees_of}
use Rattle.mbe_pattern.specs.Units.{front_trees}
use Rattle.mbe_pattern.proofs.Passing.{pass_next, pass_all, front_joined, front_is}
use Rattle.mbe_program.proofs.moves.front.Goals as goal

-- What is left once all are passed.
left_at_end : (count i : ℕ) (trees rest : Forest) → count ≤ i → after_trees (count - i) rest ≡ after_trees count trees → rest ≡ after_trees count trees
left_at_end count i trees rest le is = sym (pass_all count i rest le) ∙ is

pub loop-preserved : goal.loop-preserved
loop-preserved c =
    let count = c.args.count in
    let i = c.loop.counter in
    let lt : i < count = omega arith in
    let rest : rest_of c.next_kind.new.self ≡ after_tree (rest_of c.loop.rest) = search rules in
    ap (after_trees (count - (i + 1))) rest ∙ sym (pass_next count i (rest_of c.loop.rest) lt) ∙ c.loop.invariant

pub from_savepoint-requires : goal.from_savepoint-requires
from_savepoint-requires c =
    let count = c.args.count in
    let trees = trees_of c.args.trees in
    let saved : saved_of c.savepoint-start.result ≡ trees = search rules in
    let rest = left_at_end count c.loop.counter trees (rest_of c.loop.rest) (omega arith) c.loop.invariant in
    (front_trees count trees, saved ∙ front_joined count trees ∙ ap (join (front_trees count trees)) (sym rest))

pub returns : goal.returns
returns c =
    let count = c.args.count in
    let trees = trees_of c.args.trees in
    let found = trees_of c.from_savepoint.result in
    let saved : saved_of c.savepoint-start.result ≡ trees = search rules in
    let rest = left_at_end count c.loop.counter trees (rest_of c.loop.rest) (omega arith) c.loop.invariant in
    let given : join found (rest_of c.loop.rest) ≡ saved_of c.savepoint-start.result = search rules in
    front_is count trees found (ap (join found) (sym rest) ∙ given ∙ saved)
