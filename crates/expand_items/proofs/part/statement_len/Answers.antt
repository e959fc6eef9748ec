use Rattle.std.proofs.Common.{rules, ◌≡◌, ◌<◌, ◌^◌, true, codes, arith}
use Rattle.tt.specs.Forest.{size}
use Rattle.tt.specs.Gluing.{after_trees}
use Rattle.tt.specs.Iters.{rest_of}
use Rattle.expand_items.proofs.PartsSoFar.{semicolon_there}
use Rattle.expand_items.proofs.part.statement_len.Goals as goal
use Rattle.mbe_pattern.specs.Units.{is_at_punct}

pub overflow_add-result : goal.overflow_add-result
overflow_add-result c =
    let trees = rest_of c.args.trees in
    let small : size trees < 2 ^ 64 = search rules in
    let there : is_at_punct (codes ";") (after_trees c.args.taken trees) ≡ true = search rules in
    omega (arith, small, semicolon_there c.args.taken trees there)
