use Rattle.std.proofs.Common.{rules, ◌≡◌, ◌∙◌, true, false, ap, sym, arith}
use Rattle.tt.specs.Forest.{size}
use Rattle.tt.specs.Iters.{rest_of}
use Rattle.tt.specs.Moves.{after_tree}
use Rattle.tt.specs.Siblings.{is_end}
use Rattle.expand_items.specs.Expressions.{has_no_block, is_at_block}
use Rattle.expand_items.proofs.Blocks.{block_found, less_behind, no_block_yet, none_found}
use Rattle.expand_items.proofs.expression.has_no_block.Goals as goal

pub returns-then-is_at_block : goal.returns-then-is_at_block
returns-then-is_at_block c =
    let trees = rest_of c.loop-trees.trees in
    let found : is_at_block trees ≡ true = search rules in
    sym (block_found trees found) ∙ c.loop-trees.invariant

pub loop-trees-smaller : goal.loop-trees-smaller
loop-trees-smaller c =
    let trees = rest_of c.loop-trees.trees in
    let some : is_end trees ≡ false = search rules in
    let next : rest_of c.next.new.self ≡ after_tree trees = search rules in
    omega (arith, less_behind trees some, ap size next)

pub loop-trees-preserved : goal.loop-trees-preserved
loop-trees-preserved c =
    let trees = rest_of c.loop-trees.trees in
    let some : is_end trees ≡ false = search rules in
    let none : is_at_block trees ≡ false = search rules in
    let next : rest_of c.next.new.self ≡ after_tree trees = search rules in
    ap has_no_block next ∙ sym (no_block_yet trees none some) ∙ c.loop-trees.invariant

pub returns : goal.returns
returns c =
    let trees = rest_of c.loop-trees.trees in
    let none : is_end trees ≡ true = search rules in
    sym (none_found trees none) ∙ c.loop-trees.invariant
