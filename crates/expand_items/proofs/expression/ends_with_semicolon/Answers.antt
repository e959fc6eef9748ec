use Rattle.std.proofs.Common.{rules, ◌≡◌, ◌∙◌, true, false, ap, sym, arith}
use Rattle.tt.specs.Forest.{size}
use Rattle.tt.specs.Iters.{rest_of}
use Rattle.tt.specs.Moves.{after_tree}
use Rattle.tt.specs.Siblings.{is_end}
use Rattle.expand_items.specs.Expressions.{ends_with_semicolon, is_last_semicolon}
use Rattle.expand_items.proofs.Blocks.{last_found, less_behind, none_last, not_last_yet}
use Rattle.expand_items.proofs.expression.ends_with_semicolon.Goals as goal

pub returns-then-is_last_semicolon : goal.returns-then-is_last_semicolon
returns-then-is_last_semicolon c =
    let trees = rest_of c.loop-trees.trees in
    let found : is_last_semicolon trees ≡ true = search rules in
    sym (last_found trees found) ∙ c.loop-trees.invariant

pub loop-trees-smaller : goal.loop-trees-smaller
loop-trees-smaller c =
    let trees = rest_of c.loop-trees.trees in
    let some : is_end trees ≡ false = search rules in
    let next : rest_of c.next.new.self ≡ after_tree trees = search rules in
    omega (arith, less_behind trees some, ap size next)

pub loop-trees-preserved : goal.loop-trees-preserved
loop-trees-preserved c =
    let trees = rest_of c.loop-trees.trees in
    let not_last : is_last_semicolon trees ≡ false = search rules in
    let next : rest_of c.next.new.self ≡ after_tree trees = search rules in
    ap ends_with_semicolon next ∙ sym (not_last_yet trees not_last) ∙ c.loop-trees.invariant

pub returns : goal.returns
returns c =
    let trees = rest_of c.loop-trees.trees in
    let none : is_end trees ≡ true = search rules in
    sym (none_last trees none) ∙ c.loop-trees.invariant
