use Rattle.std.proofs.Common.{rules, ◌≡◌, ◌∙◌, true, false, codes, ap, sym, arith}
use Rattle.tt.specs.Forest.{size}
use Rattle.tt.specs.Iters.{rest_of}
use Rattle.tt.specs.Moves.{after_tree}
use Rattle.tt.specs.Siblings.{is_end}
use Rattle.mbe_pattern.specs.Units.{is_at_punct}
use Rattle.expand_items.specs.Expressions.{has_semicolon}
use Rattle.expand_items.proofs.Blocks.{less_behind, no_semicolon, no_semicolon_yet, semicolon_found}
use Rattle.expand_items.proofs.expression.has_semicolon.Goals as goal

pub returns-then-is_at_punct : goal.returns-then-is_at_punct
returns-then-is_at_punct c =
    let trees = rest_of c.loop-trees.trees in
    let found : is_at_punct (codes ";") trees ≡ true = search rules in
    sym (semicolon_found trees found) ∙ c.loop-trees.invariant

pub loop-trees-smaller : goal.loop-trees-smaller
loop-trees-smaller c =
    let trees = rest_of c.loop-trees.trees in
    let some : is_end trees ≡ false = search rules in
    let next : rest_of c.next.new.self ≡ after_tree trees = search rules in
    omega (arith, less_behind trees some, ap size next)

pub loop-trees-preserved : goal.loop-trees-preserved
loop-trees-preserved c =
    let trees = rest_of c.loop-trees.trees in
    let none : is_at_punct (codes ";") trees ≡ false = search rules in
    let next : rest_of c.next.new.self ≡ after_tree trees = search rules in
    ap has_semicolon next ∙ sym (no_semicolon_yet trees none) ∙ c.loop-trees.invariant

pub returns : goal.returns
returns c =
    let trees = rest_of c.loop-trees.trees in
    let none : is_end trees ≡ true = search rules in
    sym (no_semicolon trees none) ∙ c.loop-trees.invariant
