use Rattle.std.proofs.Common.{rules, ◌≡◌, ◌∙◌, Some, ap, sym, arith}
use Rattle.tt.specs.Forest.{node, size}
use Rattle.tt.specs.Iters.{rest_of, IsFirstElement}
use Rattle.tt.specs.Moves.{after_tree}
use Rattle.tt.specs.Types.TtElement.TheVariants as element
use Rattle.expand_items.specs.Expressions.{begins_block}
use Rattle.expand_items.proofs.Blocks.{bracketed_begins, invisible_begins}
use Rattle.expand_items.proofs.Rebuilding.{node_first}
use Rattle.expand_items.proofs.expression.begins_block.Goals as goal

pub returns-then-not-is_invisible : goal.returns-then-not-is_invisible
returns-then-not-is_invisible c =
    let trees = rest_of c.trees.trees in
    let header = c.in-Some-Subtree.header in
    let held = rest_of c.in-Some-Subtree.inside in
    let first : IsFirstElement trees (Some (element.Subtree header c.in-Some-Subtree.inside)) = search rules in
    let begins : trees ≡ node header.delimiter held (after_tree trees) = node_first trees header c.in-Some-Subtree.inside first in
    c.is_brace.ensures ∙ sym (bracketed_begins header.delimiter held (after_tree trees) (sym c.is_invisible.ensures ∙ c.if-not-is_invisible.true))
    ∙ ap begins_block (sym begins) ∙ c.trees.invariant

pub trees-smaller : goal.trees-smaller
trees-smaller c =
    let trees = rest_of c.trees.trees in
    let header = c.in-Some-Subtree.header in
    let first : IsFirstElement trees (Some (element.Subtree header c.in-Some-Subtree.inside)) = search rules in
    let begins : trees ≡ node header.delimiter (rest_of c.in-Some-Subtree.inside) (after_tree trees) = node_first trees header c.in-Some-Subtree.inside first in
    omega (arith, ap size begins)

pub trees-preserved : goal.trees-preserved
trees-preserved c =
    let trees = rest_of c.trees.trees in
    let header = c.in-Some-Subtree.header in
    let held = rest_of c.in-Some-Subtree.inside in
    let first : IsFirstElement trees (Some (element.Subtree header c.in-Some-Subtree.inside)) = search rules in
    let begins : trees ≡ node header.delimiter held (after_tree trees) = node_first trees header c.in-Some-Subtree.inside first in
    sym (invisible_begins header.delimiter held (after_tree trees) (sym c.is_invisible.ensures ∙ c.if-not-is_invisible.false)) ∙ ap begins_block (sym begins) ∙ c.trees.invariant
