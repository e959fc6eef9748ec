use Rattle.std.proofs.Common.{rules, ◌≡◌, ◌∙◌, ◌+◌, false, subst, sym}
use Rattle.tt.specs.Forest.{end}
use Rattle.tt.specs.Iters.{rest_of}
use Rattle.tt.specs.Moves.{after_tree}
use Rattle.tt.specs.Siblings.{is_end}
use Rattle.expand_items.specs.Expressions.{is_last_semicolon, without_semicolon}
use Rattle.expand_items.proofs.Blocks.{IsPassed, all_passed, end_dropped, more_passed, semicolon_dropped}
use Rattle.expand_items.proofs.expression.without_semicolon.Goals.{then-trees-test+else-not-is_last_semicolon, else-trees-test}
use Rattle.expand_items.proofs.expression.without_semicolon.Goals as goal

pub trees-preserved : goal.trees-preserved
trees-preserved c =
    let whole = rest_of c.args.trees in
    let rest = rest_of c.trees.rest in
    let some : is_end rest ≡ false = search rules in
    let not_last : is_last_semicolon rest ≡ false = search rules in
    let passed : rest_of c.next.new.self ≡ after_tree rest = search rules in
    subst (IsPassed whole (c.trees.len + 1)) (sym passed) (more_passed whole c.trees.len rest c.trees.invariant some not_last)

pub returns : goal.returns
returns c =
    c.take.ensures.taken ∙ all_passed (rest_of c.args.trees) c.trees.len (rest_of c.trees.rest) c.trees.invariant none
  where
    none : without_semicolon (rest_of c.trees.rest) ≡ end
    none =
        elim c.trees-test.branch [
          | then-trees-test+else-not-is_last_semicolon w ↦ semicolon_dropped (rest_of c.trees.rest) (search rules)
          | else-trees-test w ↦ end_dropped (rest_of c.trees.rest) (search rules)
        ]
