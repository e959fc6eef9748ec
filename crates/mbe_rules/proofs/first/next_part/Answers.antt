use Rattle.std.proofs.Common.{rules, ◌≡◌, false, Some, ap, map, subst, sym, true, ◌∙◌}
use Rattle.tt.specs.Forest.{leaf}
use Rattle.tt.specs.Iters.{rest_of, IsFirstElement}
use Rattle.tt.specs.Moves.{after_tree}
use Rattle.tt.specs.Types.TtElement.TheVariants as element
use Rattle.mbe_matcher.specs.Binders.{where_of}
use Rattle.mbe_pattern.proofs.FirstTrees.{leaf_before}
use Rattle.mbe_pattern.specs.Spelling.{is_dollar}
use Rattle.mbe_rules.specs.Spelling.{seamed, template_until}
use Rattle.mbe_rules.specs.SpellingFaults.{dollar_fault, fault_until, IsFault}
use Rattle.mbe_rules.specs.Stepping.{IsFirst, fault_from}
use Rattle.mbe_rules.specs.Templates as template
use Rattle.mbe_rules.proofs.FirstParts.{token_first}
use Rattle.mbe_rules.proofs.SpellingFaults.{dollar_wrong, token_sound}
use Rattle.mbe_rules.proofs.first.next_part.Goals as goal

pub returns-in_ok-part-in-Some-Leaf-clause-part : goal.returns-in_ok-part-in-Some-Leaf-clause-part
returns-in_ok-part-in-Some-Leaf-clause-part c =
    let variables = map where_of c.args.binders.now in
    let until = c.args.until in
    let trees = rest_of c.args.trees.now in
    let it = c.in-Some-Leaf.leaf in
    let found = c.in_ok-part-in-Some-Leaf.part in
    let others = template_until variables until (rest_of c.marked_part.new.siblings) in
    let first : IsFirstElement trees (Some (element.Leaf it)) = search rules in
    let begins : trees ≡ leaf it (after_tree trees) = leaf_before trees it first in
    let rest : rest_of c.next.new.self ≡ after_tree trees = search rules in
    let is : IsFirst variables (template_until variables until (leaf it (rest_of c.next.new.self))) found others = search rules in
    subst (λ t. IsFirst variables (template_until variables until t) found others) (ap (leaf it) rest ∙ sym begins) is

pub returns-then-not-is_dollar-clause-part : goal.returns-then-not-is_dollar-clause-part
returns-then-not-is_dollar-clause-part c =
    let variables = map where_of c.args.binders.now in
    let until = c.args.until in
    let trees = rest_of c.args.trees.now in
    let it = c.in-Some-Leaf.leaf in
    let behind = rest_of c.next.new.self in
    let first : IsFirstElement trees (Some (element.Leaf it)) = search rules in
    let begins : trees ≡ leaf it (after_tree trees) = leaf_before trees it first in
    let rest : behind ≡ after_tree trees = search rules in
    let other : is_dollar it ≡ false = search rules in
    let made : c.seamed.result ≡ seamed it behind = search rules in
    ap (template_until variables until) (begins ∙ ap (leaf it) (sym rest))
    ∙ token_first variables until it behind other
    ∙ ap (λ l. template.token l (template_until variables until behind)) (sym made)

pub returns-in_ok-part-in-Some-Leaf-clause-fault : goal.returns-in_ok-part-in-Some-Leaf-clause-fault
returns-in_ok-part-in-Some-Leaf-clause-fault c =
    let until = c.args.until in
    let trees = rest_of c.args.trees.now in
    let it = c.in-Some-Leaf.leaf in
    let behind = rest_of c.next.new.self in
    let first : IsFirstElement trees (Some (element.Leaf it)) = search rules in
    let begins : trees ≡ leaf it (after_tree trees) = leaf_before trees it first in
    let rest : behind ≡ after_tree trees = search rules in
    let is : fault_until until (leaf it behind) ≡ fault_from c.in_ok-part-in-Some-Leaf.part (fault_until until (rest_of c.marked_part.new.siblings)) = search rules in
    ap (fault_until until) (begins ∙ ap (leaf it) (sym rest)) ∙ is

pub returns-then-not-is_dollar-clause-fault : goal.returns-then-not-is_dollar-clause-fault
returns-then-not-is_dollar-clause-fault c =
    let until = c.args.until in
    let trees = rest_of c.args.trees.now in
    let it = c.in-Some-Leaf.leaf in
    let behind = rest_of c.next.new.self in
    let first : IsFirstElement trees (Some (element.Leaf it)) = search rules in
    let begins : trees ≡ leaf it (after_tree trees) = leaf_before trees it first in
    let rest : behind ≡ after_tree trees = search rules in
    let other : is_dollar it ≡ false = search rules in
    ap (fault_until until) (begins ∙ ap (leaf it) (sym rest)) ∙ token_sound until it behind other

pub returns-in-Some-clause-err : goal.returns-in-Some-clause-err
returns-in-Some-clause-err c =
    let until = c.args.until in
    let trees = rest_of c.args.trees.now in
    let it = c.in-Some-Leaf.leaf in
    let behind = rest_of c.next.new.self in
    let first : IsFirstElement trees (Some (element.Leaf it)) = search rules in
    let begins : trees ≡ leaf it (after_tree trees) = leaf_before trees it first in
    let rest : behind ≡ after_tree trees = search rules in
    let dollar : is_dollar it ≡ true = search rules in
    let there : dollar_fault until behind ≡ Some c.in-Some.fault = search rules in
    subst (λ t. IsFault (fault_until until t) c.in-Some.fault) (ap (leaf it) rest ∙ sym begins) (dollar_wrong until it behind dollar c.in-Some.fault there)
