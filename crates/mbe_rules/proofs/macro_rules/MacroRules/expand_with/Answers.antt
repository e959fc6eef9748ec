use Rattle.std.proofs.Common.{rules, ◌≡◌, ◌+◌, ◌<◌, ◌≤◌, max, length, drop, get_or, Some, refl, ap, sym, subst, ◌∙◌, arith}
use Rattle.std.proofs.lemmas.Option.{slice_get-get_or, slice_get_past}
use Rattle.tt.specs.Iters.{rest_of}
use Rattle.mbe_rules.specs.declared.arm.Answer.TheVariants as answer
use Rattle.mbe_rules.specs.declared.macro_rules.Expansion.TheVariants as expansion
use Rattle.mbe_rules.specs.Expansions.{IsAnswer, IsAnswerWithin, IsRefusalWithin, IsExpansion}
use Rattle.mbe_rules.proofs.Expanding.{none_made, ambiguous_here, tree_here, refused_here, no_match_here, no_refusal_here}
use Rattle.mbe_rules.proofs.macro_rules.MacroRules.expand_with.Goals as goal

pub returns-in-Ok-Ambiguous-clause-ok : goal.returns-in-Ok-Ambiguous-clause-ok
returns-in-Ok-Ambiguous-clause-ok c arms are =
    let its = c.args.self.now.arms.items in
    let number = c.loop-arm.number in
    let it = c.in-Some.arm.now in
    let input = rest_of c.args.input in
    let lt : number < length its = search rules in
    let there : it ≡ get_or its number it = search rules in
    let same : rest_of c.iter.result ≡ input = search rules in
    c.loop-arm.invariant.answers arms are (expansion.Ambiguous number)
    (ambiguous_here arms its number it are (slice_get-get_or its number it lt ∙ ap Some (sym there)) input c.loop-arm.farthest
    (λ arm is.
    subst (λ f. IsAnswer arm f answer.Ambiguous) same (subst (IsAnswer arm (rest_of c.iter.result)) c.in-Ok-Ambiguous.field-0-is (c.in-Ok-Ambiguous.ensures.ok arm is))))

pub returns-in-Ok-Tree-clause-ok : goal.returns-in-Ok-Tree-clause-ok
returns-in-Ok-Tree-clause-ok c arms are =
    let its = c.args.self.now.arms.items in
    let number = c.loop-arm.number in
    let it = c.in-Some.arm.now in
    let input = rest_of c.args.input in
    let lt : number < length its = search rules in
    let there : it ≡ get_or its number it = search rules in
    let same : rest_of c.iter.result ≡ input = search rules in
    c.loop-arm.invariant.answers arms are (expansion.Tree c.in-Ok-Tree.tree)
    (tree_here arms its number it are (slice_get-get_or its number it lt ∙ ap Some (sym there)) input c.loop-arm.farthest c.in-Ok-Tree.tree
    (λ arm is.
    subst (λ f. IsAnswer arm f (answer.Tree c.in-Ok-Tree.tree)) same (subst (IsAnswer arm (rest_of c.iter.result)) c.in-Ok-Tree.field-0-is (c.in-Ok-Tree.ensures.ok arm is))))

pub returns-in-Ok-Tree-clause-within : goal.returns-in-Ok-Tree-clause-within
returns-in-Ok-Tree-clause-within c = subst (IsAnswerWithin c.args.limit) c.in-Ok-Tree.field-0-is c.in-Ok-Tree.ensures.within

pub returns-in-Err-clause-err : goal.returns-in-Err-clause-err
returns-in-Err-clause-err c arms are =
    let its = c.args.self.now.arms.items in
    let number = c.loop-arm.number in
    let it = c.in-Some.arm.now in
    let input = rest_of c.args.input in
    let lt : number < length its = search rules in
    let there : it ≡ get_or its number it = search rules in
    let same : rest_of c.iter.result ≡ input = search rules in
    c.loop-arm.invariant.refuses arms are (record { arm = number; fault = c.in-Err.fault })
    (refused_here arms its number it are (slice_get-get_or its number it lt ∙ ap Some (sym there)) input c.loop-arm.farthest c.args.limit c.in-Err.fault
    (λ arm is. subst (λ f. IsRefusalWithin c.args.limit arm f c.in-Err.fault) same (c.in-Err.ensures.err arm is)))

pub loop-arm-preserved : goal.loop-arm-preserved
loop-arm-preserved c =
    let its = c.args.self.now.arms.items in
    let number = c.loop-arm.number in
    let it = c.in-Some.arm.now in
    let input = rest_of c.args.input in
    let lt : number < length its = search rules in
    let there : it ≡ get_or its number it = search rules in
    let same : rest_of c.iter.result ≡ input = search rules in
    let far : c.max-farthest.result ≡ max c.loop-arm.farthest c.in-Ok-NoMatch.at = search rules in
    record {
      few = omega (arith, lt);
      answers =
          λ arms are result behind.
          c.loop-arm.invariant.answers arms are result
          (no_match_here arms its number it are (slice_get-get_or its number it lt ∙ ap Some (sym there)) input c.loop-arm.farthest (number + 1) c.in-Ok-NoMatch.at (omega arith)
          (λ arm is. subst (λ f. IsAnswer arm f (answer.NoMatch c.in-Ok-NoMatch.at)) same (subst (IsAnswer arm (rest_of c.iter.result)) c.in-Ok-NoMatch.field-0-is (c.in-Ok-NoMatch.ensures.ok arm is)))
          result (subst (λ at. IsExpansion (drop (number + 1) arms) (number + 1) at input result) far behind));
      refuses =
          λ arms are error behind.
          c.loop-arm.invariant.refuses arms are error
          (no_refusal_here arms its number it are (slice_get-get_or its number it lt ∙ ap Some (sym there)) input c.loop-arm.farthest (number + 1) c.in-Ok-NoMatch.at (omega arith)
          (λ arm is. subst (λ f. IsAnswer arm f (answer.NoMatch c.in-Ok-NoMatch.at)) same (subst (IsAnswer arm (rest_of c.iter.result)) c.in-Ok-NoMatch.field-0-is (c.in-Ok-NoMatch.ensures.ok arm is)))
          c.args.limit error behind);
    }

pub returns-clause-ok : goal.returns-clause-ok
returns-clause-ok c arms are =
    let its = c.args.self.now.arms.items in
    let number = c.loop-arm.number in
    let input = rest_of c.args.input in
    let beyond : length its ≤ number = search rules in
    c.loop-arm.invariant.answers arms are (expansion.NoMatch c.loop-arm.farthest)
    (subst (λ l. IsExpansion l number c.loop-arm.farthest input (expansion.NoMatch c.loop-arm.farthest)) (sym (none_made arms its number are (slice_get_past its number beyond))) refl)
