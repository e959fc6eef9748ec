use Rattle.std.proofs.Common.{rules, ◌≡◌, ◌+◌, ◌<◌, ◌≤◌, ◌++◌, [], map, length, get_or, Some, refl, ap, sym, subst, ◌∙◌, arith, append-nil}
use Rattle.std.proofs.lemmas.Option.{slice_get-get_or, slice_get_past}
use Rattle.tt.specs.Iters.{rest_of}
use Rattle.mbe_matcher.specs.Waiting.{AreWaiting}
use Rattle.mbe_rules.specs.Waiting.{in_arm, AreWaitingIn}
use Rattle.mbe_rules.proofs.Expanding.{none_made}
use Rattle.mbe_rules.proofs.Waiting.{waiting_on}
use Rattle.mbe_rules.proofs.macro_rules.MacroRules.waiting.Goals as goal

pub loop-arm-preserved : goal.loop-arm-preserved
loop-arm-preserved c =
    let its = c.args.self.now.arms.items in
    let number = c.loop-arm.number in
    let it = c.in-Some.arm.now in
    let input = rest_of c.args.input in
    let own = c.in_ok-parts.parts.items in
    let old = c.loop-arm.all.items in
    let lt : number < length its = search rules in
    let there : it ≡ get_or its number it = search rules in
    let same : rest_of c.iter.result ≡ input = search rules in
    let here : c.deref-in-Some.result.now ≡ own = search rules in
    let added : c.add_parts.new.all.items ≡ old ++ map (in_arm number) c.deref-in-Some.result.now = search rules in
    record {
      few = omega (arith, lt);
      parts =
          λ arms are more behind.
          subst (λ all. AreWaitingIn arms 0 input c.args.at (all ++ more)) (sym (added ∙ ap (λ ps. old ++ map (in_arm number) ps) here))
          (waiting_on arms its number it are (slice_get-get_or its number it lt ∙ ap Some (sym there)) input c.args.at (number + 1) (omega arith) own
          (λ arm is. subst (λ f. AreWaiting arm.pattern f c.args.at own) same (c.in_ok-parts.ensures arm is)) old more (c.loop-arm.invariant.parts arms are) behind);
    }

pub returns : goal.returns
returns c arms are =
    let its = c.args.self.now.arms.items in
    let number = c.loop-arm.number in
    let input = rest_of c.args.input in
    let beyond : length its ≤ number = search rules in
    subst (AreWaitingIn arms 0 input c.args.at) (append-nil c.loop-arm.all.items)
    (c.loop-arm.invariant.parts arms are []
    (subst (λ l. AreWaitingIn l number input c.args.at []) (sym (none_made arms its number are (slice_get_past its number beyond))) refl))
