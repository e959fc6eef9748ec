use Rattle.std.proofs.Common.{rules, ◌≡◌, ◌+◌, ◌<◌, ◌≤◌, ◌++◌, drop, length, get_or, Some, ap, sym, ◌∙◌, arith, append-nil}
use Rattle.std.proofs.lemmas.Option.{slice_get-get_or, slice_get_past}
use Rattle.mbe_rules.specs.Faults.{fault_in_arm, faults_of}
use Rattle.mbe_rules.proofs.Expanding.{none_made}
use Rattle.mbe_rules.proofs.Showing.{faults_on}
use Rattle.mbe_rules.proofs.macro_rules.MacroRules.faults.Goals as goal

pub loop-arm-preserved : goal.loop-arm-preserved
loop-arm-preserved c =
    let its = c.args.self.now.arms.items in
    let number = c.loop-arm.number in
    let it = c.in-Some.arm.now in
    let old = c.loop-arm.faults.items in
    let fault = c.in_ok-fault.fault in
    let lt : number < length its = search rules in
    let there : it ≡ get_or its number it = search rules in
    let added : c.add_fault.new.all.items ≡ old ++ fault_in_arm number fault = search rules in
    record {
      few = omega (arith, lt);
      faults =
          λ arms are. ap (λ its. its ++ faults_of (drop (number + 1) arms) (number + 1)) added
          ∙ faults_on arms its number (number + 1) it are (slice_get-get_or its number it lt ∙ ap Some (sym there)) (omega arith) fault c.in_ok-fault.ensures old (c.loop-arm.invariant.faults arms are);
    }

pub returns : goal.returns
returns c arms are =
    let its = c.args.self.now.arms.items in
    let number = c.loop-arm.number in
    let beyond : length its ≤ number = search rules in
    sym (append-nil c.loop-arm.faults.items)
    ∙ ap (λ l. c.loop-arm.faults.items ++ faults_of l number) (sym (none_made arms its number are (slice_get_past its number beyond)))
    ∙ c.loop-arm.invariant.faults arms are
