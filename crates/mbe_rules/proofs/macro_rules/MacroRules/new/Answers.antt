use Rattle.std.proofs.Common.{rules, ◌≡◌, ◌+◌, ◌++◌, ◌∷◌, [], ℕ, suc, true, length, ap, sym, subst, ◌∙◌, arith, length-append}
use Rattle.std.specs.Prelude.{not}
use Rattle.tt.specs.Iters.{rest_of}
use Rattle.tt.specs.Siblings.{is_end}
use Rattle.mbe_rules.specs.declared.rules_error.ArmFault.TheVariants.{Memory}
use Rattle.mbe_rules.specs.Expansions.{AreMade}
use Rattle.mbe_rules.specs.ArmFaults.{IsArmFault, arm_fault, IsFaultAt}
use Rattle.mbe_rules.specs.ArmSpelling.{IsReadSoFar}
use Rattle.mbe_rules.proofs.Expanding.{made_more, read_next, fault_behind, twice, not_true}
use Rattle.mbe_rules.proofs.macro_rules.MacroRules.new.Goals as goal

pub returns-then-is_err-clause-err : goal.returns-then-is_err-clause-err
returns-then-is_err-clause-err c =
    let all = rest_of c.args.arms in
    let inv = c.loop-is_more.invariant in
    let number : length c.loop-is_more.made.items + 0 ≡ c.len-arm.result = omega (arith, c.len-arm.ensures) in
    subst (λ u. IsFaultAt u all c.len-arm.result Memory) inv.until
    (subst (λ n. IsFaultAt c.len-until.result all n Memory) number (inv.faults c.loop-is_more-test.true 0 Memory tt))

pub returns-in-Err-clause-err : goal.returns-in-Err-clause-err
returns-in-Err-clause-err c =
    let all = rest_of c.args.arms in
    let inv = c.loop-is_more.invariant in
    let fault = c.in-Err.fault in
    let number : length c.loop-is_more.made.items + 0 ≡ c.len-arm.result = omega (arith, c.len-arm.ensures) in
    let wrong : IsArmFault (arm_fault c.len-until.result (rest_of c.loop-is_more.arms)) fault = search rules in
    subst (λ u. IsFaultAt u all c.len-arm.result fault) inv.until
    (subst (λ n. IsFaultAt c.len-until.result all n fault) number (inv.faults c.loop-is_more-test.true 0 fault wrong))

pub loop-is_more-preserved : goal.loop-is_more-preserved
loop-is_more-preserved c =
    let all = rest_of c.args.arms in
    let trees = rest_of c.loop-is_more.arms in
    let others = rest_of c.next_in.new.trees in
    let inv = c.loop-is_more.invariant in
    let until = c.len-until.result in
    let (arm, rest, is, behind, made) = c.in-Ok.ensures.ok in
    let read : IsReadSoFar true all inv.so_far trees = subst (λ b. IsReadSoFar b all inv.so_far trees) c.loop-is_more-test.true inv.spelled in
    let ended : c.is_empty-is_more.result ≡ is_end others = search rules in
    let pushed : c.push.new.self.items ≡ c.loop-is_more.made.items ++ c.in-Ok.next ∷ [] = search rules in
    let number : (n : ℕ) → length c.loop-is_more.made.items + suc n ≡ length c.push.new.self.items + n =
    λ n. omega (arith, ap length pushed, length-append c.loop-is_more.made.items (c.in-Ok.next ∷ [])) in
    record {
      until = inv.until;
      so_far = inv.so_far ++ arm ∷ [];
      made = subst (AreMade (inv.so_far ++ arm ∷ [])) (sym pushed) (made_more inv.so_far c.loop-is_more.made.items arm c.in-Ok.next inv.made made);
      spelled = read_next all trees inv.so_far read arm rest others is behind (not c.is_empty-is_more.result) (sym ended ∙ twice c.is_empty-is_more.result);
      faults =
          λ more n fault wrong.
          subst (λ m. IsFaultAt until all m fault) (number n)
          (inv.faults c.loop-is_more-test.true (suc n) fault (fault_behind until trees arm rest others is behind (sym ended ∙ not_true c.is_empty-is_more.result more) n fault wrong));
    }
