-- The faults that the templates of several arms show.
use Rattle.std.proofs.Common.{◌≡◌, ℕ, suc, List, ◌++◌, drop, Some, ap, ap₂, sym, ◌∙◌, append_assoc}
use Rattle.std.specs.Prelude.{slice_get, Option}
use Rattle.mbe_rules.specs.declared.arm.Arm as rust
use Rattle.mbe_rules.specs.declared.rules_error.ExpandError.{ExpandError}
use Rattle.mbe_rules.specs.declared.transcribe_error.TranscribeError.{TranscribeError}
use Rattle.mbe_rules.specs.Arms.{Arm, variables}
use Rattle.mbe_rules.specs.Expansions.{IsMade, AreMade}
use Rattle.mbe_rules.specs.Faults.{template_fault, fault_in_arm, faults_of}
use Rattle.mbe_rules.proofs.Expanding.{made_at}

-- The fault of one more arm.
pub faults_on : (arms : List Arm) (its : List rust.Arm) (n next : ℕ) (it : rust.Arm) → AreMade arms its → slice_get its n ≡ Some it → next ≡ suc n
    → (fault : Option TranscribeError) → ((arm : Arm) → IsMade arm it → fault ≡ template_fault (variables arm.pattern) arm.template)
    → (old : List ExpandError) → old ++ faults_of (drop n arms) n ≡ faults_of arms 0
    → (old ++ fault_in_arm n fault) ++ faults_of (drop next arms) next ≡ faults_of arms 0
faults_on arms its n next it are there is fault says old before =
    let (arm, made, split) = made_at arms its n it are there in
    let first : faults_of (drop n arms) n ≡ fault_in_arm n (template_fault (variables arm.pattern) arm.template) ++ faults_of (drop (suc n) arms) (suc n) =
    ap (λ l. faults_of l n) split in
    let here : faults_of (drop n arms) n ≡ fault_in_arm n fault ++ faults_of (drop next arms) next =
    first ∙ ap₂ (λ f m. fault_in_arm n f ++ faults_of (drop m arms) m) (sym (says arm made)) (sym is) in
    append_assoc old (fault_in_arm n fault) (faults_of (drop next arms) next) ∙ ap (λ faults. old ++ faults) (sym here) ∙ before
