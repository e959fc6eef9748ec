-- The parts of several arms that wait.
use Rattle.std.proofs.Common.{◌≡◌, ℕ, zero, suc, List, [], ◌∷◌, ◌++◌, map, drop, Some, None, refl, sym, subst, append_assoc}
use Rattle.std.specs.Prelude.{slice_get}
use Rattle.tt.specs.Forest.{Forest}
use Rattle.mbe_matcher.specs.Waiting.{AreWaiting}
use Rattle.mbe_rules.specs.declared.arm.Arm as rust
use Rattle.mbe_rules.specs.declared.macro_rules.ArmPart.{ArmPart}
use Rattle.mbe_rules.specs.Arms.{Arm}
use Rattle.mbe_rules.specs.Expansions.{IsMade, AreMade}
use Rattle.mbe_rules.specs.Waiting.{in_arm, AreWaitingIn, part_in}
use Rattle.mbe_matcher.specs.Parts.{part_of}
use Rattle.mbe_rules.proofs.Expanding.{made_at}

-- The parts of one more arm.
pub waiting_on : (arms : List Arm) (its : List rust.Arm) (n : ℕ) (it : rust.Arm) → AreMade arms its → slice_get its n ≡ Some it → (input : Forest) (at next : ℕ) → next ≡ suc n
    → (own : List ℕ) → ((arm : Arm) → IsMade arm it → AreWaiting arm.pattern input at own) → (old more : List ArmPart)
    → ((more : List ArmPart) → AreWaitingIn (drop n arms) n input at more → AreWaitingIn arms 0 input at (old ++ more))
    → AreWaitingIn (drop next arms) next input at more → AreWaitingIn arms 0 input at ((old ++ map (in_arm n) own) ++ more)
waiting_on arms its n it are there input at next is own waits old more before behind =
    let (arm, made, split) = made_at arms its n it are there in
    subst (AreWaitingIn arms 0 input at) (sym (append_assoc old (map (in_arm n) own) more))
    (before (map (in_arm n) own ++ more)
    (subst (λ l. AreWaitingIn l n input at (map (in_arm n) own ++ more)) (sym split)
    (own, more, refl, waits arm made, subst (λ m. AreWaitingIn (drop m arms) m input at more) is behind)))

-- The part of an arm is one of its pattern.
pub part_at : (arms : List Arm) (its : List rust.Arm) (n part : ℕ) (it : rust.Arm) → AreMade arms its → slice_get its n ≡ Some it
    → (arm : Arm) × IsMade arm it × (part_in arms n part ≡ part_of arm.pattern part)
part_at [] [] zero part it are is = absurd (cc is)
part_at [] [] (suc n) part it are is = absurd (cc is)
part_at [] (other ∷ its) n part it are is = absurd are
part_at (arm ∷ arms) [] n part it are is = absurd are
part_at (arm ∷ arms) (other ∷ its) zero part it are is = (arm, subst (IsMade arm) (cc is) are.0, refl)
part_at (arm ∷ arms) (other ∷ its) (suc n) part it are is = part_at arms its n part it are.1 is

-- There is no part of another arm.
pub part_none : (arms : List Arm) (its : List rust.Arm) (n part : ℕ) → AreMade arms its → slice_get its n ≡ None → part_in arms n part ≡ None
part_none [] [] n part are is = refl
part_none [] (other ∷ its) n part are is = absurd are
part_none (arm ∷ arms) [] n part are is = absurd are
part_none (arm ∷ arms) (other ∷ its) zero part are is = absurd (cc is)
part_none (arm ∷ arms) (other ∷ its) (suc n) part are is = part_none arms its n part are.1 is
