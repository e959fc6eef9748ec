-- What the arms of a macro answer, one after the other.
use Rattle.std.proofs.Common.{◌≡◌, ℕ, zero, suc, true, false, List, [], ◌∷◌, ◌++◌, drop, Some, None, inl, inr, refl, ap, sym, subst, ◌∙◌, append_assoc}
use Rattle.std.specs.Prelude.{max, slice_get, Bool, not, Option}
use Rattle.tt.specs.Forest.{Forest, Root, end, leaf, node}
use Rattle.tt.specs.Siblings.{is_end}
use Rattle.mbe_rules.specs.declared.transcribe_error.TranscribeError.{TranscribeError}
use Rattle.mbe_rules.specs.declared.arm.Answer.TheVariants as answer
use Rattle.mbe_rules.specs.declared.arm.Arm as rust
use Rattle.mbe_rules.specs.declared.rules_error.ArmFault.{ArmFault}
use Rattle.mbe_rules.specs.declared.rules_error.ExpandError.{ExpandError}
use Rattle.mbe_rules.specs.declared.macro_rules.Expansion.{Expansion}
use Rattle.mbe_rules.specs.declared.macro_rules.Expansion.TheVariants as expansion
use Rattle.mbe_rules.specs.Arms.{Arm, IsArm, IsBehind, IsLast, Spell}
use Rattle.mbe_rules.specs.Expansions.{IsMade, AreMade, IsAnswer, IsRefusalWithin, IsExpansion, IsExpandErrorWithin}
use Rattle.mbe_rules.specs.ArmFaults.{IsFaultAt}
use Rattle.mbe_rules.specs.ArmSpelling.{IsReadSoFar}
use Rattle.mbe_rules.proofs.Reading.{arm_sound, left_behind}

-- The arm at an index, and what it is made of.
pub made_at : (arms : List Arm) (its : List rust.Arm) (n : ℕ) (it : rust.Arm) → AreMade arms its → slice_get its n ≡ Some it
    → (arm : Arm) × IsMade arm it × (drop n arms ≡ arm ∷ drop (suc n) arms)
made_at [] [] zero it are is = absurd (cc is)
made_at [] [] (suc n) it are is = absurd (cc is)
made_at [] (other ∷ its) n it are is = absurd are
made_at (arm ∷ arms) [] n it are is = absurd are
made_at (arm ∷ arms) (other ∷ its) zero it are is = (arm, subst (IsMade arm) (cc is) (are.0), refl)
made_at (arm ∷ arms) (other ∷ its) (suc n) it are is = made_at arms its n it (are.1) is

-- No arm is left after the last.
pub none_made : (arms : List Arm) (its : List rust.Arm) (n : ℕ) → AreMade arms its → slice_get its n ≡ None → drop n arms ≡ []
none_made [] [] zero are is = refl
none_made [] [] (suc n) are is = refl
none_made [] (other ∷ its) n are is = absurd are
none_made (arm ∷ arms) [] n are is = absurd are
none_made (arm ∷ arms) (other ∷ its) zero are is = absurd (cc is)
none_made (arm ∷ arms) (other ∷ its) (suc n) are is = none_made arms its n (are.1) is

-- One more arm.
pub made_more : (arms : List Arm) (its : List rust.Arm) (arm : Arm) (it : rust.Arm) → AreMade arms its → IsMade arm it → AreMade (arms ++ arm ∷ []) (its ++ it ∷ [])
made_more [] [] arm it are is = (is, tt)
made_more [] (other ∷ its) arm it are is = absurd are
made_more (first ∷ arms) [] arm it are is = absurd are
made_more (first ∷ arms) (other ∷ its) arm it are is = (are.0, made_more arms its arm it (are.1) is)

end_is : (trees : Forest) → is_end trees ≡ true → trees ≡ end
end_is end is = refl
end_is (leaf it rest) is = absurd (cc is)
end_is (node delimiter children rest) is = absurd (cc is)

module _ (all trees : Forest) (so_far : List Arm) (read : IsReadSoFar true all so_far trees) (arm : Arm) (rest others : Forest) (is : IsArm trees arm rest)
    (behind : IsBehind rest others) where
  last_is : is_end others ≡ true → IsLast rest
  last_is none = by behind
    where
      by : IsBehind rest others → IsLast rest
      by (inl (no_rest, no_others)) = inl no_rest
      by (inr (there, left)) = inr (there, sym left ∙ end_is others none)

  -- The last arm is read.
  read_last : is_end others ≡ true → IsReadSoFar false all (so_far ++ arm ∷ []) others
  read_last none = read (arm ∷ []) (rest, is, last_is none)

  -- Another arm is read.
  read_more : is_end others ≡ false → IsReadSoFar true all (so_far ++ arm ∷ []) others
  read_more some [] spelled = absurd spelled
  read_more some (next ∷ more) spelled = subst (Spell all) (sym (append_assoc so_far (arm ∷ []) (next ∷ more))) (read (arm ∷ next ∷ more) (by behind))
    where
      by : IsBehind rest others → Spell trees (arm ∷ next ∷ more)
      by (inl (no_rest, no_others)) = absurd (none_left (ap is_end no_others))
        where
          none_left : is_end others ≡ true → ⊥
          none_left e = cc
      by (inr (there, left)) = (rest, is, there, subst (λ f. Spell f (next ∷ more)) left spelled)

  pub read_next : (is_more : Bool) → is_end others ≡ not is_more → IsReadSoFar is_more all (so_far ++ arm ∷ []) others
  read_next true some = read_more some
  read_next false none = read_last none

module _ (arms : List Arm) (its : List rust.Arm) (n : ℕ) (it : rust.Arm) (are : AreMade arms its) (there : slice_get its n ≡ Some it) (input : Forest) (far : ℕ) where
  -- The arm at this index answers that there are two readings.
  pub ambiguous_here : ((arm : Arm) → IsMade arm it → IsAnswer arm input answer.Ambiguous) → IsExpansion (drop n arms) n far input (expansion.Ambiguous n)
  ambiguous_here says =
      let (arm, is, split) = made_at arms its n it are there in
      subst (λ l. IsExpansion l n far input (expansion.Ambiguous n)) (sym split) (inr (refl, says arm is))

  -- The arm answers with a tree.
  pub tree_here : (tree : Root) → ((arm : Arm) → IsMade arm it → IsAnswer arm input (answer.Tree tree)) → IsExpansion (drop n arms) n far input (expansion.Tree tree)
  tree_here tree says =
      let (arm, is, split) = made_at arms its n it are there in
      subst (λ l. IsExpansion l n far input (expansion.Tree tree)) (sym split) (inr (says arm is))

  -- The arm gives an error.
  pub refused_here : (most : Option ℕ) (fault : TranscribeError) → ((arm : Arm) → IsMade arm it → IsRefusalWithin most arm input fault)
      → IsExpandErrorWithin most (drop n arms) n input (record { arm = n; fault = fault })
  refused_here most fault says =
      let (arm, is, split) = made_at arms its n it are there in
      subst (λ l. IsExpandErrorWithin most l n input (record { arm = n; fault = fault })) (sym split) (inr (refl, says arm is))

  module _ (next at : ℕ) (more : next ≡ suc n) (says : (arm : Arm) → IsMade arm it → IsAnswer arm input (answer.NoMatch at)) where
    -- The arm does not match; the arms after it answer.
    pub no_match_here : (result : Expansion) → IsExpansion (drop next arms) next (max far at) input result → IsExpansion (drop n arms) n far input result
    no_match_here result behind =
        let (arm, is, split) = made_at arms its n it are there in
        subst (λ l. IsExpansion l n far input result) (sym split) (inl (at, says arm is, subst (λ m. IsExpansion (drop m arms) m (max far at) input result) more behind))

    pub no_refusal_here : (most : Option ℕ) (error : ExpandError) → IsExpandErrorWithin most (drop next arms) next input error
        → IsExpandErrorWithin most (drop n arms) n input error
    no_refusal_here most error behind =
        let (arm, is, split) = made_at arms its n it are there in
        subst (λ l. IsExpandErrorWithin most l n input error) (sym split) (inl ((says arm is).0, subst (λ m. IsExpandErrorWithin most (drop m arms) m input error) more behind))

-- A fault of an arm that is left is its fault also when counted from the arm before.
pub fault_behind : (until : ℕ) (trees : Forest) (arm : Arm) (rest others : Forest) → IsArm trees arm rest → IsBehind rest others → is_end others ≡ false
    → (n : ℕ) (fault : ArmFault) → IsFaultAt until others n fault → IsFaultAt until trees (suc n) fault
fault_behind until trees arm rest others is behind more n fault wrong =
    let left = (left_behind until trees arm rest is others behind more).1 in (
      arm_sound until trees arm rest is others behind,
      ap is_end left ∙ more,
      subst (λ f. IsFaultAt until f n fault) (sym left) wrong,
    )

-- Not not.
pub twice : (b : Bool) → b ≡ not (not b)
twice true = refl
twice false = refl

pub not_true : (b : Bool) → not b ≡ true → b ≡ false
not_true true is = absurd (cc is)
not_true false is = refl
