-- The expansion of an input by a macro, with the arms, the input and the result as trees in bytes.
use Rattle.std.specs.Prelude.{◌≡◌, ◌⊎◌, ℕ, List}
use Rattle.tt_base.specs.Forest.{Root}
use Rattle.tt_bytes.specs.Format.{AreBytesOf}
use Rattle.app_c.specs.Bytes.{AreOfNoTree, IsNoInput}
use Rattle.app_c.specs.Failures.{at_place, expand_failure, rules_failure}
use Rattle.app_c.specs.Texts.{HasNoBytes}
use Rattle.app_c.specs.declared.failure.Failure.{Failure}
use Rattle.app_c.specs.declared.fault.Fault.TheVariants.{NoMatch, Ambiguous}
use Rattle.mbe_rules.specs.Arms.{Arm, Spell}
use Rattle.mbe_rules.specs.Expansions.{IsExpansion, IsExpandError}
use Rattle.mbe_rules.specs.ArmFaults.{IsRulesError}
use Rattle.mbe_rules.specs.declared.rules_error.ExpandError.{ExpandError}
use Rattle.mbe_rules.specs.declared.rules_error.RulesError.{RulesError}
use Rattle.mbe_rules.specs.declared.macro_rules.Expansion.TheVariants as expansion

-- the tree is the expansion of the input by the macro of these arms
abbrev pub IsExpansionOf : (arms input : Root) → Root → Type 0
IsExpansionOf arms input tree = (spelled : List Arm) × Spell arms.children spelled × IsExpansion spelled 0 0 input.children (expansion.Tree tree)

-- the arms expand the input to nothing, with the reason
abbrev pub MakeNothing : List Arm → (input : Root) → Failure → Type 0
MakeNothing spelled input failure =
    ((at : ℕ) × IsExpansion spelled 0 0 input.children (expansion.NoMatch at) × (failure ≡ at_place NoMatch at))
    ⊎ (((arm : ℕ) × IsExpansion spelled 0 0 input.children (expansion.Ambiguous arm) × (failure ≡ at_place Ambiguous arm))
    ⊎ ((error : ExpandError) × IsExpandError spelled 0 input.children error × (failure ≡ expand_failure error)))

-- the trees are no macro, or it expands the input to nothing, with the reason
abbrev pub HasNoExpansion : (arms input : Root) → Failure → Type 0
HasNoExpansion arms input failure =
    ((error : RulesError) × IsRulesError arms.children error × (failure ≡ rules_failure error))
    ⊎ ((spelled : List Arm) × Spell arms.children spelled × MakeNothing spelled input failure)

-- these are the trees of arms and of an input in bytes
pub record AreGiven (arms input : List ℕ) (macro given : Root) : Type 0 where
  pub spells_arms : AreBytesOf macro arms
  pub spells_input : AreBytesOf given input

-- the bytes of the expansion of an input by the macro of these arms
pub record AreBytesOfExpansion (arms input bytes : List ℕ) : Type 0 where
  pub macro : Root
  pub given : Root
  pub are : AreGiven arms input macro given
  pub tree : Root
  pub made : IsExpansionOf macro given tree
  pub spells : AreBytesOf tree bytes

-- the expansion has no bytes, with the reason
pub record IsTooLarge (arms input : List ℕ) (failure : Failure) : Type 0 where
  pub macro : Root
  pub given : Root
  pub are : AreGiven arms input macro given
  pub tree : Root
  pub made : IsExpansionOf macro given tree
  pub none : HasNoBytes tree failure

-- no expansion exists, with the reason
pub record IsNotMade (arms input : List ℕ) (failure : Failure) : Type 0 where
  pub macro : Root
  pub given : Root
  pub are : AreGiven arms input macro given
  pub none : HasNoExpansion macro given failure

-- why there are no such bytes
abbrev pub HasNoBytesOf : (arms input : List ℕ) → Failure → Type 0
HasNoBytesOf arms input failure =
    AreOfNoTree arms failure ⊎ (IsNoInput input failure ⊎ (IsNotMade arms input failure ⊎ IsTooLarge arms input failure))
