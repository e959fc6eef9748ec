-- How a macro of several arms expands an input.
use Rattle.std.specs.Prelude.{List}
use Rattle.tt.specs.Forest.{Forest}
use Rattle.mbe_rules.specs.declared.macro_rules.Expansion.{Expansion}
use Rattle.mbe_rules.specs.Arms.{Arm, Spell}
use Rattle.mbe_rules.specs.Expansions.{IsExpansion, IsExpandError}
use Rattle.mbe_rules.specs.ArmFaults.{IsRulesError}
use Rattle.test_contracts.specs.declared.arms.ArmsFault.{ArmsFault}
use Rattle.test_contracts.specs.declared.arms.ArmsFault.TheVariants as fault

-- the trees spell arms, and the input has that expansion by them
abbrev pub Expands : (trees input : Forest) → Expansion → Type 0
Expands trees input expansion = (arms : List Arm) × Spell trees arms × IsExpansion arms 0 0 input expansion

-- the trees spell no arms, or the arm that takes the input is refused
abbrev pub IsArmsFault : (trees input : Forest) → ArmsFault → Type 0
IsArmsFault trees input (fault.Rules error) = IsRulesError trees error
IsArmsFault trees input (fault.Expansion error) = (arms : List Arm) × Spell trees arms × IsExpandError arms 0 input error
