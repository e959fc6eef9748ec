-- What a definition is read as.
use Rattle.std.specs.Prelude.{List}
use Rattle.tt.specs.Forest.{Forest}
use Rattle.tt.specs.Stored.{IsWithinLimits}
use Rattle.tt.specs.TreeFault.{under}
use Rattle.expand_text.specs.declared.defining.Rules.{Rules}
use Rattle.expand_text.specs.declared.defining.Rules.TheVariants as rules
use Rattle.expand_items.specs.Items.{Definition}
use Rattle.expand_text.specs.Macros.{IsDefinitionFault}
use Rattle.mbe_rules.specs.Arms.{Arm, Spell}
use Rattle.mbe_rules.specs.Expansions.{AreMade}

-- what the arms of a definition are read as: rules, or a fault and its byte
abbrev pub IsRules : Definition → (arms : Forest) → Rules → Type 0
IsRules it trees (rules.Context made) = (arms : List Arm) × IsWithinLimits (under it.delimiter trees) × Spell trees arms × AreMade arms made.arms.items
IsRules it trees (rules.Faulty at fault) = IsDefinitionFault it trees at fault
