-- The spacings after which a space may follow, by each rule.
use Rattle.std.specs.Prelude.{Bool}
use Rattle.tt_base.specs.declared.punct.Spacing.{Spacing}
use Rattle.tt_base.specs.TreeText.{is_alone, is_not_joint}
use Rattle.tt_view.specs.declared.text.SpaceRule.{SpaceRule}
use Rattle.tt_view.specs.declared.text.SpaceRule.TheVariants.{Display, Pretty}

-- only alone for `Display`; all but joint for `Pretty`
abbrev pub lets_of : SpaceRule → Spacing → Bool
lets_of Display = is_alone
lets_of Pretty = is_not_joint
