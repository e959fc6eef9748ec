-- The tokens are a whole list exactly if those to come complete the open levels.
use Rattle.std.proofs.Common.{◌↔◌, drop}
use Rattle.tt_base.specs.Forest.{IsWhole}
use Rattle.tt_base.specs.Levels.{open_levels}
use Rattle.tt_base.specs.Forest.{AreLevels}
use Rattle.tt_base.proofs.whole.is_whole.Given as goal

abbrev pub invariant-loop-token : goal.invariant-loop-token
invariant-loop-token l = IsWhole l.tokens ↔ AreLevels (drop l.token-index l.tokens) (open_levels l.levels)
