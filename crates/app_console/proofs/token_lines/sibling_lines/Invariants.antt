use Rattle.std.proofs.Common.{◌≡◌, ◌+◌, ◌*◌, ◌++◌, length}
use Rattle.std.specs.Prelude.{string_bytes}
use Rattle.tt.specs.Forest.{flat}
use Rattle.tt.specs.Iters.{rest_of}
use Rattle.app_language.specs.Token.{token_words}
use Rattle.app_console.specs.ViewText.{listed}
use Rattle.app_console.proofs.Stacked.{stacked}
use Rattle.app_console.proofs.token_lines.sibling_lines.Given as goal

abbrev pub invariant-loop-level : goal.invariant-loop-level
invariant-loop-level l = string_bytes l.text ++ listed token_words (stacked l.levels.items) ≡ listed token_words (flat (rest_of l.fn.siblings))

abbrev pub decreases-loop-level : goal.decreases-loop-level
decreases-loop-level l = 2 * length (stacked l.levels.items) + length l.levels.items
