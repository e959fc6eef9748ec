-- Each step yields a token, or leaves a level.
use Rattle.std.proofs.Common.{◌+◌, ◌*◌, ◌∷◌, length, reverse}
use Rattle.app_files.proofs.TokensLeft.{tokens_in}
use Rattle.app_files.proofs.tree_lines.write_trees.Given as goal

abbrev pub decreases-tokens : goal.decreases-tokens
decreases-tokens g l = 2 * tokens_in (l.level ∷ reverse l.outer.items) + length l.outer.items
