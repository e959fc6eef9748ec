use Rattle.std.proofs.Common.{◌≡◌, ◌++◌}
use Rattle.std.specs.Prelude.{string_bytes}
use Rattle.tt.specs.Forest.{flat}
use Rattle.tt.specs.SubtreeViews.{flat_rest}
use Rattle.tt.specs.Views.{trees_of}
use Rattle.app_language.specs.Token.{token_words}
use Rattle.app_console.specs.ViewText.{listed}
use Rattle.app_console.proofs.token_lines.token_lines.Given as goal

abbrev pub invariant-loop-token : goal.invariant-loop-token
invariant-loop-token l =
    (goal.iterator-loop-token).can_next l.token-iterator
    × (goal.iterator-loop-token).is_finite l.token-iterator
    × (string_bytes l.text ++ listed token_words (flat (flat_rest l.token-iterator)) ≡ listed token_words (flat (trees_of l.fn.trees)))
