-- The text so far, and that of the leaves to come.
use Rattle.std.proofs.Common.{◌≡◌, ◌++◌, drop}
use Rattle.std.specs.Prelude.{string_bytes}
use Rattle.expand_text.specs.Expecting.{token_text}
use Rattle.expand_text.proofs.expecting.token_text.Given as goal

abbrev pub invariant-loop-leaf : goal.invariant-loop-leaf
invariant-loop-leaf l = string_bytes l.text ++ token_text (drop l.leaf-index l.leaves) ≡ token_text l.leaves
