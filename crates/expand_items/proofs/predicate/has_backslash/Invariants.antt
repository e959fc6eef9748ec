-- A `\` is in the text if it was found or is in the rest.
use Rattle.std.proofs.Common.{◌≡◌, drop}
use Rattle.std.specs.Prelude.{◌||◌}
use Rattle.expand_items.specs.Predicates.{has_backslash}
use Rattle.expand_items.proofs.predicate.has_backslash.Given as goal

abbrev pub invariant-loop-byte : goal.invariant-loop-byte
invariant-loop-byte l = (l.found || has_backslash (drop l.byte-index l.byte-items)) ≡ has_backslash l.fn.text
