-- The names and the words so far, and then those of the callers that are left.
use Rattle.std.proofs.Common.{◌≡◌, ◌++◌, drop, length}
use Rattle.app_c.proofs.listing.Listing.put_callers.Given as goal
use Rattle.app_c.specs.Listings.{callers_bytes, callers_words}

abbrev pub invariant-loop-caller : goal.invariant-loop-caller
invariant-loop-caller l =
    record {
      bytes : l.self.bytes.items ++ callers_bytes (drop l.caller-index l.callers) ≡ l.initial.self.bytes.items ++ callers_bytes l.callers;
      words :
          l.self.words.items ++ callers_words (length l.self.bytes.items) (drop l.caller-index l.callers)
          ≡ l.initial.self.words.items ++ callers_words (length l.initial.self.bytes.items) l.callers;
    }
