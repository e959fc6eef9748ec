-- The names and the words so far, and then those of the findings that are left.
use Rattle.std.proofs.Common.{◌≡◌, ◌++◌, drop, length}
use Rattle.app_c.proofs.listing.Listing.put_findings.Given as goal
use Rattle.app_c.specs.Listings.{findings_bytes, findings_words}

abbrev pub invariant-loop-finding : goal.invariant-loop-finding
invariant-loop-finding l =
    record {
      bytes : l.self.bytes.items ++ findings_bytes (drop l.finding-index l.findings) ≡ l.initial.self.bytes.items ++ findings_bytes l.findings;
      words :
          l.self.words.items ++ findings_words (length l.self.bytes.items) (drop l.finding-index l.findings)
          ≡ l.initial.self.words.items ++ findings_words (length l.initial.self.bytes.items) l.findings;
    }
