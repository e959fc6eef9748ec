-- A reader by the definitions returns what was written, whatever follows it.
use Rattle.std.proofs.Common.{ℕ, List, Option, Some, None, ap, sym, ◌∙◌}
use Rattle.std.specs.Borrow.{Bor}
use Rattle.tt_codec.specs.Entry.{entry_at, EntriesAgain}
use Rattle.tt_codec.specs.SpanNumbers.{span_at, SpansAgain}
use Rattle.tt_codec.specs.Reference.{reference_at, ReferencesAgain}
use Rattle.tt_codec.proofs.EntryReading.{entry_again}
use Rattle.tt_codec.proofs.Found.{same_parts}
use Rattle.tt_codec.proofs.ReferenceReading.{reference_again}
use Rattle.tt_codec.proofs.SpanReading.{span_again}
use Rattle.tt_codec.specs.declared.entry.Entry.{Entry}
use Rattle.tt_codec.specs.declared.span.Spanned.{Spanned}
use Rattle.tt_codec.specs.declared.reference.Reference.{Reference}
use Rattle.tt_codec.specs.Read.{IsRead}

-- A reader of spans.
pub reads_again : (bytes : List ℕ) (result : Option (Spanned × Bor (List ℕ))) → IsRead (span_at bytes) result → SpansAgain bytes result
reads_again bytes None read heavy extra numbers rest he fits e = cc (ap span_at e ∙ span_again heavy extra numbers rest he fits)
reads_again bytes (Some (span, behind)) read heavy extra numbers rest he fits e =
    same_parts _ _ (sym read ∙ ap span_at e ∙ span_again heavy extra numbers rest he fits)

-- A reader of references.
pub refers_again : (bytes : List ℕ) (result : Option (Reference × Bor (List ℕ))) → IsRead (reference_at bytes) result → ReferencesAgain bytes result
refers_again bytes None read index tag rest hi ht e = cc (ap reference_at e ∙ reference_again index tag rest hi ht)
refers_again bytes (Some (reference, behind)) read index tag rest hi ht e =
    same_parts _ _ (sym read ∙ ap reference_at e ∙ reference_again index tag rest hi ht)

-- A reader of tokens.
pub entry_reads_again : (bytes : List ℕ) (result : Option (Entry × Bor (List ℕ))) → IsRead (entry_at bytes) result → EntriesAgain bytes result
entry_reads_again bytes None read entry rest fits e = cc (ap entry_at e ∙ entry_again entry rest fits)
entry_reads_again bytes (Some (found, behind)) read entry rest fits e =
    same_parts _ _ (sym read ∙ ap entry_at e ∙ entry_again entry rest fits)
