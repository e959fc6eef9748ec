use Rattle.tt_base.specs.Literal.{symbol_of, span_of}
use Rattle.app_language.specs.WordLaws.{spaceless_literal_kind, spaceless_byte}
use Rattle.app_language.proofs.Cutting.{words_same}
use Rattle.app_language.proofs.Literals.{literal_read}
use Rattle.app_language.proofs.command.tokens.literal.Goals as goal

pub returns-in_default-read_before_space-clause-reads : goal.returns-in_default-read_before_space-clause-reads
returns-in_default-read_before_space-clause-reads c =
    λ literal fits e.
    let a = words_same _ _ _ _ _ (spaceless_literal_kind _ c.in-Some.ensures.1) (spaceless_literal_kind _ fits.1) c.in-Some.ensures.0 e in
    c.in_default-read_before_space.ensures _ _ fits.2 a.1

pub returns-in_default-2-clause-reads : goal.returns-in_default-2-clause-reads
returns-in_default-2-clause-reads c =
    let unread = rw c.in_default-2.is at c.in_ok-span.ensures.reads in
    λ literal fits e.
    let a = words_same _ _ _ _ _ (spaceless_literal_kind _ c.in-Some.ensures.1) (spaceless_literal_kind _ fits.1) c.in-Some.ensures.0 e in
    let b = words_same _ _ _ _ _ (spaceless_byte _ c.in-Some-read_before_space.ensures.1) (spaceless_byte _ fits.2) c.in-Some-read_before_space.ensures.0 a.1 in
    unread (span_of literal, symbol_of literal) (fits.0, fits.3) b.1

pub returns-clause-reads : goal.returns-clause-reads
returns-clause-reads c =
    let reads = rw c.in-Some-2.is at c.in_ok-span.ensures.reads in
    let kind = c.in-Some.ensures in
    let suffix = c.in-Some-read_before_space.ensures in
    literal_read _ _ _ _ _ _ (rw (← reads.0, ← suffix.0) kind.0) kind.1 suffix.1 reads.1 c.from_parts.ensures
