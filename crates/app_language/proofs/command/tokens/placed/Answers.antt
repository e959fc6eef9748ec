use Rattle.app_language.specs.WordLaws.{spaceless_span}
use Rattle.app_language.proofs.Cutting.{words_same}
use Rattle.app_language.proofs.command.tokens.placed.Goals as goal

pub returns-in_default-2-clause-reads : goal.returns-in_default-2-clause-reads
returns-in_default-2-clause-reads c =
    let unread = rw c.in_default-2.is at c.in_ok-symbol.ensures.reads in
    λ (span, text) fits e.
    let a = words_same _ _ _ _ _ (spaceless_span _ c.in-Some.ensures.1) (spaceless_span span fits.0) c.in-Some.ensures.0 e in
    unread (rw a.1 fits.1)
