use Rattle.app_language.specs.WordLaws.{spaceless_rawness}
use Rattle.app_language.proofs.Cutting.{words_same}
use Rattle.app_language.proofs.command.tokens.ident.Goals as goal

pub returns-in_default-2-clause-reads : goal.returns-in_default-2-clause-reads
returns-in_default-2-clause-reads c =
    let unread = rw c.in_default-2.is at c.in_ok-span.ensures.reads in
    λ ident fits e.
    let a = words_same _ _ _ _ _ (spaceless_rawness c.in-Some.is_raw) (spaceless_rawness ident.is_raw) c.in-Some.ensures.0 e in
    unread (ident.span, ident.sym) fits a.1
