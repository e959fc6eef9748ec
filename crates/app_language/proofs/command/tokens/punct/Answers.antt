use Rattle.app_language.specs.WordLaws.{spaceless_spacing, spaceless_span}
use Rattle.app_language.proofs.Cutting.{words_same}
use Rattle.app_language.proofs.command.tokens.punct.Goals as goal

pub returns-in_err-char : goal.returns-in_err-char
returns-in_err-char c =
    rw c.from_residual-in_err-char.ensures
    (λ punct fits e.
    let a = words_same _ _ _ _ _ (spaceless_spacing c.in_ok-spacing.spacing) (spaceless_spacing punct.spacing) c.in_ok-spacing.ensures.0 e in
    let b = words_same _ _ _ _ _ (spaceless_span _ c.in_ok-span.ensures.1) (spaceless_span _ fits.0) c.in_ok-span.ensures.0 a.1 in
    c.in_err-char.ensures _ fits.1 b.1)
