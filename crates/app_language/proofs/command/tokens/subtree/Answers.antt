use Rattle.app_language.specs.WordLaws.{spaceless_kind, spaceless_span}
use Rattle.app_language.proofs.Cutting.{words_same}
use Rattle.app_language.proofs.command.tokens.subtree.Goals as goal

pub returns-in_err-close : goal.returns-in_err-close
returns-in_err-close c =
    rw c.from_residual-in_err-close.ensures
    (λ subtree fits e.
    let a = words_same _ _ _ _ _ (spaceless_kind c.in_ok-kind.kind) (spaceless_kind subtree.delimiter.kind) c.in_ok-kind.ensures.0 e in
    let b = words_same _ _ _ _ _ (spaceless_span _ c.in_ok-open_span.ensures.1) (spaceless_span _ fits.0) c.in_ok-open_span.ensures.0 a.1 in
    c.in_err-close.ensures _ _ fits.1 b.1)

pub returns-in_err-len : goal.returns-in_err-len
returns-in_err-len c =
    rw c.from_residual-in_err-len.ensures
    (λ subtree fits e.
    let a = words_same _ _ _ _ _ (spaceless_kind c.in_ok-kind.kind) (spaceless_kind subtree.delimiter.kind) c.in_ok-kind.ensures.0 e in
    let b = words_same _ _ _ _ _ (spaceless_span _ c.in_ok-open_span.ensures.1) (spaceless_span _ fits.0) c.in_ok-open_span.ensures.0 a.1 in
    let d = words_same _ _ _ _ _ (spaceless_span _ c.in_ok-close.ensures.1) (spaceless_span _ fits.1) c.in_ok-close.ensures.0 b.1 in
    c.in_err-len.ensures _ fits.2 d.1)
