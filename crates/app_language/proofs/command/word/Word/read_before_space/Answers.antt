use Rattle.std.proofs.Common.{◌∙◌, sym, subst}
use Rattle.app_language.specs.Reading.{Lacks}
use Rattle.app_language.proofs.Cutting.{cut_unique, Lacks-apart}
use Rattle.app_language.proofs.command.word.Word.read_before_space.Goals as goal

pub returns-in_err-word : goal.returns-in_err-word
returns-in_err-word g c = rw c.from_residual.ensures (λ value rest fits e. Lacks-apart 32 _ rest (subst (Lacks 32) e c.in_err-word.ensures))

pub returns-in_err-value : goal.returns-in_err-value
returns-in_err-value g c = rw c.from_residual-in_err-value.ensures
    (λ value rest fits e.
    let u = cut_unique 32 _ _ _ _ c.in_ok-word.ensures.1 (g.Self.Word.has_no_space value fits) (sym c.in_ok-word.ensures.0 ∙ e) in
    c.in_err-value.ensures value fits u.0)
