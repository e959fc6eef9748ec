use Rattle.std.proofs.Common.{◌≡◌, ◌∷◌, rules}
use Rattle.app_language.proofs.Pieces.{next_unique}
use Rattle.app_language.proofs.command.word.next.Goals as goal

pub returns-in_err-value : goal.returns-in_err-value
returns-in_err-value g c =
    let line : c.args.text.now ≡ 32 ∷ c.in_ok-text.text.now = search rules in
    rw c.from_residual-in_err-value.ensures
    (λ value rest fits tail e.
    let u = next_unique _ _ _ _ _ c.first_word.ensures.word (g.W.Word.has_no_space value fits) c.first_word.ensures.tail tail (rw (← c.first_word.ensures.whole) line) e in
    c.in_err-value.ensures value fits u.0)
