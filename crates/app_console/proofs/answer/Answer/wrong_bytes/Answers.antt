use Rattle.std.proofs.Common.{◌++◌, ◌∷◌, [], append_assoc, ap, sym, ◌∙◌}
use Rattle.std.specs.Prelude.{codes, decimal}
use Rattle.app_console.specs.Answer.{bytes_line}
use Rattle.app_console.proofs.answer.Answer.wrong_bytes.Goals as goal

pub returns-in-StoredOtherwise : goal.returns-in-StoredOtherwise
returns-in-StoredOtherwise c =
    c.bytes-in-StoredOtherwise.ensures
    ∙ ap (λ l. codes "bytes " ++ l) (sym (append_assoc (decimal c.in-StoredOtherwise.at) (codes " stored otherwise") (10 ∷ [])))
    ∙ sym (ap bytes_line c.in-StoredOtherwise.is)
