use Rattle.std.proofs.Common.{◌≡◌, ◌<◌, ◌==◌, length, not, sym, ap, ◌∙◌, ⊎_elim, arith, false-eqb}
use Rattle.std.proofs.lemmas.Bool.{cases_lt, eqb-true}
use Rattle.std.specs.Prelude.{slice_index}
use Rattle.syntax_lex.proofs.ByteFacts.{first_byte, first_none}
use Rattle.syntax_lex.proofs.FrontFacts.{chars-empty}
use Rattle.syntax_lex.proofs.front.begins_with.Goals as goal

pub returns-then-not-is_empty : goal.returns-then-not-is_empty
returns-then-not-is_empty c =
    let n = length c.as_bytes-bytes.result.now in
    let some : 0 < n = ⊎_elim (λ lt. lt) (λ le. absurd (false-eqb n 0 c.if-not-is_empty.ensures (omega (arith, le)))) (cases_lt 0 n) in
    ap (λ bs. slice_index bs 0 == c.args.ascii) c.as_bytes-bytes.ensures.value ∙ first_byte c.args.text.now c.args.ascii c.utf8.text (omega (arith, some, c.as_bytes-bytes.ensures.len)) c.requires.some c.requires.ascii

pub returns-else-not-is_empty : goal.returns-else-not-is_empty
returns-else-not-is_empty c =
    let none : length c.args.text.now ≡ 0 = sym c.as_bytes-bytes.ensures.len ∙ eqb-true (length c.as_bytes-bytes.result.now) 0 (sym c.if-not-is_empty.ensures) in
    ap not c.if-not-is_empty.false ∙ first_none c.args.text.now c.args.ascii none c.requires.some (chars-empty c.args.text.now none)
