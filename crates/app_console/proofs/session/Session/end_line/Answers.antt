use Rattle.std.proofs.Common.{rules}
use Rattle.std.proofs.KnownBytes.{Keeps-refl}
use Rattle.std.proofs.lemmas.Result.{err_from_is_err_and}
use Rattle.app_console.proofs.Feeding.{Feeds-whole_line, Feeds-line, Breaks-none}
use Rattle.app_language.specs.WordLaws.{Lacks-append}
use Rattle.app_console.proofs.session.Session.end_line.Goals as goal

pub returns-then-is_between_lines : goal.returns-then-is_between_lines
returns-then-is_between_lines g c =
    Feeds-whole_line _ _ c.args.bytes.now _ (search rules) c.requires.begun c.requires.one_line c.answer.ensures.answers (search rules)

pub returns : goal.returns
returns g c =
    let p = rw c.in_ok-keep.ensures.ok at c.answer_begun.ensures.answers in
    Feeds-line _ _ c.args.bytes.now _ c.requires.begun c.requires.one_line p (search rules)

pub returns-in_err-keep : goal.returns-in_err-keep
returns-in_err-keep g c =
    let p = err_from_is_err_and c.from_residual.result c.from_residual.ensures.1 in
    rw (p.1, p.2, c.in_err-keep.ensures.kind, c.in_err-keep.ensures.err) ((_, Breaks-none _ _ _ (Keeps-refl _)), c.requires.sound)

pub answer_begun-requires-clause-one_line : goal.answer_begun-requires-clause-one_line
answer_begun-requires-clause-one_line g c = rw c.in_ok-keep.ensures.ok (Lacks-append 10 _ _ c.requires.begun c.requires.one_line)
