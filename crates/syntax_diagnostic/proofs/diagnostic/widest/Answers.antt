use Rattle.std.proofs.Common.{◌∙◌, ◌+◌, ap, drop, max}
use Rattle.std.proofs.lemmas.List.{drop_more}
use Rattle.syntax_diagnostic.proofs.WidthFacts.{widest_next}
use Rattle.syntax_diagnostic.proofs.diagnostic.widest.Goals as goal

pub loop-note-preserved : goal.loop-note-preserved
loop-note-preserved c =
    let notes = c.args.notes.now in
    let index = c.loop-note.note-index in
    widest_next c.loop-note.longest c.max-longest.result _ (drop index notes) (drop (index + 1) notes) (drop_more notes index _ c.loop-note-test.true)
    (c.max-longest.ensures ∙ ap (max c.loop-note.longest) c.in_ok-number_width.ensures)
    ∙ c.loop-note.invariant
