use Rattle.std.proofs.Common.{◌≡◌, ◌++◌, ◌∷◌, ◌∙◌, ◌+◌, [], map, drop, ap, sym, append_assoc}
use Rattle.std.proofs.lemmas.List.{drop_more}
use Rattle.app_cli.specs.Notes.{caller_note, note_of}
use Rattle.app_cli.proofs.note.add_callers.Goals as goal

pub loop-it-preserved : goal.loop-it-preserved
loop-it-preserved c =
    let its = c.args.its.now in
    let index = c.loop-it.it-index in
    let old = map note_of c.loop-it.notes.items in
    let left = map caller_note (map (λ it. it.now) (drop (index + 1) its)) in
    let dropped : drop index its ≡ c.it-item.result ∷ drop (index + 1) its =
    drop_more its index c.it-item.result c.loop-it-test.true ∙ ap (λ it. it ∷ drop (index + 1) its) (sym c.it-item.is) in
    ap (λ notes. notes ++ left) c.in_ok-add_caller.ensures ∙ append_assoc old (caller_note c.it-item.result.now ∷ []) left
    ∙ ap (λ more. old ++ map caller_note (map (λ it. it.now) more)) (sym dropped) ∙ c.loop-it.invariant
