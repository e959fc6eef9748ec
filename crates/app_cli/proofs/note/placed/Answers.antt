use Rattle.std.proofs.Common.{◌≡◌, [], drop, map, sym, subst, append-nil}
use Rattle.std.proofs.lemmas.List.{drop_all}
use Rattle.app_cli.proofs.note.placed.Goals as goal
use Rattle.app_cli.specs.Notes.{ArePlaced, note_of}

pub returns : goal.returns
returns c =
    let file = c.args.source.now.name.now in
    let text = c.args.source.now.text.now in
    let notes = c.args.notes.now in
    let index = c.loop-note.note-index in
    let all : drop index notes ≡ [] = drop_all index notes c.loop-note-test.false in
    subst (ArePlaced file text (map note_of notes)) (append-nil c.loop-note.its.items)
    (c.loop-note.invariant.placed [] (subst (λ left. ArePlaced file text (map note_of left) []) (sym all) tt))
