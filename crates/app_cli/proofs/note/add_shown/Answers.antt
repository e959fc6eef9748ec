use Rattle.std.proofs.Common.{◌≡◌, ◌<◌, ◌++◌, ◌-◌, ◌∙◌, length, map, take, drop, ap, sym, arith, append_assoc}
use Rattle.std.proofs.lemmas.List.{length-drop, map-append, take_all}
use Rattle.app_cli.proofs.Trails.{shown_many}
use Rattle.app_cli.proofs.note.add_shown.Goals as goal
use Rattle.app_cli.specs.Notes.{caller_note, note_of}

pub returns : goal.returns
returns c =
    let its = c.args.its.now in
    let old = map note_of c.args.notes.now.items in
    let front = map caller_note (map (λ it. it.now) (take 7 its)) in
    let behind = map caller_note (map (λ it. it.now) (drop (length its - 1) its)) in
    let more : 8 < length its = omega (arith, c.if-its-le-MOST_CALLERS.false) in
    let first : map note_of c.add_callers-2.new.notes.items ≡ old ++ front = c.in_ok-add_callers.ensures in
    let one = drop (length its - 1) its in
    let whole : take (length its - (length its - 1)) one ≡ one = take_all (length its - (length its - 1)) one (omega (arith, length-drop (length its - 1) its)) in
    let last : map note_of c.add_callers-3.new.notes.items ≡ map note_of c.add_callers-2.new.notes.items ++ behind =
    c.in_ok-add_callers-2.ensures ∙ ap (λ all. map note_of c.add_callers-2.new.notes.items ++ map caller_note (map (λ it. it.now) all)) whole in
    last ∙ ap (λ notes. notes ++ behind) first ∙ append_assoc old front behind
    ∙ ap (λ all. old ++ all) (sym (map-append caller_note (map (λ it. it.now) (take 7 its)) (map (λ it. it.now) (drop (length its - 1) its))))
    ∙ ap (λ all. old ++ map caller_note all) (sym (shown_many (λ it. it.now) its more))
