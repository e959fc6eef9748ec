use Rattle.std.proofs.Common.{rules, ◌≡◌, ◌++◌, ◌∙◌, ◌-◌, length, map, ap, ap₂, sym}
use Rattle.std.proofs.lemmas.List.{length-map}
use Rattle.app_cli.specs.Notes.{caller_note, shown_callers, trail}
use Rattle.app_cli.proofs.note.notes_at.Goals as goal

pub returns : goal.returns
returns c =
    let there : map (λ it. it.now) c.in_ok-its.its.items ≡ trail c.args.callers.now c.args.finding.now.caller = c.in_ok-its.ensures in
    let same : map (λ it. it.now) c.deref.result.now ≡ trail c.args.callers.now c.args.finding.now.caller = ap (map (λ it. it.now)) c.deref.ensures.value ∙ there in
    let all : c.len.result ≡ length c.in_ok-its.its.items = search rules in
    let len : c.len.result ≡ length (trail c.args.callers.now c.args.finding.now.caller) =
    all ∙ sym (length-map c.in_ok-its.its.items (λ it. it.now)) ∙ ap length there in (
      c.in_ok-add_shown.ensures ∙ ap₂ (λ notes its. notes ++ map caller_note (shown_callers its)) c.in_ok-notes.ensures same,
      c.saturating_sub.ensures ∙ ap (λ n. n - 8) len,
    )
