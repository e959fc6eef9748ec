use Rattle.std.proofs.Common.{◌≡◌, ◌-◌, ◌++◌, ℕ, List, [], ◌∷◌, length, take, drop, Bor, subst, sym, ap, ◌∙◌}
use Rattle.std.proofs.lemmas.List.{append_assoc, append-nil}
use Rattle.app_diff.specs.Hunks.{AreHunks, start}
use Rattle.app_diff.specs.declared.hunk.Hunk.{Hunk}
use Rattle.app_diff.specs.declared.occurrences.Places.{Places}
use Rattle.app_diff.proofs.Kept.{between, texts, no_hunk, one_hunk, sliced}
use Rattle.app_diff.proofs.hunk.hunks.Goals as goal

-- lines of two parts are the same if they are in what is left there
same_left : (old new : List (Bor (List ℕ))) (old_at new_at kept : ℕ)
    → texts (take kept (take (length old - old_at) (drop old_at old))) ≡ texts (take kept (take (length new - new_at) (drop new_at new)))
    → texts (take kept (drop old_at old)) ≡ texts (take kept (drop new_at new))
same_left old new old_at new_at kept same =
    sym (ap (λ l. texts (take kept l)) (sliced old old_at)) ∙ (same ∙ ap (λ l. texts (take kept l)) (sliced new new_at))

pub returns-then-new_at-new : goal.returns-then-new_at-new
returns-then-new_at-new c =
    let (_, _, so_far) = c.loop-old_at.invariant in
    let old = c.args.old.now in
    let new = c.args.new.now in
    subst (AreHunks start (texts old) (texts new)) (append-nil c.loop-old_at.found.items)
    (so_far []
    (no_hunk old new c.loop-old_at.old_at c.loop-old_at.new_at c.same_len-kept.result c.if-old_at-old.true c.if-new_at-new.true
    (same_left old new c.loop-old_at.old_at c.loop-old_at.new_at c.same_len-kept.result c.same_len-kept.ensures.same)))

pub loop-old_at-preserved : goal.loop-old_at-preserved
loop-old_at-preserved c =
    let (_, _, so_far) = c.loop-old_at.invariant in
    let old = c.args.old.now in
    let new = c.args.new.now in
    let at : Places = record { old = c.loop-old_at.old_at; new = c.loop-old_at.new_at } in
    let hunk : Hunk = between at c.next_same-next.result c.same_len-kept.result in (
      c.next_same-next.ensures.old_within,
      c.next_same-next.ensures.new_within,
      λ more are.
          subst (AreHunks start (texts old) (texts new))
          (sym (append_assoc c.loop-old_at.found.items (hunk ∷ []) more) ∙ sym (ap (λ l. l ++ more) c.in_ok-push.ensures.items))
          (so_far (hunk ∷ more)
          (one_hunk old new at c.next_same-next.result c.same_len-kept.result more c.next_same-next.ensures.old c.next_same-next.ensures.new
          (same_left old new at.old at.new c.same_len-kept.result c.same_len-kept.ensures.same) are)),
    )
