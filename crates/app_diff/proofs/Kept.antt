-- Lines that are the same in both texts, and the hunks between them.
use Rattle.std.proofs.Common.{◌≡◌, ◌+◌, ◌-◌, ◌<◌, ◌≤◌, ℕ, true, List, [], ◌∷◌, ◌++◌, map, take, drop, get_or, length, Bor, refl, ap, ap₂, sym, subst, ◌∙◌, arith}
use Rattle.std.specs.Prelude.{bytes_eq}
use Rattle.std.proofs.lemmas.List.{drop-drop, drop-map, length-drop, map-append, take-map, take_all, take_more}
use Rattle.std.proofs.lemmas.Slice.Eq.{bytes_eq-Decides}
use Rattle.app_diff.specs.Hunks.{AreHunks, behind}
use Rattle.app_diff.specs.declared.hunk.Hunk.{Hunk}
use Rattle.app_diff.specs.declared.occurrences.Places.{Places}

-- the lines as texts
abbrev pub texts : List (Bor (List ℕ)) → List (List ℕ)
texts lines = map (λ it. it.now) lines

-- one line more at the front
texts_more : (lines : List (Bor (List ℕ))) (n : ℕ) (d : Bor (List ℕ)) → n < length lines
    → texts (take (n + 1) lines) ≡ texts (take n lines) ++ (get_or lines n d).now ∷ []
texts_more lines n d h = ap texts (take_more lines n d h) ∙ map-append (λ it. it.now) (take n lines) (get_or lines n d ∷ [])

-- If the next lines are the same too, so is one line more.
pub same_more : (old new : List (Bor (List ℕ))) (n : ℕ) (d : Bor (List ℕ)) → n < length old → n < length new → texts (take n old) ≡ texts (take n new)
    → bytes_eq (get_or old n d).now (get_or new n d).now ≡ true → texts (take (n + 1) old) ≡ texts (take (n + 1) new)
same_more old new n d h g same line =
    texts_more old n d h
    ∙ (ap₂ (λ front last. front ++ last ∷ []) same ((bytes_eq-Decides (get_or old n d).now (get_or new n d).now).0 line)
    ∙ sym (texts_more new n d g))

-- the lines behind others of those from a place on
behind_others : (lines : List (Bor (List ℕ))) (at n next : ℕ) → at + n ≡ next → drop n (texts (drop at lines)) ≡ texts (drop next lines)
behind_others lines at n next e =
    drop-map (λ it. it.now) n (drop at lines) ∙ ap texts (drop-drop n at lines ∙ ap (λ k. drop k lines) e)

-- the lines between two runs of the same lines, as a hunk
abbrev pub between : (at next : Places) → (kept : ℕ) → Hunk
between at next kept =
    record {
      old_start = at.old + kept;
      old_len = next.old - (at.old + kept);
      new_start = at.new + kept;
      new_len = next.new - (at.new + kept);
    }

-- They are one.
pub one_hunk : (old new : List (Bor (List ℕ))) (at next : Places) (kept : ℕ) (more : List Hunk) → at.old + kept ≤ next.old → at.new + kept ≤ next.new
    → texts (take kept (drop at.old old)) ≡ texts (take kept (drop at.new new))
    → AreHunks next (texts (drop next.old old)) (texts (drop next.new new)) more
    → AreHunks at (texts (drop at.old old)) (texts (drop at.new new)) (between at next kept ∷ more)
one_hunk old new at next kept more old_behind new_behind same are = (
  kept,
  refl,
  refl,
  take-map (λ it. it.now) kept (drop at.old old) ∙ (same ∙ sym (take-map (λ it. it.now) kept (drop at.new new))),
  subst (λ p. AreHunks p old_left new_left more) (sym is_next)
      (subst (λ l. AreHunks next l new_left more)
      (sym (behind_others old at.old (kept + (between at next kept).old_len) next.old (omega (arith, old_behind))))
      (subst (λ l. AreHunks next (texts (drop next.old old)) l more)
      (sym (behind_others new at.new (kept + (between at next kept).new_len) next.new (omega (arith, new_behind)))) are)),
)
  where
    old_left : List (List ℕ)
    old_left = drop (kept + (between at next kept).old_len) (texts (drop at.old old))

    new_left : List (List ℕ)
    new_left = drop (kept + (between at next kept).new_len) (texts (drop at.new new))

    is_next : behind (between at next kept) ≡ next
    is_next = ap₂ (λ o n. record { old = o; new = n }) (omega (arith, old_behind)) (omega (arith, new_behind))

-- The part of a list from a place to the end is what is left there.
pub sliced : (lines : List (Bor (List ℕ))) (at : ℕ) → take (length lines - at) (drop at lines) ≡ drop at lines
sliced lines at = take_all (length lines - at) (drop at lines) (omega (arith, length-drop at lines))

-- No hunk is left if the same lines are all.
pub no_hunk : (old new : List (Bor (List ℕ))) (old_at new_at kept : ℕ) → old_at + kept ≡ length old → new_at + kept ≡ length new
    → texts (take kept (drop old_at old)) ≡ texts (take kept (drop new_at new)) → texts (drop old_at old) ≡ texts (drop new_at new)
no_hunk old new old_at new_at kept e f same =
    ap texts (sym (take_all kept (drop old_at old) (omega (arith, length-drop old_at old, e))))
    ∙ (same ∙ ap texts (take_all kept (drop new_at new) (omega (arith, length-drop new_at new, f))))
