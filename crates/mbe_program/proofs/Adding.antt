-- What is kept of a search when arrivals are added.
use Rattle.std.proofs.Common.{◌≡◌, inl, inr, ◌<◌, ◌≤◌, ℕ, zero, suc, true, false, List, [], ◌∷◌, ◌++◌, length, refl, ap, sym, subst, ◌∙◌, arith}
use Rattle.std.specs.Prelude.{◌⊎◌}
use Rattle.mbe_program.specs.Ways.{Coming, IsAt, IsSource, IsKept, IsAdded, Tried}
use Rattle.mbe_program.specs.declared.search.Way.{Way}
use Rattle.mbe_program.specs.declared.search.Way.TheVariants.{Unseen as unseen, Once as once, Often as often}
use Rattle.mbe_program.proofs.Arriving.{With, pushed_kept, source_two, meets, source_within}
use Rattle.mbe_program.proofs.Paths.{at_grown, at_within, at_once}

module _ (Cell Note : Type 0) where
  -- What is in a grown log at an old number was in it before.
  pub at_back : (log more : List (Coming Cell Note)) (k : ℕ) (it : Coming Cell Note) → k < length log → IsAt Cell Note (log ++ more) k it → IsAt Cell Note log k it
  at_back [] more k it lt is = absurd (omega (arith, lt))
  at_back (other ∷ others) more zero it lt is = is
  at_back (other ∷ others) more (suc k) it lt is = at_back others more k it (omega (arith, lt)) is

module _ (Cell Note : Type 0) (start : Cell) (Hop : Cell → Cell → List Note → Type 0)
    (tells : (from one other : Cell) (its those more rest : List Note) → Hop from one its → Hop from other those → its ++ more ≡ those ++ rest → (one ≡ other) × (its ≡ those))
    (decide : (a b : Cell) → (a ≡ b) ⊎ (a ≡ b → ⊥)) where
  abbrev Kept : (Cell → Way) → List (Coming Cell Note) → (ℕ → Cell → List Note → Type 0) → Type 0
  Kept = IsKept Cell Note start Hop

  abbrev Plus : (ℕ → Cell → List Note → Type 0) → Coming Cell Note → ℕ → Cell → List Note → Type 0
  Plus = With Cell Note start Hop tells decide

  -- Nothing is known at first.
  pub kept_none : (ways : Cell → Way) → ((it : Cell) → ways it ≡ unseen) → Kept ways [] (λ before to its. ⊥)
  kept_none ways all =
      record {
        source = λ k it there. absurd there;
        two = λ k it there. absurd there;
        logged = λ k it there. absurd there;
        alone = λ k j it other there. absurd there;
        within = λ before to notes done. absurd done;
        not_yet = λ to way. (λ before notes done. done, λ k it there. absurd there);
        only = λ to way. let same : once ≡ unseen = sym way ∙ all to in absurd (cc same);
        many = λ to way. let same : often ≡ unseen = sym way ∙ all to in absurd (cc same);
        onward = λ j from to notes done. absurd done;
      }

  -- The same arrivals may be told in another way.
  pub kept_same : (ways : Cell → Way) (log : List (Coming Cell Note)) (Done Told : ℕ → Cell → List Note → Type 0) → ((before : ℕ) (to : Cell) (notes : List Note) → Done before to notes → Told before to notes)
      → ((before : ℕ) (to : Cell) (notes : List Note) → Told before to notes → Done before to notes) → Kept ways log Done → Kept ways log Told
  kept_same ways log Done Told goes comes kept =
      record {
        source = kept.source;
        two = kept.two;
        logged = λ k it there. goes it.before it.cell it.notes (kept.logged k it there);
        alone = kept.alone;
        within = λ before to notes told. kept.within before to notes (comes before to notes told);
        not_yet = λ to way. let own = kept.not_yet to way in (λ before notes told. own.0 before notes (comes before to notes told), own.1);
        only = λ to way.
            let own = kept.only to way in
            (own.0, own.1, own.2, own.3, own.4, λ before notes told. own.5 before notes (comes before to notes told));
        many = kept.many;
        onward = λ j from to notes told. kept.onward j from to notes (comes (suc j) to notes told);
      }

  -- An arrival at a cell to which two ways are known adds nothing.
  kept_often : (ways new_ways : Cell → Way) (log : List (Coming Cell Note)) (Done : ℕ → Cell → List Note → Type 0) (it : Coming Cell Note) → Kept ways log Done → it.before ≤ length log
      → ways it.cell ≡ often → ((other : Cell) → new_ways other ≡ ways other) → Kept new_ways log (Plus Done it)
  kept_often ways new_ways log Done it kept least double all =
      record {
        source = kept.source;
        two = kept.two;
        logged = λ k it there. inl (kept.logged k it there);
        alone = kept.alone;
        within = within;
        not_yet = not_yet;
        only = only;
        many = λ to way. kept.many to (sym (all to) ∙ way);
        onward = onward;
      }
    where
      within : (before : ℕ) (to : Cell) (notes : List Note) → Plus Done it before to notes → before ≤ length log
      within before to notes (inl done) = kept.within before to notes done
      within before to notes (inr (same, cell, those)) = omega (arith, same, least)

      not_yet : (to : Cell) → new_ways to ≡ unseen → ((before : ℕ) (notes : List Note) → Plus Done it before to notes → ⊥) × ((k : ℕ) (other : Coming Cell Note) → IsAt Cell Note log k other → other.cell ≡ to → ⊥)
      not_yet to way = (none, (kept.not_yet to (sym (all to) ∙ way)).1)
        where
          none : (before : ℕ) (notes : List Note) → Plus Done it before to notes → ⊥
          none before notes (inl done) = (kept.not_yet to (sym (all to) ∙ way)).0 before notes done
          none before notes (inr (same, cell, those)) = let both : unseen ≡ often = sym way ∙ all to ∙ ap ways cell ∙ double in cc both

      only : (to : Cell) → new_ways to ≡ once → (k : ℕ) × (other : Coming Cell Note) × IsAt Cell Note log k other × (other.cell ≡ to) × (other.is_many ≡ false)
          × ((before : ℕ) (notes : List Note) → Plus Done it before to notes → (before ≡ other.before) × (notes ≡ other.notes))
      only to way =
          let own = kept.only to (sym (all to) ∙ way) in
          (own.0, own.1, own.2, own.3, own.4, alone own.1 own.5)
        where
          alone : (other : Coming Cell Note) → ((before : ℕ) (notes : List Note) → Done before to notes → (before ≡ other.before) × (notes ≡ other.notes))
              → (before : ℕ) (notes : List Note) → Plus Done it before to notes → (before ≡ other.before) × (notes ≡ other.notes)
          alone other known before notes (inl done) = known before notes done
          alone other known before notes (inr (same, cell, those)) = let both : once ≡ often = sym way ∙ all to ∙ ap ways cell ∙ double in absurd (cc both)

      onward : (j : ℕ) (from : Coming Cell Note) (to : Cell) (notes : List Note) → Plus Done it (suc j) to notes → IsAt Cell Note log j from → from.is_many ≡ true → new_ways to ≡ often
      onward j from to notes (inl done) there does = all to ∙ kept.onward j from to notes done there does
      onward j from to notes (inr (same, cell, those)) there does = all to ∙ ap ways cell ∙ double

  -- A new arrival keeps what is known, and is one more that was tried.
  pub added_kept : (ways new_ways : Cell → Way) (log new_log : List (Coming Cell Note)) (Done : ℕ → Cell → List Note → Type 0) (it : Coming Cell Note) → Kept ways log Done
      → IsSource Cell Note start Hop log it.before it.cell it.notes it.is_many → (Done it.before it.cell it.notes → ⊥) → IsAdded Cell Note it ways log new_ways new_log → Kept new_ways new_log (Plus Done it)
  added_kept ways new_ways log new_log Done it kept source new (inl (way, set, log_is)) =
      subst (λ log. Kept new_ways log (Plus Done it)) (sym log_is)
      (pushed_kept Cell Note start Hop tells decide ways log Done kept new_ways it it.is_many source (λ does. does) set
      (source_two Cell Note start Hop tells decide ways log Done kept it.before it.cell it.notes it.is_many source)
      (λ lacks. kept.not_yet it.cell way))
  added_kept ways new_ways log new_log Done it kept source new (inr (inl (way, set, log_is))) =
      subst (λ log. Kept new_ways log (Plus Done it)) (sym log_is)
      (pushed_kept Cell Note start Hop tells decide ways log Done kept new_ways (record it { is_many = true }) it.is_many source (λ does. refl) set
      (λ does. meets Cell Note start Hop tells decide ways log Done kept it source new way)
      (λ lacks. let same : true ≡ false = lacks in absurd (cc same)))
  added_kept ways new_ways log new_log Done it kept source new (inr (inr (way, all, log_is))) =
      subst (λ log. Kept new_ways log (Plus Done it)) (sym log_is)
      (kept_often ways new_ways log Done it kept (source_within Cell Note start Hop tells decide log it.before it.cell it.notes it.is_many source) way all)

  -- The log has grown.
  pub added_grown : (ways new_ways : Cell → Way) (log new_log : List (Coming Cell Note)) (it : Coming Cell Note) → IsAdded Cell Note it ways log new_ways new_log
      → (more : List (Coming Cell Note)) × (new_log ≡ log ++ more)
  added_grown ways new_ways log new_log it (inl (way, set, log_is)) = (it ∷ [], log_is)
  added_grown ways new_ways log new_log it (inr (inl (way, set, log_is))) = (record it { is_many = true } ∷ [], log_is)
  added_grown ways new_ways log new_log it (inr (inr (way, all, log_is))) = ([], log_is ∙ sym (nil log))
    where
      nil : (l : List (Coming Cell Note)) → l ++ [] ≡ l
      nil [] = refl
      nil (x ∷ l) = ap (λ l. x ∷ l) (nil l)

  -- One more arrival has gone on, if all of its hops were tried.
  pub gone_on : (ways : Cell → Way) (log more : List (Coming Cell Note)) (Done : ℕ → Cell → List Note → Type 0) (i : ℕ) (from : Coming Cell Note) → IsAt Cell Note log i from
      → ((before : ℕ) (to : Cell) (notes : List Note) → Tried Cell Note start Hop log i before to notes → Done before to notes)
      → ((to : Cell) (notes : List Note) → Hop from.cell to notes → Done (suc i) to notes)
      → ((before : ℕ) (to : Cell) (notes : List Note) → Done before to notes → Tried Cell Note start Hop log i before to notes ⊎ ((before ≡ suc i) × Hop from.cell to notes))
      → Kept ways (log ++ more) Done → Kept ways (log ++ more) (Tried Cell Note start Hop (log ++ more) (suc i))
  gone_on ways log more Done i from there olds news only kept = kept_same ways (log ++ more) Done (Tried Cell Note start Hop (log ++ more) (suc i)) goes comes kept
    where
      older : (before : ℕ) (to : Cell) (notes : List Note) → Tried Cell Note start Hop log i before to notes → Tried Cell Note start Hop (log ++ more) (suc i) before to notes
      older zero to notes tried = tried
      older (suc j) to notes (lt, (source, is, hop)) = (omega (arith, lt), (source, at_grown Cell Note log more j source is, hop))

      goes : (before : ℕ) (to : Cell) (notes : List Note) → Done before to notes → Tried Cell Note start Hop (log ++ more) (suc i) before to notes
      goes before to notes done =
          elim (only before to notes done) [
            | inl tried ↦ older before to notes tried
            | inr (same, hop) ↦ subst (λ before. Tried Cell Note start Hop (log ++ more) (suc i) before to notes) (sym same) (omega arith, (from, at_grown Cell Note log more i from there, hop))
          ]

      either : (j : ℕ) → j < suc i → (j < i) ⊎ (j ≡ i)
      either j lt = grind (arith, lt)

      comes : (before : ℕ) (to : Cell) (notes : List Note) → Tried Cell Note start Hop (log ++ more) (suc i) before to notes → Done before to notes
      comes zero to notes tried = olds zero to notes tried
      comes (suc j) to notes (lt, (source, is, hop)) =
          let within = at_within Cell Note log i from there in
          elim (either j lt) [
            | inl less ↦ olds (suc j) to notes (less, (source, at_back Cell Note log more j source (omega (arith, less, within)) is, hop))
            | inr same ↦
                let own = at_back Cell Note log more j source (omega (arith, same, within)) is in
                let one : source ≡ from = at_once Cell Note log i source from (subst (λ j. IsAt Cell Note log j source) same own) there in
                subst (λ n. Done (suc n) to notes) (sym same) (news to notes (subst (λ (it : Coming Cell Note). Hop it.cell to notes) one hop))
          ]
