-- Ways through cells, and their traces in a log.
use Rattle.std.proofs.Common.{◌≡◌, inl, inr, ◌<◌, ℕ, zero, suc, List, [], ◌∷◌, ◌++◌, length, refl, ap, ap₂, sym, subst, ◌∙◌, arith, append_assoc}
use Rattle.std.proofs.lemmas.List.{append_cancel_left}
use Rattle.std.specs.Prelude.{◌⊎◌}
use Rattle.mbe_program.specs.Ways.{Coming, IsAt, Traces, Comes, AreTwo}

module _ (Cell Note : Type 0) where
  -- What was in a log is in it when it has grown.
  pub at_grown : (log more : List (Coming Cell Note)) (k : ℕ) (it : Coming Cell Note) → IsAt Cell Note log k it → IsAt Cell Note (log ++ more) k it
  at_grown [] more k it is = absurd is
  at_grown (other ∷ others) more zero it is = is
  at_grown (other ∷ others) more (suc k) it is = at_grown others more k it is

  pub at_newest : (log : List (Coming Cell Note)) (it : Coming Cell Note) → IsAt Cell Note (log ++ it ∷ []) (length log) it
  at_newest [] it = refl
  at_newest (other ∷ others) it = at_newest others it

  pub at_either : (log : List (Coming Cell Note)) (newest : Coming Cell Note) (k : ℕ) (it : Coming Cell Note) → IsAt Cell Note (log ++ newest ∷ []) k it
      → IsAt Cell Note log k it ⊎ ((k ≡ length log) × (it ≡ newest))
  at_either [] newest zero it is = inr (refl, is)
  at_either [] newest (suc k) it is = absurd is
  at_either (other ∷ others) newest zero it is = inl is
  at_either (other ∷ others) newest (suc k) it is = elim (at_either others newest k it is) [ inl h ↦ inl h | inr h ↦ inr (ap suc h.0, h.1) ]

  pub at_within : (log : List (Coming Cell Note)) (k : ℕ) (it : Coming Cell Note) → IsAt Cell Note log k it → k < length log
  at_within [] k it is = absurd is
  at_within (other ∷ others) zero it is = omega arith
  at_within (other ∷ others) (suc k) it is = let lt = at_within others k it is in omega (arith, lt)

  pub at_once : (log : List (Coming Cell Note)) (k : ℕ) (it other : Coming Cell Note) → IsAt Cell Note log k it → IsAt Cell Note log k other → it ≡ other
  at_once [] k it other is was = absurd is
  at_once (x ∷ xs) zero it other is was = is ∙ sym was
  at_once (x ∷ xs) (suc k) it other is was = at_once xs k it other is was

  -- A trace does not change when its log grows.
  pub traces_grown : (log more : List (Coming Cell Note)) (n number : ℕ) (notes : List Note) → Traces Cell Note log n number notes → Traces Cell Note (log ++ more) n number notes
  traces_grown log more zero number notes traces = traces
  traces_grown log more (suc n) number notes (k, it, before, is, there, traces, same) =
      (k, it, before, is, at_grown log more k it there, traces_grown log more n it.before before traces, same)

  module _ (start : Cell) (Hop : Cell → Cell → List Note → Type 0)
      (tells : (from one other : Cell) (its those more rest : List Note) → Hop from one its → Hop from other those → its ++ more ≡ those ++ rest → (one ≡ other) × (its ≡ those)) where
    -- The notes of a way tell its cells.
    pub notes_tell : (n : ℕ) (one other : Cell) (notes others more rest : List Note) → Comes Cell Note start Hop n one notes → Comes Cell Note start Hop n other others
        → notes ++ more ≡ others ++ rest → (one ≡ other) × (notes ≡ others)
    notes_tell zero one other notes others more rest (at, none) (also_at, also_none) same = (at ∙ sym also_at, none ∙ sym also_none)
    notes_tell (suc n) one other notes others more rest (from, before, its, comes, hop, is) (source, earlier, those, came, hopped, was) same =
        let same_notes : before ++ (its ++ more) ≡ earlier ++ (those ++ rest) =
        sym (append_assoc before its more) ∙ ap (λ l. l ++ more) (sym is) ∙ same ∙ ap (λ l. l ++ rest) was ∙ append_assoc earlier those rest in
        let here = notes_tell n from source before earlier (its ++ more) (those ++ rest) comes came same_notes in
        let cut : its ++ more ≡ those ++ rest = append_cancel_left before (its ++ more) (those ++ rest) (same_notes ∙ ap (λ l. l ++ (those ++ rest)) (sym here.1)) in
        let last = tells from one other its those more rest hop (subst (λ cell. Hop cell other those) (sym here.0) hopped) cut in
        (last.0, is ∙ ap₂ (λ a b. a ++ b) here.1 last.1 ∙ sym was)

    -- One more hop keeps two ways apart.
    pub two_onward : (from to : Cell) (its : List Note) → Hop from to its → AreTwo Cell Note start Hop from → AreTwo Cell Note start Hop to
    two_onward from to its hop two =
        record {
          n = suc two.n;
          notes = two.notes ++ its;
          m = suc two.m;
          others = two.others ++ its;
          one = (from, two.notes, its, two.one, hop, refl);
          other = (from, two.others, its, two.other, hop, refl);
          differ = λ count same. two.differ (omega (arith, count)) (cut count same);
        }
      where
        cut : suc two.n ≡ suc two.m → two.notes ++ its ≡ two.others ++ its → two.notes ≡ two.others
        cut count same =
            let steps : two.n ≡ two.m = omega (arith, count) in
            (notes_tell two.n from from two.notes two.others its its two.one (subst (λ n. Comes Cell Note start Hop n from two.others) (sym steps) two.other) same).1
