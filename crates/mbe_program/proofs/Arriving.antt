-- What holds of a log of arrivals while ways are searched.
use Rattle.std.proofs.Common.{◌≡◌, inl, inr, ◌<◌, ◌≤◌, ℕ, zero, suc, Bool, true, false, List, [], ◌∷◌, ◌++◌, length, refl, ap, sym, subst, ◌∙◌, arith}
use Rattle.std.proofs.lemmas.List.{append_cancel_left, length-append}
use Rattle.std.specs.Prelude.{◌⊎◌}
use Rattle.mbe_program.specs.Ways.{Coming, IsAt, Traces, Comes, AreTwo, way_of, IsSource as Source, IsKept as Kept, IsSet as Set}
use Rattle.mbe_program.specs.declared.search.Way.{Way}
use Rattle.mbe_program.specs.declared.search.Way.TheVariants.{Unseen as unseen, Once as once, Often as often}
use Rattle.mbe_program.proofs.Paths.{at_grown, at_newest, at_either, at_within, at_once, notes_tell, two_onward}

module _ (Cell Note : Type 0) (start : Cell) (Hop : Cell → Cell → List Note → Type 0)
    (tells : (from one other : Cell) (its those more rest : List Note) → Hop from one its → Hop from other those → its ++ more ≡ those ++ rest → (one ≡ other) × (its ≡ those))
    (decide : (a b : Cell) → (a ≡ b) ⊎ (a ≡ b → ⊥)) where
  abbrev pub Log : Type 0
  Log = List (Coming Cell Note)

  abbrev pub At : Log → ℕ → Coming Cell Note → Type 0
  At = IsAt Cell Note

  abbrev pub IsSource : Log → (before : ℕ) → (to : Cell) → (notes : List Note) → (is_many : Bool) → Type 0
  IsSource = Source Cell Note start Hop

  abbrev pub IsKept : (ways : Cell → Way) → (log : Log) → (Done : ℕ → Cell → List Note → Type 0) → Type 0
  IsKept = Kept Cell Note start Hop

  abbrev pub IsSet : (old new : Cell → Way) → Cell → Way → Type 0
  IsSet = Set Cell Note

  -- one more arrival was tried
  abbrev pub With : (ℕ → Cell → List Note → Type 0) → Coming Cell Note → ℕ → Cell → List Note → Type 0
  With Done it before to notes = Done before to notes ⊎ ((before ≡ it.before) × (to ≡ it.cell) × (notes ≡ it.notes))

  source_grown : (log : Log) (more : Log) (before : ℕ) (to : Cell) (notes : List Note) (is_many : Bool) → IsSource log before to notes is_many → IsSource (log ++ more) before to notes is_many
  source_grown log more zero to notes is_many source = source
  source_grown log more (suc j) to notes is_many (from, there, hop, same) = (from, at_grown Cell Note log more j from there, hop, same)

  pub source_within : (log : Log) (before : ℕ) (to : Cell) (notes : List Note) (is_many : Bool) → IsSource log before to notes is_many → before ≤ length log
  source_within log zero to notes is_many source = omega arith
  source_within log (suc j) to notes is_many (from, there, hop, same) = at_within Cell Note log j from there

  not_both : (b : Bool) → b ≡ true → b ≡ false → ⊥
  not_both b does lacks = let same : true ≡ false = sym does ∙ lacks in cc same

  either_bool : (b : Bool) → (b ≡ true) ⊎ (b ≡ false)
  either_bool true = inl refl
  either_bool false = inr refl

  module _ (ways : Cell → Way) (log : Log) (Done : ℕ → Cell → List Note → Type 0) (kept : IsKept ways log Done) where
    -- Each arrival ends a way, which its trace notes.
    comes_by : (fuel k : ℕ) (it : Coming Cell Note) → k < fuel → At log k it
        → (n : ℕ) × (notes : List Note) × Comes Cell Note start Hop n it.cell notes × Traces Cell Note log (suc n) (suc k) notes
    comes_by zero k it lt there = absurd (omega (arith, lt))
    comes_by (suc fuel) k it lt there =
        let own = kept.source k it there in
        by own.0 it.before refl own.1 own.3 (λ j from le. comes_by fuel j from (omega (arith, le, lt)))
      where
        by : (is_many : Bool) (before : ℕ) → it.before ≡ before → IsSource log before it.cell it.notes is_many → before ≤ k
            → ((j : ℕ) (from : Coming Cell Note) → suc j ≤ k → At log j from → (n : ℕ) × (notes : List Note) × Comes Cell Note start Hop n from.cell notes × Traces Cell Note log (suc n) (suc j) notes)
            → (n : ℕ) × (notes : List Note) × Comes Cell Note start Hop n it.cell notes × Traces Cell Note log (suc n) (suc k) notes
        by is_many zero same (at_start, none, single) le earlier = (0, [], (at_start, refl), (k, it, [], refl, there, (same, refl), sym none))
        by is_many (suc j) same (from, is, hop, count) le earlier =
            let then = earlier j from le is in (
              suc then.0,
              then.1 ++ it.notes,
              (from.cell, then.1, it.notes, then.2, hop, refl),
              (k, it, then.1, refl, there, subst (λ number. Traces Cell Note log (suc then.0) number then.1) (sym same) then.3, refl),
            )

    pub comes : (k : ℕ) (it : Coming Cell Note) → At log k it → (n : ℕ) × (notes : List Note) × Comes Cell Note start Hop n it.cell notes × Traces Cell Note log (suc n) (suc k) notes
    comes k it there = comes_by (suc k) k it (omega arith) there

    -- If two ways lead to an arrival, two lead where it hops.
    pub source_two : (before : ℕ) (to : Cell) (notes : List Note) (is_many : Bool) → IsSource log before to notes is_many → is_many ≡ true → AreTwo Cell Note start Hop to
    source_two zero to notes is_many (at_start, none, lacks) does = absurd (not_both is_many does lacks)
    source_two (suc j) to notes is_many (from, there, hop, same) does =
        two_onward Cell Note start Hop tells from.cell to notes hop (kept.two j from there (sym same ∙ does))

    -- Two different arrivals at a cell, with one way to each, are two ways.
    apart : (first second : ℕ) (to : Cell) (its those : List Note) → IsSource log first to its false → IsSource log second to those false → (first ≡ second → its ≡ those → ⊥)
        → AreTwo Cell Note start Hop to
    apart zero zero to its those (at, none, lacks) (also_at, also_none, also_no) differ = absurd (differ refl (none ∙ sym also_none))
    apart zero (suc j) to its those (at, none, lacks) (from, there, hop, same) differ =
        let then = comes j from there in
        record { n = 0; notes = []; m = suc then.0; others = then.1 ++ those; one = (at, refl); other = (from.cell, then.1, those, then.2, hop, refl); differ = λ count same. absurd (omega (arith, count)) }
    apart (suc j) zero to its those (from, there, hop, same) (at, none, lacks) differ =
        let then = comes j from there in
        record { n = suc then.0; notes = then.1 ++ its; m = 0; others = []; one = (from.cell, then.1, its, then.2, hop, refl); other = (at, refl); differ = λ count same. absurd (omega (arith, count)) }
    apart (suc j) (suc k) to its those (from, there, hop, same) (source, also_there, hopped, also_same) differ =
        elim (decide from.cell source.cell) [
          | inl one_cell ↦
              let own = comes j from there in
              let number : j ≡ k = kept.alone j k from source there also_there (sym same) (sym also_same) one_cell in
              record {
                n = suc own.0;
                notes = own.1 ++ its;
                m = suc own.0;
                others = own.1 ++ those;
                one = (from.cell, own.1, its, own.2, hop, refl);
                other = (from.cell, own.1, those, own.2, subst (λ cell. Hop cell to those) (sym one_cell) hopped, refl);
                differ = λ count notes_same. differ (ap suc number) (append_cancel_left own.1 its those notes_same);
              }
          | inr two_cells ↦
              let own = comes j from there in
              let other = comes k source also_there in
              record {
                n = suc own.0;
                notes = own.1 ++ its;
                m = suc other.0;
                others = other.1 ++ those;
                one = (from.cell, own.1, its, own.2, hop, refl);
                other = (source.cell, other.1, those, other.2, hopped, refl);
                differ = λ count notes_same. two_cells (meet own.0 other.0 from.cell source.cell own.1 other.1 count own.2 other.2 notes_same);
              }
        ]
      where
        meet : (n m : ℕ) (one other : Cell) (notes others : List Note) → suc n ≡ suc m → Comes Cell Note start Hop n one notes → Comes Cell Note start Hop m other others
            → notes ++ its ≡ others ++ those → one ≡ other
        meet n m one other notes others count here came notes_same =
            let steps : n ≡ m = omega (arith, count) in
            (notes_tell Cell Note start Hop tells n one other notes others its those here (subst (λ n. Comes Cell Note start Hop n other others) (sym steps) came) notes_same).0

    -- An arrival that was not tried, at a cell to which one way is known, is a second way.
    pub meets : (it : Coming Cell Note) → IsSource log it.before it.cell it.notes it.is_many → (Done it.before it.cell it.notes → ⊥) → ways it.cell ≡ once → AreTwo Cell Note start Hop it.cell
    meets it source new way =
        elim (either_bool it.is_many) [
          | inl does ↦ source_two it.before it.cell it.notes it.is_many source does
          | inr lacks ↦
              let known = kept.only it.cell way in
              let own = kept.source known.0 known.1 known.2 in
              let own_no : own.0 ≡ false = elim (either_bool own.0) [ inl does ↦ absurd (not_both known.1.is_many (own.2 does) known.4) | inr lacks ↦ lacks ] in
              apart known.1.before it.before it.cell known.1.notes it.notes
              (subst (λ cell. IsSource log known.1.before cell known.1.notes false) known.3 (subst (IsSource log known.1.before known.1.cell known.1.notes) own_no own.1))
              (subst (IsSource log it.before it.cell it.notes) lacks source)
              (λ number notes. new (subst (λ b. Done b it.cell it.notes) number
              (subst (λ l. Done known.1.before it.cell l) notes (subst (λ cell. Done known.1.before cell known.1.notes) known.3 (kept.logged known.0 known.1 known.2)))))
        ]

    -- One more arrival is logged.
    module _ (new_ways : Cell → Way) (it : Coming Cell Note) (is_many : Bool) (source : IsSource log it.before it.cell it.notes is_many) (raised : is_many ≡ true → it.is_many ≡ true)
        (set : IsSet ways new_ways it.cell (way_of it.is_many)) (is_two : it.is_many ≡ true → AreTwo Cell Note start Hop it.cell)
        (is_first : it.is_many ≡ false → ((before : ℕ) (notes : List Note) → Done before it.cell notes → ⊥) × ((k : ℕ) (other : Coming Cell Note) → At log k other → other.cell ≡ it.cell → ⊥)) where
      abbrev new_log : Log
      new_log = log ++ it ∷ []

      longer : length new_log ≡ suc (length log)
      longer = let count = length-append log (it ∷ []) in omega (arith, count)

      abbrev Now : ℕ → Cell → List Note → Type 0
      Now = With Done it

      elsewhere : (to : Cell) → (to ≡ it.cell → ⊥) → new_ways to ≡ ways to
      elsewhere = set.1

      here : (to : Cell) → to ≡ it.cell → new_ways to ≡ way_of it.is_many
      here to same = ap new_ways same ∙ set.0

      not_unseen : (b : Bool) → way_of b ≡ unseen → ⊥
      not_unseen true same = cc same
      not_unseen false same = cc same

      once_no : (b : Bool) → way_of b ≡ once → b ≡ false
      once_no true same = absurd (cc same)
      once_no false same = refl

      often_yes : (b : Bool) → way_of b ≡ often → b ≡ true
      often_yes true same = refl
      often_yes false same = absurd (cc same)

      now_source : (k : ℕ) (other : Coming Cell Note) → At new_log k other
          → (is_many : Bool) × IsSource new_log other.before other.cell other.notes is_many × (is_many ≡ true → other.is_many ≡ true) × (other.before ≤ k)
      now_source k other there =
          elim (at_either Cell Note log it k other there) [
            | inl old ↦ let own = kept.source k other old in (own.0, source_grown log (it ∷ []) other.before other.cell other.notes own.0 own.1, own.2, own.3)
            | inr (count, same) ↦ newest count same
          ]
        where
          newest : k ≡ length log → other ≡ it → (is_many : Bool) × IsSource new_log other.before other.cell other.notes is_many × (is_many ≡ true → other.is_many ≡ true) × (other.before ≤ k)
          newest count same =
              let le = source_within log it.before it.cell it.notes is_many source in
              subst (λ (other : Coming Cell Note). (is_many : Bool) × IsSource new_log other.before other.cell other.notes is_many × (is_many ≡ true → other.is_many ≡ true) × (other.before ≤ k)) (sym same)
              (is_many, source_grown log (it ∷ []) it.before it.cell it.notes is_many source, raised, omega (arith, le, count))

      now_two : (k : ℕ) (other : Coming Cell Note) → At new_log k other → other.is_many ≡ true → AreTwo Cell Note start Hop other.cell
      now_two k other there does =
          elim (at_either Cell Note log it k other there) [
            | inl old ↦ kept.two k other old does
            | inr (count, same) ↦
                subst (λ (other : Coming Cell Note). AreTwo Cell Note start Hop other.cell) (sym same) (is_two (ap (λ (other : Coming Cell Note). other.is_many) (sym same) ∙ does))
          ]

      now_logged : (k : ℕ) (other : Coming Cell Note) → At new_log k other → Now other.before other.cell other.notes
      now_logged k other there =
          elim (at_either Cell Note log it k other there) [
            | inl old ↦ inl (kept.logged k other old)
            | inr (count, same) ↦ inr (ap (λ (other : Coming Cell Note). other.before) same, ap (λ (other : Coming Cell Note). other.cell) same, ap (λ (other : Coming Cell Note). other.notes) same)
          ]

      now_alone : (k j : ℕ) (one other : Coming Cell Note) → At new_log k one → At new_log j other → one.is_many ≡ false → other.is_many ≡ false → one.cell ≡ other.cell → k ≡ j
      now_alone k j one other there also lacks also_no same_cell =
          elim (at_either Cell Note log it k one there) [
            | inl old ↦ elim (at_either Cell Note log it j other also) [
              | inl also_old ↦ kept.alone k j one other old also_old lacks also_no same_cell
              | inr (count, same) ↦ absurd (taken k one other same also_no old same_cell)
            ]
            | inr (count, same) ↦ elim (at_either Cell Note log it j other also) [
              | inl also_old ↦ absurd (taken j other one same lacks also_old (sym same_cell))
              | inr (also_count, also_same) ↦ count ∙ sym also_count
            ]
          ]
        where
          taken : (k : ℕ) (old newest : Coming Cell Note) → newest ≡ it → newest.is_many ≡ false → At log k old → old.cell ≡ newest.cell → ⊥
          taken k old newest same lacks there cells =
              (is_first (ap (λ (other : Coming Cell Note). other.is_many) (sym same) ∙ lacks)).1 k old there (cells ∙ ap (λ (other : Coming Cell Note). other.cell) same)

      now_within : (before : ℕ) (to : Cell) (notes : List Note) → Now before to notes → before ≤ length new_log
      now_within before to notes (inl done) = let le = kept.within before to notes done in omega (arith, le, longer)
      now_within before to notes (inr (same, cell, those)) = let le = source_within log it.before it.cell it.notes is_many source in omega (arith, le, longer, same)

      now_not_yet : (to : Cell) → new_ways to ≡ unseen → ((before : ℕ) (notes : List Note) → Now before to notes → ⊥) × ((k : ℕ) (other : Coming Cell Note) → At new_log k other → other.cell ≡ to → ⊥)
      now_not_yet to way =
          elim (decide to it.cell) [
            | inl same ↦ absurd (not_unseen it.is_many (sym (here to same) ∙ way))
            | inr differs ↦ by differs (kept.not_yet to (sym (elsewhere to differs) ∙ way))
          ]
        where
          by : (to ≡ it.cell → ⊥) → ((before : ℕ) (notes : List Note) → Done before to notes → ⊥) × ((k : ℕ) (other : Coming Cell Note) → At log k other → other.cell ≡ to → ⊥)
              → ((before : ℕ) (notes : List Note) → Now before to notes → ⊥) × ((k : ℕ) (other : Coming Cell Note) → At new_log k other → other.cell ≡ to → ⊥)
          by differs (none, nothing) = (no_done, no_entry)
            where
              no_done : (before : ℕ) (notes : List Note) → Now before to notes → ⊥
              no_done before notes (inl done) = none before notes done
              no_done before notes (inr (same, cell, those)) = differs cell

              no_entry : (k : ℕ) (other : Coming Cell Note) → At new_log k other → other.cell ≡ to → ⊥
              no_entry k other there cell =
                  elim (at_either Cell Note log it k other there) [
                    | inl old ↦ nothing k other old cell
                    | inr (count, same) ↦ differs (sym cell ∙ ap (λ (other : Coming Cell Note). other.cell) same)
                  ]

      now_only : (to : Cell) → new_ways to ≡ once → (k : ℕ) × (other : Coming Cell Note) × At new_log k other × (other.cell ≡ to) × (other.is_many ≡ false)
          × ((before : ℕ) (notes : List Note) → Now before to notes → (before ≡ other.before) × (notes ≡ other.notes))
      now_only to way =
          elim (decide to it.cell) [
            | inl same ↦ newest same (once_no it.is_many (sym (here to same) ∙ way))
            | inr differs ↦ older differs (kept.only to (sym (elsewhere to differs) ∙ way))
          ]
        where
          newest : to ≡ it.cell → it.is_many ≡ false → (k : ℕ) × (other : Coming Cell Note) × At new_log k other × (other.cell ≡ to) × (other.is_many ≡ false)
              × ((before : ℕ) (notes : List Note) → Now before to notes → (before ≡ other.before) × (notes ≡ other.notes))
          newest same lacks = (length log, it, at_newest Cell Note log it, sym same, lacks, unique)
            where
              unique : (before : ℕ) (notes : List Note) → Now before to notes → (before ≡ it.before) × (notes ≡ it.notes)
              unique before notes (inl done) = absurd ((is_first lacks).0 before notes (subst (λ cell. Done before cell notes) same done))
              unique before notes (inr (number, cell, those)) = (number, those)

          older : (to ≡ it.cell → ⊥) → ((k : ℕ) × (other : Coming Cell Note) × At log k other × (other.cell ≡ to) × (other.is_many ≡ false)
              × ((before : ℕ) (notes : List Note) → Done before to notes → (before ≡ other.before) × (notes ≡ other.notes)))
              → (k : ℕ) × (other : Coming Cell Note) × At new_log k other × (other.cell ≡ to) × (other.is_many ≡ false)
              × ((before : ℕ) (notes : List Note) → Now before to notes → (before ≡ other.before) × (notes ≡ other.notes))
          older differs (k, other, there, cell, lacks, known) = (k, other, at_grown Cell Note log (it ∷ []) k other there, cell, lacks, unique)
            where
              unique : (before : ℕ) (notes : List Note) → Now before to notes → (before ≡ other.before) × (notes ≡ other.notes)
              unique before notes (inl done) = known before notes done
              unique before notes (inr (number, same, those)) = absurd (differs same)

      now_many : (to : Cell) → new_ways to ≡ often → (k : ℕ) × (other : Coming Cell Note) × At new_log k other × (other.cell ≡ to) × (other.is_many ≡ true)
      now_many to way =
          elim (decide to it.cell) [
            | inl same ↦ (length log, it, at_newest Cell Note log it, sym same, often_yes it.is_many (sym (here to same) ∙ way))
            | inr differs ↦
                let old = kept.many to (sym (elsewhere to differs) ∙ way) in
                (old.0, old.1, at_grown Cell Note log (it ∷ []) old.0 old.1 old.2, old.3, old.4)
          ]

      now_onward : (j : ℕ) (from : Coming Cell Note) (to : Cell) (notes : List Note) → Now (suc j) to notes → At new_log j from → from.is_many ≡ true → new_ways to ≡ often
      now_onward j from to notes done there does =
          elim (at_either Cell Note log it j from there) [
            | inl old ↦ elim done [
              | inl tried ↦ elsewhere_often tried (kept.onward j from to notes tried old does)
              | inr (number, cell, those) ↦ at_it number cell old
            ]
            | inr (count, same) ↦ absurd (too_late count done)
          ]
        where
          too_late : j ≡ length log → Now (suc j) to notes → ⊥
          too_late count (inl tried) = let le = kept.within (suc j) to notes tried in omega (arith, le, count)
          too_late count (inr (number, cell, those)) = let le = source_within log it.before it.cell it.notes is_many source in omega (arith, le, count, number)

          elsewhere_often : Done (suc j) to notes → ways to ≡ often → new_ways to ≡ often
          elsewhere_often tried way =
              elim (decide to it.cell) [
                | inl same ↦ elim (either_bool it.is_many) [
                  | inl does ↦ here to same ∙ ap way_of does
                  | inr lacks ↦ absurd ((is_first lacks).0 (suc j) notes (subst (λ cell. Done (suc j) cell notes) same tried))
                ]
                | inr differs ↦ elsewhere to differs ∙ way
              ]

          at_it : suc j ≡ it.before → to ≡ it.cell → At log j from → new_ways to ≡ often
          at_it number cell old =
              let own = subst (λ before. IsSource log before it.cell it.notes is_many) (sym number) source in
              let one = at_once Cell Note log j from own.0 old own.1 in
              let yes_source : is_many ≡ true = own.3 ∙ ap (λ (other : Coming Cell Note). other.is_many) (sym one) ∙ does in
              here to cell ∙ ap way_of (raised yes_source)

      pub pushed_kept : IsKept new_ways new_log Now
      pushed_kept =
          record {
            source = now_source;
            two = now_two;
            logged = now_logged;
            alone = now_alone;
            within = now_within;
            not_yet = now_not_yet;
            only = now_only;
            many = now_many;
            onward = now_onward;
          }
