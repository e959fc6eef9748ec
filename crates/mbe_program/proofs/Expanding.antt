-- A search in which one more arrival goes on.
use Rattle.std.proofs.Common.{◌≡◌, inl, inr, ◌<◌, ◌≤◌, ℕ, zero, suc, true, List, [], ◌∷◌, ◌++◌, length, refl, ap, sym, subst, ◌∙◌, arith, append-nil, append_assoc, cond}
use Rattle.std.specs.Prelude.{Contains, ◌⊎◌}
use Rattle.mbe_matcher.specs.Fragments.{reach}
use Rattle.mbe_matcher.specs.Marks.{Note}
use Rattle.mbe_pattern.specs.Units.{IsNodeOf}
use Rattle.tt.specs.Forest.{Forest, end, leaf, node}
use Rattle.tt.specs.Siblings.{is_end}
use Rattle.tt.specs.Types.DelimiterKind.{DelimiterKind}
use Rattle.mbe_program.specs.Cells.{IsCell, HopsFrom, Hop, start}
use Rattle.mbe_program.specs.Tables.{Table, IsTableOf, passed_to}
use Rattle.mbe_program.specs.Moving.{notes_of_mark, IsMove}
use Rattle.mbe_program.specs.Program.{Instruction, take, pass, enter, leave, begin, close, place_at}
use Rattle.mbe_program.specs.Searching.{log_of, ways_of, AreAlike, HasRows, IsRoomy, HaveGoneOn, coming_by}
use Rattle.mbe_program.specs.Ways.{Coming, IsAt, IsKept, IsAdded, IsSource, Tried}
use Rattle.mbe_program.specs.declared.cell.Cell.{Cell}
use Rattle.mbe_program.specs.declared.moves.Move.{Move}
use Rattle.mbe_program.specs.declared.search.Search.{Search}
use Rattle.mbe_program.specs.declared.search.Way.{Way}
use Rattle.mbe_program.proofs.Adding.{added_kept, added_grown, gone_on}
use Rattle.mbe_program.proofs.Arriving.{With}
use Rattle.mbe_program.proofs.Hops.{is_placed, place_within}
use Rattle.mbe_program.proofs.Paths.{at_grown, at_either}
use Rattle.mbe_program.proofs.Placed.{is_within, behind_first}
use Rattle.mbe_program.proofs.Telling.{tells, decide}

-- the cell is one of the table and the program
abbrev pub IsInside : (program : List Instruction) → Table → Cell → Type 0
IsInside program table it = (it.position < table.count) × (it.left ≤ length program)

module _ (program : List Instruction) (table : Table) (input : Forest) (is : IsTableOf program input table) where
  next_inside : (n : ℕ) (own : Forest) → table.trees n ≡ own → n < table.count → cond (is_end own) n (suc n) < table.count
  next_inside n end same within = within
  next_inside n (leaf it rest) same within = onward n within (λ none. let both : leaf it rest ≡ end = sym same ∙ none in cc both)
    where
      onward : (n : ℕ) → n < table.count → (table.trees n ≡ end → ⊥) → suc n < table.count
      onward zero within goes = absurd (goes is.nowhere)
      onward (suc n) within goes = (is.next (suc n) (omega arith) within goes).0
  next_inside n (node kind children rest) same within = onward n within (λ none. let both : node kind children rest ≡ end = sym same ∙ none in cc both)
    where
      onward : (n : ℕ) → n < table.count → (table.trees n ≡ end → ⊥) → suc n < table.count
      onward zero within goes = absurd (goes is.nowhere)
      onward (suc n) within goes = (is.next (suc n) (omega arith) within goes).0

  passed_inside : (count n : ℕ) → n < table.count → passed_to table count n < table.count
  passed_inside zero n within = within
  passed_inside (suc count) n within = passed_inside count (cond (is_end (table.trees n)) n (suc n)) (next_inside n (table.trees n) refl within)

  cell_inside : (to : Cell) (position left : ℕ) → IsCell to position left → position < table.count → left ≤ length program → IsInside program table to
  cell_inside to position left (at, count) within most = (omega (arith, at, within), omega (arith, count, most))

  behind_inside : (it : Instruction) (rest : List Instruction) (left : ℕ) → place_at program left ≡ it ∷ rest → length rest ≤ length program
  behind_inside it rest left same = place_within program input table is rest (behind_first program it rest (is_placed program input table is left (it ∷ rest) same))

  node_inside : (kind : DelimiterKind) (n : ℕ) → Contains program (enter kind) → n < table.count → HopsFrom program table (enter kind ∷ []) n (record { position = table.inside n; left = 0 }) [] → table.inside n < table.count
  node_inside kind zero enters within hops = let none : IsNodeOf kind end = subst (IsNodeOf kind) is.nowhere hops.0 in absurd none
  node_inside kind (suc n) enters within hops = (is.into (suc n) (omega arith) within kind enters hops.0).1

  hops_inside : (place : List Instruction) (from to : Cell) (its : List Note) → place_at program from.left ≡ place → from.position < table.count → HopsFrom program table place from.position to its → IsInside program table to
  hops_inside [] from to its same within hops = absurd hops
  hops_inside (take which ∷ rest) from to its same within (some, takes, at, noted) =
      cell_inside to _ _ at (passed_inside (reach which.fragment (table.trees from.position)) from.position within) (behind_inside (take which) rest from.left same)
  hops_inside (pass leaves ∷ rest) from to its same within (like, at, noted) =
      cell_inside to _ _ at (passed_inside (length leaves) from.position within) (behind_inside (pass leaves) rest from.left same)
  hops_inside (enter kind ∷ rest) from to its same within (node_is, at, noted) =
      cell_inside to _ _ at (node_inside kind from.position (is_within program (enter kind) rest (is_placed program input table is from.left (enter kind ∷ rest) same)) within (node_is, (refl, refl), refl)) (behind_inside (enter kind) rest from.left same)
  hops_inside (leave ∷ rest) from to its same within (some, at_end, at, noted) =
      cell_inside to _ _ at (is.out from.position within) (behind_inside leave rest from.left same)
  hops_inside (begin op first behind ∷ rest) from to its same within (inl (at, noted)) = cell_inside to _ _ at within (omega arith)
  hops_inside (begin op first behind ∷ rest) from to its same within (inr (may, at, noted)) = cell_inside to _ _ at within (omega arith)
  hops_inside (close op again ∷ rest) from to its same within (inl (may, at, noted)) = cell_inside to _ _ at within (omega arith)
  hops_inside (close op again ∷ rest) from to its same within (inr (at, noted)) = cell_inside to _ _ at within (behind_inside (close op again) rest from.left same)

  -- A hop leads to a cell of the table and the program.
  pub hop_inside : (from to : Cell) (its : List Note) → from.position < table.count → Hop program table from to its → IsInside program table to
  hop_inside from to its within hop = hops_inside (place_at program from.left) from to its refl within hop

  abbrev Log : Type 0
  Log = List (Coming Cell Note)

  abbrev Now : Log → ℕ → ℕ → Cell → List Note → Type 0
  Now = Tried Cell Note (start program table) (Hop program table)

  abbrev Plus : (ℕ → Cell → List Note → Type 0) → Coming Cell Note → ℕ → Cell → List Note → Type 0
  Plus = With Cell Note (start program table) (Hop program table) (tells program table) decide

  pub added_inside : (it : Coming Cell Note) (ways new_ways : Cell → Way) (log new_log : Log) → IsInside program table it.cell → ((k : ℕ) (it : Coming Cell Note) → IsAt Cell Note log k it → IsInside program table it.cell)
      → IsAdded Cell Note it ways log new_ways new_log → (k : ℕ) (other : Coming Cell Note) → IsAt Cell Note new_log k other → IsInside program table other.cell
  added_inside it ways new_ways log new_log own inside (inl (way, set, log_is)) k other there =
      elim (at_either Cell Note log it k other (subst (λ log. IsAt Cell Note log k other) log_is there)) [
        | inl old ↦ inside k other old
        | inr (count, same) ↦ subst (λ (it : Coming Cell Note). IsInside program table it.cell) (sym same) own
      ]
  added_inside it ways new_ways log new_log own inside (inr (inl (way, set, log_is))) k other there =
      elim (at_either Cell Note log (record it { is_many = true }) k other (subst (λ log. IsAt Cell Note log k other) log_is there)) [
        | inl old ↦ inside k other old
        | inr (count, same) ↦ subst (λ (it : Coming Cell Note). IsInside program table it.cell) (sym same) own
      ]
  added_inside it ways new_ways log new_log own inside (inr (inr (way, all, log_is))) k other there = inside k other (subst (λ log. IsAt Cell Note log k other) log_is there)

  module _ (i : ℕ) (old : Search) (from : Coming Cell Note) (there : IsAt Cell Note (log_of old) i from) (gone : HaveGoneOn program table i old) where
    source : (step : Move) → Hop program table from.cell step.to (notes_of_mark step.mark)
        → IsSource Cell Note (start program table) (Hop program table) (log_of old) (suc i) step.to (notes_of_mark step.mark) from.is_many
    source step hop = (from, there, hop, refl)

    not_tried : (to : Cell) (notes : List Note) → Now (log_of old) i (suc i) to notes → ⊥
    not_tried to notes tried = let less = tried.0 in omega (arith, less)

    -- No hop leads on.
    pub went_nowhere : ((to : Cell) → (its : List Note) → Hop program table from.cell to its → ⊥) → suc i ≤ length (log_of old) → HaveGoneOn program table (suc i) old
    went_nowhere none upto =
        record {
          kept = subst (λ log. IsKept Cell Note (start program table) (Hop program table) (ways_of old) log (Now log (suc i))) (append-nil (log_of old))
              (gone_on Cell Note (start program table) (Hop program table) (tells program table) decide (ways_of old) (log_of old) [] (Now (log_of old) i) i from there
              (λ before to notes tried. tried) (λ to notes hop. absurd (none to notes hop)) (λ before to notes tried. inl tried)
              (subst (λ log. IsKept Cell Note (start program table) (Hop program table) (ways_of old) log (Now (log_of old) i)) (sym (append-nil (log_of old))) gone.kept));
          upto = upto;
          sized = gone.sized;
          roomy = gone.roomy;
          inside = gone.inside;
        }

    -- what is known when arrivals by hops were added
    record HasAdded (search : Search) (Done : ℕ → Cell → List Note → Type 0) : Type 1 where
      more : Log
      grown : log_of search ≡ log_of old ++ more
      kept : IsKept Cell Note (start program table) (Hop program table) (ways_of search) (log_of search) Done
      sized : HasRows table.count (suc (length program)) search
      roomy : IsRoomy search
      inside : (k : ℕ) (it : Coming Cell Note) → IsAt Cell Note (log_of search) k it → IsInside program table it.cell

    add_first : (new : Search) (step : Move) → Hop program table from.cell step.to (notes_of_mark step.mark)
        → IsAdded Cell Note (coming_by from i step) (ways_of old) (log_of old) (ways_of new) (log_of new) → IsRoomy new
        → AreAlike new old → HasAdded new (Plus (Now (log_of old) i) (coming_by from i step))
    add_first new step hop added roomy alike =
        let it = coming_by from i step in
        let grown = added_grown Cell Note (start program table) (Hop program table) (tells program table) decide (ways_of old) (ways_of new) (log_of old) (log_of new) it added in
        record {
          more = grown.0;
          grown = grown.1;
          kept = added_kept Cell Note (start program table) (Hop program table) (tells program table) decide (ways_of old) (ways_of new) (log_of old) (log_of new) (Now (log_of old) i) it gone.kept
              (source step hop) (not_tried step.to (notes_of_mark step.mark)) added;
          sized = (alike.0 ∙ gone.sized.0, alike.1 ∙ gone.sized.1);
          roomy = roomy;
          inside = added_inside it (ways_of old) (ways_of new) (log_of old) (log_of new) (hop_inside from.cell step.to (notes_of_mark step.mark) (gone.inside i from there).0 hop) gone.inside added;
        }

    add_second : (middle new : Search) (one step : Move) → HasAdded middle (Plus (Now (log_of old) i) (coming_by from i one)) → Hop program table from.cell step.to (notes_of_mark step.mark)
        → (notes_of_mark one.mark ≡ notes_of_mark step.mark → ⊥)
        → IsAdded Cell Note (coming_by from i step) (ways_of middle) (log_of middle) (ways_of new) (log_of new) → IsRoomy new
        → AreAlike new middle → HasAdded new (Plus (Plus (Now (log_of old) i) (coming_by from i one)) (coming_by from i step))
    add_second middle new one step has hop differ added roomy alike =
        let it = coming_by from i step in
        let grown = added_grown Cell Note (start program table) (Hop program table) (tells program table) decide (ways_of middle) (ways_of new) (log_of middle) (log_of new) it added in
        record {
          more = has.more ++ grown.0;
          grown = grown.1 ∙ ap (λ l. l ++ grown.0) has.grown ∙ append_assoc (log_of old) has.more grown.0;
          kept = added_kept Cell Note (start program table) (Hop program table) (tells program table) decide (ways_of middle) (ways_of new) (log_of middle) (log_of new)
              (Plus (Now (log_of old) i) (coming_by from i one)) it has.kept
              (subst (λ log. IsSource Cell Note (start program table) (Hop program table) log (suc i) step.to (notes_of_mark step.mark) from.is_many) (sym has.grown)
              (from, at_grown Cell Note (log_of old) has.more i from there, hop, refl))
              not_yet added;
          sized = (alike.0 ∙ has.sized.0, alike.1 ∙ has.sized.1);
          roomy = roomy;
          inside = added_inside it (ways_of middle) (ways_of new) (log_of middle) (log_of new) (hop_inside from.cell step.to (notes_of_mark step.mark) (gone.inside i from there).0 hop) has.inside added;
        }
      where
        not_yet : Plus (Now (log_of old) i) (coming_by from i one) (suc i) step.to (notes_of_mark step.mark) → ⊥
        not_yet (inl tried) = not_tried step.to (notes_of_mark step.mark) tried
        not_yet (inr (same, cell, notes)) = differ (sym notes)

    finished : (new : Search) (Done : ℕ → Cell → List Note → Type 0) → HasAdded new Done → suc i ≤ length (log_of old)
        → ((before : ℕ) (to : Cell) (notes : List Note) → Now (log_of old) i before to notes → Done before to notes)
        → ((to : Cell) (notes : List Note) → Hop program table from.cell to notes → Done (suc i) to notes)
        → ((before : ℕ) (to : Cell) (notes : List Note) → Done before to notes → Now (log_of old) i before to notes ⊎ ((before ≡ suc i) × Hop program table from.cell to notes))
        → HaveGoneOn program table (suc i) new
    finished new Done has upto olds news only =
        let longer = length_grown (log_of old) has.more in
        let count = ap length has.grown in
        record {
          kept = subst (λ log. IsKept Cell Note (start program table) (Hop program table) (ways_of new) log (Now log (suc i))) (sym has.grown)
              (gone_on Cell Note (start program table) (Hop program table) (tells program table) decide (ways_of new) (log_of old) has.more Done i from there olds news only
              (subst (λ log. IsKept Cell Note (start program table) (Hop program table) (ways_of new) log Done) has.grown has.kept));
          upto = omega (arith, upto, longer, count);
          sized = has.sized;
          roomy = has.roomy;
          inside = has.inside;
        }
      where
        length_grown : (log more : Log) → length log ≤ length (log ++ more)
        length_grown [] more = omega arith
        length_grown (x ∷ log) more = let rest = length_grown log more in omega (arith, rest)

    -- One hop leads on.
    pub went_one : (new : Search) (step : Move) → suc i ≤ length (log_of old) → Hop program table from.cell step.to (notes_of_mark step.mark)
        → ((to : Cell) → (its : List Note) → Hop program table from.cell to its → IsMove step to its)
        → IsAdded Cell Note (coming_by from i step) (ways_of old) (log_of old) (ways_of new) (log_of new) → IsRoomy new
        → AreAlike new old → HaveGoneOn program table (suc i) new
    went_one new step upto hop all added roomy alike =
        finished new (Plus (Now (log_of old) i) (coming_by from i step)) (add_first new step hop added roomy alike) upto
        (λ before to notes tried. inl tried) (λ to notes hopped. let moved = all to notes hopped in inr (refl, moved.0, moved.1)) only
      where
        only : (before : ℕ) (to : Cell) (notes : List Note) → Plus (Now (log_of old) i) (coming_by from i step) before to notes
            → Now (log_of old) i before to notes ⊎ ((before ≡ suc i) × Hop program table from.cell to notes)
        only before to notes (inl tried) = inl tried
        only before to notes (inr (same, cell, those)) = inr (same, subst (Hop program table from.cell to) (sym those) (subst (λ to. Hop program table from.cell to (notes_of_mark step.mark)) (sym cell) hop))

    -- Two hops lead on.
    pub went_two : (middle new : Search) (one step : Move) → suc i ≤ length (log_of old) → Hop program table from.cell one.to (notes_of_mark one.mark) → Hop program table from.cell step.to (notes_of_mark step.mark)
        → (notes_of_mark one.mark ≡ notes_of_mark step.mark → ⊥)
        → ((to : Cell) → (its : List Note) → Hop program table from.cell to its → IsMove one to its ⊎ IsMove step to its)
        → IsAdded Cell Note (coming_by from i one) (ways_of old) (log_of old) (ways_of middle) (log_of middle) → IsRoomy middle
        → AreAlike middle old
        → IsAdded Cell Note (coming_by from i step) (ways_of middle) (log_of middle) (ways_of new) (log_of new) → IsRoomy new
        → AreAlike new middle → HaveGoneOn program table (suc i) new
    went_two middle new one step upto hop hopped differ all added roomy alike added_too roomy_too alike_too =
        finished new (Plus (Plus (Now (log_of old) i) (coming_by from i one)) (coming_by from i step))
        (add_second middle new one step (add_first middle one hop added roomy alike) hopped differ added_too roomy_too alike_too) upto
        (λ before to notes tried. inl (inl tried)) (λ to notes moved. either to notes (all to notes moved)) only
      where
        either : (to : Cell) (notes : List Note) → IsMove one to notes ⊎ IsMove step to notes → Plus (Plus (Now (log_of old) i) (coming_by from i one)) (coming_by from i step) (suc i) to notes
        either to notes (inl moved) = inl (inr (refl, moved.0, moved.1))
        either to notes (inr moved) = inr (refl, moved.0, moved.1)

        only : (before : ℕ) (to : Cell) (notes : List Note) → Plus (Plus (Now (log_of old) i) (coming_by from i one)) (coming_by from i step) before to notes
            → Now (log_of old) i before to notes ⊎ ((before ≡ suc i) × Hop program table from.cell to notes)
        only before to notes (inl (inl tried)) = inl tried
        only before to notes (inl (inr (same, cell, those))) = inr (same, subst (Hop program table from.cell to) (sym those) (subst (λ to. Hop program table from.cell to (notes_of_mark one.mark)) (sym cell) hop))
        only before to notes (inr (same, cell, those)) = inr (same, subst (Hop program table from.cell to) (sym those) (subst (λ to. Hop program table from.cell to (notes_of_mark step.mark)) (sym cell) hopped))
