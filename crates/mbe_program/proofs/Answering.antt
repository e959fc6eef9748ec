-- What a search that is done has found.
use Rattle.std.proofs.Common.{◌≡◌, ◌+◌, ◌<◌, ℕ, zero, suc, List, [], ◌∷◌, ◌++◌, length, refl, ap, ap₂, sym, subst, ◌∙◌, arith, append-nil}
use Rattle.std.proofs.lemmas.List.{length-drop}
use Rattle.std.specs.Prelude.{◌-◌}
use Rattle.mbe_matcher.specs.Marks.{Note}
use Rattle.tt.specs.Forest.{Forest}
use Rattle.mbe_program.specs.Answers.{HasNoRun, HasOneRun, HasTwoRuns, HasLeft, Reaches}
use Rattle.mbe_program.specs.Program.{Instruction, place_at}
use Rattle.mbe_program.specs.Runs.{Goes, IsOver, IsRun}
use Rattle.mbe_program.specs.declared.cell.Cell.{Cell}
use Rattle.mbe_program.specs.Cells.{Hop, start, finish}
use Rattle.mbe_program.specs.Tables.{Table, IsTableOf, AreLevels}
use Rattle.mbe_program.specs.Ways.{Coming, IsAt, Traces, Comes, AreTwo, IsKept}
use Rattle.mbe_program.specs.declared.search.Way.{Way}
use Rattle.mbe_program.specs.declared.search.Way.TheVariants.{Unseen as unseen, Once as once, Often as often}
use Rattle.mbe_program.proofs.Arriving.{comes}
use Rattle.mbe_program.proofs.Arrived.{seen, reached, one_way, two_ways}
use Rattle.mbe_program.proofs.Hops.{Fits}
use Rattle.mbe_program.proofs.Landing.{Ways, has_come, arrives}
use Rattle.mbe_program.proofs.Levels.{left_of}
use Rattle.mbe_program.proofs.Paths.{at_once}
use Rattle.mbe_program.proofs.Telling.{tells, decide, same_count}

-- A number of a log has only one trace.
traces_once : (log : List (Coming Cell Note)) (n m number : ℕ) (one other : List Note) → Traces Cell Note log n number one → Traces Cell Note log m number other → one ≡ other
traces_once log zero zero number one other is was = is.1 ∙ sym was.1
traces_once log zero (suc m) number one other is (k, it, before, same, there, traces, noted) = let none = is.0 in absurd (omega (arith, none, same))
traces_once log (suc n) zero number one other (k, it, before, same, there, traces, noted) was = let none = was.0 in absurd (omega (arith, none, same))
traces_once log (suc n) (suc m) number one other (k, it, before, same, there, traces, noted) (j, that, earlier, also, also_there, traced, noted_too) =
    let numbers : j ≡ k = omega (arith, same, also) in
    let it_is : that ≡ it = at_once Cell Note log k that it (subst (λ j. IsAt Cell Note log j that) numbers also_there) there in
    let before_is = traces_once log n m it.before before earlier traces (subst (λ (it : Coming Cell Note). Traces Cell Note log m it.before earlier) it_is traced) in
    noted ∙ ap₂ (λ (a b : List Note). a ++ b) before_is (ap (λ (it : Coming Cell Note). it.notes) (sym it_is)) ∙ sym noted_too

module _ (program : List Instruction) (input : Forest) (table : Table) (is : IsTableOf program input table) (ways : Cell → Way) (log : List (Coming Cell Note)) (Done : ℕ → Cell → List Note → Type 0)
    (kept : IsKept Cell Note (start program table) (Hop program table) ways log Done) (begins : Done 0 (start program table) [])
    (goes : (j : ℕ) (from : Coming Cell Note) (to : Cell) (its : List Note) → IsAt Cell Note log j from → Hop program table from.cell to its → Done (suc j) to its) where
  -- A run ends at the last cell.
  at_finish : (to : Cell) (place : List Instruction) (levels : List Forest) → Fits program input table is to place levels → IsOver place levels → to ≡ finish program table
  at_finish to place levels fits (over, out) =
      let position : to.position ≡ 0 = subst (λ levels. AreLevels table to.position levels) out fits.levels_are in
      let none : length (place_at program to.left) ≡ 0 = ap length (fits.place_is ∙ over) in
      let count = length-drop (length program - to.left) program in
      let within = fits.within in
      let left : to.left ≡ 0 = omega (arith, none, count, within) in
      ap₂ (λ (position left : ℕ). let it : Cell = record { position = position; left = left } in it) position left

  over_at_finish : (place : List Instruction) (levels : List Forest) → Fits program input table is (finish program table) place levels → IsOver place levels
  over_at_finish place levels fits = (nothing place fits.place_is, none levels fits.levels_are)
    where
      none : (levels : List Forest) → AreLevels table 0 levels → levels ≡ []
      none [] are = refl
      none (trees ∷ outer) are = let some : 0 < 0 = are.0 in absurd (omega (arith, some))

      nothing : (place : List Instruction) → place_at program 0 ≡ place → place ≡ []
      nothing [] same = refl
      nothing (it ∷ rest) same =
          let count : length (place_at program 0) ≡ suc (length rest) = ap length same in
          let dropped = length-drop (length program - 0) program in
          absurd (omega (arith, count, dropped))

  run_comes : (n : ℕ) (notes : List Note) → Goes program IsOver n program (input ∷ []) notes → Ways program input table is IsOver n (finish program table) notes
  run_comes n notes run =
      let end = arrives program input table is IsOver n notes run in
      subst (λ to. Ways program input table is IsOver n to notes) (at_finish end.to end.place end.levels end.fits end.is_last) end.ways

  comes_runs : (n : ℕ) (notes : List Note) → Ways program input table is IsOver n (finish program table) notes → Goes program IsOver n program (input ∷ []) notes
  comes_runs n notes way =
      let come = has_come program input table is IsOver n (finish program table) notes way in
      let count : n + 0 ≡ n = omega arith in
      subst (λ k. Goes program IsOver k program (input ∷ []) notes) count
      (subst (Goes program IsOver (n + 0) program (input ∷ [])) (append-nil notes) (come.onward 0 [] (over_at_finish come.place come.levels come.fits, refl)))

  -- No run,
  pub none_found : ways (finish program table) ≡ unseen → HasNoRun program input
  none_found way notes (n, run) =
      seen Cell Note (start program table) (Hop program table) (tells program table) decide ways log Done kept begins goes n (finish program table) notes (run_comes n notes run) way

  -- one run, which an arrival at the last cell traces,
  pub one_found : ways (finish program table) ≡ once → (k : ℕ) (it : Coming Cell Note) → IsAt Cell Note log k it → it.cell ≡ finish program table → (m : ℕ) (notes : List Note)
      → Traces Cell Note log m (suc k) notes → HasOneRun program input notes
  one_found way k it there at_last m notes traces =
      record { runs = runs; alone = alone }
    where
      own : (n : ℕ) × (notes : List Note) × Comes Cell Note (start program table) (Hop program table) n it.cell notes × Traces Cell Note log (suc n) (suc k) notes
      own = comes Cell Note (start program table) (Hop program table) (tells program table) decide ways log Done kept k it there

      runs : IsRun program input notes
      runs =
          let same : own.1 ≡ notes = traces_once log (suc own.0) m (suc k) own.1 notes own.3 traces in
          (own.0, subst (Goes program IsOver own.0 program (input ∷ [])) same (comes_runs own.0 own.1 (subst (λ to. Ways program input table is IsOver own.0 to own.1) at_last own.2)))

      one : (n : ℕ) (others : List Note) → Goes program IsOver n program (input ∷ []) others → (number : ℕ) × Traces Cell Note log (suc n) (suc number) others
      one n others run = (_, one_way Cell Note (start program table) (Hop program table) (tells program table) decide ways log Done kept begins goes n (finish program table) others (run_comes n others run) way)

      alone : (others : List Note) → IsRun program input others → others ≡ notes
      alone others (n, run) =
          let theirs = one_way Cell Note (start program table) (Hop program table) (tells program table) decide ways log Done kept begins goes n (finish program table) others (run_comes n others run) way in
          let ours = one_way Cell Note (start program table) (Hop program table) (tells program table) decide ways log Done kept begins goes runs.0 (finish program table) notes (run_comes runs.0 notes runs.1) way in
          traces_once log (suc n) (suc runs.0) _ others notes theirs ours

  -- or two.
  pub two_found : ways (finish program table) ≡ often → HasTwoRuns program input
  two_found way =
      record {
        one = two.notes;
        other = two.others;
        differ = λ same.
            two.differ
            (same_count program two.n two.m program (input ∷ []) two.notes (comes_runs two.n two.notes two.one)
            (subst (Goes program IsOver two.m program (input ∷ [])) (sym same) (comes_runs two.m two.others two.other)))
            same;
        one_runs = (two.n, comes_runs two.n two.notes two.one);
        other_runs = (two.m, comes_runs two.m two.others two.other);
      }
    where
      two : AreTwo Cell Note (start program table) (Hop program table) (finish program table)
      two = two_ways Cell Note (start program table) (Hop program table) (tells program table) decide ways log Done kept begins goes (finish program table) way

  -- Each arrival is reached, and what is reached is an arrival.
  pub is_reached : (k : ℕ) (it : Coming Cell Note) → IsAt Cell Note log k it → Reaches program input (table.left it.cell.position)
  is_reached k it there =
      let own = comes Cell Note (start program table) (Hop program table) (tells program table) decide ways log Done kept k it there in
      let come = has_come program input table is (HasLeft (table.left it.cell.position)) own.0 it.cell own.1 own.2 in
      (own.0 + 0, own.1 ++ [], come.onward 0 [] (left_of program input table is it.cell.position come.levels come.fits.levels_are, refl))

  pub all_reached : (left : ℕ) → Reaches program input left → (k : ℕ) × (it : Coming Cell Note) × IsAt Cell Note log k it × (left ≡ table.left it.cell.position)
  all_reached left (n, notes, run) =
      let end = arrives program input table is (HasLeft left) n notes run in
      let found = reached Cell Note (start program table) (Hop program table) (tells program table) decide ways log Done kept begins goes n end.to notes end.ways in
      (found.0, found.1, found.2, end.is_last ∙ sym (left_of program input table is end.to.position end.levels end.fits.levels_are) ∙ ap (λ (it : Cell). table.left it.position) (sym found.3))
