-- What a search says of the runs when all arrivals have gone on.
use Rattle.std.proofs.Common.{◌≡◌, inl, inr, ◌+◌, ◌≤◌, ℕ, suc, List, [], length, refl, ap, sym, subst, ◌∙◌, arith}
use Rattle.std.specs.Prelude.{◌⊎◌}
use Rattle.mbe_matcher.specs.Marks.{Note}
use Rattle.tt.specs.Forest.{Forest, size}
use Rattle.mbe_program.specs.Answers.{HasNoRun, HasOneRun, HasTwoRuns, Reaches, Reach}
use Rattle.mbe_program.specs.Cells.{IsCell, Hop, start, finish}
use Rattle.mbe_program.specs.Program.{Instruction}
use Rattle.mbe_program.specs.Searching.{log_of, ways_of, EndsAt, HaveAllGoneOn, IsFewest}
use Rattle.mbe_program.specs.Tables.{Table, IsTableOf}
use Rattle.mbe_program.specs.Ways.{Coming, IsAt, Traces, Tried}
use Rattle.mbe_program.specs.declared.cell.Cell.{Cell}
use Rattle.mbe_program.specs.declared.search.Search.{Search}
use Rattle.mbe_program.specs.declared.search.Way.{Way}
use Rattle.mbe_program.specs.declared.search.Way.TheVariants as way
use Rattle.mbe_program.proofs.Answering.{none_found, one_found, two_found, is_reached, all_reached}
use Rattle.mbe_program.proofs.Paths.{at_within}

-- A cell to which at most one way is known is not one to which several are.
pub not_often : (it : Way) → (it ≡ way.Unseen) ⊎ (it ≡ way.Once) → it ≡ way.Often → ⊥
not_often it (inl same) often = let both : way.Unseen ≡ way.Often = sym same ∙ often in cc both
not_often it (inr same) often = let both : way.Once ≡ way.Often = sym same ∙ often in cc both

module _ (program : List Instruction) (input : Forest) (table : Table) (is : IsTableOf program input table) (search : Search) (gone : HaveAllGoneOn program table search) where
  abbrev Done : (before : ℕ) → Cell → List Note → Type 0
  Done = Tried Cell Note (start program table) (Hop program table) (log_of search) (length (log_of search))

  begins : Done 0 (start program table) []
  begins = (refl, refl)

  goes : (j : ℕ) (from : Coming Cell Note) (to : Cell) (its : List Note) → IsAt Cell Note (log_of search) j from → Hop program table from.cell to its → Done (suc j) to its
  goes j from to its there hop = (at_within Cell Note (log_of search) j from there, (from, there, hop))

  abbrev ways : Cell → Way
  ways = ways_of search

  at_finish : (it : Cell) → it ≡ finish program table → IsCell it 0 0
  at_finish it same = (ap (λ (it : Cell). it.position) same, ap (λ (it : Cell). it.left) same)

  -- No arrival at the last cell: no run;
  pub no_run : ((k : ℕ) → EndsAt (log_of search) k → ⊥) → HasNoRun program input
  no_run none = by (ways (finish program table)) refl
    where
      by : (way : Way) → ways (finish program table) ≡ way → HasNoRun program input
      by way.Unseen same = none_found program input table is ways (log_of search) Done gone.kept begins goes same
      by way.Once same = let known = gone.kept.only (finish program table) same in absurd (none known.0 (known.1, known.2, at_finish known.1.cell known.3))
      by way.Often same = let known = gone.kept.many (finish program table) same in absurd (none known.0 (known.1, known.2, at_finish known.1.cell known.3))

  -- an arrival there, of one way: one run, which it traces;
  pub one_run : (k : ℕ) (it : Coming Cell Note) → IsAt Cell Note (log_of search) k it → IsCell it.cell 0 0 → (ways (finish program table) ≡ way.Often → ⊥)
      → (m : ℕ) (notes : List Note) → Traces Cell Note (log_of search) m (suc k) notes → HasOneRun program input notes
  one_run k it there at_last single m notes traces = by (ways (finish program table)) refl
    where
      cell : it.cell ≡ finish program table
      cell = λ i. record { position = at_last.0 i; left = at_last.1 i }

      by : (way : Way) → ways (finish program table) ≡ way → HasOneRun program input notes
      by way.Unseen same = absurd ((gone.kept.not_yet (finish program table) same).1 k it there cell)
      by way.Once same = one_found program input table is ways (log_of search) Done gone.kept begins goes same k it there cell m notes traces
      by way.Often same = absurd (single same)

  -- of several: two runs.
  pub two_runs : ways (finish program table) ≡ way.Often → HasTwoRuns program input
  two_runs same = two_found program input table is ways (log_of search) Done gone.kept begins goes same

  -- The fewest tokens that are left tell the farthest place.
  pub farthest : (left at : ℕ) → IsFewest table (size input) (log_of search) left → at + left ≡ size input → Reach program input at
  farthest left at fewest sum =
      record { left = left; reaches = reaches fewest.found; least = least; place = sum }
    where
      reaches : (left ≡ size input) ⊎ ((k : ℕ) × (it : Coming Cell Note) × IsAt Cell Note (log_of search) k it × (left ≡ table.left it.cell.position)) → Reaches program input left
      reaches (inl same) = let all : left ≡ size input + 0 = omega (arith, same) in (0, [], (all, refl))
      reaches (inr (k, it, there, same)) = subst (Reaches program input) (sym same) (is_reached program input table is ways (log_of search) Done gone.kept begins goes k it there)

      least : (other : ℕ) → Reaches program input other → left ≤ other
      least other reached =
          let known = all_reached program input table is ways (log_of search) Done gone.kept begins goes other reached in
          let few = fewest.least known.0 known.1 known.2 in
          let same = known.3 in
          omega (arith, few, same)
