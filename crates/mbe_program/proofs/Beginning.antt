-- A search before any arrival has gone on, and how many arrivals there are at most.
use Rattle.std.proofs.Common.{◌≡◌, inl, inr, ◌+◌, ◌*◌, ◌≤◌, ℕ, zero, suc, false, List, [], length, refl, ap, sym, subst, ◌∙◌, arith}
use Rattle.mbe_matcher.specs.Marks.{Note}
use Rattle.tt.specs.Forest.{Forest}
use Rattle.mbe_program.specs.Cells.{Hop, start}
use Rattle.mbe_program.specs.Tables.{Table, IsTableOf}
use Rattle.mbe_program.specs.Program.{Instruction}
use Rattle.mbe_program.specs.Searching.{log_of, ways_of, ways_weight, AreAlike, HasRows, IsRoomy, HaveGoneOn}
use Rattle.mbe_program.specs.Ways.{Coming, IsAdded, IsSource, Tried}
use Rattle.mbe_program.specs.declared.cell.Cell.{Cell}
use Rattle.mbe_program.specs.declared.search.Search.{Search}
use Rattle.mbe_program.specs.declared.search.Way.TheVariants as way
use Rattle.mbe_program.proofs.Adding.{kept_none, kept_same, added_kept}
use Rattle.mbe_program.proofs.Arriving.{With}
use Rattle.mbe_program.proofs.Expanding.{IsInside, added_inside}
use Rattle.mbe_program.proofs.Indices.{ways_weigh}
use Rattle.mbe_program.proofs.Telling.{tells, decide}

module _ (program : List Instruction) (table : Table) (input : Forest) (is : IsTableOf program input table) where
  -- The first arrival is at the start.
  pub begun : (old new : Search) (first : Coming Cell Note) → ((it : Cell) → ways_of old it ≡ way.Unseen) → log_of old ≡ [] → HasRows table.count (suc (length program)) old
      → first ≡ record { cell = start program table; before = 0; notes = []; is_many = false }
      → IsAdded Cell Note first (ways_of old) (log_of old) (ways_of new) (log_of new) → IsRoomy new → AreAlike new old
      → HaveGoneOn program table 0 new
  begun old new first none nothing sized first_is added roomy alike =
      record {
        kept = kept_same Cell Note (start program table) (Hop program table) (tells program table) decide (ways_of new) (log_of new)
            (With Cell Note (start program table) (Hop program table) (tells program table) decide (λ before to its. ⊥) first) (Tried Cell Note (start program table) (Hop program table) (log_of new) 0) goes comes
            (added_kept Cell Note (start program table) (Hop program table) (tells program table) decide (ways_of old) (ways_of new) [] (log_of new) (λ before to its. ⊥) first
            (kept_none Cell Note (start program table) (Hop program table) (tells program table) decide (ways_of old) none)
            (subst (λ (it : Coming Cell Note). IsSource Cell Note (start program table) (Hop program table) [] it.before it.cell it.notes it.is_many) (sym first_is) (refl, refl, refl))
            (λ done. done) at_first);
        upto = omega arith;
        sized = (alike.0 ∙ sized.0, alike.1 ∙ sized.1);
        roomy = roomy;
        inside = added_inside program table input is first (ways_of old) (ways_of new) [] (log_of new)
            (subst (λ (it : Coming Cell Note). IsInside program table it.cell) (sym first_is) (is.some, omega arith)) (λ k it there. absurd there) at_first;
      }
    where
      at_first : IsAdded Cell Note first (ways_of old) [] (ways_of new) (log_of new)
      at_first = subst (λ log. IsAdded Cell Note first (ways_of old) log (ways_of new) (log_of new)) nothing added

      goes : (before : ℕ) (to : Cell) (its : List Note) → With Cell Note (start program table) (Hop program table) (tells program table) decide (λ before to its. ⊥) first before to its
          → Tried Cell Note (start program table) (Hop program table) (log_of new) 0 before to its
      goes before to its (inl done) = absurd done
      goes before to its (inr (same, cell, those)) =
          subst (λ before. Tried Cell Note (start program table) (Hop program table) (log_of new) 0 before to its) (sym (same ∙ ap (λ (it : Coming Cell Note). it.before) first_is))
          (cell ∙ ap (λ (it : Coming Cell Note). it.cell) first_is, those ∙ ap (λ (it : Coming Cell Note). it.notes) first_is)

      comes : (before : ℕ) (to : Cell) (its : List Note) → Tried Cell Note (start program table) (Hop program table) (log_of new) 0 before to its
          → With Cell Note (start program table) (Hop program table) (tells program table) decide (λ before to its. ⊥) first before to its
      comes zero to its (cell, those) =
          inr (ap (λ (it : Coming Cell Note). it.before) (sym first_is), cell ∙ ap (λ (it : Coming Cell Note). it.cell) (sym first_is), those ∙ ap (λ (it : Coming Cell Note). it.notes) (sym first_is))
      comes (suc j) to its (less, rest) = absurd (omega (arith, less))

  -- A search has at most so many arrivals.
  pub log_bound : (i : ℕ) (search : Search) → HaveGoneOn program table i search → length (log_of search) ≤ (suc (length program) + suc (length program)) * table.count
  log_bound i search gone =
      let weight = ways_weigh search.cells.items in
      let most : length search.cells.items ≡ table.count * suc (length program) = gone.sized.1 in
      let least : length (log_of search) ≤ ways_weight search.cells.items = gone.roomy in
      omega (arith, weight, most, least)
