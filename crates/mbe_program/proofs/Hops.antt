-- The hops of a search are the steps of runs.
use Rattle.std.proofs.Common.{◌≡◌, inl, inr, ◌+◌, ◌≤◌, ℕ, zero, suc, List, [], ◌∷◌, ◌++◌, length, refl, ap, sym, subst, ◌∙◌, arith, cond}
use Rattle.std.specs.Prelude.{◌-◌, min, drop}
use Rattle.mbe_matcher.specs.Fragments.{takes, reach, taken}
use Rattle.mbe_matcher.specs.Marks.{Note, taken as took_by, begun, ended}
use Rattle.mbe_matcher.specs.Places.{left}
use Rattle.mbe_pattern.specs.Units.{IsUnitLike, IsNodeOf}
use Rattle.tt.specs.Forest.{Forest, end}
use Rattle.tt.specs.Gluing.{after_trees}
use Rattle.tt.specs.Moves.{after_tree}
use Rattle.tt.specs.Siblings.{children_of, is_end}
use Rattle.mbe_program.specs.Program.{Instruction, take, pass, enter, leave, begin, close, place_at}
use Rattle.mbe_program.specs.Runs.{Goes}
use Rattle.mbe_program.specs.declared.cell.Cell.{Cell}
use Rattle.mbe_program.specs.Cells.{IsCell, HopsFrom, Hop}
use Rattle.mbe_program.specs.Tables.{Table, IsTableOf, AreLevels, passed_to}
use Rattle.mbe_program.proofs.Levels.{passed_levels, entered_levels}
use Rattle.mbe_program.proofs.Placed.{IsPlace, is_within, behind_first, jumps_to}

module _ (program : List Instruction) (input : Forest) (table : Table) (is : IsTableOf program input table) where
  -- the cell is at this place, before these levels
  pub record Fits (it : Cell) (place : List Instruction) (levels : List Forest) : Type 0 where
    pub place_is : place_at program it.left ≡ place
    pub levels_are : AreLevels table it.position levels
    pub within : it.left ≤ length program

  -- a cell that a step leads to, and the run from there
  pub record Steps (Last : List Instruction → List Forest → Type 0) (from : Cell) (n : ℕ) (notes : List Note) : Type 0 where
    pub to : Cell
    pub its : List Note
    pub more : List Note
    pub place : List Instruction
    pub levels : List Forest
    pub hops : Hop program table from to its
    pub fits : Fits to place levels
    pub goes : Goes program Last n place levels more
    pub same : notes ≡ its ++ more

  -- What is left of the program is a place of it.
  is_place : (left : ℕ) → IsPlace program (place_at program left)
  is_place left = split (length program - left) program
    where
      split : (n : ℕ) (its : List Instruction) → (before : List Instruction) × (its ≡ before ++ drop n its)
      split zero its = ([], refl)
      split (suc n) [] = ([], refl)
      split (suc n) (it ∷ others) = let then = split n others in (it ∷ then.0, ap (λ l. it ∷ l) then.1)

  pub is_placed : (left : ℕ) (place : List Instruction) → place_at program left ≡ place → IsPlace program place
  is_placed left place same = subst (IsPlace program) same (is_place left)

  pub place_within : (place : List Instruction) → IsPlace program place → length place ≤ length program
  place_within place (before, same) = let count = ap length same ∙ length_both before place in omega (arith, count)
    where
      length_both : (xs ys : List Instruction) → length (xs ++ ys) ≡ length xs + length ys
      length_both [] ys = omega arith
      length_both (x ∷ xs) ys = let rest = length_both xs ys in omega (arith, rest)

  -- The cell with as many instructions left as follow an instruction is behind it.
  pub behind : (it : Instruction) (rest : List Instruction) (left n : ℕ) (levels : List Forest) → place_at program left ≡ it ∷ rest → AreLevels table n levels
      → (to : Cell) → IsCell to n (length rest) → Fits to rest levels
  behind it rest left n levels same are to (position, count) =
      let own = behind_first program it rest (is_placed left (it ∷ rest) same) in
      let most = place_within rest own in
      record {
        place_is = ap (place_at program) count ∙ jumps_to program rest (length rest) own refl;
        levels_are = subst (λ number. AreLevels table number levels) (sym position) are;
        within = omega (arith, most, count);
      }

  -- The cell of a jump is at its place.
  pub jumped : (target n : ℕ) (levels : List Forest) → AreLevels table n levels → (to : Cell) → IsCell to n (min target (length program)) → Fits to (place_at program target) levels
  jumped target n levels are to (position, count) =
      let skipped : length program - to.left ≡ length program - target = omega (arith, count) in
      record {
        place_is = ap (λ n. drop n program) skipped;
        levels_are = subst (λ number. AreLevels table number levels) (sym position) are;
        within = omega (arith, count);
      }

  abbrev pub cell : (position left : ℕ) → Cell
  cell position left = record { position = position; left = left }

  -- Outside all levels are no trees.
  pub nowhere_ends : (n : ℕ) → n ≡ 0 → table.trees n ≡ end
  nowhere_ends n none = ap table.trees none ∙ is.nowhere

  pub nowhere_stays : (count n : ℕ) → n ≡ 0 → passed_to table count n ≡ 0
  nowhere_stays zero n none = none
  nowhere_stays (suc count) n none =
      nowhere_stays count (cond (is_end (table.trees n)) n (suc n)) (ap (λ trees. cond (is_end trees) n (suc n)) (nowhere_ends n none) ∙ none)

  module _ (Last : List Instruction → List Forest → Type 0) (from : Cell) where
    -- A step of a run is a hop.
    pub step_by : (place : List Instruction) (levels : List Forest) (n : ℕ) (notes : List Note) → place_at program from.left ≡ place → AreLevels table from.position levels
        → Goes program Last (suc n) place levels notes → Steps Last from n notes
    step_by [] levels n notes same are goes = absurd goes
    step_by (take which ∷ rest) [] n notes same are goes = absurd goes.0
    step_by (take which ∷ rest) (trees ∷ outer) n notes same are (takes_it, (more, notes_are, goes)) =
        let own = are.2 in
        let count = reach which.fragment trees in
        let to = cell (passed_to table (reach which.fragment (table.trees from.position)) from.position) (length rest) in
        let counts : reach which.fragment (table.trees from.position) ≡ reach which.fragment trees = ap (reach which.fragment) (sym own) in
        record {
          to = to;
          its = took_by (length rest) (taken which.fragment trees) ∷ [];
          more = more;
          place = rest;
          levels = after_trees count trees ∷ outer;
          hops = subst (λ place. HopsFrom program table place from.position to (took_by (length rest) (taken which.fragment trees) ∷ [])) (sym same)
              (are.0, ap (takes which.fragment) (sym own) ∙ takes_it, (refl, refl), ap (λ trees. took_by (length rest) (taken which.fragment trees) ∷ []) own);
          fits = behind (take which) rest from.left (passed_to table (reach which.fragment (table.trees from.position)) from.position) (after_trees count trees ∷ outer) same
              (subst (λ k. AreLevels table (passed_to table k from.position) (after_trees count trees ∷ outer)) (sym counts) (passed_levels program input table is count from.position trees outer are)) to (refl, refl);
          goes = goes;
          same = notes_are;
        }
    step_by (pass leaves ∷ rest) [] n notes same are (like, goes) =
        let to = cell (passed_to table (length leaves) from.position) (length rest) in
        record {
          to = to;
          its = [];
          more = notes;
          place = rest;
          levels = [];
          hops = subst (λ place. HopsFrom program table place from.position to []) (sym same) (subst (IsUnitLike leaves) (sym (nowhere_ends from.position are)) like, (refl, refl), refl);
          fits = behind (pass leaves) rest from.left (passed_to table (length leaves) from.position) [] same (nowhere_stays (length leaves) from.position are) to (refl, refl);
          goes = goes;
          same = refl;
        }
    step_by (pass leaves ∷ rest) (trees ∷ outer) n notes same are (like, goes) =
        let to = cell (passed_to table (length leaves) from.position) (length rest) in
        record {
          to = to;
          its = [];
          more = notes;
          place = rest;
          levels = after_trees (length leaves) trees ∷ outer;
          hops = subst (λ place. HopsFrom program table place from.position to []) (sym same) (subst (IsUnitLike leaves) are.2 like, (refl, refl), refl);
          fits = behind (pass leaves) rest from.left (passed_to table (length leaves) from.position) (after_trees (length leaves) trees ∷ outer) same
              (passed_levels program input table is (length leaves) from.position trees outer are) to (refl, refl);
          goes = goes;
          same = refl;
        }
    step_by (enter kind ∷ rest) [] n notes same are goes = absurd goes.0
    step_by (enter kind ∷ rest) (trees ∷ outer) n notes same are (node_is, goes) =
        let to = cell (table.inside from.position) (length rest) in
        let inner = subst (IsNodeOf kind) are.2 node_is in
        record {
          to = to;
          its = [];
          more = notes;
          place = rest;
          levels = children_of trees ∷ after_tree trees ∷ outer;
          hops = subst (λ place. HopsFrom program table place from.position to []) (sym same) (inner, (refl, refl), refl);
          fits = behind (enter kind) rest from.left (table.inside from.position) (children_of trees ∷ after_tree trees ∷ outer) same (entered_levels program input table is kind from.position trees outer (is_within program (enter kind) rest (is_placed from.left (enter kind ∷ rest) same)) inner are) to (refl, refl);
          goes = goes;
          same = refl;
        }
    step_by (leave ∷ rest) [] n notes same are goes = absurd goes.0
    step_by (leave ∷ rest) (trees ∷ outer) n notes same are (at_end, goes) =
        let to = cell (table.outside from.position) (length rest) in
        record {
          to = to;
          its = [];
          more = notes;
          place = rest;
          levels = outer;
          hops = subst (λ place. HopsFrom program table place from.position to []) (sym same) (are.0, sym are.2 ∙ at_end, (refl, refl), refl);
          fits = behind leave rest from.left (table.outside from.position) outer same are.3 to (refl, refl);
          goes = goes;
          same = refl;
        }
    step_by (begin op first after ∷ rest) levels n notes same are (inl (more, notes_are, goes)) =
        let to = cell from.position (min first (length program)) in
        record {
          to = to;
          its = begun after ∷ [];
          more = more;
          place = place_at program first;
          levels = levels;
          hops = subst (λ place. HopsFrom program table place from.position to (begun after ∷ [])) (sym same) (inl ((refl, refl), refl));
          fits = jumped first from.position levels are to (refl, refl);
          goes = goes;
          same = notes_are;
        }
    step_by (begin op first after ∷ rest) levels n notes same are (inr (may, (more, notes_are, goes))) =
        let to = cell from.position (min after (length program)) in
        record {
          to = to;
          its = ended after ∷ [];
          more = more;
          place = place_at program after;
          levels = levels;
          hops = subst (λ place. HopsFrom program table place from.position to (ended after ∷ [])) (sym same) (inr (may, (refl, refl), refl));
          fits = jumped after from.position levels are to (refl, refl);
          goes = goes;
          same = notes_are;
        }
    step_by (close op again ∷ rest) levels n notes same are (inl (may, (more, notes_are, goes))) =
        let to = cell from.position (min again (length program)) in
        record {
          to = to;
          its = begun (length rest) ∷ [];
          more = more;
          place = place_at program again;
          levels = levels;
          hops = subst (λ place. HopsFrom program table place from.position to (begun (length rest) ∷ [])) (sym same) (inl (may, (refl, refl), refl));
          fits = jumped again from.position levels are to (refl, refl);
          goes = goes;
          same = notes_are;
        }
    step_by (close op again ∷ rest) levels n notes same are (inr (more, notes_are, goes)) =
        let to = cell from.position (length rest) in
        record {
          to = to;
          its = ended (length rest) ∷ [];
          more = more;
          place = rest;
          levels = levels;
          hops = subst (λ place. HopsFrom program table place from.position to (ended (length rest) ∷ [])) (sym same) (inr ((refl, refl), refl));
          fits = behind (close op again) rest from.left from.position levels same are to (refl, refl);
          goes = goes;
          same = notes_are;
        }
