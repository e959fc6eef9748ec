-- Where the hops of a search lead, and the runs from there.
use Rattle.std.proofs.Common.{◌≡◌, inl, inr, ◌+◌, ◌<◌, ℕ, zero, suc, List, [], ◌∷◌, ◌++◌, length, refl, ap, sym, subst, ◌∙◌, arith, append_assoc, append-nil}
use Rattle.std.specs.Prelude.{◌-◌, drop}
use Rattle.mbe_matcher.specs.Fragments.{takes, reach, taken}
use Rattle.mbe_matcher.specs.Marks.{Note, taken as took_by}
use Rattle.mbe_pattern.specs.Units.{IsUnitLike, IsNodeOf}
use Rattle.tt.specs.Forest.{Forest}
use Rattle.tt.specs.Gluing.{after_trees}
use Rattle.tt.specs.Moves.{after_tree}
use Rattle.tt.specs.Siblings.{children_of}
use Rattle.mbe_program.specs.Program.{Instruction, take, pass, enter, leave, begin, close, place_at}
use Rattle.mbe_program.specs.Runs.{Goes}
use Rattle.mbe_program.specs.declared.cell.Cell.{Cell}
use Rattle.mbe_program.specs.Cells.{HopsFrom, Hop, start}
use Rattle.mbe_program.specs.Tables.{Table, IsTableOf, AreLevels, passed_to}
use Rattle.mbe_program.specs.Ways.{Comes}
use Rattle.mbe_program.proofs.Hops.{Fits, behind, is_placed, jumped, step_by, nowhere_ends, nowhere_stays}
use Rattle.mbe_program.proofs.Levels.{passed_levels, entered_levels, whole_level}
use Rattle.mbe_program.proofs.Placed.{is_within}

module _ (program : List Instruction) (input : Forest) (table : Table) (is : IsTableOf program input table) (Last : List Instruction → List Forest → Type 0) where
  -- where a hop leads: each run from there is a run from before it
  pub record Lands (place : List Instruction) (levels : List Forest) (to : Cell) (its : List Note) : Type 0 where
    pub to_place : List Instruction
    pub to_levels : List Forest
    pub fits : Fits program input table is to to_place to_levels
    pub onward : (n : ℕ) (more : List Note) → Goes program Last n to_place to_levels more → Goes program Last (suc n) place levels (its ++ more)

  module _ (from : Cell) where
    -- A hop is a step of runs.
    pub hop_by : (place : List Instruction) (levels : List Forest) (to : Cell) (its : List Note) → place_at program from.left ≡ place → AreLevels table from.position levels
        → HopsFrom program table place from.position to its → Lands place levels to its
    hop_by [] levels to its same are hops = absurd hops
    hop_by (take which ∷ rest) [] to its same are hops = let some : 0 < from.position = hops.0 in absurd (omega (arith, some, are))
    hop_by (take which ∷ rest) (trees ∷ outer) to its same are (some, takes_it, at, noted) =
        let count = reach which.fragment trees in
        let counts : reach which.fragment (table.trees from.position) ≡ count = ap (reach which.fragment) (sym are.2) in
        record {
          to_place = rest;
          to_levels = after_trees count trees ∷ outer;
          fits = behind program input table is (take which) rest from.left (passed_to table (reach which.fragment (table.trees from.position)) from.position) (after_trees count trees ∷ outer) same
              (subst (λ k. AreLevels table (passed_to table k from.position) (after_trees count trees ∷ outer)) (sym counts) (passed_levels program input table is count from.position trees outer are)) to at;
          onward = λ n more goes. (
            ap (takes which.fragment) are.2 ∙ takes_it,
            (more, ap (λ l. l ++ more) noted ∙ ap (λ trees. took_by (length rest) (taken which.fragment trees) ∷ more) (sym are.2), goes),
          );
        }
    hop_by (pass leaves ∷ rest) [] to its same are (like, at, noted) =
        record {
          to_place = rest;
          to_levels = [];
          fits = behind program input table is (pass leaves) rest from.left (passed_to table (length leaves) from.position) [] same (nowhere_stays program input table is (length leaves) from.position are) to at;
          onward = λ n more goes. (
            subst (IsUnitLike leaves) (nowhere_ends program input table is from.position are) like,
            subst (λ l. Goes program Last n rest [] (l ++ more)) (sym noted) goes,
          );
        }
    hop_by (pass leaves ∷ rest) (trees ∷ outer) to its same are (like, at, noted) =
        record {
          to_place = rest;
          to_levels = after_trees (length leaves) trees ∷ outer;
          fits = behind program input table is (pass leaves) rest from.left (passed_to table (length leaves) from.position) (after_trees (length leaves) trees ∷ outer) same
              (passed_levels program input table is (length leaves) from.position trees outer are) to at;
          onward = λ n more goes. (
            subst (IsUnitLike leaves) (sym are.2) like,
            subst (λ l. Goes program Last n rest (after_trees (length leaves) trees ∷ outer) (l ++ more)) (sym noted) goes,
          );
        }
    hop_by (enter kind ∷ rest) [] to its same are (node_is, at, noted) = absurd (subst (IsNodeOf kind) (nowhere_ends program input table is from.position are) node_is)
    hop_by (enter kind ∷ rest) (trees ∷ outer) to its same are (node_is, at, noted) =
        record {
          to_place = rest;
          to_levels = children_of trees ∷ after_tree trees ∷ outer;
          fits = behind program input table is (enter kind) rest from.left (table.inside from.position) (children_of trees ∷ after_tree trees ∷ outer) same
              (entered_levels program input table is kind from.position trees outer
              (is_within program (enter kind) rest (is_placed program input table is from.left (enter kind ∷ rest) same)) node_is are) to at;
          onward = λ n more goes. (
            subst (IsNodeOf kind) (sym are.2) node_is,
            subst (λ l. Goes program Last n rest (children_of trees ∷ after_tree trees ∷ outer) (l ++ more)) (sym noted) goes,
          );
        }
    hop_by (leave ∷ rest) [] to its same are hops = let some : 0 < from.position = hops.0 in absurd (omega (arith, some, are))
    hop_by (leave ∷ rest) (trees ∷ outer) to its same are (some, at_end, at, noted) =
        record {
          to_place = rest;
          to_levels = outer;
          fits = behind program input table is leave rest from.left (table.outside from.position) outer same are.3 to at;
          onward = λ n more goes. (are.2 ∙ at_end, subst (λ l. Goes program Last n rest outer (l ++ more)) (sym noted) goes);
        }
    hop_by (begin op first after ∷ rest) levels to its same are (inl (at, noted)) =
        record {
          to_place = place_at program first;
          to_levels = levels;
          fits = jumped program input table is first from.position levels are to at;
          onward = λ n more goes. inl (more, ap (λ l. l ++ more) noted, goes);
        }
    hop_by (begin op first after ∷ rest) levels to its same are (inr (may, at, noted)) =
        record {
          to_place = place_at program after;
          to_levels = levels;
          fits = jumped program input table is after from.position levels are to at;
          onward = λ n more goes. inr (may, (more, ap (λ l. l ++ more) noted, goes));
        }
    hop_by (close op again ∷ rest) levels to its same are (inl (may, at, noted)) =
        record {
          to_place = place_at program again;
          to_levels = levels;
          fits = jumped program input table is again from.position levels are to at;
          onward = λ n more goes. inl (may, (more, ap (λ l. l ++ more) noted, goes));
        }
    hop_by (close op again ∷ rest) levels to its same are (inr (at, noted)) =
        record {
          to_place = rest;
          to_levels = levels;
          fits = behind program input table is (close op again) rest from.left from.position levels same are to at;
          onward = λ n more goes. inr (more, ap (λ l. l ++ more) noted, goes);
        }

  -- the ways of a search
  abbrev pub Ways : (n : ℕ) → Cell → List Note → Type 0
  Ways = Comes Cell Note (start program table) (Hop program table)

  begins : Fits program input table is (start program table) program (input ∷ [])
  begins =
      let none : length program - length program ≡ 0 = omega arith in
      record { place_is = ap (λ n. drop n program) none; levels_are = whole_level program input table is; within = omega arith }

  -- a way has come to a place before levels, and each run from there is a whole run
  pub record HasCome (n : ℕ) (to : Cell) (notes : List Note) : Type 0 where
    pub place : List Instruction
    pub levels : List Forest
    pub fits : Fits program input table is to place levels
    pub onward : (m : ℕ) (more : List Note) → Goes program Last m place levels more → Goes program Last (n + m) program (input ∷ []) (notes ++ more)

  -- Each way is the beginning of runs.
  pub has_come : (n : ℕ) (to : Cell) (notes : List Note) → Ways n to notes → HasCome n to notes
  has_come zero to notes (at_start, none) =
      record {
        place = program;
        levels = input ∷ [];
        fits = subst (λ it. Fits program input table is it program (input ∷ [])) (sym at_start) begins;
        onward = λ m more goes.
            let count : m ≡ 0 + m = omega arith in
            subst (λ l. Goes program Last (0 + m) program (input ∷ []) (l ++ more)) (sym none) (subst (λ k. Goes program Last k program (input ∷ []) more) count goes);
      }
  has_come (suc n) to notes (from, before, its, comes, hop, same) =
      let own = has_come n from before comes in
      let lands = hop_by from own.place own.levels to its own.fits.place_is own.fits.levels_are (subst (λ place. HopsFrom program table place from.position to its) own.fits.place_is hop) in
      record {
        place = lands.to_place;
        levels = lands.to_levels;
        fits = lands.fits;
        onward = λ m more goes.
            let count : n + suc m ≡ suc n + m = omega arith in
            subst (λ k. Goes program Last k program (input ∷ []) (notes ++ more)) count
            (subst (Goes program Last (n + suc m) program (input ∷ [])) (sym (append_assoc before its more) ∙ ap (λ l. l ++ more) (sym same))
            (own.onward (suc m) (its ++ more) (lands.onward m more goes)));
      }

  -- the last cell of a run
  pub record Arrives (n : ℕ) (notes : List Note) : Type 0 where
    pub to : Cell
    pub place : List Instruction
    pub levels : List Forest
    pub ways : Ways n to notes
    pub fits : Fits program input table is to place levels
    pub is_last : Last place levels

  -- Each run is a way.
  arrives_from : (n m : ℕ) (from : Cell) (before : List Note) (place : List Instruction) (levels : List Forest) (notes : List Note) → Ways m from before → Fits program input table is from place levels
      → Goes program Last n place levels notes → Arrives (m + n) (before ++ notes)
  arrives_from zero m from before place levels notes ways fits (is_last, none) =
      let count : m ≡ m + 0 = omega arith in
      record {
        to = from;
        place = place;
        levels = levels;
        ways = subst (λ k. Ways k from (before ++ notes)) count (subst (Ways m from) (sym (append-nil before) ∙ ap (λ l. before ++ l) (sym none)) ways);
        fits = fits;
        is_last = is_last;
      }
  arrives_from (suc n) m from before place levels notes ways fits goes =
      let step = step_by program input table is Last from place levels n notes fits.place_is fits.levels_are goes in
      let then = arrives_from n (suc m) step.to (before ++ step.its) step.place step.levels step.more (from, before, step.its, ways, step.hops, refl) step.fits step.goes in
      let count : suc m + n ≡ m + suc n = omega arith in
      let notes_are : (before ++ step.its) ++ step.more ≡ before ++ notes = append_assoc before step.its step.more ∙ ap (λ l. before ++ l) (sym step.same) in
      subst (λ k. Arrives k (before ++ notes)) count (subst (Arrives (suc m + n)) notes_are then)

  pub arrives : (n : ℕ) (notes : List Note) → Goes program Last n program (input ∷ []) notes → Arrives n notes
  arrives n notes goes =
      let count : 0 + n ≡ n = omega arith in
      subst (λ k. Arrives k notes) count (arrives_from n 0 (start program table) [] program (input ∷ []) notes (refl, refl) begins goes)
