-- A run of a pattern's instructions is a reading of the pattern.
use Rattle.std.proofs.Common.{◌≡◌, inl, inr, ◌+◌, ◌≤◌, ℕ, zero, suc, List, [], ◌∷◌, length, refl, ap, subst, ◌∙◌, arith}
use Rattle.mbe_matcher.specs.Fragments.{taken, left_by}
use Rattle.mbe_matcher.specs.Marks.{pass_count, step_count, Note, taken as took_by, begun, ended, notes_before, notes_of_rounds}
use Rattle.mbe_matcher.specs.Readings.{Reading, done, took, held, round, over, Separates, AreRounds, AreOtherRounds, Takes}
use Rattle.mbe_pattern.specs.Patterns.{Pattern, nothing, variable, token, subtree, repetition}
use Rattle.mbe_pattern.specs.declared.pattern.RepeatKind.{RepeatKind}
use Rattle.tt.specs.Forest.{Forest, end}
use Rattle.tt.specs.Gluing.{after_trees}
use Rattle.tt.specs.Moves.{after_tree}
use Rattle.tt.specs.Siblings.{children_of}
use Rattle.tt.specs.Types.Leaf.{Leaf}
use Rattle.mbe_program.specs.Program.{Instruction, take, pass, enter, leave, begin, close, place_at, separator_before, again_at, instructions_before}
use Rattle.mbe_program.specs.Runs.{Goes, IsOver}
use Rattle.mbe_program.proofs.Placed.{IsPlace, behind_first, behind_separator, behind_pattern, jumps_to, length_is, separator_length}

module _ (program : List Instruction) where
  -- the start of a run is read, and the run goes on from a place in no more steps than are given
  pub record IsRead (Reads : Reading → (rest : Forest) → Type 0) (noted : Reading → List Note → List Note) (place : List Instruction) (outer : List Forest) (most : ℕ) (notes : List Note) : Type 0 where
    pub reading : Reading
    pub rest : Forest
    pub more : List Note
    pub steps : ℕ
    pub reads : Reads reading rest
    pub goes : Goes program IsOver steps place (rest ∷ outer) more
    pub fewer : steps ≤ most
    pub same : notes ≡ noted reading more

  -- No run ends before a level is left.
  not_over : (place : List Instruction) (trees : Forest) (outer : List Forest) (notes : List Note) → Goes program IsOver zero place (trees ∷ outer) notes → ⊥
  not_over place trees outer notes goes = let none : trees ∷ outer ≡ [] = goes.0.1 in cc none

  -- a run goes on behind a separator
  record IsSeparated (separator : List Leaf) (place : List Instruction) (input : Forest) (outer : List Forest) (most : ℕ) (notes : List Note) : Type 0 where
    start : Forest
    steps : ℕ
    separates : Separates separator input start
    goes : Goes program IsOver steps place (start ∷ outer) notes
    fewer : steps ≤ most

  separated_back : (separator : List Leaf) (place : List Instruction) (input : Forest) (outer : List Forest) (n : ℕ) (notes : List Note)
      → Goes program IsOver n (separator_before separator place) (input ∷ outer) notes → IsSeparated separator place input outer n notes
  separated_back [] place input outer n notes goes = record { start = input; steps = n; separates = refl; goes = goes; fewer = omega arith }
  separated_back (it ∷ others) place input outer zero notes goes = absurd (not_over (pass (it ∷ others) ∷ place) input outer notes goes)
  separated_back (it ∷ others) place input outer (suc n) notes goes =
      record { start = after_trees (length (it ∷ others)) input; steps = n; separates = (goes.0, refl); goes = goes.1; fewer = omega arith }

  module _ (op : RepeatKind) (separator : List Leaf) (again number : ℕ) (round_place after behind_place : List Instruction) (outer : List Forest)
      (One : Forest → Reading → Forest → Type 0) (Behind : Forest → Reading → Forest → Type 0) (notes_one notes_behind : Reading → List Note → List Note)
      (is_number : length after ≡ number) (jumps : place_at program again ≡ separator_before separator round_place)
      (one : (n : ℕ) (input : Forest) (notes : List Note) → Goes program IsOver n round_place (input ∷ outer) notes → IsRead (One input) notes_one (close op again ∷ after) outer n notes)
      (behind : (n : ℕ) (input : Forest) (notes : List Note) → Goes program IsOver n after (input ∷ outer) notes → IsRead (Behind input) notes_behind behind_place outer n notes) where
    abbrev Others : Forest → Reading → Forest → Type 0
    Others input reading rest = AreOtherRounds op separator One (λ trees more. Behind trees more rest) input reading

    abbrev All : Forest → Reading → Forest → Type 0
    All input reading rest = AreRounds op separator One (λ trees more. Behind trees more rest) input reading

    abbrev notes_from : Reading → List Note → List Note
    notes_from reading more = notes_of_rounds number notes_one (λ reading. notes_behind reading more) reading

    -- Rounds are read as long as steps are left.
    others_read : (fuel n : ℕ) → n ≤ fuel → (input : Forest) (notes : List Note) → Goes program IsOver n (close op again ∷ after) (input ∷ outer) notes
        → IsRead (Others input) notes_from behind_place outer n notes
    others_read fuel zero most input notes goes = absurd (not_over (close op again ∷ after) input outer notes goes)
    others_read zero (suc n) most input notes goes = absurd (omega arith)
    others_read (suc fuel) (suc n) most input notes (inl (may, (more, same, goes))) =
        let apart = separated_back separator round_place input outer n more (subst (λ place. Goes program IsOver n place (input ∷ outer) more) jumps goes) in
        let this = one apart.steps apart.start more apart.goes in
        let others = others_read fuel this.steps (omega (arith, apart.fewer, this.fewer)) this.rest this.more this.goes in
        record {
          reading = round this.reading others.reading;
          rest = others.rest;
          more = others.more;
          steps = others.steps;
          reads = (apart.start, this.rest, may, apart.separates, this.reads, others.reads);
          goes = others.goes;
          fewer = omega (arith, apart.fewer, this.fewer, others.fewer);
          same = same ∙ ap (λ n. begun n ∷ more) is_number ∙ ap (λ notes. begun number ∷ notes) (this.same ∙ ap (notes_one this.reading) others.same);
        }
    others_read (suc fuel) (suc n) most input notes (inr (more, same, goes)) =
        let last = behind n input more goes in
        record {
          reading = over last.reading;
          rest = last.rest;
          more = last.more;
          steps = last.steps;
          reads = last.reads;
          goes = last.goes;
          fewer = omega (arith, last.fewer);
          same = same ∙ ap (λ n. ended n ∷ more) is_number ∙ ap (λ notes. ended number ∷ notes) last.same;
        }

    rounds_read : (first : ℕ) (rest : List Instruction) → place_at program first ≡ round_place → place_at program (length after) ≡ after → (n : ℕ) (input : Forest) (notes : List Note)
        → Goes program IsOver n (begin op first (length after) ∷ rest) (input ∷ outer) notes → IsRead (All input) notes_from behind_place outer n notes
    rounds_read first rest to_round to_after zero input notes goes = absurd (not_over (begin op first (length after) ∷ rest) input outer notes goes)
    rounds_read first rest to_round to_after (suc n) input notes (inl (more, same, goes)) =
        let this = one n input more (subst (λ place. Goes program IsOver n place (input ∷ outer) more) to_round goes) in
        let others = others_read this.steps this.steps (omega arith) this.rest this.more this.goes in
        record {
          reading = round this.reading others.reading;
          rest = others.rest;
          more = others.more;
          steps = others.steps;
          reads = (this.rest, this.reads, others.reads);
          goes = others.goes;
          fewer = omega (arith, this.fewer, others.fewer);
          same = same ∙ ap (λ n. begun n ∷ more) is_number ∙ ap (λ notes. begun number ∷ notes) (this.same ∙ ap (notes_one this.reading) others.same);
        }
    rounds_read first rest to_round to_after (suc n) input notes (inr (may, (more, same, goes))) =
        let last = behind n input more (subst (λ place. Goes program IsOver n place (input ∷ outer) more) to_after goes) in
        record {
          reading = over last.reading;
          rest = last.rest;
          more = last.more;
          steps = last.steps;
          reads = (may, last.reads);
          goes = last.goes;
          fewer = omega (arith, last.fewer);
          same = same ∙ ap (λ n. ended n ∷ more) is_number ∙ ap (λ notes. ended number ∷ notes) last.same;
        }

  -- A run from the instructions of a pattern reads the pattern, and goes on behind it.
  pub run_reads : (pattern : Pattern) (behind : List Instruction) (number : ℕ) (outer : List Forest) → length behind ≡ number → IsPlace program (instructions_before pattern behind)
      → (n : ℕ) (input : Forest) (notes : List Note) → Goes program IsOver n (instructions_before pattern behind) (input ∷ outer) notes
      → IsRead (Takes pattern input) (notes_before pattern number) behind outer n notes
  run_reads nothing behind number outer count is n input notes goes =
      record { reading = done; rest = input; more = notes; steps = n; reads = (refl, refl); goes = goes; fewer = omega arith; same = refl }
  run_reads (variable it others) behind number outer count is zero input notes goes = absurd (not_over (take it ∷ instructions_before others behind) input outer notes goes)
  run_reads (variable it others) behind number outer count is (suc n) input notes (takes, (more, same, goes)) =
      let after = instructions_before others behind in
      let then = run_reads others behind number outer count (behind_first program (take it) after is) n (left_by it.fragment input) more goes in
      let numbered : length after ≡ step_count others + number = length_is others behind ∙ ap (λ n. step_count others + n) count in
      record {
        reading = took (taken it.fragment input) then.reading;
        rest = then.rest;
        more = then.more;
        steps = then.steps;
        reads = (then.reading, refl, takes, then.reads);
        goes = then.goes;
        fewer = omega (arith, then.fewer);
        same = same ∙ ap (λ n. took_by n (taken it.fragment input) ∷ more) numbered ∙ ap (λ notes. took_by (step_count others + number) (taken it.fragment input) ∷ notes) then.same;
      }
  run_reads (token its others) behind number outer count is zero input notes goes = absurd (not_over (pass its ∷ instructions_before others behind) input outer notes goes)
  run_reads (token its others) behind number outer count is (suc n) input notes (like, goes) =
      let then = run_reads others behind number outer count (behind_first program (pass its) (instructions_before others behind) is) n (after_trees (length its) input) notes goes in
      record {
        reading = then.reading;
        rest = then.rest;
        more = then.more;
        steps = then.steps;
        reads = (like, then.reads);
        goes = then.goes;
        fewer = omega (arith, then.fewer);
        same = then.same;
      }
  run_reads (subtree kind inner others) behind number outer count is zero input notes goes =
      absurd (not_over (enter kind ∷ instructions_before inner (leave ∷ instructions_before others behind)) input outer notes goes)
  run_reads (subtree kind inner others) behind number outer count is (suc n) input notes (node, goes) =
      let after = instructions_before others behind in
      let is_inside = behind_first program (enter kind) (instructions_before inner (leave ∷ after)) is in
      let is_after = behind_first program leave after (behind_pattern program inner (leave ∷ after) is_inside) in
      let numbered : length after ≡ step_count others + number = length_is others behind ∙ ap (λ n. step_count others + n) count in
      let own = run_reads inner (leave ∷ after) (suc (step_count others + number)) (after_tree input ∷ outer) (ap suc numbered) is_inside n (children_of input) notes goes in
      let last = left_back after (after_tree input) outer own.rest own.steps own.more own.goes in
      let then = run_reads others behind number outer count is_after last.0 (after_tree input) own.more last.3 in
      record {
        reading = held own.reading then.reading;
        rest = then.rest;
        more = then.more;
        steps = then.steps;
        reads = (own.reading, then.reading, refl, node, subst (λ rest. Takes inner (children_of input) own.reading rest) last.2 own.reads, then.reads);
        goes = then.goes;
        fewer = omega (arith, then.fewer, own.fewer, last.1);
        same = own.same ∙ ap (notes_before inner (suc (step_count others + number)) own.reading) then.same;
      }
    where
      left_back : (after : List Instruction) (trees : Forest) (outer : List Forest) (rest : Forest) (n : ℕ) (notes : List Note) → Goes program IsOver n (leave ∷ after) (rest ∷ trees ∷ outer) notes
          → (steps : ℕ) × (steps ≤ n) × (rest ≡ end) × Goes program IsOver steps after (trees ∷ outer) notes
      left_back after trees outer rest zero notes goes = absurd (not_over (leave ∷ after) rest (trees ∷ outer) notes goes)
      left_back after trees outer rest (suc n) notes (at_end, goes) = (n, omega arith, at_end, goes)
  run_reads (repetition inner separator op others) behind number outer count is n input notes goes =
      let after = instructions_before others behind in
      let again = again_at separator (step_count inner) (length after) in
      let ends = close op again ∷ after in
      let place = instructions_before inner ends in
      let first = step_count inner + suc (length after) in
      let is_separated = behind_first program (begin op first (length after)) (separator_before separator place) is in
      let is_round = behind_separator program separator place is_separated in
      let is_after = behind_first program (close op again) after (behind_pattern program inner ends is_round) in
      let numbered : length after ≡ step_count others + number = length_is others behind ∙ ap (λ n. step_count others + n) count in
      rounds_read op separator again (step_count others + number) place after behind outer (Takes inner) (Takes others)
      (notes_before inner (suc (step_count others + number))) (notes_before others number) numbered
      (jumps_to program (separator_before separator place) again is_separated (separator_length separator place ∙ ap (λ n. pass_count (length separator) + n) (length_is inner ends)))
      (run_reads inner ends (suc (step_count others + number)) outer (ap suc numbered) is_round)
      (run_reads others behind number outer count is_after)
      first (separator_before separator place)
      (jumps_to program place first is_round (length_is inner ends))
      (jumps_to program after (length after) is_after refl)
      n input notes goes
