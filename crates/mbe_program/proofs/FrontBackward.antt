-- A pattern comes as far as its program leads.
use Rattle.std.proofs.Common.{◌≡◌, inl, inr, ◌+◌, ◌≤◌, ℕ, zero, suc, List, [], ◌∷◌, length, refl, sym, subst, arith}
use Rattle.std.specs.Prelude.{◌⊎◌}
use Rattle.mbe_matcher.specs.Parts.{place_count, separator_count}
use Rattle.mbe_matcher.specs.Fragments.{taken, left_by}
use Rattle.mbe_matcher.specs.Fronts.{ComesTo, OtherRoundsUpTo, RoundsUpTo, SeparatesUpTo, TakesUpTo}
use Rattle.mbe_matcher.specs.Labels.{Label}
use Rattle.mbe_matcher.specs.Marks.{Note, step_count}
use Rattle.mbe_matcher.specs.Places.{left_in}
use Rattle.mbe_matcher.specs.Readings.{Reading, done, took, held, round, over, Separates, AreRounds, AreOtherRounds, Takes}
use Rattle.mbe_pattern.specs.Patterns.{Pattern, nothing, variable, token, subtree, repetition}
use Rattle.mbe_pattern.specs.declared.pattern.RepeatKind.{RepeatKind}
use Rattle.tt.specs.Forest.{Forest, end}
use Rattle.tt.specs.Gluing.{after_trees}
use Rattle.tt.specs.Moves.{after_tree}
use Rattle.tt.specs.Siblings.{children_of}
use Rattle.tt.specs.Types.Leaf.{Leaf}
use Rattle.mbe_program.specs.Program.{Instruction, take, pass, enter, leave, begin, close, place_at, separator_before, again_at, instructions_before, program_of}
use Rattle.mbe_program.specs.Runs.{Goes}
use Rattle.mbe_program.proofs.Fits.{Fits, FitsSeparator, FitsWhole, StopsLater}
use Rattle.mbe_program.proofs.FrontForward.{Leads}
use Rattle.mbe_program.proofs.Placed.{IsPlace, behind_first, behind_pattern}
use Rattle.mbe_program.proofs.Rounds.{close_place, round_place, is_round, is_after, to_first, to_again, to_after}

module _ (program : List Instruction) (Last : (place : List Instruction) → (levels : List Forest) → Type 0) (Next : (part : ℕ) → Label → (trees : Forest) → (outside : ℕ) → Type 0) where
  -- the start of a run is read, and it goes on from a place in no more steps than are given
  pub record IsPast (Reads : Reading → (rest : Forest) → Type 0) (place : List Instruction) (outer : List Forest) (most : ℕ) : Type 0 where
    pub reading : Reading
    pub rest : Forest
    pub steps : ℕ
    pub notes : List Note
    pub reads : Reads reading rest
    pub goes : Goes program Last steps place (rest ∷ outer) notes
    pub fewer : steps ≤ most

  -- a run goes on behind a separator
  record IsSeparated (separator : List Leaf) (place : List Instruction) (input : Forest) (outer : List Forest) (most : ℕ) (notes : List Note) : Type 0 where
    start : Forest
    steps : ℕ
    separates : Separates separator input start
    goes : Goes program Last steps place (start ∷ outer) notes
    fewer : steps ≤ most

  -- A run stops at a separator, or goes on behind it.
  separated_or_stops : (separator : List Leaf) (part : ℕ) (place : List Instruction) (input : Forest) (outer : List Forest) (n : ℕ) (notes : List Note)
      → FitsSeparator Last Next separator part place → Goes program Last n (separator_before separator place) (input ∷ outer) notes
      → SeparatesUpTo Next part separator input (left_in outer) ⊎ IsSeparated separator place input outer n notes
  separated_or_stops [] part place input outer n notes fits goes = inr (record { start = input; steps = n; separates = refl; goes = goes; fewer = omega arith })
  separated_or_stops (it ∷ others) part place input outer zero notes fits goes = inl ((fits input outer).0 goes.0)
  separated_or_stops (it ∷ others) part place input outer (suc n) notes fits goes =
      inr (record { start = after_trees (length (it ∷ others)) input; steps = n; separates = (goes.0, refl); goes = goes.1; fewer = omega arith })

  module _ (op : RepeatKind) (separator : List Leaf) (again part : ℕ) (round_place after behind_place : List Instruction) (outer : List Forest)
      (One : Forest → Reading → Forest → Type 0) (Behind : Forest → Reading → Forest → Type 0) (Within Past : Forest → Type 0)
      (fits : FitsSeparator Last Next separator part round_place) (jumps : place_at program again ≡ separator_before separator round_place)
      (stops_over : StopsLater Last Next (close op again ∷ after) after)
      (one : (n : ℕ) (input : Forest) (notes : List Note) → Goes program Last n round_place (input ∷ outer) notes → Within input ⊎ IsPast (One input) (close op again ∷ after) outer n)
      (behind : (n : ℕ) (input : Forest) (notes : List Note) → Goes program Last n after (input ∷ outer) notes → Past input ⊎ IsPast (Behind input) behind_place outer n) where
    abbrev AnyOne : Forest → Forest → Type 0
    AnyOne input rest = (reading : Reading) × One input reading rest

    abbrev Between : Forest → Type 0
    Between input = SeparatesUpTo Next part separator input (left_in outer)

    abbrev OthersUpTo : Forest → Type 0
    OthersUpTo input = (n : ℕ) × OtherRoundsUpTo op separator AnyOne Within Between Past n input

    abbrev Others : Forest → Reading → Forest → Type 0
    Others input reading rest = AreOtherRounds op separator One (λ trees more. Behind trees more rest) input reading

    abbrev All : Forest → Reading → Forest → Type 0
    All input reading rest = AreRounds op separator One (λ trees more. Behind trees more rest) input reading

    -- A run that goes on behind the rounds stops there or reads what follows.
    over_now : (most n : ℕ) → n ≤ most → (input : Forest) (notes : List Note) → Goes program Last n after (input ∷ outer) notes
        → OthersUpTo input ⊎ IsPast (Others input) behind_place outer most
    over_now most n fewer input notes goes = elim (behind n input notes goes) [
      | inl comes ↦ inl (0, inr comes)
      | inr last ↦
          inr (record {
            reading = over last.reading;
            rest = last.rest;
            steps = last.steps;
            notes = last.notes;
            reads = last.reads;
            goes = last.goes;
            fewer = omega (arith, last.fewer, fewer);
          })
    ]

    -- Rounds are read as long as steps are left, unless the run stops in them.
    others_come : (fuel n : ℕ) → n ≤ fuel → (input : Forest) (notes : List Note) → Goes program Last n (close op again ∷ after) (input ∷ outer) notes
        → OthersUpTo input ⊎ IsPast (Others input) behind_place outer n
    others_come fuel zero most input notes goes = over_now zero zero (omega arith) input notes (stops_over (input ∷ outer) goes.0, goes.1)
    others_come zero (suc n) most input notes goes = absurd (omega arith)
    others_come (suc fuel) (suc n) most input notes (inl (may, (more, same, goes))) =
        elim (separated_or_stops separator part round_place input outer n more fits (subst (λ place. Goes program Last n place (input ∷ outer) more) jumps goes)) [
          | inl comes ↦ inl (0, inl (may, comes))
          | inr apart ↦ elim (one apart.steps apart.start more apart.goes) [
            | inl comes ↦ inl (1, (apart.start, may, apart.separates, inl comes))
            | inr this ↦ elim (others_come fuel this.steps (omega (arith, most, apart.fewer, this.fewer)) this.rest this.notes this.goes) [
              | inl (m, comes) ↦ inl (suc m, (apart.start, may, apart.separates, inr (this.rest, (this.reading, this.reads), comes)))
              | inr others ↦
                  inr (record {
                    reading = round this.reading others.reading;
                    rest = others.rest;
                    steps = others.steps;
                    notes = others.notes;
                    reads = (apart.start, this.rest, may, apart.separates, this.reads, others.reads);
                    goes = others.goes;
                    fewer = omega (arith, apart.fewer, this.fewer, others.fewer);
                  })
            ]
          ]
        ]
    others_come (suc fuel) (suc n) most input notes (inr (more, same, goes)) = over_now (suc n) n (omega arith) input more goes

    -- So are all rounds.
    first_comes : (most n : ℕ) → n ≤ most → (input : Forest) (notes : List Note) → Goes program Last n round_place (input ∷ outer) notes
        → RoundsUpTo op separator AnyOne Within Between Past input ⊎ IsPast (All input) behind_place outer most
    first_comes most n few input notes goes = elim (one n input notes goes) [
      | inl comes ↦ inl (inl (inl comes))
      | inr this ↦ elim (others_come this.steps this.steps (omega arith) this.rest this.notes this.goes) [
        | inl (m, comes) ↦ inl (inl (inr (m, this.rest, (this.reading, this.reads), comes)))
        | inr others ↦
            inr (record {
              reading = round this.reading others.reading;
              rest = others.rest;
              steps = others.steps;
              notes = others.notes;
              reads = (this.rest, this.reads, others.reads);
              goes = others.goes;
              fewer = omega (arith, few, this.fewer, others.fewer);
            })
      ]
    ]

    rounds_come : (first : ℕ) (rest : List Instruction) → StopsLater Last Next (begin op first (length after) ∷ rest) round_place → place_at program first ≡ round_place
        → place_at program (length after) ≡ after → (n : ℕ) (input : Forest) (notes : List Note) → Goes program Last n (begin op first (length after) ∷ rest) (input ∷ outer) notes
        → RoundsUpTo op separator AnyOne Within Between Past input ⊎ IsPast (All input) behind_place outer n
    rounds_come first rest stops to_round to_after zero input notes goes = first_comes zero zero (omega arith) input notes (stops (input ∷ outer) goes.0, goes.1)
    rounds_come first rest stops to_round to_after (suc n) input notes (inl (more, same, goes)) =
        first_comes (suc n) n (omega arith) input more (subst (λ place. Goes program Last n place (input ∷ outer) more) to_round goes)
    rounds_come first rest stops to_round to_after (suc n) input notes (inr (may, (more, same, goes))) =
        elim (behind n input more (subst (λ place. Goes program Last n place (input ∷ outer) more) to_after goes)) [
          | inl comes ↦ inl (inr (may, comes))
          | inr last ↦
              inr (record {
                reading = over last.reading;
                rest = last.rest;
                steps = last.steps;
                notes = last.notes;
                reads = (may, last.reads);
                goes = last.goes;
                fewer = omega (arith, last.fewer);
              })
        ]

  -- A run from the instructions of a pattern stops at a part of it, or reads the pattern and goes on behind it.
  pub pattern_comes : (at : ℕ) (pattern : Pattern) (behind : List Instruction) (outer : List Forest) → Fits Last Next at pattern behind
      → IsPlace program (instructions_before pattern behind) → (n : ℕ) (input : Forest) (notes : List Note)
      → Goes program Last n (instructions_before pattern behind) (input ∷ outer) notes
      → TakesUpTo Next at pattern input (left_in outer) ⊎ IsPast (Takes pattern input) behind outer n
  pattern_comes at nothing behind outer fits is n input notes goes =
      inr (record { reading = done; rest = input; steps = n; notes = notes; reads = (refl, refl); goes = goes; fewer = omega arith })
  pattern_comes at (variable it others) behind outer fits is zero input notes goes = inl (inl ((fits.0 input outer).0 goes.0))
  pattern_comes at (variable it others) behind outer fits is (suc n) input notes (takes, (more, same, goes)) =
      elim (pattern_comes (suc at) others behind outer fits.1 (behind_first program (take it) (instructions_before others behind) is) n (left_by it.fragment input) more goes) [
        | inl comes ↦ inl (inr (takes, comes))
        | inr past ↦
            inr (record {
              reading = took (taken it.fragment input) past.reading;
              rest = past.rest;
              steps = past.steps;
              notes = past.notes;
              reads = (past.reading, refl, takes, past.reads);
              goes = past.goes;
              fewer = omega (arith, past.fewer);
            })
      ]
  pattern_comes at (token its others) behind outer fits is zero input notes goes = inl (inl ((fits.0 input outer).0 goes.0))
  pattern_comes at (token its others) behind outer fits is (suc n) input notes (like, goes) =
      elim (pattern_comes (suc at) others behind outer fits.1 (behind_first program (pass its) (instructions_before others behind) is) n (after_trees (length its) input) notes goes) [
        | inl comes ↦ inl (inr (like, comes))
        | inr past ↦
            inr (record {
              reading = past.reading;
              rest = past.rest;
              steps = past.steps;
              notes = past.notes;
              reads = (like, past.reads);
              goes = past.goes;
              fewer = omega (arith, past.fewer);
            })
      ]
  pattern_comes at (subtree kind inner others) behind outer fits is zero input notes goes = inl (inl ((fits.0 input outer).0 goes.0))
  pattern_comes at (subtree kind inner others) behind outer fits is (suc n) input notes (node, goes) =
      elim (pattern_comes (suc at) inner (leave ∷ after) (after_tree input ∷ outer) fits.2 is_inside n (children_of input) notes goes) [
        | inl comes ↦ inl (inr (node, inl (inl comes)))
        | inr own ↦ elim (left_or_stops own.rest own.steps own.notes own.goes) [
          | inl last ↦ inl (inr (node, inl (inr (own.reading, own.rest, own.reads, (fits.1 own.rest (after_tree input ∷ outer)).0 last))))
          | inr (steps, few, ended, further) ↦
              let whole : Takes inner (children_of input) own.reading end = subst (λ rest. Takes inner (children_of input) own.reading rest) ended own.reads in
              elim (pattern_comes (suc (suc at + place_count inner)) others behind outer fits.3 is_after steps (after_tree input) own.notes further) [
                | inl comes ↦ inl (inr (node, inr (own.reading, whole, comes)))
                | inr past ↦
                    inr (record {
                      reading = held own.reading past.reading;
                      rest = past.rest;
                      steps = past.steps;
                      notes = past.notes;
                      reads = (own.reading, past.reading, refl, node, whole, past.reads);
                      goes = past.goes;
                      fewer = omega (arith, past.fewer, own.fewer, few);
                    })
              ]
        ]
      ]
    where
      after : List Instruction
      after = instructions_before others behind

      is_inside : IsPlace program (instructions_before inner (leave ∷ after))
      is_inside = behind_first program (enter kind) (instructions_before inner (leave ∷ after)) is

      is_after : IsPlace program after
      is_after = behind_first program leave after (behind_pattern program inner (leave ∷ after) is_inside)

      left_or_stops : (rest : Forest) (n : ℕ) (notes : List Note) → Goes program Last n (leave ∷ after) (rest ∷ after_tree input ∷ outer) notes
          → Last (leave ∷ after) (rest ∷ after_tree input ∷ outer)
          ⊎ ((steps : ℕ) × (steps ≤ n) × (rest ≡ end) × Goes program Last steps after (after_tree input ∷ outer) notes)
      left_or_stops rest zero notes goes = inl goes.0
      left_or_stops rest (suc n) notes (ended, goes) = inr (n, omega arith, ended, goes)
  pattern_comes at (repetition inner separator op others) behind outer fits is n input notes goes =
      let after = instructions_before others behind in
      let ends = close_place inner separator op after in
      let round = round_place inner separator op after in
      let placed = is_round inner separator op after program is in
      let later = at + place_count inner + separator_count separator in
      rounds_come op separator (again_at separator (step_count inner) (length after)) (at + place_count inner) round after behind outer (Takes inner) (Takes others)
      (λ trees. TakesUpTo Next at inner trees (left_in outer)) (λ trees. TakesUpTo Next later others trees (left_in outer))
      fits.2 (to_again inner separator op after program is) fits.1
      (pattern_comes at inner ends outer fits.3 placed)
      (pattern_comes later others behind outer fits.4 (is_after inner separator op after program is))
      (step_count inner + suc (length after)) (separator_before separator round) fits.0
      (to_first inner separator op after program is) (to_after inner separator op after program is)
      n input notes goes

-- The whole pattern comes as far as its program leads.
pub program_comes : (Last : (place : List Instruction) → (levels : List Forest) → Type 0) (Next : (part : ℕ) → Label → (trees : Forest) → (outside : ℕ) → Type 0)
    (pattern : Pattern) (input : Forest) → FitsWhole Last Next pattern → Leads (program_of pattern) Last (program_of pattern) (input ∷ []) → ComesTo Next pattern input
program_comes Last Next pattern input fits (n, notes, goes) =
    elim (pattern_comes (program_of pattern) Last Next 0 pattern (leave ∷ []) [] fits.parts ([], refl) n input notes goes) [
      | inl comes ↦ inl comes
      | inr past ↦ inr (past.reading, past.rest, past.reads, (fits.last past.rest []).0 (stops_last past.rest past.steps past.notes past.goes))
    ]
  where
    stops_last : (rest : Forest) (n : ℕ) (notes : List Note) → Goes (program_of pattern) Last n (leave ∷ []) (rest ∷ []) notes → Last (leave ∷ []) (rest ∷ [])
    stops_last rest zero notes goes = goes.0
    stops_last rest (suc zero) notes (ended, (last, same)) = subst (λ trees. Last (leave ∷ []) (trees ∷ [])) (sym ended) (fits.over last)
    stops_last rest (suc (suc n)) notes (ended, goes) = absurd goes
