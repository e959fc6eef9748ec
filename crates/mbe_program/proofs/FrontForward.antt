-- A program leads as far as its pattern comes.
use Rattle.std.proofs.Common.{◌≡◌, inl, inr, ◌+◌, ℕ, zero, suc, true, List, [], ◌∷◌, length, refl, sym, subst}
use Rattle.mbe_matcher.specs.Parts.{place_count, separator_count}
use Rattle.mbe_matcher.specs.Fragments.{takes, taken, left_by}
use Rattle.mbe_matcher.specs.Fronts.{ComesTo, OtherRoundsUpTo, RoundsUpTo, SeparatesUpTo, TakesUpTo}
use Rattle.mbe_matcher.specs.Labels.{Label}
use Rattle.mbe_matcher.specs.Marks.{Note, step_count, taken as took_by, begun, ended, notes_before}
use Rattle.mbe_matcher.specs.Places.{left_in}
use Rattle.mbe_matcher.specs.Readings.{Reading, Separates, Takes}
use Rattle.mbe_pattern.specs.Patterns.{Pattern, nothing, variable, token, subtree, repetition, may_be_none, may_be_more}
use Rattle.mbe_pattern.specs.Units.{IsUnitLike, IsNodeOf}
use Rattle.mbe_pattern.specs.declared.pattern.RepeatKind.{RepeatKind}
use Rattle.mbe_pattern.specs.declared.pattern.Variable.{Variable}
use Rattle.tt.specs.Forest.{Forest, end}
use Rattle.tt.specs.Gluing.{after_trees}
use Rattle.tt.specs.Moves.{after_tree}
use Rattle.tt.specs.Siblings.{children_of}
use Rattle.tt.specs.Types.DelimiterKind.{DelimiterKind}
use Rattle.tt.specs.Types.Leaf.{Leaf}
use Rattle.mbe_program.specs.Program.{Instruction, take, pass, enter, leave, begin, close, place_at, separator_before, again_at, instructions_before, program_of}
use Rattle.mbe_program.specs.Runs.{Goes}
use Rattle.mbe_program.proofs.Fits.{Fits, FitsSeparator, FitsWhole}
use Rattle.mbe_program.proofs.Forward.{reading_goes}
use Rattle.mbe_program.proofs.Placed.{IsPlace, behind_first, behind_pattern}
use Rattle.mbe_program.proofs.Rounds.{close_place, round_place, is_round, is_after, to_first, to_again, to_after}

module _ (program : List Instruction) (Last : (place : List Instruction) → (levels : List Forest) → Type 0) where
  -- some steps lead from a place to where a run may stop
  abbrev pub Leads : (place : List Instruction) → (levels : List Forest) → Type 0
  Leads place levels = (steps : ℕ) × (notes : List Note) × Goes program Last steps place levels notes

  -- No step does so where it may stop at once.
  pub at_once : (place : List Instruction) (levels : List Forest) → Last place levels → Leads place levels
  at_once place levels last = (0, [], (last, refl))

  -- One more step does so too,
  by_take : (it : Variable) (rest : List Instruction) (trees : Forest) (outer : List Forest) → takes it.fragment trees ≡ true
      → Leads rest (left_by it.fragment trees ∷ outer) → Leads (take it ∷ rest) (trees ∷ outer)
  by_take it rest trees outer takes (n, notes, goes) = (suc n, took_by (length rest) (taken it.fragment trees) ∷ notes, (takes, (notes, refl, goes)))

  by_pass : (its : List Leaf) (rest : List Instruction) (trees : Forest) (outer : List Forest) → IsUnitLike its trees
      → Leads rest (after_trees (length its) trees ∷ outer) → Leads (pass its ∷ rest) (trees ∷ outer)
  by_pass its rest trees outer like (n, notes, goes) = (suc n, notes, (like, goes))

  by_enter : (kind : DelimiterKind) (rest : List Instruction) (trees : Forest) (outer : List Forest) → IsNodeOf kind trees
      → Leads rest (children_of trees ∷ after_tree trees ∷ outer) → Leads (enter kind ∷ rest) (trees ∷ outer)
  by_enter kind rest trees outer node (n, notes, goes) = (suc n, notes, (node, goes))

  by_leave : (rest : List Instruction) (outer : List Forest) → Leads rest outer → Leads (leave ∷ rest) (end ∷ outer)
  by_leave rest outer (n, notes, goes) = (suc n, notes, (refl, goes))

  -- also where a repetition begins
  by_first : (op : RepeatKind) (first behind : ℕ) (rest place : List Instruction) (levels : List Forest) → place_at program first ≡ place
      → Leads place levels → Leads (begin op first behind ∷ rest) levels
  by_first op first behind rest place levels to (n, notes, goes) =
      (suc n, begun behind ∷ notes, inl (notes, refl, subst (λ at. Goes program Last n at levels notes) (sym to) goes))

  by_none : (op : RepeatKind) (first behind : ℕ) (rest place : List Instruction) (levels : List Forest) → place_at program behind ≡ place → may_be_none op ≡ true
      → Leads place levels → Leads (begin op first behind ∷ rest) levels
  by_none op first behind rest place levels to none (n, notes, goes) =
      (suc n, ended behind ∷ notes, inr (none, (notes, refl, subst (λ at. Goes program Last n at levels notes) (sym to) goes)))

  -- or a round closes.
  by_again : (op : RepeatKind) (again : ℕ) (rest place : List Instruction) (levels : List Forest) → place_at program again ≡ place → may_be_more op ≡ true
      → Leads place levels → Leads (close op again ∷ rest) levels
  by_again op again rest place levels to more (n, notes, goes) =
      (suc n, begun (length rest) ∷ notes, inl (more, (notes, refl, subst (λ at. Goes program Last n at levels notes) (sym to) goes)))

  by_over : (op : RepeatKind) (again : ℕ) (rest : List Instruction) (levels : List Forest) → Leads rest levels → Leads (close op again ∷ rest) levels
  by_over op again rest levels (n, notes, goes) = (suc n, ended (length rest) ∷ notes, inr (notes, refl, goes))

  -- So do the steps of a reading,
  pub by_reading : (pattern : Pattern) (behind : List Instruction) (outer : List Forest) (input rest : Forest) (reading : Reading) → IsPlace program (instructions_before pattern behind)
      → Takes pattern input reading rest → Leads behind (rest ∷ outer) → Leads (instructions_before pattern behind) (input ∷ outer)
  by_reading pattern behind outer input rest reading is takes (n, notes, goes) =
      let led = reading_goes program Last pattern behind (length behind) outer input rest reading notes refl is takes (n, goes) in
      (led.0, notes_before pattern (length behind) reading notes, led.1)

  -- and of a separator.
  by_separator : (separator : List Leaf) (round : List Instruction) (input start : Forest) (outer : List Forest) → Separates separator input start
      → Leads round (start ∷ outer) → Leads (separator_before separator round) (input ∷ outer)
  by_separator [] round input start outer same leads = subst (λ trees. Leads round (trees ∷ outer)) same leads
  by_separator (it ∷ others) round input start outer (like, after) leads =
      by_pass (it ∷ others) round input outer like (subst (λ trees. Leads round (trees ∷ outer)) after leads)

  module _ (Next : (part : ℕ) → Label → (trees : Forest) → (outside : ℕ) → Type 0) where
    -- A run may stop at a separator that is wanted.
    at_separator : (separator : List Leaf) (part : ℕ) (round : List Instruction) (input : Forest) (outer : List Forest) → FitsSeparator Last Next separator part round
        → SeparatesUpTo Next part separator input (left_in outer) → Leads (separator_before separator round) (input ∷ outer)
    at_separator [] part round input outer fits comes = absurd comes
    at_separator (it ∷ others) part round input outer fits comes = at_once (pass (it ∷ others) ∷ round) (input ∷ outer) ((fits input outer).1 comes)

    -- Rounds lead as far as they come.
    module _ (op : RepeatKind) (separator : List Leaf) (again part : ℕ) (round after : List Instruction) (outer : List Forest)
        (One : Forest → Forest → Type 0) (Within Behind : Forest → Type 0)
        (fits : FitsSeparator Last Next separator part round) (jumps : place_at program again ≡ separator_before separator round)
        (one : (input rest : Forest) → One input rest → Leads (close op again ∷ after) (rest ∷ outer) → Leads round (input ∷ outer))
        (within : (input : Forest) → Within input → Leads round (input ∷ outer))
        (past : (input : Forest) → Behind input → Leads after (input ∷ outer)) where
      abbrev Between : Forest → Type 0
      Between input = SeparatesUpTo Next part separator input (left_in outer)

      others_lead : (n : ℕ) (input : Forest) → OtherRoundsUpTo op separator One Within Between Behind n input → Leads (close op again ∷ after) (input ∷ outer)
      others_lead zero input (inl (more, comes)) =
          by_again op again after (separator_before separator round) (input ∷ outer) jumps more (at_separator separator part round input outer fits comes)
      others_lead zero input (inr comes) = by_over op again after (input ∷ outer) (past input comes)
      others_lead (suc n) input (start, more, separates, inl comes) =
          by_again op again after (separator_before separator round) (input ∷ outer) jumps more
          (by_separator separator round input start outer separates (within start comes))
      others_lead (suc n) input (start, more, separates, inr (rest, is, are)) =
          by_again op again after (separator_before separator round) (input ∷ outer) jumps more
          (by_separator separator round input start outer separates (one start rest is (others_lead n rest are)))

      rounds_lead : (first : ℕ) (then : List Instruction) → place_at program first ≡ round → place_at program (length after) ≡ after
          → (input : Forest) → RoundsUpTo op separator One Within Between Behind input → Leads (begin op first (length after) ∷ then) (input ∷ outer)
      rounds_lead first then to_round to_behind input (inl (inl comes)) =
          by_first op first (length after) then round (input ∷ outer) to_round (within input comes)
      rounds_lead first then to_round to_behind input (inl (inr (n, rest, is, are))) =
          by_first op first (length after) then round (input ∷ outer) to_round (one input rest is (others_lead n rest are))
      rounds_lead first then to_round to_behind input (inr (none, comes)) =
          by_none op first (length after) then after (input ∷ outer) to_behind none (past input comes)

    -- The instructions of a pattern lead as far as the pattern comes.
    pub pattern_leads : (at : ℕ) (pattern : Pattern) (behind : List Instruction) (outer : List Forest) → Fits Last Next at pattern behind
        → IsPlace program (instructions_before pattern behind) → (input : Forest) → TakesUpTo Next at pattern input (left_in outer)
        → Leads (instructions_before pattern behind) (input ∷ outer)
    pattern_leads at nothing behind outer fits is input comes = absurd comes
    pattern_leads at (variable it others) behind outer fits is input (inl next) =
        at_once (instructions_before (variable it others) behind) (input ∷ outer) ((fits.0 input outer).1 next)
    pattern_leads at (variable it others) behind outer fits is input (inr (takes, comes)) =
        let after = instructions_before others behind in
        by_take it after input outer takes
        (pattern_leads (suc at) others behind outer fits.1 (behind_first program (take it) after is) (left_by it.fragment input) comes)
    pattern_leads at (token its others) behind outer fits is input (inl next) =
        at_once (instructions_before (token its others) behind) (input ∷ outer) ((fits.0 input outer).1 next)
    pattern_leads at (token its others) behind outer fits is input (inr (like, comes)) =
        let after = instructions_before others behind in
        by_pass its after input outer like
        (pattern_leads (suc at) others behind outer fits.1 (behind_first program (pass its) after is) (after_trees (length its) input) comes)
    pattern_leads at (subtree kind inner others) behind outer fits is input (inl next) =
        at_once (instructions_before (subtree kind inner others) behind) (input ∷ outer) ((fits.0 input outer).1 next)
    pattern_leads at (subtree kind inner others) behind outer fits is input (inr (node, comes)) =
        by_enter kind inside input outer node (elim comes [
          | inl (inl within) ↦ pattern_leads (suc at) inner (leave ∷ after) (after_tree input ∷ outer) fits.2 is_inside (children_of input) within
          | inl (inr (reading, rest, takes, next)) ↦
              by_reading inner (leave ∷ after) (after_tree input ∷ outer) (children_of input) rest reading is_inside takes
              (at_once (leave ∷ after) (rest ∷ after_tree input ∷ outer) ((fits.1 rest (after_tree input ∷ outer)).1 next))
          | inr (reading, takes, further) ↦
              by_reading inner (leave ∷ after) (after_tree input ∷ outer) (children_of input) end reading is_inside takes
              (by_leave after (after_tree input ∷ outer)
              (pattern_leads (suc (suc at + place_count inner)) others behind outer fits.3 is_after (after_tree input) further))
        ])
      where
        after : List Instruction
        after = instructions_before others behind

        inside : List Instruction
        inside = instructions_before inner (leave ∷ after)

        is_inside : IsPlace program inside
        is_inside = behind_first program (enter kind) inside is

        is_after : IsPlace program after
        is_after = behind_first program leave after (behind_pattern program inner (leave ∷ after) is_inside)
    pattern_leads at (repetition inner separator op others) behind outer fits is input comes =
        let after = instructions_before others behind in
        let ends = close_place inner separator op after in
        let round = round_place inner separator op after in
        let placed = is_round inner separator op after program is in
        let later = at + place_count inner + separator_count separator in
        rounds_lead op separator (again_at separator (step_count inner) (length after)) (at + place_count inner) round after outer
        (λ trees rest. (reading : Reading) × Takes inner trees reading rest) (λ trees. TakesUpTo Next at inner trees (left_in outer))
        (λ trees. TakesUpTo Next later others trees (left_in outer))
        fits.2 (to_again inner separator op after program is)
        (λ trees rest takes. by_reading inner ends outer trees rest takes.0 placed takes.1)
        (pattern_leads at inner ends outer fits.3 placed)
        (pattern_leads later others behind outer fits.4 (is_after inner separator op after program is))
        (step_count inner + suc (length after)) (separator_before separator round)
        (to_first inner separator op after program is) (to_after inner separator op after program is) input comes

-- So does the whole program.
pub program_leads : (Last : (place : List Instruction) → (levels : List Forest) → Type 0) (Next : (part : ℕ) → Label → (trees : Forest) → (outside : ℕ) → Type 0)
    (pattern : Pattern) (input : Forest) → FitsWhole Last Next pattern → ComesTo Next pattern input → Leads (program_of pattern) Last (program_of pattern) (input ∷ [])
program_leads Last Next pattern input fits (inl comes) = pattern_leads (program_of pattern) Last Next 0 pattern (leave ∷ []) [] fits.parts ([], refl) input comes
program_leads Last Next pattern input fits (inr (reading, rest, takes, next)) =
    by_reading (program_of pattern) Last pattern (leave ∷ []) [] input rest reading ([], refl) takes
    (at_once (program_of pattern) Last (leave ∷ []) (rest ∷ []) ((fits.last rest []).1 next))
