-- Part by part, what is left of a pattern is judged, and becomes less.
use Rattle.std.proofs.Common.{◌≡◌, ◌+◌, ◌*◌, ◌<◌, ℕ, suc, Bool, true, false, List, [], ◌∷◌, ◌++◌, map, Option, None, Some, refl, ap, ap₂, sym, ◌∙◌, arith}
use Rattle.std.proofs.lemmas.List.{reverse-append}
use Rattle.std.specs.Prelude.{◌&&◌, ◌||◌}
use Rattle.tt.specs.Forest.{Forest}
use Rattle.tt.specs.Iters.{rest_of}
use Rattle.mbe_pattern.specs.declared.error.PatternError.{PatternError}
use Rattle.mbe_pattern.specs.declared.error.PatternError.TheVariants as error
use Rattle.mbe_pattern.specs.declared.first.First.{First}
use Rattle.mbe_pattern.specs.declared.first.First.TheVariants as first
use Rattle.mbe_pattern.specs.declared.validation.Level.{Level}
use Rattle.mbe_pattern.specs.declared.validation.Opened.{Opened}
use Rattle.mbe_pattern.specs.declared.pattern.RepeatKind.{RepeatKind}
use Rattle.mbe_pattern.specs.Faults.{or_else, names_with, names_behind, name_fault, separator_fault, empty_fault, fault_behind, pattern_fault, IsPatternError}
use Rattle.mbe_pattern.specs.Validating.{IsFirst, LevelLeft, level_left, levels_left, State, fault_at_end, is_open_behind, level_of, levels_behind, opened_with, with_level, stepped}
use Rattle.mbe_pattern.specs.Patterns.{may_take_none, may_be_none, may_be_empty}
use Rattle.mbe_pattern.specs.Placed.{Placed, nothing, variable, wrong, token, subtree, repetition, plain, placed_until}

or_else_more : (a b c : Option PatternError) → or_else a (or_else b c) ≡ or_else (or_else a b) c
or_else_more None b c = refl
or_else_more (Some it) b c = refl

or_else_none : (a : Option PatternError) → or_else a None ≡ a
or_else_none None = refl
or_else_none (Some it) = refl

and_false : (b : Bool) → (b && false) ≡ false
and_false true = refl
and_false false = refl

and_true : (b : Bool) → (b && true) ≡ b
and_true true = refl
and_true false = refl

and_more : (a b c : Bool) → ((a && b) && c) ≡ (a && (b && c))
and_more true b c = refl
and_more false b c = refl

-- the final fault, if the innermost level is at its end
abbrev pub fault_outside : (names : List (List ℕ)) → (fault : Option PatternError) → (closing : Option Opened) → (is_empty : Bool) → (outer : List LevelLeft) → Option PatternError
fault_outside names fault closing is_empty [] = fault_at_end closing is_empty fault
fault_outside names fault closing is_empty (next ∷ outer) =
    fault_outside (names_behind names next.rest) (or_else (fault_at_end closing is_empty fault) (fault_behind names next.rest)) next.closing
    (is_open_behind closing is_empty next.is_open && may_be_empty (plain next.rest)) outer

-- the final fault, given the levels that are left
abbrev pub fault_left_in : (names : List (List ℕ)) → (fault : Option PatternError) → List LevelLeft → Option PatternError
fault_left_in names fault [] = fault
fault_left_in names fault (level ∷ outer) =
    fault_outside (names_behind names level.rest) (or_else fault (fault_behind names level.rest)) level.closing (level.is_open && may_be_empty (plain level.rest)) outer

abbrev pub fault_left : State → Option PatternError
fault_left state = fault_left_in state.names state.fault state.levels

-- how many parts a pattern has, at any depth
abbrev pub parts : Placed → ℕ
parts nothing = 0
parts (variable at it others) = suc (parts others)
parts (wrong why it others) = suc (parts others)
parts (token its others) = suc (parts others)
parts (subtree kind inner others) = suc (parts inner + parts others)
parts (repetition at inner separator op others) = suc (parts inner + parts others)

-- how much of the levels is still to be read
abbrev pub work_of : List LevelLeft → ℕ
work_of [] = 0
work_of (level ∷ outer) = suc (2 * parts level.rest + work_of outer)

-- The last level is the innermost.
pub levels_last : (its : List Level) (it : Level) → levels_left (its ++ it ∷ []) ≡ level_left it ∷ levels_left its
levels_last its it = ap (map level_left) (reverse-append its (it ∷ []))

-- The inside of a repetition is judged after the repetition itself.
held_fault : (fault before held behind : Option PatternError) (at : ℕ) (kind : RepeatKind) (e : Bool)
    → or_else (fault_at_end (Some (opened_with at kind (or_else fault before))) e (or_else (or_else fault before) held)) behind
    ≡ or_else fault (or_else before (or_else (empty_fault at e) (or_else held behind)))
held_fault (Some it) before held behind at kind e = refl
held_fault None (Some it) held behind at kind e = refl
held_fault None None held behind at kind e = sym (or_else_more (empty_fault at e) held behind)

module _ (names : List (List ℕ)) (fault : Option PatternError) (outer : List LevelLeft) (closing : Option Opened) (is_open : Bool) (until : ℕ) (trees rest : Forest) where
  abbrev whole : Placed
  whole = placed_until until trees

  abbrev others : Placed
  others = placed_until until rest

  abbrev before : State
  before = record { names = names; fault = fault; levels = outer }

  -- the final fault, given what is left of the level
  abbrev left : Placed → Option PatternError
  left rest = fault_left (with_level (level_of rest closing is_open) before)

  end_step : (outer : List LevelLeft)
      → fault_left_in names (fault_at_end closing is_open fault) (levels_behind closing is_open outer) ≡ fault_outside names fault closing is_open outer
  end_step [] = refl
  end_step (next ∷ outer) = refl

  -- After a part is judged, the final fault is the same as before.
  pub validated_step : (found : First) → IsFirst until trees found rest → fault_left (stepped found (level_of others closing is_open) before) ≡ left whole
  validated_step first.End is =
      end_step outer ∙ ap₂ (λ f e. fault_outside names f closing e outer) (sym (or_else_none fault)) (sym (and_true is_open)) ∙ ap left (sym is)
  validated_step (first.Variable at it) is =
      let now = names_with it.name names in
      ap₂ (λ f e. fault_outside (names_behind now others) f closing e outer) (sym (or_else_more fault (name_fault at it.name names) (fault_behind now others)))
      (and_more is_open (may_take_none it.fragment) (may_be_empty (plain others)))
      ∙ ap left (sym is)
  validated_step (first.Wrong why it) is =
      ap₂ (λ f e. fault_outside (names_behind names others) f closing e outer) (sym (or_else_more fault (Some why) (fault_behind names others))) (sym (and_false is_open)) ∙ ap left (sym is)
  validated_step (first.Token count) is =
      ap (λ e. fault_outside (names_behind names others) (or_else fault (fault_behind names others)) closing e outer) (sym (and_false is_open)) ∙ ap left (sym is)
  validated_step (first.Subtree kind inner inside) is =
      let held = placed_until inside (rest_of inner) in
      let now = names_behind names held in
      ap₂ (λ f e. fault_outside (names_behind now others) f closing e outer) (sym (or_else_more fault (fault_behind names held) (fault_behind now others))) (sym (and_false is_open))
      ∙ ap left (sym is)
  validated_step (first.Repetition at inner inside tail) is =
      let held = placed_until inside (rest_of inner) in
      let now = names_behind names held in
      let empty = may_be_empty (plain held) in
      ap₂ (λ f e. fault_outside (names_behind now others) f closing e outer)
      (held_fault fault (separator_fault at tail.separator.items tail.kind) (fault_behind names held) (fault_behind now others) at tail.kind empty)
      (and_more is_open (may_be_none tail.kind || empty) (may_be_empty (plain others)))
      ∙ ap left (sym is)

  less_end : (outer : List LevelLeft) → work_of (levels_behind closing is_open outer) ≡ work_of outer
  less_end [] = refl
  less_end (next ∷ outer) = refl

  -- Less is left to read after a part.
  pub less_step : (found : First) → IsFirst until trees found rest
      → work_of (stepped found (level_of others closing is_open) before).levels < work_of (level_of whole closing is_open ∷ outer)
  less_step first.End is = omega (arith, less_end outer)
  less_step (first.Variable at it) is = omega (arith, ap parts is)
  less_step (first.Wrong why it) is = omega (arith, ap parts is)
  less_step (first.Token count) is = omega (arith, ap parts is)
  less_step (first.Subtree kind inner inside) is = omega (arith, ap parts is)
  less_step (first.Repetition at inner inside tail) is = omega (arith, ap parts is)

-- The first fault is why the trees are no pattern.
pub is_error : (trees : Forest) (fault : PatternError) → pattern_fault trees ≡ Some fault → IsPatternError trees fault
is_error trees error.Memory is = tt
is_error trees (error.BeginsNothing at) is = is
is_error trees (error.UnknownFragment at) is = is
is_error trees (error.NameTwice at) is = is
is_error trees (error.NeedlessSeparator at) is = is
is_error trees (error.EmptyRepetition at) is = is
