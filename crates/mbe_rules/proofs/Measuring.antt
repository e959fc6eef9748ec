-- How much is left to do, given where the filling of a template is.
use Rattle.std.proofs.Common.{◌≡◌, ◌+◌, ◌-◌, ℕ, suc, List, [], ◌∷◌, drop, map, refl, ap, ap₂, sym, ◌∙◌, arith}
use Rattle.tt.specs.Types.Leaf.{Leaf}
use Rattle.tt.specs.Types.Span.{Span}
use Rattle.mbe_pattern.specs.declared.pattern.RepeatKind.{RepeatKind}
use Rattle.mbe_matcher.specs.Bindings.{Binding}
use Rattle.mbe_rules.specs.declared.taken.Round.{Round}
use Rattle.mbe_rules.specs.Transcribing.{in_round}
use Rattle.mbe_rules.specs.Parts.{Bit, close, bits_of}
use Rattle.mbe_rules.specs.Filling.{later, bound_here, IsEnd, AreLevels}
use Rattle.mbe_rules.specs.Templates.{Template, nothing}
use Rattle.mbe_rules.specs.Wholes.{Read, read, put, levels_in, first_in}
use Rattle.mbe_rules.specs.Working.{work, work_in_rounds, work_behind, work_of}
use Rattle.mbe_rules.specs.Writing.{Closing, last, shut, again, Level, end_of}
use Rattle.mbe_rules.proofs.Wholeness.{read_parts}

-- the template whose parts these begin with
abbrev body_in : List Bit → Template
body_in bits = first_in (levels_in bits)

-- how much is left of the rounds after this one
abbrev work_behind_round : List Bit → Binding → Round → Binding → ℕ
work_behind_round bits whole it outside =
    work_in_rounds (work (body_in (drop it.body bits))) (it.last - it.done) (map (in_round (later (suc it.done))) outside)

-- how much is left after the end of a level
abbrev work_outside : List Bit → Binding → (ending : Bit) → (Outer : List Round → ℕ) → List Round → ℕ
work_outside bits whole (close separator kind) Outer [] = 0
work_outside bits whole (close separator kind) Outer (it ∷ more) = work_behind_round bits whole it (bound_here whole more) + Outer more
work_outside bits whole other Outer rounds = Outer rounds

-- how much is left of levels that were read, with the rounds under way
abbrev pub work_at : List Bit → Binding → List Read → List Round → ℕ
work_at bits whole [] rounds = 0
work_at bits whole (level ∷ outer) rounds =
    suc (work level.template (bound_here whole rounds)) + work_outside bits whole level.ending (λ more. work_at bits whole outer more) rounds

-- An end is read as a level.
end_read : (closing : Closing) (levels : List Read) → put (end_of closing) levels ≡ read nothing (end_of closing) ∷ levels
end_read last levels = refl
end_read (shut span) levels = refl
end_read (again body separator kind n others) levels = refl

-- what is read of levels
abbrev reads_of : List Level → List Read
reads_of [] = []
reads_of (level ∷ outer) = read level.rest (end_of level.closing) ∷ reads_of outer

module _ (bits : List Bit) (whole : Binding) where
  -- The levels are read from what is left.
  levels_read : (levels : List Level) (rounds : List Round) (closes : List Span) (left : List Bit) → AreLevels bits whole levels rounds closes left
      → levels_in left ≡ reads_of levels
  levels_read [] rounds closes left agree = ap levels_in agree.2
  levels_read (level ∷ outer) rounds closes left (behind, is, bound, ends) =
      ap levels_in is ∙ read_parts level.rest (end_of level.closing) behind (reads_of outer) (ap (put (end_of level.closing)) (outer_read level.closing (levels_read outer) ends) ∙ end_read level.closing (reads_of outer))
    where
      outer_read : (closing : Closing) → ((more : List Round) (others : List Span) (left : List Bit) → AreLevels bits whole outer more others left → levels_in left ≡ reads_of outer)
          → IsEnd bits whole (λ more others. AreLevels bits whole outer more others behind) closing rounds closes behind
          → levels_in behind ≡ reads_of outer
      outer_read last by ends = by rounds closes behind (ends.1)
      outer_read (shut span) by (others, some, agree) = by rounds others behind agree
      outer_read (again body separator kind n others) by (it, more, some, round, agree) = by more closes behind agree

  -- A body is read where it begins.
  body_read : (body : Template) (separator : List Leaf) (kind : RepeatKind) (behind start : List Bit) → start ≡ bits_of body (close separator kind ∷ behind) → body_in start ≡ body
  body_read body separator kind behind start is =
      ap body_in is ∙ ap first_in (read_parts body (close separator kind) behind (levels_in behind) refl)

  -- How much work is left of them.
  work_left : (levels : List Level) (rounds : List Round) (closes : List Span) (left : List Bit) → AreLevels bits whole levels rounds closes left
      → work_of levels ≡ work_at bits whole (reads_of levels) rounds
  work_left [] rounds closes left agree = refl
  work_left (level ∷ outer) rounds closes left (behind, is, bound, ends) =
      omega (arith, ap (work level.rest) bound, outside level.closing (work_left outer) ends)
    where
      outside : (closing : Closing)
          → ((more : List Round) (others : List Span) (left : List Bit) → AreLevels bits whole outer more others left → work_of outer ≡ work_at bits whole (reads_of outer) more)
          → IsEnd bits whole (λ more others. AreLevels bits whole outer more others behind) closing rounds closes behind
          → work_behind closing + work_of outer ≡ work_outside bits whole (end_of closing) (λ more. work_at bits whole (reads_of outer) more) rounds
      outside last by ends = omega (arith, by rounds closes behind (ends.1))
      outside (shut span) by (others, some, agree) = omega (arith, by rounds others behind agree)
      outside (again body separator kind n others) by (it, more, some, round, agree) =
          let left_count : it.last - it.done ≡ n = omega (arith, round.count) in
          let same_body : body_in (drop it.body bits) ≡ body =
          body_read body separator kind behind (drop it.body bits) round.begins in
          ap₂ (λ b w. work_in_rounds (work body) n b + w) round.bound (by more closes behind agree)
          ∙ ap₂ (λ b m. work_in_rounds (work b) m (map (in_round (later (suc it.done))) (bound_here whole more)) + work_at bits whole (reads_of outer) more) (sym same_body) (sym left_count)
          ∙ ap (work_outside bits whole (close separator kind) (λ l. work_at bits whole (reads_of outer) l)) (sym some)

  pub work_is : (levels : List Level) (rounds : List Round) (closes : List Span) (left : List Bit) → AreLevels bits whole levels rounds closes left
      → work_of levels ≡ work_at bits whole (levels_in left) rounds
  work_is levels rounds closes left agree =
      work_left levels rounds closes left agree ∙ sym (ap (λ its. work_at bits whole its rounds) (levels_read levels rounds closes left agree))
