-- Worked numbers of parts, what parts require, and a part at which a run is stuck.
use Rattle.std.proofs.Common.{◌≡◌, inl, inr, [], ◌∷◌, None, Some, codes, refl}
use Rattle.tt.specs.Forest.{end}
use Rattle.tt.specs.Types.DelimiterKind.TheVariants.{Parenthesis}
use Rattle.tt.specs.Types.Spacing.TheVariants.{Alone, Joint}
use Rattle.mbe_matcher.specs.Labels as label
use Rattle.tt_base.proofs.Samples.{punct}
use Rattle.mbe_pattern.proofs.Rows.{word, listed}
use Rattle.mbe_pattern.specs.Patterns.{nothing, variable, subtree}
use Rattle.mbe_pattern.specs.Placed.{pattern_of}
use Rattle.mbe_pattern.specs.declared.pattern.Fragment.TheVariants as fragment
use Rattle.mbe_pattern.specs.declared.pattern.Variable.{Variable}
use Rattle.mbe_program.specs.Labelling.{labelled}
use Rattle.mbe_program.specs.Numbering.{IsStuckRun, part_at, parts_of}
use Rattle.mbe_program.specs.Program.{program_of}

-- the variable `$x:ident`
abbrev x : Variable
x = record { name = codes "x"; fragment = fragment.Ident }

-- `($x:ident)` has four parts: the beginning of the subtree, the variable, the end of the subtree, and the end of the input.
inside_row : parts_of (subtree Parenthesis (variable x nothing) nothing) ≡ 0 ∷ 1 ∷ 2 ∷ 3 ∷ []
inside_row = refl

-- `$($x:ident),* $(,)?` has four parts too: the variable, the separator, the other comma, and the end of the input. In the program the separator
-- precedes the variable.
listed_row : parts_of (pattern_of listed) ≡ 0 ∷ 1 ∷ 0 ∷ 0 ∷ 0 ∷ 2 ∷ 0 ∷ 3 ∷ []
listed_row = refl

variable_row : part_at (parts_of (pattern_of listed)) 6 ≡ 0
variable_row = refl

separator_row : part_at (parts_of (pattern_of listed)) 7 ≡ 1
separator_row = refl

-- So the variable, the separator after it, the other comma and the end of the input are found by their numbers, and no fifth part is.
first_row : labelled (program_of (pattern_of listed)) (parts_of (pattern_of listed)) 0 ≡ Some (label.take x)
first_row = refl

second_row : labelled (program_of (pattern_of listed)) (parts_of (pattern_of listed)) 1 ≡ Some (label.same (punct 44 Joint ∷ []))
second_row = refl

third_row : labelled (program_of (pattern_of listed)) (parts_of (pattern_of listed)) 2 ≡ Some (label.same (punct 44 Alone ∷ []))
third_row = refl

last_row : labelled (program_of (pattern_of listed)) (parts_of (pattern_of listed)) 3 ≡ Some label.leave
last_row = refl

none_row : labelled (program_of (pattern_of listed)) (parts_of (pattern_of listed)) 4 ≡ None
none_row = refl

-- At `b` in `a b` a run that has taken `a` is stuck at the separator, and another one at the end of the input.
stuck_row : IsStuckRun (program_of (pattern_of listed)) (parts_of (pattern_of listed)) (word (codes "a") (word (codes "b") end)) 1 1
stuck_row = (1, refl, 3, _, inl (_, refl, (refl, (_, refl, inl (refl, (_, refl, ((refl, refl, λ like. like.1.0), refl)))))))

ended_row : IsStuckRun (program_of (pattern_of listed)) (parts_of (pattern_of listed)) (word (codes "a") (word (codes "b") end)) 1 3
ended_row = (1, refl, 4, _, inl (_, refl, (refl, (_, refl, inr (_, refl, inr (refl, (_, refl, ((refl, refl, λ ended. cc ended), refl))))))))
