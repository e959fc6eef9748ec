-- Worked programs and their runs, each instruction at least once, and worked positions.
use Rattle.std.proofs.Common.{◌≡◌, inl, inr, zero, suc, List, [], ◌∷◌, codes, refl}
use Rattle.tt.specs.Forest.{end}
use Rattle.tt.specs.Types.DelimiterKind.TheVariants.{Parenthesis}
use Rattle.tt.specs.Types.Leaf.{Leaf}
use Rattle.tt.specs.Types.Spacing.TheVariants.{Alone, Joint}
use Rattle.tt_base.proofs.Samples.{punct, subtree as held_in}
use Rattle.mbe_matcher.specs.Marks.{taken, begun, ended, notes_of}
use Rattle.mbe_matcher.specs.Readings.{done, took, round, over}
use Rattle.mbe_pattern.proofs.Rows.{word, comma, listed}
use Rattle.mbe_pattern.specs.Patterns.{nothing, variable, token, subtree, repetition}
use Rattle.mbe_pattern.specs.Placed.{pattern_of}
use Rattle.mbe_pattern.specs.declared.pattern.Fragment.TheVariants as fragment
use Rattle.mbe_pattern.specs.declared.pattern.RepeatKind.TheVariants as repeat
use Rattle.mbe_pattern.specs.declared.pattern.Variable.{Variable}
use Rattle.mbe_program.specs.Answers.{HasNoRun}
use Rattle.mbe_program.specs.Laying.{level_spots, places_in}
use Rattle.mbe_program.specs.Program.{Instruction, take, pass, enter, leave, begin, close, place_at, program_of}
use Rattle.mbe_program.specs.Runs.{IsRun}
use Rattle.mbe_program.specs.Variables.{variable_at, variables_in}

-- the variable `$x:ident`, and the token `,`
abbrev x : Variable
x = record { name = codes "x"; fragment = fragment.Ident }

abbrev a_comma : List Leaf
a_comma = punct 44 Alone ∷ []

-- the same before another punct; a token's spacing does not count
abbrev joint_comma : List Leaf
joint_comma = punct 44 Joint ∷ []

-- `$x:ident` takes `a`, and notes it with the number of instructions that follow.
abbrev taking : List Instruction
taking = take x ∷ leave ∷ []

take_row : program_of (variable x nothing) ≡ taking
take_row = refl

take_run : IsRun taking (word (codes "a") end) (taken 1 (word (codes "a") end) ∷ [])
take_run = (2, (refl, (_, refl, (refl, ((refl, refl), refl)))))

-- It takes no `,`.
take_none : HasNoRun taking (comma end)
take_none notes (zero, run) = cc run.0.0
take_none notes (suc n, run) = cc run.0

-- A token is passed without a note.
pass_row : program_of (token a_comma nothing) ≡ pass a_comma ∷ leave ∷ []
pass_row = refl

pass_run : IsRun (pass a_comma ∷ leave ∷ []) (comma end) []
pass_run = (2, ((refl, (refl, tt)), (refl, ((refl, refl), refl))))

-- A subtree is entered, and left at its end: `($x:ident)` and `(a)`.
abbrev entering : List Instruction
entering = enter Parenthesis ∷ take x ∷ leave ∷ leave ∷ []

enter_row : program_of (subtree Parenthesis (variable x nothing) nothing) ≡ entering
enter_row = refl

enter_run : IsRun entering (held_in Parenthesis (word (codes "a") end)) (taken 2 (word (codes "a") end) ∷ [])
enter_run = (4, (refl, (refl, (_, refl, (refl, (refl, ((refl, refl), refl)))))))

-- `$($x:ident),* $(,)?` has two repetitions, of which the numbers are 4 and 1. The first round of each skips the separator, if there is one;
-- another round begins with it.
abbrev listing : List Instruction
listing =
    begin repeat.ZeroOrMore 6 4
    ∷ pass joint_comma
    ∷ take x
    ∷ close repeat.ZeroOrMore 7
    ∷ begin repeat.ZeroOrOne 3 1
    ∷ pass a_comma
    ∷ close repeat.ZeroOrOne 3
    ∷ leave
    ∷ []

listing_row : program_of (repetition (variable x nothing) joint_comma repeat.ZeroOrMore (repetition (token a_comma nothing) [] repeat.ZeroOrOne nothing)) ≡ listing
listing_row = refl

-- Trees spell it.
spelled_row : program_of (pattern_of listed) ≡ listing
spelled_row = refl

-- The number of `$x` is 5, and it is in the repetition 4.
variables_row : variables_in [] listing ≡ variable_at x 5 (4 ∷ []) ∷ []
variables_row = refl

-- Six instructions are left at the first round.
first_round : place_at listing 6 ≡ take x ∷ close repeat.ZeroOrMore 7 ∷ begin repeat.ZeroOrOne 3 1 ∷ pass a_comma ∷ close repeat.ZeroOrOne 3 ∷ leave ∷ []
first_round = refl

-- `a,` is one round, and its comma is a round of the second repetition.
one_row : IsRun listing (word (codes "a") (comma end)) (begun 4 ∷ taken 5 (word (codes "a") end) ∷ ended 4 ∷ begun 1 ∷ ended 1 ∷ [])
one_row =
    (7, inl (_, refl, (refl, (_, refl, inr (_, refl, inl (_, refl, ((refl, (refl, tt)), inr (_, refl, (refl, ((refl, refl), refl))))))))))

-- `a, b` passes the separator before its second round.
two_row : IsRun listing (word (codes "a") (comma (word (codes "b") end)))
    (begun 4 ∷ taken 5 (word (codes "a") end) ∷ begun 4 ∷ taken 5 (word (codes "b") end) ∷ ended 4 ∷ ended 1 ∷ [])
two_row =
    (8, inl (_, refl, (refl, (_, refl, inl (refl, (_, refl, ((refl, (refl, tt)), (refl, (_, refl, inr (_, refl, inr (refl, (_, refl, (refl, ((refl, refl), refl))))))))))))))

-- No round at all notes so for each repetition.
none_row : IsRun listing end (ended 4 ∷ ended 1 ∷ [])
none_row = (3, inr (refl, (_, refl, inr (refl, (_, refl, (refl, ((refl, refl), refl)))))))

-- These are the notes of the readings.
notes_row : notes_of (pattern_of listed) (round (took (word (codes "a") end) done) (over (round done (over done))))
    ≡ begun 4 ∷ taken 5 (word (codes "a") end) ∷ ended 4 ∷ begun 1 ∷ ended 1 ∷ []
notes_row = refl

-- `(a)` has four positions: before and behind the subtree, and before and behind `a` inside it.
places_row : places_in (held_in Parenthesis (word (codes "a") end)) ≡ 4
places_row = refl

-- Inside position 3, with five tokens behind the level, `a` has two positions; six tokens are left at the first.
level_row : level_spots 3 5 (word (codes "a") end) ≡ record { trees = word (codes "a") end; outside = 3; left = 6 } ∷ record { trees = end; outside = 3; left = 5 } ∷ []
level_row = refl
