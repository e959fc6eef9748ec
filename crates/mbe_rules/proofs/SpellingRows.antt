-- Worked faults of templates: each holds by computation.
use Rattle.std.proofs.Common.{◌≡◌, ℕ, None, Some, codes, refl}
use Rattle.tt.specs.Forest.{Forest, end, leaf, join}
use Rattle.tt.specs.Types.DelimiterKind.TheVariants.{Parenthesis, Brace, Bracket}
use Rattle.tt.specs.Types.Spacing.TheVariants.{Alone, Joint}
use Rattle.tt_base.proofs.Samples.{punct, ident, subtree}
use Rattle.mbe_rules.specs.declared.error.TemplateError.TheVariants as error
use Rattle.mbe_rules.specs.SpellingFaults.{spelling_fault}

-- `x`, and puncts with spacing `Alone` or `Joint`, before others
abbrev x : Forest → Forest
x rest = leaf (ident (codes "x")) rest

abbrev alone : ℕ → Forest → Forest
alone char rest = leaf (punct char Alone) rest

abbrev joint : ℕ → Forest → Forest
joint char rest = leaf (punct char Joint) rest

-- `$( .. )` before others
abbrev rounds : Forest → Forest → Forest
rounds inside rest = alone 36 (join (subtree Parenthesis inside) rest)

-- `$x $`, `$($x)*`, `$($x) x+`, `$(x)$*` and `${x}` have no fault.
use_sound : spelling_fault (alone 36 (x (alone 36 end))) ≡ None
use_sound = refl

repetition_sound : spelling_fault (rounds (alone 36 (x end)) (alone 42 end)) ≡ None
repetition_sound = refl

separator_sound : spelling_fault (rounds (alone 36 (x end)) (x (alone 43 end))) ≡ None
separator_sound = refl

dollar_sound : spelling_fault (rounds (x end) (alone 36 (alone 42 end))) ≡ None
dollar_sound = refl

braces_sound : spelling_fault (alone 36 (subtree Brace (x end))) ≡ None
braces_sound = refl

-- In `$$+` the second `$` is written, and in `$$$+` the third begins nothing.
second_sound : spelling_fault (alone 36 (alone 36 (alone 43 end))) ≡ None
second_sound = refl

third_begins : spelling_fault (alone 36 (alone 36 (alone 36 (alone 43 end)))) ≡ Some (error.BeginsNothing 3)
third_begins = refl

-- `$(x)` has no operator: the place is that of the parentheses. With `,` or `==` behind it that is the last tree; or else the next: `$(x), x`
-- and `$(x)[x]`.
none_behind : spelling_fault (x (rounds (x end) end)) ≡ Some (error.NoOperator 2)
none_behind = refl

comma_last : spelling_fault (rounds (x end) (alone 44 end)) ≡ Some (error.NoOperator 3)
comma_last = refl

equals_last : spelling_fault (rounds (x end) (joint 61 (alone 61 end))) ≡ Some (error.NoOperator 3)
equals_last = refl

word_behind : spelling_fault (rounds (x end) (alone 44 (x end))) ≡ Some (error.NoOperator 4)
word_behind = refl

brackets_behind : spelling_fault (rounds (x end) (subtree Bracket (x end))) ≡ Some (error.NoOperator 3)
brackets_behind = refl

-- `$(x) $x`: the second `$` would separate.
use_behind : spelling_fault (rounds (x end) (alone 36 (x end))) ≡ Some (error.NoOperator 4)
use_behind = refl

-- `$(x)*=` has a separator `*=` and no operator, and `$(x)+?` is a repetition before `?`.
joint_last : spelling_fault (rounds (x end) (joint 42 (alone 61 end))) ≡ Some (error.NoOperator 3)
joint_last = refl

more_sound : spelling_fault (rounds (x end) (alone 43 (alone 63 end))) ≡ None
more_sound = refl

-- `$(x),?` has a separator, and no `$` of `$+` and `$[x]*` begins anything.
separator_needless : spelling_fault (rounds (x end) (alone 44 (alone 63 end))) ≡ Some (error.NeedlessSeparator 3)
separator_needless = refl

sign_begins : spelling_fault (x (alone 36 (alone 43 end))) ≡ Some (error.BeginsNothing 2)
sign_begins = refl

brackets_begin : spelling_fault (alone 36 (join (subtree Bracket (x end)) (alone 42 end))) ≡ Some (error.BeginsNothing 1)
brackets_begin = refl

-- The first `$` counts: in `$($+), $[x]` that of the repetition, and in `x ($+) $[x]` that in parentheses.
outer_first : spelling_fault (rounds (alone 36 (alone 43 end)) (alone 44 (alone 36 (subtree Bracket (x end))))) ≡ Some (error.NoOperator 5)
outer_first = refl

inner_first : spelling_fault (x (join (subtree Parenthesis (alone 36 (alone 43 end))) (alone 36 (subtree Bracket (x end))))) ≡ Some (error.BeginsNothing 3)
inner_first = refl

-- What a repetition holds, and what follows it, is judged too: `$($+)* x` and `$(x)* $+`.
held_judged : spelling_fault (rounds (alone 36 (alone 43 end)) (alone 42 (x end))) ≡ Some (error.BeginsNothing 3)
held_judged = refl

behind_judged : spelling_fault (rounds (x end) (alone 42 (alone 36 (alone 43 end)))) ≡ Some (error.BeginsNothing 5)
behind_judged = refl
