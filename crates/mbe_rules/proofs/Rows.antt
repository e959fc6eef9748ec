-- Worked templates: each holds by computation.
use Rattle.std.proofs.Common.{◌≡◌, ℕ, List, [], ◌∷◌, true, false, Option, None, Some, codes, refl, lit<, lit≤, not-le_of_lt}
use Rattle.tt.specs.Forest.{Forest, end, leaf, node, join, size}
use Rattle.tt.specs.Types.Delimiter.{Delimiter}
use Rattle.tt.specs.Types.DelimiterKind.TheVariants.{Parenthesis, Brace, Bracket, InvisibleOpaque}
use Rattle.tt.specs.Types.IdentIsRaw.TheVariants.{Yes, No}
use Rattle.tt.specs.Types.Leaf.TheVariants as leaf_of
use Rattle.tt.specs.Types.LitKind.TheVariants.{Integer}
use Rattle.tt.specs.Types.Spacing.TheVariants.{Alone, Joint}
use Rattle.tt_base.specs.Token.{delimiter}
use Rattle.tt_base.proofs.Samples.{span, punct, ident, literal, subtree}
use Rattle.mbe_pattern.specs.declared.pattern.Fragment.{Fragment}
use Rattle.mbe_pattern.specs.declared.pattern.Fragment.TheVariants as fragment
use Rattle.mbe_pattern.specs.declared.pattern.GrammarFragment.TheVariants as grammar
use Rattle.mbe_pattern.specs.declared.pattern.RepeatKind.TheVariants as repeat
use Rattle.mbe_pattern.specs.declared.pattern.Variable.{Variable}
use Rattle.mbe_pattern.specs.Patterns.{Pattern}
use Rattle.mbe_pattern.specs.Patterns as pattern
use Rattle.mbe_matcher.specs.Bindings.{Bound, one, none, first, Named, Binding}
use Rattle.mbe_matcher.specs.Grouping.{Where}
use Rattle.mbe_rules.specs.declared.transcribe_error.TranscribeError.{TranscribeError}
use Rattle.mbe_rules.specs.declared.transcribe_error.TranscribeError.TheVariants as refusal
use Rattle.mbe_rules.specs.Arms.{Arm}
use Rattle.mbe_rules.specs.Faults.{template_fault, faults_of}
use Rattle.mbe_rules.specs.Limits.{IsWithin}
use Rattle.mbe_rules.specs.Results.{IsTranscribeError}
use Rattle.mbe_rules.specs.Transcribing.{Transcribed, all_transcribed, transcribed, still_repeats, nothing_repeats, lengths_differ, no_round}
use Rattle.mbe_rules.specs.Parts.{all_bits, uses, same, begin, close, leave}
use Rattle.mbe_rules.specs.Spelling.{template_of}
use Rattle.mbe_rules.specs.Templates.{Template, nothing, use_of, token, subtree as held_by, repetition}

-- small trees before others: an ident, and puncts with spacing `Alone` or `Joint`
abbrev word : List ℕ → Forest → Forest
word text rest = leaf (ident text) rest

abbrev raw_word : List ℕ → Forest → Forest
raw_word text rest = leaf (leaf_of.Ident (record { sym = text; span = span 0 1; is_raw = Yes })) rest

abbrev alone : ℕ → Forest → Forest
alone char rest = leaf (punct char Alone) rest

-- `$( .. )` before others
abbrev rounds : Forest → Forest → Forest
rounds inside rest = alone 36 (join (subtree Parenthesis inside) rest)

-- the names `x`, `y` and `z`
abbrev x : List ℕ
x = codes "x"

abbrev y : List ℕ
y = codes "y"

abbrev z : List ℕ
z = codes "z"

-- a variable that is named `_`
abbrev underscore : Variable
underscore = record { name = codes "_"; fragment = fragment.Tt }

-- variables of those names, in no repetition, in one, and in two; and one that is named `_`
abbrev variable : List ℕ → List ℕ → Where
variable name nest = record { variable = record { name = name; fragment = fragment.Tt }; number = 0; nest = nest }

abbrev variables : List Where
variables = record { variable = underscore; number = 0; nest = [] } ∷ variable x [] ∷ variable y (1 ∷ []) ∷ variable z (1 ∷ 2 ∷ []) ∷ []

-- `$x` is a use, `$r#x` too, and so is `$_`.
use_spelled : template_of variables (alone 36 (word x (alone 59 end))) ≡ use_of 0 1 false (token (punct 59 Alone) nothing)
use_spelled = refl

raw_spelled : template_of variables (alone 36 (raw_word x end)) ≡ use_of 0 1 false nothing
raw_spelled = refl

underscore_spelled : template_of variables (alone 36 (word (codes "_") end)) ≡ use_of 0 0 false nothing
underscore_spelled = refl

-- `$a` and `$crate` stay as they are, and so do `$_` if no variable is named `_`, and a `$` at the end.
abbrev dollar_leaf : Template → Template
dollar_leaf others = token (punct 36 Alone) others

unknown_stays : template_of variables (alone 36 (word (codes "a") end)) ≡ dollar_leaf (token (ident (codes "a")) nothing)
unknown_stays = refl

crate_stays : template_of variables (alone 36 (word (codes "crate") end)) ≡ dollar_leaf (token (ident (codes "crate")) nothing)
crate_stays = refl

underscore_stays : template_of (variable x [] ∷ []) (alone 36 (word (codes "_") end)) ≡ dollar_leaf (token (ident (codes "_")) nothing)
underscore_stays = refl

last_stays : template_of variables (alone 36 end) ≡ dollar_leaf nothing
last_stays = refl

-- `$$x` is `$`, and `x`; the third `$` of `$$$x` begins a use.
second_written : template_of variables (alone 36 (alone 36 (word x end))) ≡ dollar_leaf (token (ident x) nothing)
second_written = refl

third_used : template_of variables (alone 36 (alone 36 (alone 36 (word x end)))) ≡ dollar_leaf (use_of 2 1 false nothing)
third_used = refl

-- `$($y),*`, `$($y)+` and `$($y)$*`; `$($y)` is no repetition, and neither is `$[$y]*`.
list_spelled : template_of variables (rounds (alone 36 (word y end)) (alone 44 (alone 42 (word x end))))
    ≡ repetition 0 (use_of 2 2 false nothing) (punct 44 Alone ∷ []) repeat.ZeroOrMore (token (ident x) nothing)
list_spelled = refl

more_spelled : template_of variables (rounds (alone 36 (word y end)) (alone 43 end))
    ≡ repetition 0 (use_of 2 2 false nothing) [] repeat.OneOrMore nothing
more_spelled = refl

dollar_separates : template_of variables (rounds (alone 36 (word y end)) (alone 36 (alone 42 end)))
    ≡ repetition 0 (use_of 2 2 false nothing) (punct 36 Alone ∷ []) repeat.ZeroOrMore nothing
dollar_separates = refl

no_tail : template_of variables (rounds (alone 36 (word y end)) end)
    ≡ dollar_leaf (held_by (delimiter Parenthesis (span 0 1) (span 1 1)) (use_of 2 2 false nothing) nothing)
no_tail = refl

brace_stays : template_of variables (alone 36 (join (subtree Brace end) (alone 42 end)))
    ≡ dollar_leaf (held_by (delimiter Brace (span 0 1) (span 1 1)) nothing (token (punct 42 Alone) nothing))
brace_stays = refl

-- Its parts.
list_parts : all_bits (template_of variables (rounds (alone 36 (word y end)) (alone 44 (alone 42 (word x end)))))
    ≡ begin 0 ∷ uses 2 2 false ∷ close (punct 44 Alone ∷ []) repeat.ZeroOrMore ∷ same (ident x) ∷ leave ∷ []
list_parts = refl

-- the fault that trees show as a template
abbrev fault_of : Forest → Option TranscribeError
fault_of trees = template_fault variables (template_of variables trees)

-- `$x` may be used in any repetitions in which another variable repeats; `$y` still repeats in none, and so does `$z` in one.
fine : fault_of (rounds (alone 36 (word x (alone 36 (word y end)))) (alone 42 end)) ≡ None
fine = refl

repeats_still : fault_of (alone 36 (word x (alone 36 (word y end)))) ≡ Some (refusal.StillRepeats 2)
repeats_still = refl

inner_repeats_still : fault_of (rounds (alone 36 (word z end)) (alone 42 end)) ≡ Some (refusal.StillRepeats 2)
inner_repeats_still = refl

-- `$($x)*` and `$( )*` use nothing that repeats, and neither does the inner repetition of `$($($y)*)*`.
none_repeats : fault_of (rounds (alone 36 (word x end)) (alone 42 end)) ≡ Some (refusal.NothingRepeats 0)
none_repeats = refl

empty_repeats : fault_of (rounds end (alone 42 end)) ≡ Some (refusal.NothingRepeats 0)
empty_repeats = refl

inner_nothing : fault_of (rounds (rounds (alone 36 (word y end)) (alone 42 end)) (alone 42 end)) ≡ Some (refusal.NothingRepeats 2)
inner_nothing = refl

-- The first fault counts: a repetition comes before what it holds, and that before what follows.
outer_first : fault_of (rounds (rounds end (alone 42 end)) (alone 42 (alone 36 (word y end)))) ≡ Some (refusal.NothingRepeats 0)
outer_first = refl

inner_first : fault_of (rounds (alone 36 (word z end)) (alone 42 (alone 36 (word y end)))) ≡ Some (refusal.StillRepeats 2)
inner_first = refl

-- The tokens before it are counted at any depth, with brackets and tails.
behind_subtree : fault_of (join (subtree Parenthesis (word x end)) (word x (alone 36 (word y end)))) ≡ Some (refusal.StillRepeats 3)
behind_subtree = refl

behind_repetition : fault_of (rounds (alone 36 (word y end)) (alone 44 (alone 42 (alone 36 (word y end))))) ≡ Some (refusal.StillRepeats 6)
behind_repetition = refl

-- Of the arms `($x:tt) => { $x }`, `($($x:tt)*) => { $x $( )* }` and `($x:tt) => { $($x)* }` the last two show a fault.
abbrev one_x : Pattern
one_x = pattern.variable (record { name = x; fragment = fragment.Tt }) pattern.nothing

abbrev many_x : Pattern
many_x = pattern.repetition one_x [] repeat.ZeroOrMore pattern.nothing

abbrev arm_of : Pattern → Template → Arm
arm_of its template = record { pattern = its; delimiter = delimiter Brace (span 0 1) (span 1 1); template = template }

arms_show : faults_of
    (arm_of one_x (use_of 0 0 false nothing) ∷ arm_of many_x (use_of 0 0 false (repetition 2 nothing [] repeat.ZeroOrMore nothing))
    ∷ arm_of one_x (repetition 0 (use_of 2 0 false nothing) [] repeat.ZeroOrMore nothing) ∷ []) 0
    ≡ record { arm = 1; fault = refusal.StillRepeats 0 } ∷ record { arm = 2; fault = refusal.NothingRepeats 0 } ∷ []
arms_show = refl

-- what is bound: `a` to `$x`, trees to `$y` in two rounds, and to `$z` in two rounds, where the second holds no inner round
abbrev a_tree : Forest
a_tree = word (codes "a") end

abbrev b_tree : Forest
b_tree = word (codes "b") end

abbrev bind : List ℕ → Bound → Named
bind name bound = record { variable = record { name = name; fragment = fragment.Tt }; bound = bound }

abbrev binding : Binding
binding =
    record { variable = underscore; bound = one b_tree } ∷ bind x (one a_tree) ∷ bind y (first (one a_tree) (first (one b_tree) none))
    ∷ bind z (first (first (one a_tree) none) (first none none)) ∷ []

-- what trees become
abbrev becomes : Binding → Forest → Transcribed
becomes bound trees = transcribed (template_of variables trees) bound

-- `$x;`, `$($y),*`, `$($y)$*`, `$_` and `$($x $y)*`
use_transcribed : becomes binding (alone 36 (word x (alone 59 end))) ≡ all_transcribed (word (codes "a") (alone 59 end))
use_transcribed = refl

list_transcribed : becomes binding (rounds (alone 36 (word y end)) (alone 44 (alone 42 end))) ≡ all_transcribed (word (codes "a") (alone 44 (word (codes "b") end)))
list_transcribed = refl

dollars_transcribed : becomes binding (rounds (alone 36 (word y end)) (alone 36 (alone 42 end))) ≡ all_transcribed (word (codes "a") (alone 36 (word (codes "b") end)))
dollars_transcribed = refl

underscore_transcribed : becomes binding (alone 36 (word (codes "_") end)) ≡ all_transcribed (word (codes "b") end)
underscore_transcribed = refl

outer_transcribed : becomes binding (rounds (alone 36 (word x (alone 36 (word y end)))) (alone 42 end))
    ≡ all_transcribed (word (codes "a") (word (codes "a") (word (codes "a") (word (codes "b") end))))
outer_transcribed = refl

-- `$($y $($z)*)*`: `$y` is written in each round, and `$z` in the first.
nested_transcribed : becomes binding (rounds (alone 36 (word y (rounds (alone 36 (word z end)) (alone 42 end)))) (alone 42 end))
    ≡ all_transcribed (word (codes "a") (word (codes "a") (word (codes "b") end)))
nested_transcribed = refl

-- A use of `$y` still repeats, and so does one of `$z` in one repetition; what comes before it is written.
use_repeats : becomes binding (alone 36 (word x (alone 36 (word y end)))) ≡ record { trees = word (codes "a") end; fault = Some (still_repeats 2) }
use_repeats = refl

inner_use_repeats : becomes binding (rounds (alone 36 (word y (alone 36 (word z end)))) (alone 42 end)) ≡ record { trees = word (codes "a") end; fault = Some (still_repeats 4) }
inner_use_repeats = refl

-- `$($x)*` and `$( )*` use nothing that repeats, and neither does the inner repetition of `$($y $($x)*)*`.
outer_nothing : becomes binding (rounds (alone 36 (word x end)) (alone 42 end)) ≡ record { trees = end; fault = Some (nothing_repeats 0) }
outer_nothing = refl

empty_nothing : becomes binding (rounds end (alone 42 end)) ≡ record { trees = end; fault = Some (nothing_repeats 0) }
empty_nothing = refl

inside_nothing : becomes binding (rounds (alone 36 (word y (rounds (alone 36 (word x end)) (alone 42 end)))) (alone 42 end))
    ≡ record { trees = word (codes "a") end; fault = Some (nothing_repeats 4) }
inside_nothing = refl

-- `+` requires a round; and `$y` and `$z` must have the same number of rounds.
abbrev empty : Binding
empty = record { variable = underscore; bound = one b_tree } ∷ bind x (one a_tree) ∷ bind y none ∷ bind z (first none none) ∷ []

none_wanted : becomes empty (rounds (alone 36 (word y end)) (alone 43 end)) ≡ record { trees = end; fault = Some (no_round 0) }
none_wanted = refl

none_there : becomes empty (rounds (alone 36 (word y end)) (alone 42 end)) ≡ all_transcribed end
none_there = refl

lengths_apart : becomes empty (rounds (alone 36 (word y (rounds (alone 36 (word z end)) (alone 42 end)))) (alone 42 end)) ≡ record { trees = end; fault = Some (lengths_differ 0) }
lengths_apart = refl

-- `$y` still repeats without a round, too. In a repetition with no round no fault is met.
empty_use : becomes empty (alone 36 (word y end)) ≡ record { trees = end; fault = Some (still_repeats 0) }
empty_use = refl

never_met : becomes empty (rounds (alone 36 (word y (rounds end (alone 42 end)))) (alone 42 end)) ≡ all_transcribed end
never_met = refl

-- A limit of tokens: the three of `$($y),*` exceed two, and not three. Without a limit no number is too many.
abbrev braces : Delimiter
braces = delimiter Brace (span 0 1) (span 1 1)

abbrev list_written : Transcribed
list_written = becomes binding (rounds (alone 36 (word y end)) (alone 44 (alone 42 end)))

over_two : IsTranscribeError (Some 2) braces list_written refusal.OverLimit
over_two = lit< tt

within_three : IsWithin (Some 3) (size list_written.trees)
within_three = lit≤ tt

not_over_three : IsTranscribeError (Some 3) braces list_written refusal.OverLimit → ⊥
not_over_three over = not-le_of_lt over (lit≤ tt)

never_over : IsTranscribeError None braces list_written refusal.OverLimit → ⊥
never_over over = over

nothing_within : IsWithin (Some 0) (size (becomes binding end).trees)
nothing_within = lit≤ tt

-- `$x $($y)+` writes a token before its fault: none may be written, or that one. `$($y)+ $x` writes none.
abbrev fault_behind : Transcribed
fault_behind = becomes empty (alone 36 (word x (rounds (alone 36 (word y end)) (alone 43 end))))

fault_beyond : IsTranscribeError (Some 0) braces fault_behind refusal.OverLimit
fault_beyond = lit< tt

fault_within : IsTranscribeError (Some 1) braces fault_behind (refusal.NoRound 2)
fault_within = (refl, lit≤ tt, lit≤ tt)

fault_first : IsTranscribeError (Some 0) braces (becomes empty (rounds (alone 36 (word y end)) (alone 43 (alone 36 (word x end))))) (refusal.NoRound 0)
fault_first = (refl, lit≤ tt, lit≤ tt)

-- A punct before a `$` does not form one token with what follows, and neither does the last punct of a
-- separator or of what is bound; other puncts do.
abbrev joint : ℕ → Forest → Forest
joint char rest = leaf (punct char Joint) rest

before_use : template_of variables (joint 60 (alone 36 (word x end))) ≡ token (punct 60 Alone) (use_of 1 1 false nothing)
before_use = refl

before_punct : template_of variables (joint 58 (alone 58 end)) ≡ token (punct 58 Joint) (token (punct 58 Alone) nothing)
before_punct = refl

joint_separator : template_of variables (rounds (alone 36 (word y end)) (joint 61 (joint 62 (alone 42 end))))
    ≡ repetition 0 (use_of 2 2 false nothing) (punct 61 Joint ∷ punct 62 Alone ∷ []) repeat.ZeroOrMore nothing
joint_separator = refl

joint_bound : transcribed (use_of 0 0 false (token (punct 61 Alone) nothing)) (bind x (one (joint 61 (joint 62 end))) ∷ []) ≡ all_transcribed (joint 61 (alone 62 (alone 61 end)))
joint_bound = refl

-- What a fragment of Rust's grammar took: an expression of more than one token becomes one opaque subtree with the spans of its ends. A
-- single token is written as it is, and so is a path.
abbrev bound_as : Fragment → Forest → Binding
bound_as which trees = record { variable = record { name = x; fragment = which }; bound = one trees } ∷ []

-- `a + b`, with these spans of `a` and `b`
abbrev sum : Forest
sum = leaf (leaf_of.Ident (record { sym = codes "a"; span = span 0 1; is_raw = Yes })) (alone 43 (leaf (leaf_of.Ident (record { sym = codes "b"; span = span 4 5; is_raw = Yes })) end))

sum_bound : transcribed (use_of 0 0 false nothing) (bound_as (fragment.Grammar grammar.Expr) sum)
    ≡ all_transcribed (node (record { open_span = span 0 1; close = span 4 5; kind = InvisibleOpaque }) sum end)
sum_bound = refl

sum_again : transcribed (use_of 0 0 false nothing) (bound_as (fragment.Grammar grammar.Pat) (node (delimiter InvisibleOpaque (span 0 1) (span 4 5)) sum end))
    ≡ all_transcribed (node (delimiter InvisibleOpaque (span 0 1) (span 4 5)) sum end)
sum_again = refl

token_bound : transcribed (use_of 0 0 false nothing) (bound_as (fragment.Grammar grammar.Ty) (word (codes "a") end)) ≡ all_transcribed (word (codes "a") end)
token_bound = refl

-- A type of one token becomes a subtree, too, if `<` follows it, as in `$x as $t < 5`; no other piece does.
less_spelled : template_of variables (alone 36 (word x (alone 60 end))) ≡ use_of 0 1 true (token (punct 60 Alone) nothing)
less_spelled = refl

shift_spelled : template_of variables (alone 36 (word x (joint 60 (alone 60 end)))) ≡ use_of 0 1 true (token (punct 60 Joint) (token (punct 60 Alone) nothing))
shift_spelled = refl

-- `u` with this span
abbrev u : Forest
u = leaf (leaf_of.Ident (record { sym = codes "u"; span = span 2 3; is_raw = No })) end

type_joined : transcribed (use_of 0 0 true nothing) (bound_as (fragment.Grammar grammar.Ty) u) ≡ all_transcribed (node (delimiter InvisibleOpaque (span 2 3) (span 2 3)) u end)
type_joined = refl

list_not_joined : transcribed (use_of 0 0 true nothing) (bound_as (fragment.Grammar grammar.Ty) (node (delimiter Bracket (span 0 1) (span 3 4)) u end))
    ≡ all_transcribed (node (delimiter Bracket (span 0 1) (span 3 4)) u end)
list_not_joined = refl

name_not_joined : transcribed (use_of 0 0 true nothing) (bound_as (fragment.Grammar grammar.Expr) u) ≡ all_transcribed u
name_not_joined = refl

dots_bound : transcribed (use_of 0 0 false nothing) (bound_as (fragment.Grammar grammar.PatParam) (joint 46 (alone 46 end))) ≡ all_transcribed (joint 46 (alone 46 end))
dots_bound = refl

path_bound : transcribed (use_of 0 0 false nothing) (bound_as (fragment.Grammar grammar.Path) sum) ≡ all_transcribed sum
path_bound = refl

-- `3` and `-3` before others
abbrev three : Forest → Forest
three rest = leaf (literal (codes "3") Integer (lit≤ tt) (lit≤ tt, λ h. absurd (not-le_of_lt (lit< tt) h))) rest

abbrev minus_three : Forest → Forest
minus_three rest = alone 45 (three rest)

-- A literal of more than one token, as `-3`, becomes one opaque subtree, too.
negative_bound : transcribed (use_of 0 0 false nothing) (bound_as fragment.Literal (minus_three end))
    ≡ all_transcribed (node (delimiter InvisibleOpaque (span 0 1) (span 0 1)) (minus_three end) end)
negative_bound = refl

three_bound : transcribed (use_of 0 0 false nothing) (bound_as fragment.Literal (three end)) ≡ all_transcribed (three end)
three_bound = refl
