-- Worked patterns: what trees spell, and what is wrong with them. Each holds by computation.
use Rattle.std.proofs.Common.{◌≡◌, ℕ, true, false, List, [], ◌∷◌, None, Some, codes, refl}
use Rattle.tt.specs.Forest.{Forest, end, leaf, join}
use Rattle.tt.specs.Types.DelimiterKind.TheVariants.{Parenthesis, Brace, Bracket}
use Rattle.tt.specs.Types.IdentIsRaw.TheVariants.{Yes}
use Rattle.tt.specs.Types.Leaf.TheVariants as leaf_of
use Rattle.tt.specs.Types.Spacing.TheVariants.{Alone, Joint}
use Rattle.tt_base.proofs.Samples.{span, punct, ident, subtree}
use Rattle.mbe_pattern.specs.declared.error.PatternError.TheVariants as error
use Rattle.mbe_pattern.specs.declared.pattern.Fragment.{Fragment}
use Rattle.mbe_pattern.specs.declared.pattern.Fragment.TheVariants as fragment
use Rattle.mbe_pattern.specs.declared.pattern.GrammarFragment.TheVariants as grammar
use Rattle.mbe_pattern.specs.declared.pattern.RepeatKind.TheVariants as repeat
use Rattle.mbe_pattern.specs.Faults.{pattern_fault}
use Rattle.mbe_pattern.specs.Patterns.{Pattern, nothing, variable, token, subtree as held_by, repetition, may_be_empty}
use Rattle.mbe_pattern.specs.Placed.{pattern_of}
use Rattle.mbe_pattern.specs.Spelling.{fragment_name, fragment_named}
use Rattle.mbe_pattern.specs.Units.{unit_size, IsUnitLike}

-- small trees before others: an ident, and puncts with spacing `Alone` or `Joint`
abbrev pub word : List ℕ → Forest → Forest
word text rest = leaf (ident text) rest

abbrev pub raw_word : List ℕ → Forest → Forest
raw_word text rest = leaf (leaf_of.Ident (record { sym = text; span = span 0 1; is_raw = Yes })) rest

abbrev pub alone : ℕ → Forest → Forest
alone char rest = leaf (punct char Alone) rest

abbrev pub joint : ℕ → Forest → Forest
joint char rest = leaf (punct char Joint) rest

-- `=>`, `'a`, `,` and `-`
abbrev pub arrow : Forest → Forest
arrow rest = joint 61 (alone 62 rest)

abbrev pub life : Forest → Forest
life rest = joint 39 (word (codes "a") rest)

abbrev pub comma : Forest → Forest
comma rest = alone 44 rest

-- `$name:kind` and `$( .. )` before others
abbrev pub var : (name kind : List ℕ) → Forest → Forest
var name kind rest = alone 36 (word name (alone 58 (word kind rest)))

abbrev pub rounds : Forest → Forest → Forest
rounds inside rest = alone 36 (join (subtree Parenthesis inside) rest)

-- Tokens of several puncts, and lifetimes, are one unit; so is a single tree.
arrow_is_one : unit_size (arrow end) ≡ 2
arrow_is_one = refl

arrow_apart : unit_size (alone 61 (alone 62 end)) ≡ 1
arrow_apart = refl

range_is_one : unit_size (joint 46 (joint 46 (alone 61 end))) ≡ 3
range_is_one = refl

lifetime_is_one : unit_size (life (comma end)) ≡ 2
lifetime_is_one = refl

quote_alone : unit_size (joint 39 (comma end)) ≡ 1
quote_alone = refl

subtree_is_one : unit_size (join (subtree Brace (comma end)) (comma end)) ≡ 1
subtree_is_one = refl

-- `==` is `==`, and neither `= =` nor `=`.
equal_like : IsUnitLike (punct 61 Joint ∷ punct 61 Alone ∷ []) (joint 61 (joint 61 end))
equal_like = (refl, (refl, (refl, tt)))

equal_apart : IsUnitLike (punct 61 Joint ∷ punct 61 Alone ∷ []) (alone 61 (alone 61 end)) → ⊥
equal_apart like = cc like.0

equal_less : IsUnitLike (punct 61 Alone ∷ []) (joint 61 (alone 61 end)) → ⊥
equal_less like = cc like.0

-- `$($x:ident),* $(,)?`
abbrev pub listed : Forest
listed = rounds (var (codes "x") (codes "ident") end) (joint 44 (alone 42 (rounds (comma end) (alone 63 end))))

abbrev pub x_part : Pattern
x_part = variable (record { name = codes "x"; fragment = fragment.Ident }) nothing

listed_spells : pattern_of listed
    ≡ repetition x_part (punct 44 Joint ∷ []) repeat.ZeroOrMore (repetition (token (punct 44 Alone ∷ []) nothing) [] repeat.ZeroOrOne nothing)
listed_spells = refl

-- A separator is a token, `=>` too, and so is a lifetime.
arrow_separates : pattern_of (rounds (word (codes "a") end) (arrow (alone 43 end)))
    ≡ repetition (token (ident (codes "a") ∷ []) nothing) (punct 61 Joint ∷ punct 62 Alone ∷ []) repeat.OneOrMore nothing
arrow_separates = refl

life_separates : pattern_of (rounds (word (codes "b") end) (life (alone 42 end)))
    ≡ repetition (token (ident (codes "b") ∷ []) nothing) (punct 39 Joint ∷ ident (codes "a") ∷ []) repeat.ZeroOrMore nothing
life_separates = refl

-- So is `$`, alone; a `$` that no operator follows separates nothing.
dollar_separates : pattern_of (rounds (word (codes "a") end) (alone 36 (alone 42 end)))
    ≡ repetition (token (ident (codes "a") ∷ []) nothing) (punct 36 Alone ∷ []) repeat.ZeroOrMore nothing
dollar_separates = refl

dollars_separate_not : pattern_of (rounds (comma end) (alone 36 (alone 36 (alone 42 end))))
    ≡ token (punct 36 Alone ∷ []) (held_by Parenthesis (token (punct 44 Alone ∷ []) nothing) (token (punct 36 Alone ∷ []) (token (punct 36 Alone ∷ []) (token (punct 42 Alone ∷ []) nothing))))
dollars_separate_not = refl

-- An operator that comes first is no separator: in `$(,)?*` the `*` is a token.
operator_first : pattern_of (rounds (comma end) (alone 63 (alone 42 end)))
    ≡ repetition (token (punct 44 Alone ∷ []) nothing) [] repeat.ZeroOrOne (token (punct 42 Alone ∷ []) nothing)
operator_first = refl

-- `$_:tt` has the name `_`, and `$r#x:tt` that of `x`; keywords are names.
underscore_spells : pattern_of (var (codes "_") (codes "tt") end) ≡ variable (record { name = codes "_"; fragment = fragment.Tt }) nothing
underscore_spells = refl

raw_spells : pattern_of (alone 36 (raw_word (codes "x") (alone 58 (word (codes "tt") end)))) ≡ variable (record { name = codes "x"; fragment = fragment.Tt }) nothing
raw_spells = refl

keyword_spells : pattern_of (var (codes "self") (codes "tt") end) ≡ variable (record { name = codes "self"; fragment = fragment.Tt }) nothing
keyword_spells = refl

-- `$crate` stays, also before `:tt`; so do a `$` at the end, and a `$` that begins nothing.
crate_stays : pattern_of (alone 36 (word (codes "crate") (comma end)))
    ≡ token (punct 36 Alone ∷ []) (token (ident (codes "crate") ∷ []) (token (punct 44 Alone ∷ []) nothing))
crate_stays = refl

crate_no_variable : pattern_of (var (codes "crate") (codes "tt") end)
    ≡ token (punct 36 Alone ∷ []) (token (ident (codes "crate") ∷ []) (token (punct 58 Alone ∷ []) (token (ident (codes "tt") ∷ []) nothing)))
crate_no_variable = refl

last_stays : pattern_of (word (codes "a") (alone 36 end)) ≡ token (ident (codes "a") ∷ []) (token (punct 36 Alone ∷ []) nothing)
last_stays = refl

no_operator : pattern_of (rounds (comma end) end) ≡ token (punct 36 Alone ∷ []) (held_by Parenthesis (token (punct 44 Alone ∷ []) nothing) nothing)
no_operator = refl

-- A token of a pattern is one part.
arrow_spells : pattern_of (arrow (comma end)) ≡ token (punct 61 Joint ∷ punct 62 Alone ∷ []) (token (punct 44 Alone ∷ []) nothing)
arrow_spells = refl

-- Whether it may be empty.
listed_empty : may_be_empty (pattern_of listed) ≡ true
listed_empty = refl

one_full : may_be_empty (pattern_of (rounds (comma end) (alone 43 end))) ≡ false
one_full = refl

-- the names `x` and `y`, the fragment `tt`, and `$x:tt` before others
abbrev x : List ℕ
x = codes "x"

abbrev y : List ℕ
y = codes "y"

abbrev tts : List ℕ
tts = codes "tt"

-- The list has no fault; `$crate` is no fault, nor is a `$` at the end of the pattern or of a subtree.
listed_sound : pattern_fault listed ≡ None
listed_sound = refl

crate_sound : pattern_fault (alone 36 (word (codes "crate") end)) ≡ None
crate_sound = refl

last_sound : pattern_fault (word x (alone 36 end)) ≡ None
last_sound = refl

last_within_sound : pattern_fault (join (subtree Bracket (alone 36 end)) (word x end)) ≡ None
last_within_sound = refl

-- A `$` before itself, before brackets, braces, a punct and a lifetime, before a name alone, and before parentheses alone.
two_dollars : pattern_fault (alone 36 (var x tts end)) ≡ Some (error.BeginsNothing 0)
two_dollars = refl

two_dollars_alone : pattern_fault (alone 36 (alone 36 end)) ≡ Some (error.BeginsNothing 0)
two_dollars_alone = refl

before_brackets : pattern_fault (alone 36 (join (subtree Bracket (word x end)) end)) ≡ Some (error.BeginsNothing 0)
before_brackets = refl

before_braces : pattern_fault (alone 36 (join (subtree Brace (word x end)) end)) ≡ Some (error.BeginsNothing 0)
before_braces = refl

before_punct : pattern_fault (alone 36 (alone 43 end)) ≡ Some (error.BeginsNothing 0)
before_punct = refl

before_lifetime : pattern_fault (alone 36 (life (alone 58 (word tts end)))) ≡ Some (error.BeginsNothing 0)
before_lifetime = refl

name_alone : pattern_fault (alone 36 (word x end)) ≡ Some (error.BeginsNothing 0)
name_alone = refl

colon_alone : pattern_fault (alone 36 (word x (alone 58 end))) ≡ Some (error.BeginsNothing 0)
colon_alone = refl

parentheses_alone : pattern_fault (rounds (comma end) end) ≡ Some (error.BeginsNothing 0)
parentheses_alone = refl

parentheses_before_dollar : pattern_fault (rounds (comma end) (alone 36 end)) ≡ Some (error.BeginsNothing 0)
parentheses_before_dollar = refl

dollar_separator_sound : pattern_fault (rounds (comma end) (alone 36 (alone 43 end))) ≡ None
dollar_separator_sound = refl

-- `$x:foo`, and `$x:expr`, which spells a variable of Rust's grammar.
unknown_fragment : pattern_fault (comma (var x (codes "foo") end)) ≡ Some (error.UnknownFragment 1)
unknown_fragment = refl

known_fragment : pattern_fault (comma (var x (codes "expr") end)) ≡ None
known_fragment = refl

grammar_spells : pattern_of (var x (codes "expr_2021") end) ≡ variable (record { name = x; fragment = fragment.Grammar grammar.Expr2021 }) nothing
grammar_spells = refl

-- `$x:tt $x:tt` and `$x:tt $r#x:tt`; `[$x:tt] $($x:tt)*`; `$_:tt $_:tt`.
name_twice : pattern_fault (var x tts (var x tts end)) ≡ Some (error.NameTwice 4)
name_twice = refl

raw_name_twice : pattern_fault (var x tts (alone 36 (raw_word x (alone 58 (word tts end))))) ≡ Some (error.NameTwice 4)
raw_name_twice = refl

name_twice_within : pattern_fault (join (subtree Bracket (var x tts end)) (rounds (var x tts end) (alone 42 end))) ≡ Some (error.NameTwice 7)
name_twice_within = refl

underscore_twice : pattern_fault (var (codes "_") tts (var (codes "_") tts end)) ≡ Some (error.NameTwice 4)
underscore_twice = refl

names_apart : pattern_fault (var x tts (var y tts end)) ≡ None
names_apart = refl

-- `$(,),?` and `$(,)$?`, and `$(,),*`.
needless_separator : pattern_fault (rounds (comma end) (joint 44 (alone 63 end))) ≡ Some (error.NeedlessSeparator 0)
needless_separator = refl

needless_dollar : pattern_fault (rounds (comma end) (alone 36 (alone 63 end))) ≡ Some (error.NeedlessSeparator 0)
needless_dollar = refl

separator_sound : pattern_fault (rounds (comma end) (joint 44 (alone 42 end))) ≡ None
separator_sound = refl

-- `$()*`; `$($(,)*)+` and `$($(,)+)+`; and `$($(,)* $x:foo)*`, in which the faulty `$` is a literal token.
nothing_repeated : pattern_fault (rounds end (alone 42 end)) ≡ Some (error.EmptyRepetition 0)
nothing_repeated = refl

empty_within : pattern_fault (rounds (rounds (comma end) (alone 42 end)) (alone 43 end)) ≡ Some (error.EmptyRepetition 0)
empty_within = refl

full_within : pattern_fault (rounds (rounds (comma end) (alone 43 end)) (alone 43 end)) ≡ None
full_within = refl

wrong_within : pattern_fault (rounds (rounds (comma end) (alone 42 (var x (codes "foo") end))) (alone 42 end)) ≡ Some (error.UnknownFragment 6)
wrong_within = refl

-- The first fault counts: a repetition comes before what it holds, and that before what follows.
outer_first : pattern_fault (rounds (rounds end (alone 42 end)) (alone 42 (alone 36 (alone 36 end)))) ≡ Some (error.EmptyRepetition 0)
outer_first = refl

inner_first : pattern_fault (rounds (comma (rounds end (alone 42 end))) (alone 42 (alone 36 (alone 36 end)))) ≡ Some (error.EmptyRepetition 3)
inner_first = refl

-- `$($v:vis)*`, and `$($v:vis ,)*`.
visibility_repeated : pattern_fault (rounds (var (codes "v") (codes "vis") end) (alone 42 end)) ≡ Some (error.EmptyRepetition 0)
visibility_repeated = refl

visibility_sound : pattern_fault (rounds (var (codes "v") (codes "vis") (comma end)) (alone 42 end)) ≡ None
visibility_sound = refl

-- A pattern reads the name of a fragment as that fragment.
names_agree : (it : Fragment) → fragment_named (fragment_name it) ≡ Some it
names_agree fragment.Ident = refl
names_agree fragment.Literal = refl
names_agree fragment.Lifetime = refl
names_agree fragment.Block = refl
names_agree fragment.Vis = refl
names_agree fragment.Tt = refl
names_agree (fragment.Grammar grammar.Expr) = refl
names_agree (fragment.Grammar grammar.Expr2021) = refl
names_agree (fragment.Grammar grammar.Ty) = refl
names_agree (fragment.Grammar grammar.Pat) = refl
names_agree (fragment.Grammar grammar.PatParam) = refl
names_agree (fragment.Grammar grammar.Path) = refl
names_agree (fragment.Grammar grammar.Stmt) = refl
names_agree (fragment.Grammar grammar.Item) = refl
names_agree (fragment.Grammar grammar.Meta) = refl
