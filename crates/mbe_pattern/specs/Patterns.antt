-- What a pattern is.
use Rattle.std.specs.Prelude.{◌≡◌, ◌&&◌, ◌||◌, Bool, true, false, List}
use Rattle.tt.specs.Types.DelimiterKind.{DelimiterKind}
use Rattle.tt.specs.Types.Leaf.{Leaf}
use Rattle.mbe_pattern.specs.declared.pattern.Fragment.{Fragment}
use Rattle.mbe_pattern.specs.declared.pattern.Fragment.TheVariants as fragment
use Rattle.mbe_pattern.specs.declared.pattern.RepeatKind.{RepeatKind}
use Rattle.mbe_pattern.specs.declared.pattern.RepeatKind.TheVariants as repeat
use Rattle.mbe_pattern.specs.declared.pattern.Variable.{Variable}

-- a pattern: variables, tokens that are matched literally, subtrees of a kind, and repetitions of a pattern; between the rounds of a
-- repetition is a token as separator, or nothing
pub data Pattern : Type 0 where
  nothing : Pattern
  variable : Variable → Pattern → Pattern
  token : List Leaf → Pattern → Pattern
  subtree : DelimiterKind → Pattern → Pattern → Pattern
  repetition : Pattern → (separator : List Leaf) → RepeatKind → Pattern → Pattern

-- what the first part holds
abbrev pub inner_part : Pattern → Pattern
inner_part nothing = nothing
inner_part (variable it others) = nothing
inner_part (token its others) = nothing
inner_part (subtree kind inner others) = inner
inner_part (repetition inner separator op others) = inner

-- a repetition may have no round
abbrev pub may_be_none : RepeatKind → Bool
may_be_none repeat.ZeroOrMore = true
may_be_none repeat.OneOrMore = false
may_be_none repeat.ZeroOrOne = true

-- it may have more than one
abbrev pub may_be_more : RepeatKind → Bool
may_be_more repeat.ZeroOrMore = true
may_be_more repeat.OneOrMore = true
may_be_more repeat.ZeroOrOne = false

-- a variable of that fragment may take no tree
abbrev pub may_take_none : Fragment → Bool
may_take_none fragment.Ident = false
may_take_none fragment.Literal = false
may_take_none fragment.Lifetime = false
may_take_none fragment.Block = false
may_take_none fragment.Vis = true
may_take_none fragment.Tt = false
may_take_none (fragment.Grammar which) = false

-- the pattern may take no tree at all
abbrev pub may_be_empty : Pattern → Bool
may_be_empty nothing = true
may_be_empty (variable it others) = may_take_none it.fragment && may_be_empty others
may_be_empty (token its others) = false
may_be_empty (subtree kind inner others) = false
may_be_empty (repetition inner separator op others) = (may_be_none op || may_be_empty inner) && may_be_empty others

-- what each repetition holds takes at least one tree
abbrev pub IsFull : Pattern → Type 0
IsFull nothing = Unit {0}
IsFull (variable it others) = IsFull others
IsFull (token its others) = IsFull others
IsFull (subtree kind inner others) = IsFull inner × IsFull others
IsFull (repetition inner separator op others) = (may_be_empty inner ≡ false) × IsFull inner × IsFull others
