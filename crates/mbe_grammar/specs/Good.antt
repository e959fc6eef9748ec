-- Tables without left recursion and without a repetition of nothing.
use Rattle.std.specs.Prelude.{◌≡◌, ℕ, suc, Bool, true, false, not, ◌&&◌, ◌||◌, nat_lt, List, [], ◌∷◌, Option, None, Some, slice_get}
use Rattle.mbe_grammar.specs.declared.rule.Mark.{Mark}
use Rattle.mbe_grammar.specs.declared.rule.Mark.TheVariants as mark
use Rattle.mbe_grammar.specs.declared.rule.Rule.{Rule}
use Rattle.mbe_grammar.specs.declared.rule.Rule.TheVariants as rule

-- the rank that a mark gives
abbrev pub rank_in : Option Mark → ℕ
rank_in None = 0
rank_in (Some (mark.TakesSome rank)) = rank
rank_in (Some (mark.MayTakeNone rank)) = rank

-- whether a mark says that nothing may be taken
abbrev pub nothing_in : Option Mark → Bool
nothing_in None = true
nothing_in (Some (mark.TakesSome rank)) = false
nothing_in (Some (mark.MayTakeNone rank)) = true

-- the rank of the expression at that index
abbrev pub rank_of : List Mark → (at : ℕ) → ℕ
rank_of marks at = rank_in (slice_get marks at)

-- whether the expression may take nothing, by its mark
abbrev pub may_take_nothing : List Mark → (at : ℕ) → Bool
may_take_nothing marks at = nothing_in (slice_get marks at)

-- the marks are right for the expression at that index
abbrev pub is_good_rule : List Mark → (at : ℕ) → Rule → Bool
is_good_rule marks at rule.Empty = may_take_nothing marks at
is_good_rule marks at (rule.Unit _) = true
is_good_rule marks at (rule.Name other) =
    nat_lt (rank_of marks other) (rank_of marks at) && (may_take_nothing marks at || not (may_take_nothing marks other))
is_good_rule marks at (rule.Sequence first second) =
    nat_lt (rank_of marks first) (rank_of marks at)
    && ((not (may_take_nothing marks first) || nat_lt (rank_of marks second) (rank_of marks at))
    && (may_take_nothing marks at || not (may_take_nothing marks first && may_take_nothing marks second)))
is_good_rule marks at (rule.Choice first other) =
    nat_lt (rank_of marks first) (rank_of marks at)
    && (nat_lt (rank_of marks other) (rank_of marks at)
    && (may_take_nothing marks at || not (may_take_nothing marks first || may_take_nothing marks other)))
is_good_rule marks at (rule.ZeroOrMore part) =
    nat_lt (rank_of marks part) (rank_of marks at) && (not (may_take_nothing marks part) && may_take_nothing marks at)
is_good_rule marks at (rule.Not part) = nat_lt (rank_of marks part) (rank_of marks at) && may_take_nothing marks at

-- the marks are right for each expression, from an index on
abbrev pub are_good : List Mark → (at : ℕ) → List Rule → Bool
are_good marks at [] = true
are_good marks at (this ∷ others) = is_good_rule marks at this && are_good marks (suc at) others

-- there are right marks
pub record IsGood (rules : List Rule) : Type 0 where
  pub marks : List Mark
  pub are_right : are_good marks 0 rules ≡ true
