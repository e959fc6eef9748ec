-- What the test of a mark says of each expression.
use Rattle.std.proofs.Common.{◌≡◌, inl, inr, ◌+◌, ◌<◌, ℕ, suc, zero, Bool, true, false, List, [], ◌∷◌, Some, None, refl, subst, arith}
use Rattle.std.specs.Prelude.{◌⊎◌, slice_get, Option, not, ◌&&◌, ◌||◌, nat_lt}
use Rattle.mbe_grammar.specs.declared.rule.Mark.{Mark}
use Rattle.mbe_grammar.specs.declared.rule.Rule.{Rule}
use Rattle.mbe_grammar.specs.declared.rule.Rule.TheVariants as rule
use Rattle.mbe_grammar.specs.Good.{rank_of, may_take_nothing, is_good_rule, are_good}
use Rattle.std.proofs.lemmas.Bool.Decides.{nat_tests}

pub left_true : (a b : Bool) → (a && b) ≡ true → a ≡ true
left_true true b e = refl
left_true false b e = e

pub right_true : (a b : Bool) → (a && b) ≡ true → b ≡ true
right_true true b e = e
right_true false b e = absurd (cc e)

below : (n m : ℕ) → nat_lt n m ≡ true → n < m
below n m e = grind (arith, nat_tests)

-- if a sequence takes at least one unit, so does one of its parts
one_takes : (a b c : Bool) → (c || not (a && b)) ≡ true → c ≡ false → (a ≡ false) ⊎ (b ≡ false)
one_takes false b c e f = inl refl
one_takes true false c e f = inr refl
one_takes true true false e f = absurd (cc e)
one_takes true true true e f = absurd (cc f)

-- if a choice takes at least one unit, so do both of its parts
other_takes : (a b c : Bool) → (c || not (a || b)) ≡ true → c ≡ false → (a ≡ false) × (b ≡ false)
other_takes false false c e f = (refl, refl)
other_takes false true false e f = absurd (cc e)
other_takes false true true e f = absurd (cc f)
other_takes true b false e f = absurd (cc e)
other_takes true b true e f = absurd (cc f)

then_lower : (a b : Bool) → (not a || b) ≡ true → a ≡ true → b ≡ true
then_lower true b e f = e
then_lower false b e f = absurd (cc f)

not_true : (a : Bool) → not a ≡ true → a ≡ false
not_true false e = refl
not_true true e = absurd (cc e)

-- what the marks' test says of each expression
pub then_split : (marks : List Mark) (at first second : ℕ) → is_good_rule marks at (rule.Sequence first second) ≡ true
    → (rank_of marks first < rank_of marks at) × (may_take_nothing marks first ≡ true → rank_of marks second < rank_of marks at)
    × (may_take_nothing marks at ≡ false → (may_take_nothing marks first ≡ false) ⊎ (may_take_nothing marks second ≡ false))
then_split marks at first second g = by (nat_lt (rank_of marks first) (rank_of marks at)) (nat_lt (rank_of marks second) (rank_of marks at))
    (may_take_nothing marks first) (may_take_nothing marks second) (may_take_nothing marks at) (below (rank_of marks first) (rank_of marks at)) (below (rank_of marks second) (rank_of marks at)) g
  where
    by : {P Q : Type 0} (p q a b c : Bool) → (p ≡ true → P) → (q ≡ true → Q) → (p && ((not a || q) && (c || not (a && b)))) ≡ true
        → P × (a ≡ true → Q) × (c ≡ false → (a ≡ false) ⊎ (b ≡ false))
    by p q a b c f h e =
        let rest : ((not a || q) && (c || not (a && b))) ≡ true = right_true p ((not a || q) && (c || not (a && b))) e in (
          f (left_true p ((not a || q) && (c || not (a && b))) e),
          λ yes. h (then_lower a q (left_true (not a || q) (c || not (a && b)) rest) yes),
          one_takes a b c (right_true (not a || q) (c || not (a && b)) rest),
        )

pub named_split : (marks : List Mark) (at other : ℕ) → is_good_rule marks at (rule.Name other) ≡ true
    → (rank_of marks other < rank_of marks at) × (may_take_nothing marks at ≡ false → may_take_nothing marks other ≡ false)
named_split marks at other g = by (nat_lt (rank_of marks other) (rank_of marks at)) (may_take_nothing marks other) (may_take_nothing marks at) (below (rank_of marks other) (rank_of marks at)) g
  where
    by_both : (a c : Bool) → (c || not a) ≡ true → c ≡ false → a ≡ false
    by_both false c e f = refl
    by_both true false e f = absurd (cc e)
    by_both true true e f = absurd (cc f)

    by : {P : Type 0} (p a c : Bool) → (p ≡ true → P) → (p && (c || not a)) ≡ true → P × (c ≡ false → a ≡ false)
    by p a c f e = (f (left_true p (c || not a) e), by_both a c (right_true p (c || not a) e))

pub or_split : (marks : List Mark) (at first other : ℕ) → is_good_rule marks at (rule.Choice first other) ≡ true
    → (rank_of marks first < rank_of marks at) × (rank_of marks other < rank_of marks at)
    × (may_take_nothing marks at ≡ false → (may_take_nothing marks first ≡ false) × (may_take_nothing marks other ≡ false))
or_split marks at first other g = by (nat_lt (rank_of marks first) (rank_of marks at)) (nat_lt (rank_of marks other) (rank_of marks at))
    (may_take_nothing marks first) (may_take_nothing marks other) (may_take_nothing marks at) (below (rank_of marks first) (rank_of marks at)) (below (rank_of marks other) (rank_of marks at)) g
  where
    by : {P Q : Type 0} (p q a b c : Bool) → (p ≡ true → P) → (q ≡ true → Q) → (p && (q && (c || not (a || b)))) ≡ true
        → P × Q × (c ≡ false → (a ≡ false) × (b ≡ false))
    by p q a b c f h e =
        let rest : (q && (c || not (a || b))) ≡ true = right_true p (q && (c || not (a || b))) e in
        (f (left_true p (q && (c || not (a || b))) e), h (left_true q (c || not (a || b)) rest), other_takes a b c (right_true q (c || not (a || b)) rest))

pub many_split : (marks : List Mark) (at part : ℕ) → is_good_rule marks at (rule.ZeroOrMore part) ≡ true
    → (rank_of marks part < rank_of marks at) × (may_take_nothing marks part ≡ false) × (may_take_nothing marks at ≡ true)
many_split marks at part g = by (nat_lt (rank_of marks part) (rank_of marks at)) (may_take_nothing marks part) (may_take_nothing marks at) (below (rank_of marks part) (rank_of marks at)) g
  where
    by : {P : Type 0} (p a c : Bool) → (p ≡ true → P) → (p && (not a && c)) ≡ true → P × (a ≡ false) × (c ≡ true)
    by p a c f e =
        let rest : (not a && c) ≡ true = right_true p (not a && c) e in
        (f (left_true p (not a && c) e), not_true a (left_true (not a) c rest), right_true (not a) c rest)

pub not_split : (marks : List Mark) (at part : ℕ) → is_good_rule marks at (rule.Not part) ≡ true
    → (rank_of marks part < rank_of marks at) × (may_take_nothing marks at ≡ true)
not_split marks at part g = (
  below (rank_of marks part) (rank_of marks at) (left_true (nat_lt (rank_of marks part) (rank_of marks at)) (may_take_nothing marks at) g),
  right_true (nat_lt (rank_of marks part) (rank_of marks at)) (may_take_nothing marks at) g,
)

-- the marks are right if there is an expression
abbrev pub GoodIn : List Mark → (at : ℕ) → Option Rule → Type 0
GoodIn marks at None = Unit {0}
GoodIn marks at (Some it) = is_good_rule marks at it ≡ true

pub good_from : (marks : List Mark) (first k : ℕ) (rules : List Rule) → are_good marks first rules ≡ true → GoodIn marks (first + k) (slice_get rules k)
good_from marks first k [] e = tt
good_from marks first zero (it ∷ rules) e =
    let same : first ≡ first + 0 = omega arith in
    subst (λ n. GoodIn marks n (Some it)) same (left_true (is_good_rule marks first it) (are_good marks (suc first) rules) e)
good_from marks first (suc k) (it ∷ rules) e =
    let same : suc first + k ≡ first + suc k = omega arith in
    subst (λ n. GoodIn marks n (slice_get rules k)) same (good_from marks (suc first) k rules (right_true (is_good_rule marks first it) (are_good marks (suc first) rules) e))
