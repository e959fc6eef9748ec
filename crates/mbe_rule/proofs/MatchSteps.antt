-- What one step of matching leaves to be matched.
use Rattle.std.proofs.Common.{◌≡◌, ◌↔◌, ◌+◌, ℕ, List, [], ◌∷◌, ◌++◌, reverse, ap, ap₂, sym, subst, ◌∙◌, append_assoc}
use Rattle.tt.specs.Forest.{Forest}
use Rattle.mbe_rule.specs.declared.matching.Pair.{Pair}
use Rattle.mbe_rule.specs.declared.matching.Progress.TheVariants as progress
use Rattle.mbe_rule.specs.Matching.{PairMatches, pair_trees, pair_size, Advances}

-- what is left agrees in each pair; the innermost pair comes first
abbrev pub AllMatch : List Pair → Type 0
AllMatch [] = Unit {0}
AllMatch (pair ∷ outer) = PairMatches pair × AllMatch outer

-- the trees that the variables of what is left take
abbrev pub trees_left : List Pair → List Forest
trees_left [] = []
trees_left (pair ∷ outer) = pair_trees pair ++ trees_left outer

-- how many tokens of the patterns are left
abbrev pub tokens_left : List Pair → ℕ
tokens_left [] = 0
tokens_left (pair ∷ outer) = pair_size pair + tokens_left outer

-- the same is left to be matched, and to be taken after the trees taken so far
pub record Goes (olds : List Pair) (before : List Forest) (news : List Pair) (after : List Forest) : Type 0 where
  pub agree : AllMatch olds ↔ AllMatch news
  pub taken : after ++ trees_left news ≡ before ++ trees_left olds

-- A pair at its end is dropped.
pub goes_out : (old new : Pair) (outer : List Pair) (before after : List Forest)
    → Advances old before progress.Ends new after → Goes (old ∷ outer) before outer after
goes_out old new outer before after is =
    record {
      agree = (λ all. all.1, λ all. (is.0, all));
      taken = ap₂ (λ a t. a ++ (t ++ trees_left outer)) is.2 (sym is.1);
    }

-- A sibling is passed.
pub goes_past : (old new : Pair) (outer : List Pair) (before after : List Forest)
    → Advances old before progress.Passes new after → Goes (old ∷ outer) before (new ∷ outer) after
goes_past old new outer before after is =
    record {
      agree = (λ all. (is.0.0 all.0, all.1), λ all. (is.0.1 all.0, all.1));
      taken =
          sym (append_assoc after (pair_trees new) (trees_left outer)) ∙ ap (λ t. t ++ trees_left outer) is.1 ∙ append_assoc before (pair_trees old) (trees_left outer);
    }

-- Two subtrees are entered.
pub goes_in : (old new below : Pair) (outer : List Pair) (before after : List Forest)
    → Advances old before (progress.Enters below) new after → Goes (old ∷ outer) before (below ∷ new ∷ outer) after
goes_in old new below outer before after is =
    record {
      agree = (
        λ all. ((is.0.0 all.0).0, ((is.0.0 all.0).1, all.1)),
        λ all. (is.0.1 (all.0, all.1.0), all.1.1),
      );
      taken =
          ap₂ (λ a t. a ++ t) is.2
          (sym (append_assoc (pair_trees below) (pair_trees new) (trees_left outer)) ∙ ap (λ t. t ++ trees_left outer) (sym is.1));
    }

-- If a sibling does not agree, matching stops.
pub stops : (old new : Pair) (outer : List Pair) (before after : List Forest) → Advances old before progress.Differs new after → AllMatch (old ∷ outer) → ⊥
stops old new outer before after is all = is all.0

module _ (P : Type 0) (all : List Forest) (olds news : List Pair) (before after : List Forest) (goes : Goes olds before news after)
    (old_pairs new_pairs : List Pair) (was : reverse old_pairs ≡ olds) (is : reverse new_pairs ≡ news) where
  -- A claim equivalent to the agreement of the old pairs is equivalent to that of the new ones.
  pub agrees_on : P ↔ AllMatch (reverse old_pairs) → P ↔ AllMatch (reverse new_pairs)
  agrees_on same = (
    λ p. subst AllMatch (sym is) (goes.agree.0 (subst AllMatch was (same.0 p))),
    λ m. same.1 (subst AllMatch (sym was) (goes.agree.1 (subst AllMatch is m))),
  )

  -- All taken trees stay the same.
  pub taken_on : before ++ trees_left (reverse old_pairs) ≡ all → after ++ trees_left (reverse new_pairs) ≡ all
  taken_on same = ap (λ l. after ++ trees_left l) is ∙ goes.taken ∙ ap (λ l. before ++ trees_left l) (sym was) ∙ same
