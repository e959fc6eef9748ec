use Rattle.std.proofs.Common.{rules, ◌≡◌, ℕ, ◌-◌, ◌<◌, suc, Some, None, true, List, length, get_or, take, cond, map, reverse, ap, sym, ◌∙◌, ◌∷◌, ◌++◌, [], arith}
use Rattle.std.proofs.Math.Seq.{take-suc}
use Rattle.mbe_follow.specs.declared.judge.Reach as rust_reach
use Rattle.mbe_follow.specs.Following.{first_refused}
use Rattle.mbe_follow.specs.Judging.{all_before, reach_of}
use Rattle.mbe_follow.proofs.Refusing.{in_level, level_found, level_none, reaches_last}
use Rattle.mbe_follow.proofs.judge.refused_by.Goals as goal

-- The levels that are left, with the next of them.
taken : (levels : List rust_reach.Reach) (left : ℕ) (it : rust_reach.Reach) → 0 < left → left - 1 < length levels → it ≡ get_or levels (left - 1) it
    → map reach_of (reverse (take left levels)) ≡ reach_of it ∷ map reach_of (reverse (take (left - 1) levels))
taken levels left it some within is =
    let one : left ≡ suc (left - 1) = omega arith in
    ap (λ n. map reach_of (reverse (take n levels))) one
    ∙ ap (λ its. map reach_of (reverse its)) (take-suc levels (left - 1) it within)
    ∙ ap (λ last. map reach_of (reverse (take (left - 1) levels ++ last ∷ []))) (sym is)
    ∙ reaches_last (take (left - 1) levels) it

pub returns-in-Some : goal.returns-in-Some
returns-in-Some c =
    let which = c.args.fragment in
    let levels = c.args.levels.now in
    let left = c.loop-left.left in
    let it = c.index-levels-left.result in
    let found : Some c.in-Some.next ≡ in_level which (reach_of it) = search rules in
    level_found which (reach_of it) (all_before (map reach_of (reverse (take (left - 1) levels)))) c.in-Some.next found
    ∙ ap (λ its. first_refused which (all_before its)) (sym (taken levels left it (omega arith) (omega arith) c.index-levels-left.is))
    ∙ c.loop-left.invariant.same

pub loop-left-preserved : goal.loop-left-preserved
loop-left-preserved c =
    let which = c.args.fragment in
    let levels = c.args.levels.now in
    let left = c.loop-left.left in
    let it = c.index-levels-left.result in
    let behind = all_before (map reach_of (reverse (take (left - 1) levels))) in
    let found : None ≡ in_level which (reach_of it) = search rules in
    let goes_on : it.is_open ≡ true = search rules in
    record {
      few = omega arith;
      same =
          sym
          (ap (λ its. first_refused which (all_before its)) (taken levels left it (omega arith) (omega arith) c.index-levels-left.is)
          ∙ level_none which (reach_of it) behind found ∙ ap (λ o. cond o (first_refused which behind) None) goes_on)
          ∙ c.loop-left.invariant.same;
    }
