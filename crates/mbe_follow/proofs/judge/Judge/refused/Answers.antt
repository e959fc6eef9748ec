use Rattle.std.proofs.Common.{rules, ◌≡◌, Some, None, true, cond, map, reverse, ap, sym, ◌∙◌}
use Rattle.mbe_follow.specs.Following.{first_refused}
use Rattle.mbe_follow.specs.Judging.{all_before, reach_of}
use Rattle.mbe_follow.proofs.Refusing.{in_level, level_found, level_none}
use Rattle.mbe_follow.proofs.judge.Judge.refused.Goals as goal

pub returns-in-Some : goal.returns-in-Some
returns-in-Some c =
    let level = reach_of c.args.self.now.level in
    let found : Some c.in-Some.next ≡ in_level c.args.fragment level = search rules in
    level_found c.args.fragment level (all_before (map reach_of (reverse c.args.self.now.outer.items))) c.in-Some.next found

pub returns-then-self : goal.returns-then-self
returns-then-self c =
    let which = c.args.fragment in
    let level = reach_of c.args.self.now.level in
    let outer = c.args.self.now.outer.items in
    let found : None ≡ in_level which level = search rules in
    let here : c.deref.result.now ≡ outer = search rules in
    let goes_on : level.is_open ≡ true = search rules in
    c.refused_by.ensures ∙ ap (λ levels. first_refused which (all_before (map reach_of (reverse levels)))) here
    ∙ sym (level_none which level (all_before (map reach_of (reverse outer))) found ∙ ap (λ o. cond o (first_refused which (all_before (map reach_of (reverse outer)))) None) goes_on)
