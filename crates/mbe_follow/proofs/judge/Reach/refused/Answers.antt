use Rattle.std.proofs.Common.{rules, ◌≡◌, true, false, Some, None, [], cond, option_to_list, ap, sym, ◌∙◌}
use Rattle.mbe_follow.specs.Following.{first_refused, may_follow}
use Rattle.mbe_follow.specs.Judging.{reach_of}
use Rattle.mbe_follow.proofs.Refusing.{level_begin, level_end}
use Rattle.mbe_follow.proofs.judge.Reach.refused.Goals as goal

pub returns-in-Some : goal.returns-in-Some
returns-in-Some c =
    let level = reach_of c.args.self.now in
    let found : Some c.in-Some.next ≡ first_refused c.args.fragment level.firsts = search rules in
    level_begin c.args.fragment level c.in-Some.next found

pub returns-in-Some-separator : goal.returns-in-Some-separator
returns-in-Some-separator c =
    let which = c.args.fragment in
    let level = reach_of c.args.self.now in
    let next = c.in-Some-separator.next in
    let found : None ≡ first_refused which level.firsts = search rules in
    let goes_on : level.is_open ≡ true = search rules in
    let here : level.separator ≡ Some next = search rules in
    let passes : may_follow which next ≡ false = search rules in
    sym
    (level_end which level found ∙ ap (λ o. first_refused which (cond o (option_to_list level.separator) [])) goes_on
    ∙ ap (λ separator. first_refused which (option_to_list separator)) here ∙ ap (λ p. cond p None (Some next.number)) passes)

pub returns-in_default-separator : goal.returns-in_default-separator
returns-in_default-separator c =
    let which = c.args.fragment in
    let level = reach_of c.args.self.now in
    let next = c.in-Some-separator.next in
    let found : None ≡ first_refused which level.firsts = search rules in
    let goes_on : level.is_open ≡ true = search rules in
    let here : level.separator ≡ Some next = search rules in
    let passes : may_follow which next ≡ true = search rules in
    sym
    (level_end which level found ∙ ap (λ o. first_refused which (cond o (option_to_list level.separator) [])) goes_on
    ∙ ap (λ separator. first_refused which (option_to_list separator)) here ∙ ap (λ p. cond p None (Some next.number)) passes)
