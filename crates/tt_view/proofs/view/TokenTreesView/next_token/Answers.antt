use Rattle.std.proofs.Common.{rules, ◌≡◌, ◌-◌, Some, ap, sym, ◌∙◌}
use Rattle.tt_base.specs.Forest.{end, size, join}
use Rattle.tt_pack.specs.ReaderOf.{ahead_of}
use Rattle.tt_base.specs.Moves.{first_token, after_token}
use Rattle.tt_view.proofs.Cuts.{trees_are}
use Rattle.tt_view.proofs.Parts.{PartsOf, parts_of, end_of, not_none}
use Rattle.tt_view.proofs.view.TokenTreesView.next_token.Goals as goal

pub returns-then-self-eq0 : goal.returns-then-self-eq0
returns-then-self-eq0 c =
    let s = c.args.self.now in
    let none : s.trees.0.0 ≡ end = end_of (ahead_of s.reader) s.len s.trees (search rules) in
    record { token = sym (ap first_token none); rest = none ∙ sym (ap after_token none) }

pub returns-in_default : goal.returns-in_default
returns-in_default c =
    let s = c.args.self.now in
    absurd (not_none (ahead_of s.reader) s.len s.trees (search rules) (search rules))

pub invariant_of-self-2 : goal.invariant_of-self-2
invariant_of-self-2 c =
    let s = c.args.self.now in
    let e : first_token (ahead_of s.reader) ≡ Some c.in-Some.token = search rules in
    let p : PartsOf (ahead_of s.reader) s.len s.trees.0.0 s.trees.0.1 c.in-Some.token = parts_of _ _ s.trees _ (search rules) e in
    record { trees = ((after_token s.trees.0.0, s.trees.0.1), (c.advance.ensures.moved.ahead ∙ p.flat_rest, p.flat_size)) }

pub returns : goal.returns
returns c =
    let s = c.args.self.now in
    let e : first_token (ahead_of s.reader) ≡ Some c.in-Some.token = search rules in
    let p : PartsOf (ahead_of s.reader) s.len s.trees.0.0 s.trees.0.1 c.in-Some.token = parts_of _ _ s.trees _ (search rules) e in
    let rest : ahead_of c.advance.new.self ≡ join (after_token s.trees.0.0) s.trees.0.1 = c.advance.ensures.moved.ahead ∙ p.flat_rest in
    let rest_size : size (after_token s.trees.0.0) ≡ s.len - 1 = p.flat_size in
    record { token = sym p.first; rest = search (rules, trees_are) }
