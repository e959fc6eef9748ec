use Rattle.std.proofs.Common.{rules, ◌≡◌, ◌+◌, ◌-◌, Some, ap, sym, ◌∙◌, arith}
use Rattle.tt_base.specs.Forest.{end, size, join}
use Rattle.tt_base.specs.Moves.{first_token, after_token, after_tree, step_after}
use Rattle.tt_base.specs.Siblings.{children_of}
use Rattle.tt_base.proofs.Moves.{one_step}
use Rattle.tt_pack.specs.ReaderOf.{ahead_of}
use Rattle.tt_view.proofs.Cuts.{trees_are}
use Rattle.tt_view.proofs.Parts.{PartsOf, parts_of, end_of, not_none}
use Rattle.tt_view.proofs.view.TokenTreesView.next_tree.Goals as goal

-- no tree is left
none_left : (c : goal.Then-self-eq0) → c.args.self.now.trees.0.0 ≡ end
none_left c = let s = c.args.self.now in end_of (ahead_of s.reader) s.len s.trees (search rules)

pub returns-then-self-eq0-clause-tree : goal.returns-then-self-eq0-clause-tree
returns-then-self-eq0-clause-tree c = none_left c

pub returns-then-self-eq0-clause-rest : goal.returns-then-self-eq0-clause-rest
returns-then-self-eq0-clause-rest c = none_left c ∙ sym (ap after_tree (none_left c))

pub returns-then-self-eq0-clause-steps : goal.returns-then-self-eq0-clause-steps
returns-then-self-eq0-clause-steps c = sym (ap (step_after _) (none_left c))

pub returns-in_err-token : goal.returns-in_err-token
returns-in_err-token c =
    let s = c.args.self.now in
    absurd (not_none (ahead_of s.reader) s.len s.trees (search rules) (search rules))

pub overflow_sub-self : goal.overflow_sub-self
overflow_sub-self c =
    let s = c.args.self.now in
    let e : first_token (ahead_of s.reader) ≡ Some c.in_ok-token.token = search rules in
    let p : PartsOf (ahead_of s.reader) s.len s.trees.0.0 s.trees.0.1 c.in_ok-token.token = parts_of _ _ s.trees _ (search rules) e in
    omega (arith, p.fits, c.count_below-len.ensures)

pub invariant_of-self-2 : goal.invariant_of-self-2
invariant_of-self-2 c =
    let s = c.args.self.now in
    let e : first_token (ahead_of s.reader) ≡ Some c.in_ok-token.token = search rules in
    let p : PartsOf (ahead_of s.reader) s.len s.trees.0.0 s.trees.0.1 c.in_ok-token.token = parts_of _ _ s.trees _ (search rules) e in
    record { trees = ((after_tree s.trees.0.0, s.trees.0.1), (c.advance_skip.ensures.moved.ahead ∙ p.rest, omega (arith, p.rest_size, c.count_below-len.ensures))) }

pub invariant_of-result : goal.invariant_of-result
invariant_of-result c =
    let s = c.args.self.now in
    let e : first_token (ahead_of s.reader) ≡ Some c.in_ok-token.token = search rules in
    let p : PartsOf (ahead_of s.reader) s.len s.trees.0.0 s.trees.0.1 c.in_ok-token.token = parts_of _ _ s.trees _ (search rules) e in
    let b : ahead_of c.in_ok-token.below ≡ after_token (ahead_of s.reader) = search rules in
    record { trees = ((children_of s.trees.0.0, p.follow), (b ∙ p.below, p.below_size ∙ sym c.count_below-len.ensures)) }

pub returns-clause-tree : goal.returns-clause-tree
returns-clause-tree c =
    let s = c.args.self.now in
    let e : first_token (ahead_of s.reader) ≡ Some c.in_ok-token.token = search rules in
    let p : PartsOf (ahead_of s.reader) s.len s.trees.0.0 s.trees.0.1 c.in_ok-token.token = parts_of _ _ s.trees _ (search rules) e in
    let b : ahead_of c.in_ok-token.below ≡ after_token (ahead_of s.reader) = search rules in
    let below : ahead_of c.in_ok-token.below ≡ join (children_of s.trees.0.0) p.follow = b ∙ p.below in
    let below_size : size (children_of s.trees.0.0) ≡ c.count_below-len.result = p.below_size ∙ sym c.count_below-len.ensures in
    (p.first, search (rules, trees_are))

pub returns-clause-rest : goal.returns-clause-rest
returns-clause-rest c =
    let s = c.args.self.now in
    let e : first_token (ahead_of s.reader) ≡ Some c.in_ok-token.token = search rules in
    let p : PartsOf (ahead_of s.reader) s.len s.trees.0.0 s.trees.0.1 c.in_ok-token.token = parts_of _ _ s.trees _ (search rules) e in
    let rest : ahead_of c.advance_skip.new.self ≡ join (after_tree s.trees.0.0) s.trees.0.1 = c.advance_skip.ensures.moved.ahead ∙ p.rest in
    let rest_size : size (after_tree s.trees.0.0) ≡ s.len - (1 + c.count_below-len.result) = omega (arith, p.rest_size, c.count_below-len.ensures) in
    search (rules, trees_are)

pub returns-clause-steps : goal.returns-clause-steps
returns-clause-steps c =
    let s = c.args.self.now in
    let e : first_token (ahead_of s.reader) ≡ Some c.in_ok-token.token = search rules in
    let p : PartsOf (ahead_of s.reader) s.len s.trees.0.0 s.trees.0.1 c.in_ok-token.token = parts_of _ _ s.trees _ (search rules) e in
    c.advance_skip.ensures.moved.steps ∙ one_step _ (ahead_of s.reader) c.in_ok-token.token e ∙ sym (one_step _ s.trees.0.0 c.in_ok-token.token p.first)
