use Rattle.std.proofs.Common.{rules, ◌≡◌, ◌+◌, ◌-◌, Some, ap, sym, ◌∙◌, arith}
use Rattle.tt_base.specs.Forest.{end, size, join}
use Rattle.tt_base.specs.Moves.{first_token, after_tree, step_after}
use Rattle.tt_base.proofs.Moves.{one_step}
use Rattle.tt_pack.specs.ReaderOf.{ahead_of}
use Rattle.tt_pack.specs.TokenKinds.{GivesKind}
use Rattle.tt_view.proofs.Cuts.{trees_are}
use Rattle.tt_view.proofs.FirstKinds.{of_kind, first_kind, no_kind, counts_below}
use Rattle.tt_view.proofs.Parts.{PartsOf, parts_of, end_of, not_none}
use Rattle.tt_view.proofs.view.TokenTreesView.next_kind.Goals as goal

-- no tree is left
none_left : (c : goal.Then-self-eq0) → c.args.self.now.trees.0.0 ≡ end
none_left c = let s = c.args.self.now in end_of (ahead_of s.reader) s.len s.trees (search rules)

pub returns-then-self-eq0-clause-kind : goal.returns-then-self-eq0-clause-kind
returns-then-self-eq0-clause-kind c = no_kind _ (none_left c)

pub returns-then-self-eq0-clause-rest : goal.returns-then-self-eq0-clause-rest
returns-then-self-eq0-clause-rest c = none_left c ∙ sym (ap after_tree (none_left c))

pub returns-then-self-eq0-clause-steps : goal.returns-then-self-eq0-clause-steps
returns-then-self-eq0-clause-steps c = sym (ap (step_after _) (none_left c))

pub returns-in_err-kind : goal.returns-in_err-kind
returns-in_err-kind c =
    let s = c.args.self.now in
    absurd (not_none (ahead_of s.reader) s.len s.trees (search rules) (search rules))

pub overflow_sub-self : goal.overflow_sub-self
overflow_sub-self c =
    let s = c.args.self.now in
    let gives : GivesKind (first_token (ahead_of s.reader)) (Some c.in_ok-kind.kind) = search rules in
    let k = of_kind _ _ gives in
    let p : PartsOf (ahead_of s.reader) s.len s.trees.0.0 s.trees.0.1 k.it = parts_of _ _ s.trees _ (search rules) k.first in
    omega (arith, p.fits, c.count_below-len.ensures, counts_below _ _ k.kind)

pub invariant_of-self-2 : goal.invariant_of-self-2
invariant_of-self-2 c =
    let s = c.args.self.now in
    let gives : GivesKind (first_token (ahead_of s.reader)) (Some c.in_ok-kind.kind) = search rules in
    let k = of_kind _ _ gives in
    let p : PartsOf (ahead_of s.reader) s.len s.trees.0.0 s.trees.0.1 k.it = parts_of _ _ s.trees _ (search rules) k.first in
    record {
      trees = (
        (after_tree s.trees.0.0, s.trees.0.1),
        (
          c.advance_skip_kind.ensures.moved.ahead ∙ p.rest,
          omega (arith, p.rest_size, c.count_below-len.ensures, counts_below _ _ k.kind),
        ),
      );
    }

pub returns-clause-kind : goal.returns-clause-kind
returns-clause-kind c =
    let s = c.args.self.now in
    let gives : GivesKind (first_token (ahead_of s.reader)) (Some c.in_ok-kind.kind) = search rules in
    let k = of_kind _ _ gives in
    let p : PartsOf (ahead_of s.reader) s.len s.trees.0.0 s.trees.0.1 k.it = parts_of _ _ s.trees _ (search rules) k.first in
    first_kind _ k.it _ p.first k.kind

pub returns-clause-rest : goal.returns-clause-rest
returns-clause-rest c =
    let s = c.args.self.now in
    let gives : GivesKind (first_token (ahead_of s.reader)) (Some c.in_ok-kind.kind) = search rules in
    let k = of_kind _ _ gives in
    let p : PartsOf (ahead_of s.reader) s.len s.trees.0.0 s.trees.0.1 k.it = parts_of _ _ s.trees _ (search rules) k.first in
    let rest : ahead_of c.advance_skip_kind.new.self ≡ join (after_tree s.trees.0.0) s.trees.0.1 = c.advance_skip_kind.ensures.moved.ahead ∙ p.rest in
    let rest_size : size (after_tree s.trees.0.0) ≡ s.len - (1 + c.count_below-len.result) = omega (arith, p.rest_size, c.count_below-len.ensures, counts_below _ _ k.kind) in
    search (rules, trees_are)

pub returns-clause-steps : goal.returns-clause-steps
returns-clause-steps c =
    let s = c.args.self.now in
    let gives : GivesKind (first_token (ahead_of s.reader)) (Some c.in_ok-kind.kind) = search rules in
    let k = of_kind _ _ gives in
    let p : PartsOf (ahead_of s.reader) s.len s.trees.0.0 s.trees.0.1 k.it = parts_of _ _ s.trees _ (search rules) k.first in
    c.advance_skip_kind.ensures.moved.steps ∙ one_step _ (ahead_of s.reader) k.it k.first ∙ sym (one_step _ s.trees.0.0 k.it p.first)
