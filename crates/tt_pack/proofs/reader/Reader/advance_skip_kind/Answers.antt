use Rattle.std.proofs.Common.{◌≡◌, ◌+◌, ◌-◌, ◌<◌, ◌^◌, Some, None, length, refl, sym, ap, subst, ◌∙◌, arith, rules}
use Rattle.tt_base.specs.Moves.{first_token, after_token, after_tree}
use Rattle.tt_tables.specs.Meaning.{IsAhead}
use Rattle.tt_pack.specs.StoredIn.{bytes_in}
use Rattle.tt_pack.specs.ReaderOf.{bytes_of, tables_of, steps_of, ahead_of}
use Rattle.tt_pack.proofs.Decoded.{no_tree}
use Rattle.tt_pack.proofs.KindDecoded.{kind_ahead, kind_is_at, first_gives, no_kind_ahead}
use Rattle.tt_pack.proofs.Moves.{ends, inside, steps_to, stays}
use Rattle.tt_base.proofs.Moves.{one_step}
use Rattle.tt_pack.proofs.reader.Reader.advance_skip_kind.Goals as goal

pub returns-in_err-tree-clause-token : goal.returns-in_err-tree-clause-token
returns-in_err-tree-clause-token c =
    let none : c.args.self.now.tree ≡ None = search rules in
    rw c.from_residual.ensures (ap first_token (no_tree c.args.self.now none))

pub returns-in_err-tree-clause-moved : goal.returns-in_err-tree-clause-moved
returns-in_err-tree-clause-moved c =
    let self = c.args.self.now in
    let none : self.tree ≡ None = search rules in
    let nothing = no_tree self none in
    stays self (after_tree (ahead_of self)) nothing (ap after_tree nothing)

pub returns-in_err-kind-clause-end : goal.returns-in_err-kind-clause-end
returns-in_err-kind-clause-end c =
    let self = c.args.self.now in
    let tree : self.tree ≡ Some c.in_ok-tree.tree = search rules in
    let none : c.decode_here.new.self.kind ≡ None = search rules in
    let found = kind_ahead self _ c.new-kinds.result c.decode_here.new.self tree c.new-kinds.ensures.tree c.decode_here.ensures in
    let past = ends _ _ _ _ self.ahead.1 in
    (λ _. past.0 (ap first_token (no_kind_ahead self _ _ _ found none)), λ _. c.from_residual-in_err-kind.ensures)

pub returns-in_err-kind-clause-moved : goal.returns-in_err-kind-clause-moved
returns-in_err-kind-clause-moved c =
    let self = c.args.self.now in
    let tree : self.tree ≡ Some c.in_ok-tree.tree = search rules in
    let none : c.decode_here.new.self.kind ≡ None = search rules in
    let found = kind_ahead self _ c.new-kinds.result c.decode_here.new.self tree c.new-kinds.ensures.tree c.decode_here.ensures in
    let nothing = no_kind_ahead self _ _ _ found none in
    stays self (after_tree (ahead_of self)) nothing (ap after_tree nothing)

pub overflow_add-self : goal.overflow_add-self
overflow_add-self c =
    let self = c.args.self.now in
    let tree : self.tree ≡ Some c.in_ok-tree.tree = search rules in
    let is : c.decode_here.new.self.kind ≡ Some c.in_ok-kind.kind = search rules in
    let found = kind_ahead self _ c.new-kinds.result c.decode_here.new.self tree c.new-kinds.ensures.tree c.decode_here.ensures in
    let first = (kind_is_at self _ _ _ _ found is).first in
    let all : c.bytes.result.now ≡ bytes_of self = c.bytes.ensures.value ∙ sym (ap bytes_in tree) in
    let small : length c.bytes.result.now < 2 ^ 64 = search rules in
    omega (arith, small, ap length all, inside _ _ _ _ first.after)

pub returns-clause-below : goal.returns-clause-below
returns-clause-below c =
    let self = c.args.self.now in
    let tree : self.tree ≡ Some c.in_ok-tree.tree = search rules in
    let is : c.decode_here.new.self.kind ≡ Some c.in_ok-kind.kind = search rules in
    let found = kind_ahead self _ c.new-kinds.result c.decode_here.new.self tree c.new-kinds.ensures.tree c.decode_here.ensures in
    let first = (kind_is_at self _ _ _ _ found is).first in
    let all : c.bytes.result.now ≡ bytes_of self = c.bytes.ensures.value ∙ sym (ap bytes_in tree) in
    let counted = one_step (steps_of self) (ahead_of self) _ first.token in
    steps_to _ _ _ (omega (arith, first.passed, ap length all))
    (subst (λ most. IsAhead (tables_of self) (bytes_of self) (most - c.decode_here.new.self.left) (after_token (ahead_of self))) (sym (ap length all)) first.inside)
    (refl, refl) (c.saturating_add-self.ensures ∙ sym counted)

pub returns-clause-moved : goal.returns-clause-moved
returns-clause-moved c =
    let self = c.args.self.now in
    let tree : self.tree ≡ Some c.in_ok-tree.tree = search rules in
    let is : c.decode_here.new.self.kind ≡ Some c.in_ok-kind.kind = search rules in
    let found = kind_ahead self _ c.new-kinds.result c.decode_here.new.self tree c.new-kinds.ensures.tree c.decode_here.ensures in
    let first = (kind_is_at self _ _ _ _ found is).first in
    let all : c.bytes.result.now ≡ bytes_of self = c.bytes.ensures.value ∙ sym (ap bytes_in tree) in
    let counted = one_step (steps_of self) (ahead_of self) _ first.token in
    steps_to _ _ _ (omega (arith, first.passed, ap length all))
    (subst (λ most. IsAhead (tables_of self) (bytes_of self) (most - c.decode_here.new.self.left + c.decode_here.new.self.child_bytes) (after_tree (ahead_of self))) (sym (ap length all)) first.after)
    (refl, refl) (c.saturating_add-self.ensures ∙ sym counted)

pub returns-clause-token : goal.returns-clause-token
returns-clause-token c =
    let self = c.args.self.now in
    let tree : self.tree ≡ Some c.in_ok-tree.tree = search rules in
    let is : c.decode_here.new.self.kind ≡ Some c.in_ok-kind.kind = search rules in
    let found = kind_ahead self _ c.new-kinds.result c.decode_here.new.self tree c.new-kinds.ensures.tree c.decode_here.ensures in
    first_gives _ _ _ _ _ _ _ (kind_is_at self _ _ _ _ found is)
