use Rattle.std.proofs.Common.{rules, ◌≡◌, Some, None, false, ap, sym, ◌∙◌}
use Rattle.tt_base.specs.declared.token_tree.TokenTree.TheVariants as token
use Rattle.tt_base.specs.declared.leaf.Leaf.{Leaf}
use Rattle.tt_base.specs.Forest.{size}
use Rattle.tt_base.specs.Moves.{first_token, after_token}
use Rattle.tt_view.specs.Innermost.{is_end_of}
use Rattle.tt_view.specs.Views.{trees_of}
use Rattle.tt_base.specs.Walk.{events_ahead, is_at_close, two_leaves_at}
use Rattle.tt_view.specs.Frames.{events_left, frames_of}
use Rattle.tt_base.proofs.Walks.{no_first, no_second, two, none_at_close}
use Rattle.tt_view.proofs.Places.{ahead_is, close_is, token_ahead, leaf_gone}
use Rattle.tt_view.proofs.cursor.Cursor.peek_two_leaves.Goals as goal

pub returns-in_err-first : goal.returns-in_err-first
returns-in_err-first c =
    let a = c.self.inside in
    let whole : events_ahead c.args.self.now ≡ events_left a = ahead_is a _ c.self.invariant c.self.view_is in
    let no : is_at_close (events_left a) ≡ false = sym (ap is_at_close whole) ∙ sym c.is_at_close.ensures ∙ c.if-is_at_close.false in
    let none : (it : Leaf) → first_token a.ahead ≡ Some (token.Leaf it) → ⊥ = search rules in
    let result : c.from_residual.result ≡ None = search rules in
    result ∙ no_first (events_left a) (λ it t. none it (token_ahead _ _ _ c.self.invariant no ∙ t)) ∙ ap two_leaves_at (sym whole)

pub returns-then-ends_node : goal.returns-then-ends_node
returns-then-ends_node c =
    let a = c.self.inside in
    let whole : events_ahead c.args.self.now ≡ events_left a = ahead_is a _ c.self.invariant c.self.view_is in
    let no : is_at_close (events_left a) ≡ false = sym (ap is_at_close whole) ∙ sym c.is_at_close.ensures ∙ c.if-is_at_close.false in
    let first : first_token a.ahead ≡ Some (token.Leaf c.in_ok-first.first) = search rules in
    let rest : trees_of c.in_ok-first.rest ≡ after_token a.ahead = search rules in
    let gone = leaf_gone (trees_of a.origin) (frames_of a) a.ahead (trees_of c.in_ok-first.rest) c.in_ok-first.first c.self.invariant no first rest in
    let at_end : c.ends_node.result ≡ is_end_of (frames_of a) (size (trees_of c.in_ok-first.rest)) = search rules in
    let close = at_end ∙ close_is _ _ _ gone.stands in
    let is = whole ∙ gone.is in
    no_second c.in_ok-first.first _ (none_at_close _ (sym close ∙ c.if-ends_node.true)) ∙ ap two_leaves_at (sym is)

pub returns-in_err-second : goal.returns-in_err-second
returns-in_err-second c =
    let a = c.self.inside in
    let whole : events_ahead c.args.self.now ≡ events_left a = ahead_is a _ c.self.invariant c.self.view_is in
    let no : is_at_close (events_left a) ≡ false = sym (ap is_at_close whole) ∙ sym c.is_at_close.ensures ∙ c.if-is_at_close.false in
    let first : first_token a.ahead ≡ Some (token.Leaf c.in_ok-first.first) = search rules in
    let rest : trees_of c.in_ok-first.rest ≡ after_token a.ahead = search rules in
    let gone = leaf_gone (trees_of a.origin) (frames_of a) a.ahead (trees_of c.in_ok-first.rest) c.in_ok-first.first c.self.invariant no first rest in
    let at_end : c.ends_node.result ≡ is_end_of (frames_of a) (size (trees_of c.in_ok-first.rest)) = search rules in
    let close = at_end ∙ close_is _ _ _ gone.stands in
    let is = whole ∙ gone.is in
    let none : (it : Leaf) → first_token (trees_of c.in_ok-first.rest) ≡ Some (token.Leaf it) → ⊥ = search rules in
    let result : c.from_residual-in_err-second.result ≡ None = search rules in
    result
    ∙ no_second c.in_ok-first.first _ (λ it t. none it (token_ahead _ _ _ gone.stands (sym close ∙ c.if-ends_node.false) ∙ t))
    ∙ ap two_leaves_at (sym is)

pub returns : goal.returns
returns c =
    let a = c.self.inside in
    let whole : events_ahead c.args.self.now ≡ events_left a = ahead_is a _ c.self.invariant c.self.view_is in
    let no : is_at_close (events_left a) ≡ false = sym (ap is_at_close whole) ∙ sym c.is_at_close.ensures ∙ c.if-is_at_close.false in
    let first : first_token a.ahead ≡ Some (token.Leaf c.in_ok-first.first) = search rules in
    let rest : trees_of c.in_ok-first.rest ≡ after_token a.ahead = search rules in
    let gone = leaf_gone (trees_of a.origin) (frames_of a) a.ahead (trees_of c.in_ok-first.rest) c.in_ok-first.first c.self.invariant no first rest in
    let at_end : c.ends_node.result ≡ is_end_of (frames_of a) (size (trees_of c.in_ok-first.rest)) = search rules in
    let close = at_end ∙ close_is _ _ _ gone.stands in
    let is = whole ∙ gone.is in
    let second : first_token (trees_of c.in_ok-first.rest) ≡ Some (token.Leaf c.in_ok-second.second) = search rules in
    two c.in_ok-first.first c.in_ok-second.second _ (sym (token_ahead _ _ _ gone.stands (sym close ∙ c.if-ends_node.false)) ∙ second) ∙ ap two_leaves_at (sym is)
