use Rattle.std.proofs.Common.{rules, ◌≡◌, ◌+◌, ◌-◌, Some, None, ap, sym, subst, ◌∙◌, arith}
use Rattle.tt_base.specs.Forest.{Root, end, join}
use Rattle.tt_base.specs.Moves.{first_token, after_token, after_tree}
use Rattle.tt_base.specs.Siblings.{children_of}
use Rattle.tt_pack.specs.ReaderOf.{ahead_of, offset_of, StepsTo}
use Rattle.tt_pack.specs.StoredIn.{bytes_for, tables_stored}
use Rattle.tt_view.specs.declared.tree_walk.Place.{Place}
use Rattle.tt_view.specs.HeldPlaces.{IsHeld, IsAheadIn, HasAheadIn, trees_at}
use Rattle.tt_view.proofs.HeldPlaces.{held, ahead_is, is_ahead_then}
use Rattle.tt_view.proofs.Parts.{PartsOf, parts_of, end_of, not_none}
use Rattle.tt_view.proofs.tree_walk.Place.pass_tree.Goals as goal

-- no tree is left
none_left : (c : goal.Then-self-eq0) (h : IsHeld c.args.tree.now c.args.self.now) → trees_at c.args.tree.now c.args.self.now h ≡ end
none_left c h = end_of h.0.0 c.args.self.now.len h.1 (search rules)

pub returns-then-self-eq0-clause-token : goal.returns-then-self-eq0-clause-token
returns-then-self-eq0-clause-token c h = none_left c h

pub returns-then-self-eq0-clause-rest : goal.returns-then-self-eq0-clause-rest
returns-then-self-eq0-clause-rest c h = (h, none_left c h ∙ sym (ap after_tree (none_left c h)))

pub returns-in_err-token-clause-token : goal.returns-in_err-token-clause-token
returns-in_err-token-clause-token c h =
    let e : first_token h.0.0 ≡ None = sym (ap first_token (ahead_is c.packed.result.now c.args.tree.now c.at-reader.result c.args.self.now.offset c.packed.ensures c.at-reader.ensures.ahead h.0.0 h.0.1)) ∙ c.in_err-token.ensures.token in
    absurd (not_none h.0.0 c.args.self.now.len h.1 (search rules) e)

pub at-reader-requires : goal.at-reader-requires
at-reader-requires c = subst (λ root. HasAheadIn root c.args.self.now.offset) (sym c.packed.ensures) c.requires.0

pub overflow_sub-self : goal.overflow_sub-self
overflow_sub-self c =
    let s = c.args.self.now in
    let h = c.requires in
    let e : first_token h.0.0 ≡ Some c.in_ok-token.token = sym (ap first_token (ahead_is c.packed.result.now c.args.tree.now c.at-reader.result c.args.self.now.offset c.packed.ensures c.at-reader.ensures.ahead h.0.0 h.0.1)) ∙ c.in_ok-token.ensures.token in
    let p : PartsOf h.0.0 s.len h.1.0.0 h.1.0.1 c.in_ok-token.token = parts_of h.0.0 s.len h.1 _ (search rules) e in
    omega (arith, p.fits, c.count_below-len.ensures)

pub returns-clause-below : goal.returns-clause-below
returns-clause-below c h =
    let s = c.args.self.now in
    let root : Root = c.args.tree.now in
    let reader = c.at-reader.result in
    let below = c.in_ok-token.below in
    let ahead : ahead_of reader ≡ h.0.0 = ahead_is c.packed.result.now root reader s.offset c.packed.ensures c.at-reader.ensures.ahead h.0.0 h.0.1 in
    let e : first_token h.0.0 ≡ Some c.in_ok-token.token = sym (ap first_token ahead) ∙ c.in_ok-token.ensures.token in
    let p : PartsOf h.0.0 s.len h.1.0.0 h.1.0.1 c.in_ok-token.token = parts_of h.0.0 s.len h.1 _ (search rules) e in
    let step : StepsTo reader (after_token h.0.0) below = subst (λ f. StepsTo reader (after_token f) below) ahead c.in_ok-token.ensures.below in
    let is : IsAheadIn root (offset_of below) (join (children_of h.1.0.0) p.follow) =
    subst (IsAheadIn root (offset_of below)) p.below (is_ahead_then root reader below (after_token h.0.0) (c.at-reader.ensures.bytes ∙ ap bytes_for c.packed.ensures) (c.at-reader.ensures.tables ∙ ap tables_stored c.packed.ensures) step) in
    let place : Place = record { offset = c.place.result; len = c.count_below-len.result } in
    held root place (children_of h.1.0.0) p.follow (subst (λ n. IsAheadIn root n (join (children_of h.1.0.0) p.follow)) (sym c.place.ensures.value) is) (p.below_size ∙ sym c.count_below-len.ensures)

pub returns-clause-rest : goal.returns-clause-rest
returns-clause-rest c h =
    let s = c.args.self.now in
    let root : Root = c.args.tree.now in
    let reader = c.at-reader.result in
    let behind = c.advance_skip.new.self in
    let ahead : ahead_of reader ≡ h.0.0 = ahead_is c.packed.result.now root reader s.offset c.packed.ensures c.at-reader.ensures.ahead h.0.0 h.0.1 in
    let e : first_token h.0.0 ≡ Some c.in_ok-token.token = sym (ap first_token ahead) ∙ c.in_ok-token.ensures.token in
    let p : PartsOf h.0.0 s.len h.1.0.0 h.1.0.1 c.in_ok-token.token = parts_of h.0.0 s.len h.1 _ (search rules) e in
    let step : StepsTo reader (after_tree h.0.0) behind = subst (λ f. StepsTo reader (after_tree f) behind) ahead c.advance_skip.ensures.moved in
    let is : IsAheadIn root (offset_of behind) (join (after_tree h.1.0.0) h.1.0.1) =
    subst (IsAheadIn root (offset_of behind)) p.rest (is_ahead_then root reader behind (after_tree h.0.0) (c.at-reader.ensures.bytes ∙ ap bytes_for c.packed.ensures) (c.at-reader.ensures.tables ∙ ap tables_stored c.packed.ensures) step) in
    let place : Place = record { offset = c.place-self.result; len = s.len - (1 + c.count_below-len.result) } in
    held root place (after_tree h.1.0.0) h.1.0.1 (subst (λ n. IsAheadIn root n (join (after_tree h.1.0.0) h.1.0.1)) (sym c.place-self.ensures.value) is) (omega (arith, p.rest_size, c.count_below-len.ensures))
