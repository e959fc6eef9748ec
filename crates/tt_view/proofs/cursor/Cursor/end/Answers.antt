use Rattle.std.proofs.Common.{rules, ◌≡◌, true, false, [], ◌∷◌, ◌++◌, reverse, ap, sym, subst, ◌∙◌}
use Rattle.std.proofs.lemmas.List.{reverse-append}
use Rattle.tt_view.specs.Views.{trees_of}
use Rattle.tt_base.specs.Walk.{events_ahead, is_at_close, one_on}
use Rattle.tt_view.specs.Frames.{events_left, frames_of, Stands, left}
use Rattle.tt_view.proofs.Frames.{out_of}
use Rattle.tt_view.proofs.Places.{ahead_is, closing, moved, close_none}
use Rattle.tt_view.proofs.cursor.Cursor.end.Goals as goal

pub unreachable-requires : goal.unreachable-requires
unreachable-requires c =
    let a = c.self.inside in
    let whole : events_ahead c.args.self.now ≡ events_left a = ahead_is a _ c.self.invariant c.self.view_is in
    let close : is_at_close (events_left a) ≡ true = sym (ap is_at_close whole) ∙ c.requires in
    let none : frames_of a ≡ [] = search rules in
    let open_ : false ≡ is_at_close (events_left a) = close_none a.ahead ∙ ap is_at_close (sym (ap (λ v. left v a.ahead) none)) in
    cc

pub invariant_of-self : goal.invariant_of-self
invariant_of-self c =
    let a = c.self.inside in
    let whole : events_ahead c.args.self.now ≡ events_left a = ahead_is a _ c.self.invariant c.self.view_is in
    let close : is_at_close (events_left a) ≡ true = sym (ap is_at_close whole) ∙ c.requires in
    let pop : a.stack.items ≡ c.pop.new.self.items ++ (c.in-Some.frame ∷ []) = search rules in
    let split : frames_of a ≡ c.in-Some.frame ∷ reverse c.pop.new.self.items = ap reverse pop ∙ reverse-append c.pop.new.self.items (c.in-Some.frame ∷ []) in
    let stand : Stands (trees_of a.origin) (c.in-Some.frame ∷ reverse c.pop.new.self.items) a.ahead = subst (λ v. Stands (trees_of a.origin) v a.ahead) split c.self.invariant in
    let same = ap (λ v. left v a.ahead) split in
    let out = out_of _ _ _ _ stand (closing _ _ _ _ stand (sym (ap is_at_close same) ∙ close)) in
    out.stands

pub returns-clause-header : goal.returns-clause-header
returns-clause-header c =
    let a = c.self.inside in
    let whole : events_ahead c.args.self.now ≡ events_left a = ahead_is a _ c.self.invariant c.self.view_is in
    let close : is_at_close (events_left a) ≡ true = sym (ap is_at_close whole) ∙ c.requires in
    let pop : a.stack.items ≡ c.pop.new.self.items ++ (c.in-Some.frame ∷ []) = search rules in
    let split : frames_of a ≡ c.in-Some.frame ∷ reverse c.pop.new.self.items = ap reverse pop ∙ reverse-append c.pop.new.self.items (c.in-Some.frame ∷ []) in
    let stand : Stands (trees_of a.origin) (c.in-Some.frame ∷ reverse c.pop.new.self.items) a.ahead = subst (λ v. Stands (trees_of a.origin) v a.ahead) split c.self.invariant in
    let same = ap (λ v. left v a.ahead) split in
    let out = out_of _ _ _ _ stand (closing _ _ _ _ stand (sym (ap is_at_close same) ∙ close)) in
    (_, whole ∙ same ∙ out.is)

pub returns-clause-place : goal.returns-clause-place
returns-clause-place c =
    let a = c.self.inside in
    let whole : events_ahead c.args.self.now ≡ events_left a = ahead_is a _ c.self.invariant c.self.view_is in
    let close : is_at_close (events_left a) ≡ true = sym (ap is_at_close whole) ∙ c.requires in
    let pop : a.stack.items ≡ c.pop.new.self.items ++ (c.in-Some.frame ∷ []) = search rules in
    let split : frames_of a ≡ c.in-Some.frame ∷ reverse c.pop.new.self.items = ap reverse pop ∙ reverse-append c.pop.new.self.items (c.in-Some.frame ∷ []) in
    let stand : Stands (trees_of a.origin) (c.in-Some.frame ∷ reverse c.pop.new.self.items) a.ahead = subst (λ v. Stands (trees_of a.origin) v a.ahead) split c.self.invariant in
    let same = ap (λ v. left v a.ahead) split in
    let out = out_of _ _ _ _ stand (closing _ _ _ _ stand (sym (ap is_at_close same) ∙ close)) in
    moved _ _ _ _ _ _ c.self.invariant out.stands (same ∙ out.is) ∙ ap one_on c.self.view_is
