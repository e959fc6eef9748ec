use Rattle.std.proofs.Common.{◌≡◌, [], ◌++◌, length, ap, sym, subst, ◌∙◌}
use Rattle.tt_view.specs.Views.{trees_of}
use Rattle.tt_base.specs.Walk.{events_ahead, open_nodes, walk}
use Rattle.tt_view.specs.Frames.{events_left, frames_of, Stands, left}
use Rattle.tt_base.proofs.Walks.{walk-join}
use Rattle.tt_view.proofs.Places.{ahead_is, open_count, nil_of}
use Rattle.tt_view.proofs.cursor.Cursor.crossed.Goals as goal

pub before-requires : goal.before-requires
before-requires c =
    let a = c.self.inside in
    let whole : events_ahead c.args.self.now ≡ events_left a = ahead_is a _ c.self.invariant c.self.view_is in
    let count : length (frames_of a) ≡ 0 = sym (open_count _ _ _ c.self.invariant) ∙ sym (ap open_nodes whole) ∙ c.requires in
    let none : frames_of a ≡ [] = nil_of (frames_of a) count in
    let stand : Stands (trees_of a.origin) [] a.ahead = subst (λ v. Stands (trees_of a.origin) v a.ahead) none c.self.invariant in
    subst (Stands (trees_of a.origin) []) (sym c.trees.ensures) stand

pub returns : goal.returns
returns c =
    let a = c.self.inside in
    let whole : events_ahead c.args.self.now ≡ events_left a = ahead_is a _ c.self.invariant c.self.view_is in
    let count : length (frames_of a) ≡ 0 = sym (open_count _ _ _ c.self.invariant) ∙ sym (ap open_nodes whole) ∙ c.requires in
    let none : frames_of a ≡ [] = nil_of (frames_of a) count in
    let there : events_ahead c.args.self.now ≡ walk (trees_of c.trees.result) = whole ∙ ap (λ v. left v a.ahead) none ∙ ap walk (sym c.trees.ensures) in
    let origin : trees_of a.origin ≡ c.args.self.now.origin = ap (λ w. w.origin) c.self.view_is in
    ap (λ v. walk (trees_of c.before-2.result) ++ v) there ∙ sym (walk-join (trees_of c.before-2.result) (trees_of c.trees.result)) ∙ ap walk (c.before-2.ensures ∙ origin)
