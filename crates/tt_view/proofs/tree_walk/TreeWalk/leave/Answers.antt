use Rattle.std.proofs.Common.{rules, ◌≡◌, [], ◌∷◌, reverse, refl, ap, sym, ◌∙◌}
use Rattle.std.proofs.lemmas.List.{append-nil}
use Rattle.tt_view.specs.HeldPlaces.{HasTrees, HaveTrees}
use Rattle.tt_view.specs.TreeWalks.{innermost, outer_levels}
use Rattle.tt_view.proofs.TreeWalks.{trees_are_at, all_are_at, levels_are_at, have_same, popped}
use Rattle.tt_view.proofs.tree_walk.TreeWalk.leave.Goals as goal

pub returns-in-Some : goal.returns-in-Some
returns-in-Some c =
    let self = c.args.self.now in
    let there : HaveTrees self.tree (c.in-Some.place ∷ reverse c.pop.new.self.items) (outer_levels self) =
    popped self.tree c.in-Some.place c.pop.new.self.items self.outer.items c.in-Some.ensures.items (outer_levels self) (self.held.1, refl) in
    search (rules, levels_are_at, there)

pub returns-in-None : goal.returns-in-None
returns-in-None c =
    let self = c.args.self.now in
    let none : self.outer.items ≡ [] = search rules in
    let first : HasTrees self.tree self.place (innermost self) = (self.held.0, refl) in
    let same : self.outer.items ≡ c.pop.new.self.items = c.in-None.ensures.items ∙ append-nil c.pop.new.self.items in
    let outer : HaveTrees self.tree (reverse c.pop.new.self.items) (outer_levels self) =
    have_same self.tree (reverse self.outer.items) (reverse c.pop.new.self.items) (outer_levels self) (ap reverse same) (self.held.1, refl) in
    let nothing : HaveTrees self.tree (reverse self.outer.items) [] = have_same self.tree [] (reverse self.outer.items) [] (sym (ap reverse none)) (tt, refl) in
    (all_are_at self.tree (reverse self.outer.items) self.held.1 [] nothing, (search (rules, trees_are_at, first), search (rules, all_are_at, outer)))
