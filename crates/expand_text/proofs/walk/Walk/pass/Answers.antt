use Rattle.std.proofs.Common.{◌≡◌, ◌∷◌, reverse, ap₂, ◌∙◌}
use Rattle.tt.specs.Gluing.{after_trees}
use Rattle.tt.specs.TreeWalks.{innermost, outer_levels}
use Rattle.expand_text.specs.Parts.{trees_in}
use Rattle.expand_text.specs.Walks.{level_at, levels_at}
use Rattle.expand_text.proofs.Parted.{after_part}
use Rattle.expand_text.proofs.walk.Walk.pass.Goals as goal

pub returns : goal.returns
returns c =
    let self = c.args.self.now in
    let part = c.args.part.now in
    let rest : innermost c.pass-2.new.self ≡ after_trees (trees_in part) (innermost self.trees) =
    c.pass-2.ensures.innermost ∙ ap₂ after_trees c.more.ensures c.pass.ensures.innermost ∙ after_part part (innermost self.trees) in
    let outer : outer_levels c.pass-2.new.self ≡ outer_levels self.trees = c.pass-2.ensures.outer ∙ c.pass.ensures.outer in
    ap₂ (λ trees others. level_at trees (record self.level { position = part.position; plain = part.plain }) ∷ levels_at others (reverse self.outer.items)) rest outer
