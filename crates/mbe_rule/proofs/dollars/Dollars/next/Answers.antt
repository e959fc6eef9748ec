use Rattle.std.proofs.Common.{rules, ◌≡◌, [], ◌∷◌, ◌++◌, Some, reverse, ap, sym, ◌∙◌}
use Rattle.std.proofs.lemmas.List.{reverse-append}
use Rattle.tt.specs.Iters.{rest_of, IsFirstElement}
use Rattle.tt.specs.Moves.{after_tree}
use Rattle.tt.specs.Types.TtElement.TheVariants as element
use Rattle.mbe_rule.specs.DollarsLeft.{behind_in}
use Rattle.mbe_rule.proofs.DollarSteps.{behind_subtree}
use Rattle.mbe_rule.proofs.dollars.Dollars.next.Goals as goal

pub loop-level-preserved : goal.loop-level-preserved
loop-level-preserved c =
    let levels = c.pop.new.self.items in
    let level = c.in-Some.level in
    let next = c.next.new.self in
    let header = c.in-Some-Subtree._header in
    let children = c.in-Some-Subtree.children in
    let before : c.loop-level.self.levels.items ≡ levels ++ level ∷ [] = search rules in
    let after : c.push-in-Some-Subtree-2.new.self.items ≡ (levels ++ next ∷ []) ++ children ∷ [] = search rules in
    let first : IsFirstElement (rest_of level) (Some (element.Subtree header children)) = search rules in
    let rest : rest_of next ≡ after_tree (rest_of level) = search rules in
    ap behind_in
    (ap reverse after ∙ reverse-append (levels ++ next ∷ []) (children ∷ []) ∙ ap (λ items. children ∷ items) (reverse-append levels (next ∷ [])))
    ∙ sym (behind_subtree level next children (reverse levels) header first rest)
    ∙ sym (ap behind_in (ap reverse before ∙ reverse-append levels (level ∷ [])))
    ∙ c.loop-level.invariant
