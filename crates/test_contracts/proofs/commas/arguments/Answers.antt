use Rattle.std.proofs.Common.{rules, of_calls, ◌≡◌, [], ◌∷◌, ◌++◌, map, ap, sym, ◌∙◌, append_assoc}
use Rattle.std.proofs.lemmas.List.{map-append}
use Rattle.test_contracts.specs.ViewTrees.{view_trees}
use Rattle.test_contracts.proofs.Cuts.{one_piece, to_come}
use Rattle.test_contracts.proofs.commas.arguments.Goals as goal

pub loop-piece-preserved : goal.loop-piece-preserved
loop-piece-preserved c =
    let s = c.loop-piece.piece-iterator in
    let t = c.next.new.self in
    let given : to_come s ≡ view_trees c.in-Some.piece ∷ to_come t =
    one_piece _ (λ p e b q called. search rules) s t c.in-Some.piece (rw c.in-Some.is at c.next.ensures.steps) in
    let more : c.push.new.self.items ≡ c.loop-piece.list.items ++ (c.in-Some.piece ∷ []) = search rules in (
      search of_calls,
      tt,
      ap (λ items. map view_trees items ++ to_come t) more
          ∙ ap (λ pieces. pieces ++ to_come t) (map-append view_trees c.loop-piece.list.items (c.in-Some.piece ∷ []))
          ∙ append_assoc (map view_trees c.loop-piece.list.items) (view_trees c.in-Some.piece ∷ []) (to_come t)
          ∙ ap (λ pieces. map view_trees c.loop-piece.list.items ++ pieces) (sym given)
          ∙ c.loop-piece.invariant.2,
    )
