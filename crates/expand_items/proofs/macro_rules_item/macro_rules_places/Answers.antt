use Rattle.std.proofs.Common.{◌≡◌, List, [], ◌∷◌, map, refl, ap, ◌∙◌}
use Rattle.std.proofs.lemmas.Result.{IfOk-weaker}
use Rattle.tt.specs.Views.{trees_of}
use Rattle.mbe_grammar.specs.declared.beginning.Beginning.{Beginning}
use Rattle.mbe_grammar.specs.Beginnings.{beginning_of}
use Rattle.expand_items.proofs.macro_rules_item.macro_rules_places.Goals as goal

same_lefts : (found : List Beginning) → map (λ it. it.left) found ≡ map (λ it. it.left) (map beginning_of found)
same_lefts [] = refl
same_lefts (it ∷ others) = ap (λ l. it.left ∷ l) (same_lefts others)

pub returns : goal.returns
returns c =
    let found = c.in_ok-found.found.items in
    IfOk-weaker c.lefts.result _ _ (λ places are. (map beginning_of found, c.in_ok-found.ensures, are ∙ ap (map (λ it. it.left)) c.as_slice.ensures.value ∙ same_lefts found)) c.lefts.ensures
