use Rattle.std.proofs.Common.{rules, arith, ◌≡◌, ◌++◌, ◌∷◌, [], map, cond, ap, ◌∙◌}
use Rattle.std.specs.Prelude.{bytes_eq}
use Rattle.indexmap.specs.IndexMap.{get}
use Rattle.expand_text.specs.LastPlaces.{last_place, links_of}
use Rattle.expand_text.proofs.Linking.{linked_fewer, placed_fewer, placed_there}
use Rattle.expand_text.proofs.scope.Scope.drop_last.Goals as goal

pub put_back-requires : goal.put_back-requires
put_back-requires c =
    let old = c.args.self.now in
    let it = c.in-Some.it in
    let split : old.macros.items ≡ c.pop.new.self.items ++ it ∷ [] = search rules in
    placed_there (λ m. m.name) c.pop.new.self.items it (get bytes_eq old.places)
    (λ name. old.indexed name ∙ ap (λ its. last_place (map (λ m. m.name) its) name) split)

pub invariant_of-self-2 : goal.invariant_of-self-2
invariant_of-self-2 c =
    let old = c.args.self.now in
    let it = c.in-Some.it in
    let its = c.pop.new.self.items in
    let split : old.macros.items ≡ its ++ it ∷ [] = search rules in
    let linked = linked_fewer (λ m. m.name) its it old.links.items c.pop-2.new.self.items c.pop-2.result
    (old.linked ∙ ap (λ its. links_of (map (λ m. m.name) its)) split) c.pop-2.ensures.items (λ some. c.pop-2.ensures.variant.1 (omega (arith, some))) in
    record {
      linked = linked.0;
      indexed = placed_fewer (λ m. m.name) its it (get bytes_eq old.places) (get bytes_eq c.put_back.new.places)
          (λ name. old.indexed name ∙ ap (λ its. last_place (map (λ m. m.name) its) name) split)
          (λ name. c.put_back.ensures.0 name ∙ ap (λ p. cond (bytes_eq it.name name) p (get bytes_eq old.places name)) (c.flatten-before.ensures ∙ linked.1));
    }
