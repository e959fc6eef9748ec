use Rattle.std.proofs.Common.{rules, ◌≡◌, map, ap, ◌∙◌}
use Rattle.std.specs.Prelude.{bytes_eq}
use Rattle.indexmap.specs.IndexMap.{get}
use Rattle.expand_text.specs.LastPlaces.{last_place}
use Rattle.expand_text.proofs.Linking.{linked_more, placed_more}
use Rattle.expand_text.proofs.scope.Scope.define.Goals as goal

pub invariant_of-self-in-Ok : goal.invariant_of-self-in-Ok
invariant_of-self-in-Ok c =
    let old = c.args.self.now in
    let its = old.macros.items in
    let it = c.args.it in
    let name : c.in_ok-name.name ≡ it.name = search rules in
    let linked = linked_more (λ m. m.name) its it old.links.items c.link.new.links.items (get bytes_eq old.places c.in_ok-name.name) old.linked
    (old.indexed c.in_ok-name.name ∙ ap (last_place (map (λ m. m.name) its)) name) (search rules) in
    let placed = placed_more (λ m. m.name) its it (get bytes_eq old.places) (get bytes_eq c.link.new.places) old.indexed
    (search rules) in
    record {
      linked = search rules;
      indexed = search rules;
    }
