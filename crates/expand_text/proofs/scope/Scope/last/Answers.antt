use Rattle.std.proofs.Common.{rules, arith, ◌≡◌, ◌<◌, get_or, length, map, None, Some, sym, ap, ◌∙◌}
use Rattle.std.specs.Prelude.{bytes_eq}
use Rattle.std.proofs.lemmas.Option.{slice_get-get_or}
use Rattle.indexmap.specs.IndexMap.{get}
use Rattle.expand_text.specs.LastPlaces.{last_place}
use Rattle.expand_text.proofs.Linking.{last_at, last_none, last_there}
use Rattle.expand_text.proofs.scope.Scope.last.Goals as goal

pub index-requires : goal.index-requires
index-requires c =
    let its = c.args.self.now.macros.items in
    let name = c.args.name.now in
    let found : Some c.in-Some.place.now ≡ get bytes_eq c.args.self.now.places name = search rules in
    let there : c.in-Some.place.now < length its = last_there (λ it. it.name) name its c.in-Some.place.now (sym (c.args.self.now.indexed name) ∙ sym found) in
    omega (arith, there)

pub returns-in-Some : goal.returns-in-Some
returns-in-Some c =
    let its = c.args.self.now.macros.items in
    let name = c.args.name.now in
    let place = c.in-Some.place.now in
    let it = c.index.result.now in
    let found : Some place ≡ get bytes_eq c.args.self.now.places name = search rules in
    let is : last_place (map (λ m. m.name) its) name ≡ Some place = sym (c.args.self.now.indexed name) ∙ sym found in
    let read : it ≡ get_or its place it = search rules in
    ap Some read ∙ sym (slice_get-get_or its place it (last_there (λ m. m.name) name its place is)) ∙ last_at (λ m. m.name) name its place is

pub returns-in-None : goal.returns-in-None
returns-in-None c =
    let its = c.args.self.now.macros.items in
    let name = c.args.name.now in
    let none : None ≡ get bytes_eq c.args.self.now.places name = search rules in
    sym (last_none (λ m. m.name) name its (sym (c.args.self.now.indexed name) ∙ sym none))
