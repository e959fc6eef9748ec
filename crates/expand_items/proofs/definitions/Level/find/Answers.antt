use Rattle.std.proofs.Common.{rules, ◌≡◌, ◌∷◌, ◌++◌, [], ap, sym, subst, ◌∙◌, arith, map}
use Rattle.std.proofs.lemmas.List.{append-nil, map-append}
use Rattle.tt.specs.Iters.{rest_of}
use Rattle.expand_items.specs.Cfg.{known_of}
use Rattle.expand_items.specs.Definitions.{IsItemIf, defined_of, passed_by}
use Rattle.expand_items.specs.Inactive.{IsItemAt}
use Rattle.expand_items.specs.Items.{item_meant}
use Rattle.expand_items.specs.declared.definitions.Defined.{Defined}
use Rattle.expand_items.specs.declared.item.Item.TheVariants as item_of
use Rattle.expand_items.proofs.definitions.Level.find.Goals as goal

pub returns-in_ok-push-in-Definition-clause-found : goal.returns-in_ok-push-in-Definition-clause-found
returns-in_ok-push-in-Definition-clause-found c =
    let known = known_of c.args.options.now in
    let root = c.args.root.now in
    let old = c.args.self.now in
    let it = item_of.Definition c.in-Definition.definition in
    let none : old.passed ≡ 0 = search (rules, arith) in
    let whole : rest_of c.iter-trees.result ≡ rest_of old.rest = search rules in
    let at : IsItemAt known root old.position (rest_of old.rest) (item_meant it) =
    subst (λ r. IsItemAt known root old.position (rest_of old.rest) (item_meant r)) c.in-Definition.is
    (subst (λ f. IsItemAt known root old.position f (item_meant c.in_ok-first.first)) whole c.in_ok-first.ensures) in
    let is : IsItemIf known root old.position old.passed (rest_of old.rest) (item_meant it) =
    subst (λ n. IsItemIf known root old.position n (rest_of old.rest) (item_meant it)) (sym none) at in
    let passes : c.in-Definition.definition.len ≡ passed_by old.passed (item_meant it) = ap (λ n. passed_by n (item_meant it)) (sym none) in
    let made : Defined = record { definition = c.in-Definition.definition; position = old.position } in
    let grown : c.push.new.self.items ≡ c.args.found.now.items ++ made ∷ [] = search rules in
    (item_meant it, is, ap (map defined_of) grown ∙ map-append defined_of c.args.found.now.items (made ∷ []), passes)

pub returns-in-Call-clause-found : goal.returns-in-Call-clause-found
returns-in-Call-clause-found c =
    let known = known_of c.args.options.now in
    let root = c.args.root.now in
    let old = c.args.self.now in
    let it = item_of.Call c.in-Call.call in
    let none : old.passed ≡ 0 = search (rules, arith) in
    let whole : rest_of c.iter-trees.result ≡ rest_of old.rest = search rules in
    let at : IsItemAt known root old.position (rest_of old.rest) (item_meant it) =
    subst (λ r. IsItemAt known root old.position (rest_of old.rest) (item_meant r)) c.in-Call.is
    (subst (λ f. IsItemAt known root old.position f (item_meant c.in_ok-first.first)) whole c.in_ok-first.ensures) in
    let is : IsItemIf known root old.position old.passed (rest_of old.rest) (item_meant it) =
    subst (λ n. IsItemIf known root old.position n (rest_of old.rest) (item_meant it)) (sym none) at in
    (item_meant it, is, sym (append-nil (map defined_of c.args.found.now.items)), ap (λ n. passed_by n (item_meant it)) (sym none))

pub returns-in-Inactive-clause-found : goal.returns-in-Inactive-clause-found
returns-in-Inactive-clause-found c =
    let known = known_of c.args.options.now in
    let root = c.args.root.now in
    let old = c.args.self.now in
    let it = item_of.Inactive c.in-Inactive.len in
    let none : old.passed ≡ 0 = search (rules, arith) in
    let whole : rest_of c.iter-trees.result ≡ rest_of old.rest = search rules in
    let at : IsItemAt known root old.position (rest_of old.rest) (item_meant it) =
    subst (λ r. IsItemAt known root old.position (rest_of old.rest) (item_meant r)) c.in-Inactive.is
    (subst (λ f. IsItemAt known root old.position f (item_meant c.in_ok-first.first)) whole c.in_ok-first.ensures) in
    let is : IsItemIf known root old.position old.passed (rest_of old.rest) (item_meant it) =
    subst (λ n. IsItemIf known root old.position n (rest_of old.rest) (item_meant it)) (sym none) at in
    (item_meant it, is, sym (append-nil (map defined_of c.args.found.now.items)), ap (λ n. passed_by n (item_meant it)) (sym none))
