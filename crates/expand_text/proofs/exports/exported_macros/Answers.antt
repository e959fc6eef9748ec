use Rattle.std.proofs.Common.{rules, ◌≡◌, ◌∷◌, ◌∙◌, ◌+◌, ◌<◌, ◌≤◌, [], ap, drop, get_or, length, refl, sym, subst, subst₂}
use Rattle.std.proofs.lemmas.List.{drop_all, drop_more}
use Rattle.std.specs.Prelude.{codes, map}
use Rattle.tt.specs.Iters.{rest_of}
use Rattle.expand_items.specs.Definitions.{AreDefinitions, defined_of}
use Rattle.expand_items.specs.Positions.{begun}
use Rattle.expand_items.specs.declared.position.Siblings.TheVariants.{Items}
use Rattle.expand_text.specs.Contexts.{Learns, new_context, config_of}
use Rattle.expand_text.specs.Exports.{AreRead, IsReadIfExported}
use Rattle.expand_text.specs.Lacking.{Lacks}
use Rattle.expand_text.specs.Scopes.{AreReady}
use Rattle.expand_text.proofs.Mentioned.{none_exported}
use Rattle.expand_text.proofs.exports.exported_macros.Goals as goal

pub returns-then-not-may_have : goal.returns-then-not-may_have
returns-then-not-may_have c =
    let trees = c.args.tree.now.children in
    let lacks : Lacks (codes "macro_export") trees = c.may_have.ensures c.if-not-may_have.true in
    let none : c.new.result.macros.items ≡ [] = search rules in
    ([], none_exported (config_of c.args.config.now) trees lacks, subst (AreReady []) (sym none) tt)

pub definitions-init : goal.definitions-init
definitions-init c =
    let none : c.new-2.result.macros.items ≡ [] = search rules in
    (new_context [], c.new-context.ensures [] (subst (AreReady []) (sym none) tt), λ after reads. reads)

pub definitions-preserved : goal.definitions-preserved
definitions-preserved c =
    let config = config_of c.args.config.now in
    let all = c.in_ok-definitions.definitions.items in
    let at = c.definitions.place in
    let it = c.index.result.now in
    let lt : at < length all = search rules in
    let there : it ≡ get_or all at it = search rules in
    let here : drop at all ≡ it ∷ drop (at + 1) all = drop_more all at it lt ∙ ap (λ d. d ∷ drop (at + 1) all) (sym there) in
    let learns : Learns c.definitions.context c.read_if_exported.new.context (IsReadIfExported it.position.is_exported config (defined_of it)) = c.in_ok-read_if_exported.ensures in
    let (before, is, reads) = c.definitions.invariant in
    let (inside, was, read) = learns before is in
    (inside, was, λ after others. reads after (subst (λ its. AreRead config (map defined_of its) before after) (sym here) (inside, read, others)))

pub returns : goal.returns
returns c =
    let config = config_of c.args.config.now in
    let all = c.in_ok-definitions.definitions.items in
    let behind : length all ≤ c.definitions.place = search rules in
    let none : drop c.definitions.place all ≡ [] = drop_all c.definitions.place all behind in
    let root : c.as_str.result.now ≡ c.args.config.now.root = search rules in
    let trees : rest_of c.iter.result ≡ c.args.tree.now.children = search rules in
    let (inside, is, reads) = c.definitions.invariant in
    let are : AreDefinitions config.known config.root (begun Items) 0 c.args.tree.now.children (map defined_of all) =
    subst₂ (λ r t. AreDefinitions config.known r (begun Items) 0 t (map defined_of all)) root trees c.in_ok-definitions.ensures in
    let last = reads inside (subst (λ its. AreRead config (map defined_of its) inside inside) (sym none) refl) in
    (inside.macros, (map defined_of all, inside, are, last, refl), is.macros)
