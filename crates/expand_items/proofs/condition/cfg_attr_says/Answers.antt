use Rattle.std.proofs.Common.{rules, ◌≡◌, ◌∙◌, true, false, Some, ap, ap₂, sym}
use Rattle.tt.specs.Forest.{node}
use Rattle.tt.specs.Iters.{rest_of, IsFirstElement}
use Rattle.tt.specs.Moves.{after_tree}
use Rattle.tt.specs.Types.TtElement.TheVariants as element
use Rattle.expand_items.specs.Cfg.{known_of}
use Rattle.expand_items.specs.Conditions.{comma_at, metas_say}
use Rattle.expand_items.specs.Predicates.{check, either, negated}
use Rattle.expand_items.proofs.Rebuilding.{node_first}
use Rattle.expand_items.proofs.Saying.{cfg_attr_first}
use Rattle.expand_items.proofs.condition.cfg_attr_says.Goals as goal
use Rattle.mbe_pattern.specs.Spelling.{is_parenthesis}
use Rattle.mbe_pattern.specs.Units.{front_trees}

pub returns : goal.returns
returns c =
    let known = known_of c.args.options.now in
    let trees = rest_of c.args.behind in
    let header = c.in-Ok.header in
    let inside = rest_of c.in-Ok.inside in
    let first : IsFirstElement trees (Some (element.Subtree header c.in-Ok.inside)) = search rules in
    let begins : trees ≡ node header.delimiter inside (after_tree trees) = node_first trees header c.in-Ok.inside first in
    let kind : is_parenthesis header.delimiter.kind ≡ true = search rules in
    let held : rest_of c.iter-rest.result ≡ inside = search rules in
    let len : c.comma_at.result ≡ comma_at inside = search rules in
    let given : rest_of c.iter-2.result ≡ front_trees (comma_at inside) inside = c.iter-2.ensures ∙ c.take-predicate.ensures.taken ∙ ap₂ front_trees len held in
    let applies : c.in_ok-applies.applies ≡ check known (rest_of c.iter-2.result) = search rules in
    let metas : c.in_ok-metas.metas ≡ metas_say known false inside = search rules in
    c.either.ensures ∙ ap₂ either (c.negated.ensures ∙ ap negated (applies ∙ ap (check known) given)) metas
    ∙ sym (cfg_attr_first known trees header.delimiter inside (after_tree trees) true begins kind)
