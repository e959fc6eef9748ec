use Rattle.std.proofs.Common.{rules, ◌≡◌, ◌∷◌, [], length, List, None, Some, refl, ap, sym, subst, ◌∙◌, arith}
use Rattle.tt.specs.Forest.{end, leaf, node, size}
use Rattle.tt.specs.Iters.{rest_of, IsFirstElement}
use Rattle.tt.specs.Moves.{after_tree}
use Rattle.tt.specs.Types.TtElement.TheVariants as element
use Rattle.expand_text.specs.declared.next.Event.TheVariants as event
use Rattle.expand_items.specs.Cfg.{known_of}
use Rattle.expand_text.specs.Contexts.{IsContext, config_of, left_in_scope}
use Rattle.expand_text.specs.Events.{IsNext, Steps}
use Rattle.expand_text.specs.Walks.{Level, first_level, outer_of, levels_of, past_leaf, entered, Ends, IsLeft}
use Rattle.expand_text.proofs.Leading.{leads_leaf, leads_subtree, leads_end}
use Rattle.expand_text.proofs.Readiness.{ready_length}
use Rattle.expand_items.proofs.Rebuilding.{leaf_first, node_first, none_first}
use Rattle.expand_text.proofs.next.next_tree.Goals as goal

pub returns-in-Some-clause-next : goal.returns-in-Some-clause-next
returns-in-Some-clause-next c limit before is =
    let config = config_of c.args.config.now in
    let level : Level = first_level c.args.walk.now in
    let outer : List Level = outer_of c.args.walk.now in
    let close = c.in-Some.close in
    let others = left_in_scope level.kept before in
    let first : IsFirstElement level.rest None = search rules in
    let none : level.rest ≡ end = none_first level.rest first in
    let left : IsLeft c.args.walk.now (Some close) c.leave-in-None.new.self = c.in-Some.ensures in (
      others,
      subst (λ l. IsContext (left_in_scope l.kept before) c.leave.new.self) c.level.ensures (c.leave.ensures.left before is),
      λ plain in_text. subst (λ ls. IsNext config in_text limit (level ∷ outer) before (event.Closes close) ls others) left.1
          (leads_end config in_text limit level outer before none),
    )

pub returns-in-None-leave-clause-next : goal.returns-in-None-leave-clause-next
returns-in-None-leave-clause-next c limit before is =
    let config = config_of c.args.config.now in
    let level : Level = first_level c.args.walk.now in
    let outer : List Level = outer_of c.args.walk.now in
    let others = left_in_scope level.kept before in
    let first : IsFirstElement level.rest None = search rules in
    let none : level.rest ≡ end = none_first level.rest first in
    let last : outer ≡ [] = c.in-None-leave.ensures in (
      others,
      subst (λ l. IsContext (left_in_scope l.kept before) c.leave.new.self) c.level.ensures (c.leave.ensures.left before is),
      λ plain in_text. leads_end config in_text limit level outer before none others [] (subst (λ o. Ends config in_text limit o others others []) (sym last) refl),
    )

pub returns-in_ok-pass_leaf-in-Some-Leaf-clause-next : goal.returns-in_ok-pass_leaf-in-Some-Leaf-clause-next
returns-in_ok-pass_leaf-in-Some-Leaf-clause-next c limit before is =
    let config = config_of c.args.config.now in
    let level : Level = first_level c.args.walk.now in
    let outer : List Level = outer_of c.args.walk.now in
    let it = c.in-Some-Leaf.leaf in
    let first : IsFirstElement level.rest (Some (element.Leaf it)) = search rules in
    let begins : level.rest ≡ leaf it (after_tree level.rest) = leaf_first level.rest it first in
    let now : levels_of c.pass_leaf.new.self ≡ past_leaf (known_of c.args.config.now.cfg.now) it level ∷ outer = c.in_ok-pass_leaf-in-Some-Leaf.ensures in (
      before,
      is,
      λ plain in_text. subst (λ ls. IsNext config in_text limit (level ∷ outer) before (event.Leaf it) ls before) (sym now)
          (leads_leaf config in_text limit level outer before it begins plain),
    )

pub returns-in_ok-enter-in-Some-Subtree-clause-next : goal.returns-in_ok-enter-in-Some-Subtree-clause-next
returns-in_ok-enter-in-Some-Subtree-clause-next c limit before is =
    let config = config_of c.args.config.now in
    let level : Level = first_level c.args.walk.now in
    let outer : List Level = outer_of c.args.walk.now in
    let header = c.in-Some-Subtree.header in
    let children = rest_of c.in-Some-Subtree.field-0-1 in
    let first : IsFirstElement level.rest (Some (element.Subtree header c.in-Some-Subtree.field-0-1)) = search rules in
    let begins : level.rest ≡ node header.delimiter children (after_tree level.rest) = node_first level.rest header c.in-Some-Subtree.field-0-1 first in
    let count : c.len.result ≡ length before.macros = c.len.ensures ∙ sym (ready_length before.macros c.args.context.now.scope.macros.items is.macros) in
    let now : levels_of c.enter.new.self ≡ entered header.delimiter children (length before.macros) (level ∷ outer) =
    c.in_ok-enter-in-Some-Subtree.ensures children (after_tree level.rest) begins ∙ ap (λ n. entered header.delimiter children n (level ∷ outer)) count in (
      before,
      is,
      λ plain in_text. subst (λ ls. IsNext config in_text limit (level ∷ outer) before (event.Opens header) ls before) (sym now)
          (leads_subtree config in_text limit level outer before header.delimiter children begins plain),
    )

pub returns-in_ok-enter-in-Some-Subtree-clause-steps : goal.returns-in_ok-enter-in-Some-Subtree-clause-steps
returns-in_ok-enter-in-Some-Subtree-clause-steps c =
    let level : Level = first_level c.args.walk.now in
    let outer : List Level = outer_of c.args.walk.now in
    let header = c.in-Some-Subtree.header in
    let children = rest_of c.in-Some-Subtree.field-0-1 in
    let first : IsFirstElement level.rest (Some (element.Subtree header c.in-Some-Subtree.field-0-1)) = search rules in
    let begins : level.rest ≡ node header.delimiter children (after_tree level.rest) = node_first level.rest header c.in-Some-Subtree.field-0-1 first in
    let now : levels_of c.enter.new.self ≡ entered header.delimiter children c.len.result (level ∷ outer) = c.in_ok-enter-in-Some-Subtree.ensures children (after_tree level.rest) begins in
    subst (Steps (level ∷ outer) (event.Opens header)) (sym now) (refl, omega (arith, ap size begins))
