use Rattle.std.proofs.Common.{◌≡◌, ◌≤◌, arith, ap, sym, subst, ◌∙◌}
use Rattle.tt_base.specs.Building.{bottom, built, built_skipping, root_or}
use Rattle.tt_base.specs.Forest.{size}
use Rattle.tt_base.specs.Unflat.{flat_root-injective}
use Rattle.tt_view.specs.TreeFault.{IsTreeFault}
use Rattle.tt_view.proofs.TreeFaults.{tree_fault}
use Rattle.tt.specs.OneState.{seen}
use Rattle.tt.proofs.Building.{few_below, held_list, held_whole, one_named, no_node, one_node, node_list}
use Rattle.tt.proofs.builder.TopSubtreeBuilder.build_skip_top_subtree.Goals as goal

pub returns-then-not-is_one_node-clause-ok : goal.returns-then-not-is_one_node-clause-ok
returns-then-not-is_one_node-clause-ok c =
    let is = seen _ _ _ _ _ c.self.inside.state _ c.self.view_is in
    let named = one_named _ _ _ _ _ _ _ is c.requires c.self.inside.open_headers _ c.tokens.ensures in
    let none = no_node (bottom c.args.self.stack) (sym named ∙ sym c.is_one_node.ensures ∙ c.if-not-is_one_node.true) in
    let same : built_skipping c.args.self ≡ built c.args.self = ap (root_or (built c.args.self)) none in
    rw same c.build.ensures.ok

pub returns-then-not-is_one_node-clause-fault : goal.returns-then-not-is_one_node-clause-fault
returns-then-not-is_one_node-clause-fault c =
    let is = seen _ _ _ _ _ c.self.inside.state _ c.self.view_is in
    let named = one_named _ _ _ _ _ _ _ is c.requires c.self.inside.open_headers _ c.tokens.ensures in
    let none = no_node (bottom c.args.self.stack) (sym named ∙ sym c.is_one_node.ensures ∙ c.if-not-is_one_node.true) in
    let same : built_skipping c.args.self ≡ built c.args.self = ap (root_or (built c.args.self)) none in
    rw same c.build.ensures.fault

pub from_interned_node-requires-clause-whole : goal.from_interned_node-requires-clause-whole
from_interned_node-requires-clause-whole c =
    let is = seen _ _ _ _ _ c.self.inside.state _ c.self.view_is in
    held_whole _ _ _ _ _ _ _ is c.requires _ c.counted.ensures

pub from_interned_node-requires-clause-one : goal.from_interned_node-requires-clause-one
from_interned_node-requires-clause-one c =
    let is = seen _ _ _ _ _ c.self.inside.state _ c.self.view_is in
    let named = one_named _ _ _ _ _ _ _ is c.requires c.self.inside.open_headers _ c.tokens.ensures in
    let one = one_node (bottom c.args.self.stack) (sym named ∙ sym c.is_one_node.ensures ∙ c.if-not-is_one_node.false) in
    node_list (bottom c.args.self.stack) _ (c.counted.ensures ∙ held_list _ _ _ _ _ _ _ is c.requires) one

pub returns-in-Ok-clause-ok : goal.returns-in-Ok-clause-ok
returns-in-Ok-clause-ok c =
    let is = seen _ _ _ _ _ c.self.inside.state _ c.self.view_is in
    let named = one_named _ _ _ _ _ _ _ is c.requires c.self.inside.open_headers _ c.tokens.ensures in
    let one = one_node (bottom c.args.self.stack) (sym named ∙ sym c.is_one_node.ensures ∙ c.if-not-is_one_node.false) in
    let list = c.counted.ensures ∙ held_list _ _ _ _ _ _ _ is c.requires ∙ one.list in
    flat_root-injective c.in-Ok.tree one.root (sym c.in-Ok.ensures.ok ∙ list) ∙ sym (ap (root_or (built c.args.self)) one.one)

pub returns-in-Err-clause-fault : goal.returns-in-Err-clause-fault
returns-in-Err-clause-fault c =
    let is = seen _ _ _ _ _ c.self.inside.state _ c.self.view_is in
    let named = one_named _ _ _ _ _ _ _ is c.requires c.self.inside.open_headers _ c.tokens.ensures in
    let one = one_node (bottom c.args.self.stack) (sym named ∙ sym c.is_one_node.ensures ∙ c.if-not-is_one_node.false) in
    let list = c.counted.ensures ∙ held_list _ _ _ _ _ _ _ is c.requires ∙ one.list in
    let few : size one.root.children ≤ 4294967295 = omega (arith, one.smaller, few_below _ _ _ _ _ _ _ is c.requires) in
    let fault = tree_fault one.root _ list few c.in-Err.fault c.in-Err.ensures.err in
    subst (λ root. IsTreeFault root c.in-Err.fault) (sym (ap (root_or (built c.args.self)) one.one)) fault
