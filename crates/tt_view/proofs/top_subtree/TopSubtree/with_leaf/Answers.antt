use Rattle.std.proofs.Common.{◌≡◌, ◌≤◌, Some, Err, set, length, ap, sym, ◌∙◌, arith, rules, vec_len}
use Rattle.std.specs.List.{slice_get}
use Rattle.std.proofs.lemmas.Option.{slice_get_within}
use Rattle.tt_base.specs.declared.fault.TtFault.TheVariants.{Memory}
use Rattle.tt_base.specs.declared.token_tree.TokenTree.TheVariants as token
use Rattle.tt_base.specs.Edits.{HasLeafAt}
use Rattle.tt_base.specs.Forest.{flat, flat_root, size}
use Rattle.tt_base.specs.Unflat.{flat_root-injective}
use Rattle.tt_tables.specs.PackFault.{IsPackFault}
use Rattle.tt_view.specs.TreeFault.{IsSetFault}
use Rattle.tt_view.specs.Views.{trees_of}
use Rattle.tt_view.proofs.LeafAt.{stands_at, list_with_leaf, no_memory, set_refused}
use Rattle.tt_view.proofs.top_subtree.TopSubtree.with_leaf.Goals as goal

pub returns-in-Some-Subtree-clause-err : goal.returns-in-Some-Subtree-clause-err
returns-in-Some-Subtree-clause-err c =
    let at : slice_get (flat (trees_of c.as_token_trees-trees.result)) c.args.idx ≡ Some (token.Subtree c.in-Some-Subtree.field-0-0) = search rules in
    (c.in-Some-Subtree.field-0-0, stands_at _ _ _ _ c.as_token_trees-trees.ensures at)

pub returns-in_err-tokens-clause-err : goal.returns-in_err-tokens-clause-err
returns-in_err-tokens-clause-err c =
    let at : slice_get (flat (trees_of c.as_token_trees-trees.result)) c.args.idx ≡ Some (token.Leaf c.in-Some-Leaf.field-0-0) = search rules in
    let has : HasLeafAt (flat_root c.args.self.now) c.args.idx = (c.in-Some-Leaf.field-0-0, stands_at _ _ _ _ c.as_token_trees-trees.ensures at) in
    let is : c.from_residual.result ≡ Err Memory = search rules in
    rw is (no_memory c.args.self.now c.args.idx c.args.leaf.now has)

pub index_mut-requires : goal.index_mut-requires
index_mut-requires c =
    let at : slice_get (flat (trees_of c.as_token_trees-trees.result)) c.args.idx ≡ Some (token.Leaf c.in-Some-Leaf.field-0-0) = search rules in
    let all : c.in_ok-tokens.tokens.items ≡ flat (trees_of c.as_token_trees-trees.result) = c.in_ok-tokens.ensures in
    let long : vec_len c.in_ok-tokens.tokens ≡ length c.in_ok-tokens.tokens.items = search rules in
    omega (arith, slice_get_within (flat (trees_of c.as_token_trees-trees.result)) c.args.idx (token.Leaf c.in-Some-Leaf.field-0-0) at, ap length all, long)

pub returns-in_err-pack-clause-err : goal.returns-in_err-pack-clause-err
returns-in_err-pack-clause-err c =
    let root = c.args.self.now in
    let at : slice_get (flat (trees_of c.as_token_trees-trees.result)) c.args.idx ≡ Some (token.Leaf c.in-Some-Leaf.field-0-0) = search rules in
    let has : HasLeafAt (flat_root root) c.args.idx = (c.in-Some-Leaf.field-0-0, stands_at _ root c.args.idx _ c.as_token_trees-trees.ensures at) in
    let copied : c.in_ok-clone.field-0 ≡ c.args.leaf.now = search rules in
    let few : size root.children ≤ 4294967295 = search rules in
    let all : c.in_ok-tokens.tokens.items ≡ flat (trees_of c.as_token_trees-trees.result) = c.in_ok-tokens.ensures in
    let list = list_with_leaf _ root c.args.idx c.args.leaf.now c.in_ok-tokens.tokens.items (set c.in_ok-tokens.tokens.items c.args.idx (token.Leaf c.in_ok-clone.field-0)) c.as_token_trees-trees.ensures has all
    (ap (λ it. set c.in_ok-tokens.tokens.items c.args.idx (token.Leaf it)) copied) in
    let cause : IsPackFault (set c.in_ok-tokens.tokens.items c.args.idx (token.Leaf c.in_ok-clone.field-0)) c.in_err-pack.field-0.0.fault = search rules in
    let why : IsSetFault root c.args.idx c.args.leaf.now c.in_err-pack.field-0.0.fault = set_refused root c.args.idx c.args.leaf.now _ _ has few list cause in
    search rules

pub returns-clause-ok : goal.returns-clause-ok
returns-clause-ok c =
    let root = c.args.self.now in
    let at : slice_get (flat (trees_of c.as_token_trees-trees.result)) c.args.idx ≡ Some (token.Leaf c.in-Some-Leaf.field-0-0) = search rules in
    let has : HasLeafAt (flat_root root) c.args.idx = (c.in-Some-Leaf.field-0-0, stands_at _ root c.args.idx _ c.as_token_trees-trees.ensures at) in
    let copied : c.in_ok-clone.field-0 ≡ c.args.leaf.now = search (rules, c.in_ok-clone.ensures.cases) in
    let all : c.in_ok-tokens.tokens.items ≡ flat (trees_of c.as_token_trees-trees.result) = c.in_ok-tokens.ensures in
    let list = list_with_leaf _ root c.args.idx c.args.leaf.now c.in_ok-tokens.tokens.items (set c.in_ok-tokens.tokens.items c.args.idx (token.Leaf c.in_ok-clone.field-0)) c.as_token_trees-trees.ensures has all
    (ap (λ it. set c.in_ok-tokens.tokens.items c.args.idx (token.Leaf it)) copied) in
    let read : set c.in_ok-tokens.tokens.items c.args.idx (token.Leaf c.in_ok-clone.field-0) ≡ flat_root c.in_ok-pack.field-0 = search rules in
    (has, flat_root-injective _ _ (sym read ∙ list))
