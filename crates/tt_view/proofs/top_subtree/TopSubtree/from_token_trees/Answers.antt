use Rattle.std.proofs.Common.{rules, ◌≡◌, ◌≤◌, ◌++◌, ◌∷◌, [], ap, ap₂, sym, ◌∙◌, arith}
use Rattle.tt_base.specs.Forest.{size, header, flat, flat_root}
use Rattle.tt_base.specs.Unflat.{flat_root-injective}
use Rattle.tt_tables.specs.PackFault.{IsPackFault}
use Rattle.tt_tables.specs.Stored.{most_tokens}
use Rattle.tt_view.specs.SubtreeViews.{flat_rest}
use Rattle.tt_view.specs.TreeFault.{under, IsTreeFault}
use Rattle.tt_view.specs.Views.{trees_of}
use Rattle.tt_view.proofs.Drained.{all_drained}
use Rattle.tt_view.proofs.TreeFaults.{tree_fault}
use Rattle.tt_view.proofs.top_subtree.TopSubtree.from_token_trees.Goals as goal

pub returns-in_err-packed-clause-err : goal.returns-in_err-packed-clause-err
returns-in_err-packed-clause-err c =
    let d = c.args.delimiter in
    let trees = trees_of c.args.trees in
    let (it, xs, same, gives, drained) = c.in_ok-extend.ensures.ran in
    let all : xs ≡ flat trees = all_drained (λ tokens. flat (flat_rest tokens)) xs it drained ∙ ap (λ t. flat (flat_rest t)) same ∙ ap flat c.iter_flat_tokens.ensures in
    let count : c.in-Ok.len ≡ size trees = search rules in
    let few : size trees ≤ most_tokens = omega (arith, count, c.in-Ok.ensures) in
    let first : c.push.new.self.items ≡ header d c.in-Ok.len ∷ [] = search rules in
    let is : c.extend.new.self.items ≡ flat_root (under d trees) = gives.0 ∙ ap₂ ◌++◌ first all ∙ ap (λ n. header d n ∷ flat trees) count in
    let cause : IsPackFault c.extend.new.self.items c.in_err-packed.field-0.0 = search rules in
    let wanting : IsTreeFault (under d trees) c.in_err-packed.field-0.0 = tree_fault _ _ is few _ cause in
    search rules

pub returns-clause-ok : goal.returns-clause-ok
returns-clause-ok c =
    let d = c.args.delimiter in
    let trees = trees_of c.args.trees in
    let (it, xs, same, gives, drained) = c.in_ok-extend.ensures.ran in
    let all : xs ≡ flat trees = all_drained (λ tokens. flat (flat_rest tokens)) xs it drained ∙ ap (λ t. flat (flat_rest t)) same ∙ ap flat c.iter_flat_tokens.ensures in
    let count : c.in-Ok.len ≡ size trees = search rules in
    let first : c.push.new.self.items ≡ header d c.in-Ok.len ∷ [] = search rules in
    let is : c.extend.new.self.items ≡ flat_root (under d trees) = gives.0 ∙ ap₂ ◌++◌ first all ∙ ap (λ n. header d n ∷ flat trees) count in
    let read : c.extend.new.self.items ≡ flat_root c.in_ok-packed.packed = search rules in
    flat_root-injective _ _ (sym read ∙ is)
