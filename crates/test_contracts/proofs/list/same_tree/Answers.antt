use Rattle.std.proofs.Common.{rules, ◌≡◌, ap, sym, ◌∙◌}
use Rattle.tt.specs.Forest.{flat_root}
use Rattle.tt.specs.Unflat.{flat_root-injective}
use Rattle.test_contracts.proofs.list.same_tree.Goals as goal

pub returns : goal.returns
returns c =
    let left : c.args.left.items ≡ flat_root c.in_ok-left.left = search rules in
    let right : c.args.right.items ≡ flat_root c.in_ok-right.right = search rules in (
      λ same. left ∙ ap flat_root (c.eq.ensures.tree.0 same) ∙ sym right,
      λ same. c.eq.ensures.tree.1 (flat_root-injective _ _ (sym left ∙ same ∙ right)),
    )
