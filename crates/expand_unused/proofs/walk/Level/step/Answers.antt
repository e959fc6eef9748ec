use Rattle.std.proofs.Common.{rules, Some}
use Rattle.tt.specs.Iters.{rest_of, IsFirstElement}
use Rattle.tt.specs.Types.TtElement.TheVariants as element
use Rattle.expand_unused.specs.Places.{defined_in}
use Rattle.expand_unused.proofs.Stepping.{leaf_step}
use Rattle.expand_unused.proofs.walk.Level.step.Goals as goal

pub returns-in_ok-pass_leaf-in-Some-Leaf : goal.returns-in_ok-pass_leaf-in-Some-Leaf
returns-in_ok-pass_leaf-in-Some-Leaf c =
    let old = c.args.self.now in
    let it = c.in-Some-Leaf.leaf in
    let first : IsFirstElement (rest_of old.rest) (Some (element.Leaf it)) = search rules in
    leaf_step c.args.choice.now (defined_in c.args.defined.now) c.args.parts.now.items c.pass_leaf.new.parts.items old c.pass_leaf.new.self it first
    c.in_ok-pass_leaf-in-Some-Leaf.ensures
