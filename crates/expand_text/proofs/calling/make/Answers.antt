use Rattle.std.proofs.Common.{rules, ◌≡◌, ◌<◌, ◌≤◌, None, Some, ap, refl, subst, arith}
use Rattle.tt.specs.Forest.{size}
use Rattle.tt.specs.Iters.{rest_of}
use Rattle.tt.specs.Span.{start_of}
use Rattle.expand_text.specs.declared.fault.MacroFault.TheVariants as wrong
use Rattle.expand_items.specs.Items.{call_of}
use Rattle.expand_text.specs.Macros.{over_limit}
use Rattle.expand_text.proofs.Calls.{made_tree, made_fault}
use Rattle.expand_text.proofs.calling.make.Goals as goal
use Rattle.mbe_rules.specs.Expansions.{IsExpansion, IsExpansionWithin, IsExpandErrorWithin}
use Rattle.mbe_rules.specs.declared.macro_rules.Expansion.TheVariants as expansion

pub returns-in-Ok-Tree-clause-made : goal.returns-in-Ok-Tree-clause-made
returns-in-Ok-Tree-clause-made c arms are =
    let some : 0 < c.args.limit = search (rules, arith) in
    let tree = c.in-Ok-Tree.tree in
    let same : rest_of c.iter.result ≡ rest_of c.args.call.now.input = search rules in
    let was : c.in-Ok-Tree.field-0 ≡ expansion.Tree tree = search rules in
    let few : size tree.children ≤ c.args.allowed = subst (IsExpansionWithin (Some c.args.allowed)) was c.in-Ok-Tree.ensures.within in
    made_tree c.args.limit c.args.allowed arms (call_of c.args.call.now) tree some
    (subst (λ f. IsExpansion arms 0 0 f (expansion.Tree tree)) same (subst (IsExpansion arms 0 0 (rest_of c.iter.result)) was (c.in-Ok-Tree.ensures.ok arms are)), few)

pub returns-in-OverLimit-clause-made : goal.returns-in-OverLimit-clause-made
returns-in-OverLimit-clause-made c arms are =
    let some : 0 < c.args.limit = search (rules, arith) in
    let error = c.in-Err.error in
    let same : rest_of c.iter.result ≡ rest_of c.args.call.now.input = search rules in
    let at : c.start_of-at.result ≡ start_of c.args.call.now.name.span.range = search rules in
    let is : error ≡ over_limit error.arm = ap (λ f. record { arm = error.arm; fault = f }) c.in-OverLimit.is in
    made_fault c.args.limit c.args.allowed arms (call_of c.args.call.now) c.start_of-at.result wrong.OverMaxTokens None some (
      error.arm,
      subst (IsExpandErrorWithin (Some c.args.allowed) arms 0 (rest_of c.args.call.now.input)) is
          (subst (λ f. IsExpandErrorWithin (Some c.args.allowed) arms 0 f error) same (c.in-Err.ensures.err arms are)),
      at,
    )
    refl
