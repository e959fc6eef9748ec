use Rattle.std.proofs.Common.{◌≡◌, ◌∷◌, [], ap, sym, subst, ◌∙◌}
use Rattle.tt.specs.Forest.{size}
use Rattle.tt.specs.TreeWalks.{IsFront}
use Rattle.expand_text.specs.Invocations.{body_of}
use Rattle.expand_text.specs.Walks.{begun}
use Rattle.expand_text.proofs.Parted.{body_front}
use Rattle.expand_text.proofs.invocation.Invocation.walk.Goals as goal

pub through_front-trees-requires : goal.through_front-trees-requires
through_front-trees-requires c =
    let it = c.args.self.now in
    let len : c.len-len.result ≡ size (body_of it c.args.tree) = c.len-len.ensures ∙ ap size c.body.ensures in
    (body_of it c.args.tree, subst (λ n. IsFront c.args.tree.children n (body_of it c.args.tree)) (sym len) (body_front it.is_statement c.args.tree))

pub returns : goal.returns
returns c =
    let it = c.args.self.now in
    let len : c.len-len.result ≡ size (body_of it c.args.tree) = c.len-len.ensures ∙ ap size c.body.ensures in
    let front : IsFront c.args.tree.children c.len-len.result (body_of it c.args.tree) =
    subst (λ n. IsFront c.args.tree.children n (body_of it c.args.tree)) (sym len) (body_front it.is_statement c.args.tree) in
    c.new.ensures ∙ ap (λ trees. begun it.position trees it.delimiter.close ∷ []) (c.through_front-trees.ensures.innermost (body_of it c.args.tree) front)
