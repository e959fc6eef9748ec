use Rattle.std.proofs.Common.{rules, ◌≡◌, true, Some, sym, subst}
use Rattle.std.specs.Prelude.{IfOk}
use Rattle.tt.specs.Forest.{node}
use Rattle.tt.specs.Iters.{rest_of, IsFirstElement}
use Rattle.tt.specs.Moves.{after_tree}
use Rattle.tt.specs.Types.TtElement.TheVariants as element
use Rattle.expand_items.specs.Cfg.{known_of}
use Rattle.expand_items.specs.Positions.{is_bracket}
use Rattle.expand_items.proofs.Rebuilding.{node_first}
use Rattle.expand_items.proofs.Saying.{brackets_first}
use Rattle.expand_items.proofs.condition.brackets_say.Goals as goal

pub returns : goal.returns
returns c =
    let known = known_of c.args.options.now in
    let trees = rest_of c.args.trees in
    let header = c.in-Ok.header in
    let first : IsFirstElement trees (Some (element.Subtree header c.in-Ok.inside)) = search rules in
    let begins : trees ≡ node header.delimiter (rest_of c.in-Ok.inside) (after_tree trees) = node_first trees header c.in-Ok.inside first in
    let kind : is_bracket header.delimiter.kind ≡ true = search rules in
    subst (λ it. IfOk c.condition_says.result (λ says. says ≡ it)) (sym (brackets_first known trees header.delimiter (rest_of c.in-Ok.inside) (after_tree trees) true begins kind)) c.condition_says.ensures
