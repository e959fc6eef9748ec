use Rattle.std.proofs.Common.{rules, ◌≡◌, true, Some, sym, subst}
use Rattle.std.specs.Prelude.{IfOk}
use Rattle.tt.specs.Forest.{node}
use Rattle.tt.specs.Iters.{rest_of, IsFirstElement}
use Rattle.tt.specs.Moves.{after_tree}
use Rattle.tt.specs.Types.TtElement.TheVariants as element
use Rattle.expand_items.specs.Cfg.{known_of}
use Rattle.expand_items.proofs.Rebuilding.{node_first}
use Rattle.expand_items.proofs.Saying.{cfg_first}
use Rattle.expand_items.proofs.condition.cfg_says.Goals as goal
use Rattle.mbe_pattern.specs.Spelling.{is_parenthesis}

pub returns : goal.returns
returns c =
    let known = known_of c.args.options.now in
    let trees = rest_of c.args.behind in
    let header = c.in-Ok.header in
    let first : IsFirstElement trees (Some (element.Subtree header c.in-Ok.inside)) = search rules in
    let begins : trees ≡ node header.delimiter (rest_of c.in-Ok.inside) (after_tree trees) = node_first trees header c.in-Ok.inside first in
    let kind : is_parenthesis header.delimiter.kind ≡ true = search rules in
    subst (λ it. IfOk c.check.result (λ says. says ≡ it)) (sym (cfg_first known trees header.delimiter (rest_of c.in-Ok.inside) (after_tree trees) true begins kind)) c.check.ensures
