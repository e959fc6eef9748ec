use Rattle.std.proofs.Common.{rules, ◌≡◌, ◌≢◌, refl, ap, subst}
use Rattle.tt.specs.Forest.{Forest}
use Rattle.tt.specs.TreeFault.{IsTreeFault}
use Rattle.tt.specs.Types.TtFault.TheVariants as limit
use Rattle.expand_items.specs.Loosening.{loosened, place_of}
use Rattle.expand_text.specs.Expansion.{IsTextOf}
use Rattle.expand_text.specs.Macros.{tree_of}
use Rattle.expand_text.proofs.source.write_loosened.Goals as goal

pub returns-in_ok-write_tree-in-Ok : goal.returns-in_ok-write_tree-in-Ok
returns-in_ok-write_tree-in-Ok c =
    let it = c.args.invocation.now in
    let all : Forest = loosened (place_of it.enclosure it.position) c.args.tree.now.children in
    let is : c.in-Ok.shown ≡ tree_of it.delimiter all = search rules in
    subst (λ f. IsTextOf c.args.config.now.one_line it.delimiter f c.args.begin c.in_ok-write_tree-in-Ok.field-0) (ap (λ r. r.children) is) c.in_ok-write_tree-in-Ok.ensures

pub returns-in-Err : goal.returns-in-Err
returns-in-Err c =
    let it = c.args.invocation.now in
    let all : Forest = loosened (place_of it.enclosure it.position) c.args.tree.now.children in
    let past : IsTreeFault (tree_of it.delimiter all) c.in-Err.fault = search rules in
    let no_memory : c.in-Err.fault ≢ limit.Memory = search rules in
    ((past, no_memory), refl)
