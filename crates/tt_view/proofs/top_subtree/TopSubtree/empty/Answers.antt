use Rattle.std.proofs.Common.{rules, ◌≡◌, ◌≤◌, sym, ◌∙◌, arith}
use Rattle.tt_base.specs.declared.delimiter.DelimiterKind.TheVariants.{Invisible}
use Rattle.tt_base.specs.Forest.{end, size, flat_root}
use Rattle.tt_base.specs.Token.{delimiter}
use Rattle.tt_base.specs.Unflat.{flat_root-injective}
use Rattle.tt_base.specs.declared.fault.TtFault.TheVariants.{Memory}
use Rattle.tt_tables.specs.PackFault.{IsPackFault}
use Rattle.tt_tables.specs.Stored.{most_tokens}
use Rattle.tt_view.specs.TreeFault.{under}
use Rattle.tt_view.proofs.TreeFaults.{tree_fault, empty_fault}
use Rattle.tt_view.proofs.top_subtree.TopSubtree.empty.Goals as goal

pub returns-in_err-packed-clause-err : goal.returns-in_err-packed-clause-err
returns-in_err-packed-clause-err c =
    let d = delimiter Invisible c.args.span.open_span c.args.span.close in
    let is : c.push.new.self.items ≡ flat_root (under d end) = search rules in
    let few : size end ≤ most_tokens = omega arith in
    let cause : IsPackFault c.push.new.self.items c.in_err-packed.field-0.0.fault = search rules in
    let wanting : c.in_err-packed.field-0.0.fault ≡ Memory = empty_fault d _ (tree_fault (under d end) _ is few _ cause) in
    search rules

pub returns-clause-ok : goal.returns-clause-ok
returns-clause-ok c =
    let d = delimiter Invisible c.args.span.open_span c.args.span.close in
    let is : c.push.new.self.items ≡ flat_root (under d end) = search rules in
    let read : c.push.new.self.items ≡ flat_root c.in_ok-packed.packed = search rules in
    flat_root-injective _ _ (sym read ∙ is)
