use Rattle.std.proofs.Common.{rules, ◌≡◌, map, string_bytes, ap, sym, subst, ◌∙◌}
use Rattle.tt.specs.Views.{trees_of}
use Rattle.expand_unused.specs.declared.choice.Choice.{Choice}
use Rattle.expand_unused.specs.Needing.{AreRight}
use Rattle.expand_unused.specs.Parts.{part_of}
use Rattle.expand_unused.specs.Waiting.{waits_in}
use Rattle.expand_unused.specs.Without.{cuts, AreParts, IsWithout}
use Rattle.syntax_edit.specs.Places.{text_part}
use Rattle.syntax_edit.specs.Texts.{begun, with_all, FitAll}
use Rattle.syntax_parse.specs.Parsed.{IsParse}
use Rattle.expand_unused.proofs.Fitting.{cuts_fit}
use Rattle.expand_unused.proofs.text.without_rules.Goals as goal

pub without-requires : goal.without-requires
without-requires c =
    let text = c.args.text.now in
    let tree = c.in_ok-tree.tree in
    let choice : Choice = record { only = c.in_ok-name_of.field-0; drops_exported = c.args.drops_exported } in
    let goes = waits_in c.in_ok-unneeded.unneeded in
    let parts = map part_of c.in_ok-parts.parts.items in
    let read : IsParse text_part text tree = c.in_ok-tree.ensures.ok in
    let children : trees_of c.token_trees.result ≡ tree.children = search rules in
    let are : AreParts choice tree.children parts = subst (λ trees. AreParts choice trees parts) children c.in_ok-parts.ensures in
    let same : map part_of c.as_slice-2.result.now ≡ parts = search rules in
    subst (λ its. FitAll (cuts goes its) (begun text)) (sym same) (cuts_fit choice goes text_part text tree parts c.utf8.text read are)

pub returns-clause-ok : goal.returns-clause-ok
returns-clause-ok c =
    let text = c.args.text.now in
    let tree = c.in_ok-tree.tree in
    let choice : Choice = record { only = c.in_ok-name_of.field-0; drops_exported = c.args.drops_exported } in
    let goes = waits_in c.in_ok-unneeded.unneeded in
    let parts = map part_of c.in_ok-parts.parts.items in
    let read : IsParse text_part text tree = c.in_ok-tree.ensures.ok in
    let children : trees_of c.token_trees.result ≡ tree.children = search rules in
    let are : AreParts choice tree.children parts = subst (λ trees. AreParts choice trees parts) children c.in_ok-parts.ensures in
    let first : map part_of c.as_slice.result.now ≡ parts = search rules in
    let same : map part_of c.as_slice-2.result.now ≡ parts = search rules in
    subst (λ only. IsWithout (record { only = only; drops_exported = c.args.drops_exported }) text (string_bytes c.in_ok-without.field-0)) c.in_ok-name_of.ensures
    (record {
      tree = tree;
      read = read;
      parts = parts;
      are_parts = are;
      goes = goes;
      right = subst (AreRight goes) first c.in_ok-unneeded.ensures;
      fits = cuts_fit choice goes text_part text tree parts c.utf8.text read are;
      text = c.in_ok-without.ensures ∙ ap (λ its. with_all (cuts goes its) (begun text)) same;
    })
