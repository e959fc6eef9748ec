use Rattle.std.proofs.Common.{rules, ◌≡◌, Some, ◌++◌, refl, ap, arith}
use Rattle.std.proofs.Output.{has_written_append}
use Rattle.tt_base.specs.DebugText.{header_line, indent}
use Rattle.tt_base.specs.Forest.{size}
use Rattle.tt_base.specs.Moves.{after_tree}
use Rattle.tt_view.specs.Iters.{rest_of, tree_of, IsFirstElement}
use Rattle.tt_view.specs.SiblingText.{tree_lines}
use Rattle.tt_view.proofs.Texts.{lines_go_on, first_size, subtree_lines}
use Rattle.tt_view.proofs.debug.+write.Goals as goal

pub write_lines-loop-sibling-preserved : goal.write_lines-loop-sibling-preserved
write_lines-loop-sibling-preserved g t c =
    let f = rest_of c.loop-sibling.siblings in
    let e = c.in-Some.sibling in
    let first : IsFirstElement f (Some e) = search rules in
    let rest : rest_of c.next.new.self ≡ after_tree f = search rules in
    record {
      fewer = omega (arith, ap size rest, first_size f e first, c.loop-sibling.invariant.fewer);
      written = λ plain.
          let (done, wrote, more) = c.loop-sibling.invariant.written plain in
          let one = c.write_str.ensures.writes wrote.plain (search rules) in
          let two = c.fmt.ensures.writes one.plain (search rules) in
          let three = c.write_tree.ensures two.plain (search rules) in (
            ((done ++ c.line_break.result.now) ++ indent c.args.depth) ++ tree_lines c.args.depth (tree_of e),
            has_written_append _ _ _ _ _ _ (has_written_append _ _ _ _ _ _ (has_written_append _ _ _ _ _ _ wrote one) two) three,
            lines_go_on done _ c.line_break.result.now (indent c.args.depth) c.loop-sibling.due c.args.depth e f _ first rest c.line_break.ensures refl more,
          );
    }

pub write_tree-returns-in_ok-fmt-in-Subtree : goal.write_tree-returns-in_ok-fmt-in-Subtree
write_tree-returns-in_ok-fmt-in-Subtree g t c = λ plain ok.
    let one = c.fmt-in-Subtree.ensures.writes plain (search rules) in
    let two = c.write_lines.ensures one.plain ok in
    let lines = subtree_lines c.args.tree c.in-Subtree.subtree c.in-Subtree.children c.args.depth (header_line c.in-Subtree.subtree.delimiter) c.in-Subtree.is refl in
    rw lines at (has_written_append _ _ _ _ _ _ one two)
