use Rattle.std.proofs.Common.{rules, ◌≡◌, Some, ◌++◌, ap, arith}
use Rattle.std.proofs.Output.{has_written_append}
use Rattle.tt_base.specs.Forest.{size}
use Rattle.tt_base.specs.Moves.{after_tree}
use Rattle.tt_view.specs.Iters.{rest_of, tree_of, IsFirstElement}
use Rattle.tt_view.specs.SiblingText.{tree_text}
use Rattle.tt_view.proofs.Texts.{goes_on, first_size, subtree_parts}
use Rattle.tt_view.proofs.display.+write.Goals as goal

pub write_siblings-loop-sibling-preserved : goal.write_siblings-loop-sibling-preserved
write_siblings-loop-sibling-preserved g t c =
    let f = rest_of c.loop-sibling.siblings in
    let e = c.in-Some.sibling in
    let first : IsFirstElement f (Some e) = search rules in
    let rest : rest_of c.next.new.self ≡ after_tree f = search rules in
    record {
      fewer = omega (arith, ap size rest, first_size f e first, c.loop-sibling.invariant.fewer);
      written = λ plain.
          let (done, wrote, more) = c.loop-sibling.invariant.written plain in
          let one = c.write_str.ensures.writes wrote.plain (search rules) in
          let two = c.write_sibling.ensures one.plain (search rules) in (
            (done ++ c.space.result.now) ++ tree_text (tree_of e),
            has_written_append _ _ _ _ _ _ (has_written_append _ _ _ _ _ _ wrote one) two,
            goes_on done _ c.space.result.now c.loop-sibling.due _ e f _ first rest c.space.ensures c.lets_space-due.ensures more,
          );
    }

pub write_sibling-returns-in_ok-write_siblings-in-Subtree : goal.write_sibling-returns-in_ok-write_siblings-in-Subtree
write_sibling-returns-in_ok-write_siblings-in-Subtree g t c = λ plain ok.
    let one = c.write_str.ensures.writes plain (search rules) in
    let two = c.write_siblings.ensures one.plain (search rules) in
    let three = c.write_str-in-Subtree.ensures.writes two.plain ok in
    let text = subtree_parts c.args.sibling c.in-Subtree.subtree c.in-Subtree.children c.opening.result.now c.closing.result.now c.in-Subtree.is c.opening.ensures c.closing.ensures in
    rw text at (has_written_append _ _ _ _ _ _ (has_written_append _ _ _ _ _ _ one two) three)
