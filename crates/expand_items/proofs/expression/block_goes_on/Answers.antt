use Rattle.std.proofs.Common.{rules, ◌≡◌, ◌∙◌, true, false, ap, ap₂, codes, sym, arith}
use Rattle.std.specs.Prelude.{◌&&◌, not}
use Rattle.tt.specs.Forest.{size}
use Rattle.tt.specs.Iters.{rest_of}
use Rattle.tt.specs.Moves.{after_tree}
use Rattle.tt.specs.Siblings.{is_end}
use Rattle.expand_items.specs.Expressions.{block_goes_on, is_at_braces}
use Rattle.expand_items.proofs.Blocks.{ends_block, less_behind, passed_on, stopped_at}
use Rattle.expand_items.proofs.expression.block_goes_on.Goals.{else-is_block-via-then-is_block+else-not-is_at_word, else-is_block-via-else-is_block}
use Rattle.expand_items.proofs.expression.block_goes_on.Goals as goal
use Rattle.mbe_pattern.specs.Units.{is_at_word}

pub returns-then-not-is_at_word : goal.returns-then-not-is_at_word
returns-then-not-is_at_word c =
    let trees = rest_of c.loop-trees.trees in
    let braces : is_at_braces trees ≡ true = search rules in
    let next : rest_of c.next.new.self ≡ after_tree trees = search rules in
    let no_else : is_at_word (codes "else") (rest_of c.next.new.self) ≡ false = search rules in
    let left : c.is_empty-then-not-is_at_word.result ≡ is_end (rest_of c.next.new.self) = search rules in
    let ends : ends_block trees ≡ true = ap₂ (λ a b. a && not b) braces (ap (is_at_word (codes "else")) (sym next) ∙ no_else) in
    ap not (left ∙ ap is_end next) ∙ sym (stopped_at trees ends) ∙ c.loop-trees.invariant

pub loop-trees-smaller : goal.loop-trees-smaller
loop-trees-smaller c =
    let trees = rest_of c.loop-trees.trees in
    let some : is_end trees ≡ false = search rules in
    let next : rest_of c.next.new.self ≡ after_tree trees = search rules in
    omega (arith, less_behind trees some, ap size next)

pub loop-trees-preserved : goal.loop-trees-preserved
loop-trees-preserved c =
    let next : rest_of c.next.new.self ≡ after_tree (rest_of c.loop-trees.trees) = search rules in
    ap block_goes_on next ∙ sym (passed_on (rest_of c.loop-trees.trees) goes_on) ∙ c.loop-trees.invariant
  where
    goes_on : ends_block (rest_of c.loop-trees.trees) ≡ false
    goes_on =
        elim c.else-is_block.branch [
          | else-is_block-via-then-is_block+else-not-is_at_word w ↦
              (let trees = rest_of c.loop-trees.trees in
              let braces : is_at_braces trees ≡ true = search rules in
              let next : rest_of c.next.new.self ≡ after_tree trees = search rules in
              let is_else : is_at_word (codes "else") (rest_of c.next.new.self) ≡ true = search rules in
              ap₂ (λ a b. a && not b) braces (ap (is_at_word (codes "else")) (sym next) ∙ is_else))
          | else-is_block-via-else-is_block w ↦
              (let trees = rest_of c.loop-trees.trees in
              let braces : is_at_braces trees ≡ false = search rules in
              ap (λ a. a && not (is_at_word (codes "else") (after_tree trees))) braces)
        ]
