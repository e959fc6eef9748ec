-- Trees that lie in a text, and some of them that are passed.
use Rattle.std.proofs.Common.{◌≤◌, ℕ, zero, suc, Bool, true, false, List, cond, arith}
use Rattle.std.specs.Prelude.{◌==◌}
use Rattle.tt.specs.Forest.{Forest}
use Rattle.tt.specs.Gluing.{after_trees}
use Rattle.tt.specs.Moves.{after_tree}
use Rattle.tt.specs.Span.{start_of, end_of}
use Rattle.tt.specs.Token.{leaf_span}
use Rattle.tt.specs.Types.Leaf.{Leaf}
use Rattle.tt.specs.Types.Leaf.TheVariants as leaf_of
use Rattle.syntax_edit.specs.Laid.{Lies, Laid, byte_behind, lies_end, lies_leaf, lies_node}
use Rattle.syntax_edit.specs.Texts.{IsRange}

-- What follows a leaf begins at the start of the leaf or after it.
pub starts_before : (it : Leaf) → start_of (leaf_span it).range ≤ end_of (leaf_span it).range → start_of (leaf_span it).range ≤ byte_behind it
starts_before (leaf_of.Literal it) order = omega arith
starts_before (leaf_of.Punct it) order = by (it.char == 59)
  where
    by : (is_end : Bool) → start_of it.span.range ≤ cond is_end (end_of it.span.range) (start_of it.span.range)
    by true = order
    by false = omega arith
starts_before (leaf_of.Ident it) order = omega arith

module _ {text : List ℕ} where
  pub lies_from : {from place start stop : ℕ} → from ≤ place → Lies text place start stop → Lies text from start stop
  lies_from before it = record { after = omega (arith, before, it.after); range = it.range }

  -- Trees begin at their end or before it.
  pub laid_order : {from to : ℕ} {trees : Forest} → Laid text from trees to → from ≤ to
  laid_order (lies_end order) = order
  laid_order (lies_leaf {it = it} lies behind) = omega (arith, lies.after, starts_before it lies.range.order, laid_order behind)
  laid_order (lies_node opens inside closes behind) = omega (arith, opens.after, laid_order inside, closes.order, laid_order behind)

  -- Trees also lie after any byte before their start.
  pub laid_from : {from place to : ℕ} {trees : Forest} → from ≤ place → Laid text place trees to → Laid text from trees to
  laid_from before (lies_end order) = lies_end (omega (arith, before, order))
  laid_from before (lies_leaf lies behind) = lies_leaf (lies_from before lies) behind
  laid_from before (lies_node opens inside closes behind) = lies_node (lies_from before opens) inside closes behind

  -- Trees also lie before any byte after their end.
  pub laid_to : {from place to : ℕ} {trees : Forest} → place ≤ to → Laid text from trees place → Laid text from trees to
  laid_to after (lies_end order) = lies_end (omega (arith, after, order))
  laid_to after (lies_leaf lies behind) = lies_leaf lies (laid_to after behind)
  laid_to after (lies_node opens inside closes behind) = lies_node opens inside closes (laid_to after behind)

  -- The trees after a subtree lie after its opening bracket.
  pub laid_past : {start close stop to : ℕ} {inside rest : Forest} → Laid text start inside close → IsRange text close stop → Laid text stop rest to → Laid text start rest to
  laid_past inside closes behind = laid_from (omega (arith, laid_order inside, closes.order)) behind

  -- The trees after the first tree lie there, too,
  pub laid_behind_one : {from to : ℕ} {trees : Forest} → Laid text from trees to → Laid text from (after_tree trees) to
  laid_behind_one (lies_end order) = lies_end order
  laid_behind_one (lies_leaf {it = it} lies behind) = laid_from (omega (arith, lies.after, starts_before it lies.range.order)) behind
  laid_behind_one (lies_node opens inside closes behind) = laid_from opens.after (laid_past inside closes behind)

  -- and the trees after the first `n` trees.
  pub laid_behind : {from to : ℕ} (n : ℕ) {trees : Forest} → Laid text from trees to → Laid text from (after_trees n trees) to
  laid_behind zero it = it
  laid_behind (suc n) it = laid_behind n (laid_behind_one it)
