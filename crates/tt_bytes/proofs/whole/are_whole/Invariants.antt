-- The tokens are whole exactly if those to come complete the open levels.
use Rattle.tt_base.specs.Levels.{open_levels}
use Rattle.tt_bytes.specs.Shape.{IsALeaf}
use Rattle.tt_bytes.proofs.Shaped.{AsksLevels}
use Rattle.tt_bytes.proofs.whole.are_whole.Given as goal

abbrev pub invariant-loop-index : goal.invariant-loop-index
invariant-loop-index l =
    record {
      asks : AsksLevels l.tokens l.index (open_levels l.levels);
      leaf : IsALeaf l.leaf;
    }
