-- The uses of the tokens so far are added.
use Rattle.std.proofs.Common.{take, bytes_eq}
use Rattle.tt_tables.specs.Counts.{CountsMore}
use Rattle.tt_tables.specs.Uses.{same_part, part_uses, symbol_uses}
use Rattle.test_sweep_trees.proofs.counts.add_all.Given as goal

abbrev pub invariant-loop-token : goal.invariant-loop-token
invariant-loop-token l =
    record {
      parts : CountsMore same_part (part_uses (take l.token-index l.tokens)) l.fn.parts.entries l.parts.entries;
      symbols : CountsMore bytes_eq (symbol_uses (take l.token-index l.tokens)) l.fn.symbols.entries l.symbols.entries;
    }
