use Rattle.std.proofs.Common.{◌≡◌, ◌≤◌, ◌-◌, ◌++◌, length}
use Rattle.tt_base.specs.Forest.{Forest, Root, only, flat}
use Rattle.tt_bytes.specs.Decoding.{Stand}
use Rattle.tt_tables.specs.Meaning.{IsAhead}
use Rattle.tt_tables.specs.TablesOf.{tables_of}
use Rattle.tt_bytes.proofs.decode.tokens_of.Given as goal

abbrev pub invariant-loop-offset : goal.invariant-loop-offset
invariant-loop-offset l =
    record {
      inside : l.offset ≤ length l.packed;
      stand : Stand (tables_of l.tables) l.packed l.tokens.items l.offset;
      ahead : (root : Root) → IsAhead (tables_of l.tables) l.packed 0 (only root)
          → (trees : Forest) × IsAhead (tables_of l.tables) l.packed l.offset trees × (l.tokens.items ++ flat trees ≡ flat (only root));
    }

abbrev pub decreases-loop-offset : goal.decreases-loop-offset
decreases-loop-offset l = length l.packed - l.offset
