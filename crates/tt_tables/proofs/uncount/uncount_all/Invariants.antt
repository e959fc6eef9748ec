-- The uses of the tokens so far are removed.
use Rattle.std.proofs.Common.{◌≡◌, List, take, bytes_eq}
use Rattle.std.specs.Map.{keys_of}
use Rattle.tt_tables.specs.Held.{HeldToken, parts_in, symbols_in}
use Rattle.tt_tables.specs.Interned.{tables_of}
use Rattle.tt_tables.specs.Names.{AllName}
use Rattle.tt_tables.specs.Interner.{entries_of}
use Rattle.tt_tables.specs.Counts.{CountsMore}
use Rattle.tt_tables.specs.Uses.{same_part}
use Rattle.tt_tables.proofs.uncount.uncount_all.Given as goal

abbrev pub invariant-loop-token : goal.invariant-loop-token
invariant-loop-token l =
    record {
      parts : (held : List HeldToken) → AllName (tables_of (entries_of l.fn.parts) (entries_of l.fn.symbols)) l.tokens held
          → CountsMore same_part (parts_in (take l.token-index held)) (entries_of l.parts) (entries_of l.fn.parts);
      symbols : (held : List HeldToken) → AllName (tables_of (entries_of l.fn.parts) (entries_of l.fn.symbols)) l.tokens held
          → CountsMore bytes_eq (symbols_in (take l.token-index held)) (entries_of l.symbols) (entries_of l.fn.symbols);
      part_values : keys_of (entries_of l.parts) ≡ keys_of (entries_of l.fn.parts);
      symbol_values : keys_of (entries_of l.symbols) ≡ keys_of (entries_of l.fn.symbols);
    }
