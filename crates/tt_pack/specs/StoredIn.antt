-- What is stored for the tree of a reader, if it has one.
use Rattle.std.specs.Borrow.{Bor}
use Rattle.std.specs.Prelude.{ℕ, List, [], Option, Some, None}
use Rattle.tt_base.specs.Forest.{Root}
use Rattle.tt_tables.specs.Stored.{packed}
use Rattle.tt_tables.specs.Tables.{Tables, tables_from}

-- the bytes stored for a tree
abbrev pub bytes_for : Root → List ℕ
bytes_for root = (packed root).bytes

-- the tables that are stored for a tree
abbrev pub tables_stored : Root → Tables
tables_stored root = tables_from (packed root).parts (packed root).symbols

-- the bytes of the tree, if there is one
abbrev pub bytes_in : Option (Bor Root) → List ℕ
bytes_in None = []
bytes_in (Some tree) = bytes_for tree.now

-- the tables of the tree, if there is one
abbrev pub tables_in : Option (Bor Root) → Tables
tables_in None = tables_from [] []
tables_in (Some tree) = tables_stored tree.now
