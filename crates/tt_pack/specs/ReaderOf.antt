-- The trees ahead of a reader, and one step of it.
use Rattle.std.specs.Prelude.{◌≡◌, ℕ, ◌≤◌, List, length, drop}
use Rattle.tt_base.specs.Forest.{Forest}
use Rattle.tt_base.specs.Moves.{step_after}
use Rattle.tt_tables.specs.Stored.{bytes}
use Rattle.tt_pack.specs.StoredIn.{bytes_in, tables_in}
use Rattle.tt_pack.specs.declared.reader.Reader.{Reader}
use Rattle.tt_tables.specs.Tables.{Tables}

-- the trees ahead, up to the end of the bytes
abbrev pub ahead_of : Reader → Forest
ahead_of reader = reader.ahead.0

-- the tables of its tree
abbrev pub tables_of : Reader → Tables
tables_of reader = tables_in reader.tree

-- the bytes of its tree
abbrev pub bytes_of : Reader → List ℕ
bytes_of reader = bytes_in reader.tree

-- the number of bytes that it passed
abbrev pub offset_of : Reader → ℕ
offset_of reader = reader.offset

-- the number of tokens that were decoded
abbrev pub steps_of : Reader → ℕ
steps_of reader = reader.steps

-- both readers read the same tree
abbrev pub ReadsSame : Reader → Reader → Type 0
ReadsSame reader other = (bytes_of reader ≡ bytes_of other) × (tables_of reader ≡ tables_of other)

-- a step of a reader: it reads the same tree, these trees are ahead, exactly their bytes follow the offset, and the count has one token
-- more, if there was one
pub record StepsTo (old : Reader) (trees : Forest) (new : Reader) : Type 0 where
  pub ahead : ahead_of new ≡ trees
  pub same : ReadsSame new old
  pub inside : offset_of new ≤ length (bytes_of new)
  pub left : drop (offset_of new) (bytes_of new) ≡ bytes (tables_of new) trees
  pub steps : steps_of new ≡ step_after (steps_of old) (ahead_of old)
