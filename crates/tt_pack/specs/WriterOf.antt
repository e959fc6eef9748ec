-- What a writer has written.
use Rattle.std.specs.Prelude.{◌≡◌, ◌+◌, ◌≤◌, List, [], ◌∷◌, ◌++◌, length}
use Rattle.tt_back_buf.specs.Bytes.{bytes_of, room_of}
use Rattle.tt_base.specs.declared.token_tree.TokenTree.{TokenTree}
use Rattle.tt_codec.specs.declared.entry.Entry.{Entry}
use Rattle.tt_codec.specs.Entry.{entry_bytes, most_entry_bytes}
use Rattle.tt_tables.specs.Stored.{most_bytes}
use Rattle.tt_tables.specs.Tables.{Tables}
use Rattle.tt_pack.specs.declared.writer.Writer.{Writer}
use Rattle.tt_pack.specs.Writing.{IsWritten}

-- the writer has written these tokens, the last ones of a list, under these tables
abbrev pub HasWritten : Tables → List TokenTree → Writer → Type 0
HasWritten tables tokens writer = IsWritten tables tokens (bytes_of writer.bytes) writer.sums.items

-- one more token is written before the others, and counted
pub record HasPut (entry : Entry) (old new : Writer) : Type 0 where
  pub bytes : bytes_of new.bytes ≡ entry_bytes entry ++ bytes_of old.bytes
  pub few : length (bytes_of new.bytes) ≤ most_bytes
  pub sums : new.sums.items ≡ old.sums.items ++ length (bytes_of new.bytes) ∷ []
  pub room : room_of old.bytes ≤ room_of new.bytes + most_entry_bytes entry
