-- What holds for the entries of every interner.
use Rattle.std.specs.List.{IsDistinct}
use Rattle.std.specs.Map.{keys_of}
use Rattle.std.specs.declared.cmp.PartialEq.{Ghosts as Equality}
use Rattle.std.specs.declared.hash.Hash.{Ghosts as Hashing}
use Rattle.tt_tables.specs.declared.interner.Interner.{Interner}
use Rattle.tt_tables.specs.Interner.{entries_of}

module _ {T : Type 0} {equality : Equality T} {hashing : Hashing T} (it : Interner T equality hashing) where
  -- Their values are different.
  pub entries_distinct : IsDistinct equality.eq (keys_of (entries_of it))
  entries_distinct = it.distinct
