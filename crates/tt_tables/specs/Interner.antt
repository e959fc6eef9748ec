-- The value of an interner in contracts.
use Rattle.std.specs.Prelude.{ℕ, List}
use Rattle.std.specs.declared.cmp.PartialEq.{Ghosts as Equality}
use Rattle.std.specs.declared.hash.Hash.{Ghosts as Hashing}
use Rattle.tt_tables.specs.declared.interner.Interner.{Interner}

-- each value with its number of uses, in the order of places
abbrev pub entries_of : {T : Type 0} {equality : Equality T} {hashing : Hashing T} → Interner T equality hashing → List (T × ℕ)
entries_of it = it.entries.entries
