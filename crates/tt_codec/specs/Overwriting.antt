-- Bytes written over others.
use Rattle.std.specs.Prelude.{ℕ, ◌+◌, List, ◌++◌, length, take, drop}

-- the old bytes with new ones in the place of those from the offset on
abbrev pub overwritten : (offset : ℕ) → (new old : List ℕ) → List ℕ
overwritten offset new old = take offset old ++ new ++ drop (offset + length new) old
