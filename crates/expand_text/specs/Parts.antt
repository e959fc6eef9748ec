-- How many trees a part has.
use Rattle.std.specs.Prelude.{ℕ, suc, if◌then◌else◌}
use Rattle.expand_text.specs.declared.part.Part.{Part}

-- one tree more, if the `;` behind its trees is a part of it
abbrev pub more_in : Part → ℕ
more_in it = if it.semicolon then 1 else 0

-- its trees, and the `;` behind them if that is a part of it
abbrev pub trees_in : Part → ℕ
trees_in it = if it.semicolon then suc it.len else it.len
