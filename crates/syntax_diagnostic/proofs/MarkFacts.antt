-- The text before a mark, character by character.
use Rattle.std.proofs.Common.{◌≡◌, ℕ, zero, suc, ◌+◌, ◌-◌, ◌<◌, List, [], ◌∷◌, ◌++◌, refl, arith, take}
use Rattle.std.specs.List.{flat_map}
use Rattle.syntax_diagnostic.specs.Mark.{indent_of}

-- one more character
pub indent_step : (column n c : ℕ) (all rest : List ℕ) → n < column → all ≡ c ∷ rest
    → flat_map indent_of (take (column - n) all) ≡ indent_of c ++ flat_map indent_of (take (column - (n + 1)) rest)
indent_step column n c all rest below e = let more : column - n ≡ suc (column - (n + 1)) = omega arith in rw (e, more) refl

-- no more character
pub indent_end : (columns : ℕ) (all : List ℕ) → all ≡ [] → flat_map indent_of (take columns all) ≡ []
indent_end columns all e = rw e (nothing columns) where
  nothing : (columns : ℕ) → flat_map indent_of (take columns []) ≡ []
  nothing zero = refl
  nothing (suc columns) = refl
