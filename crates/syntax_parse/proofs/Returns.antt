-- Carriage returns, if one may come right before a text.
use Rattle.std.proofs.Common.{Bool, true, false, List, ◌∷◌, ℕ}

-- a text, with a carriage return right before it if one is there
abbrev pub behind_return : (pending : Bool) → (text : List ℕ) → List ℕ
behind_return false text = text
behind_return true text = 13 ∷ text
