-- The open levels of a flat list, and what a token does to them.
use Rattle.std.specs.Prelude.{ℕ, ◌-◌, List, [], ◌∷◌, ◌↔◌, reverse, Bool, true, false}
use Rattle.tt_base.specs.Forest.{AreLevels}
use Rattle.tt_base.specs.declared.token_tree.TokenTree.{TokenTree}
use Rattle.tt_base.specs.declared.levels.Levels.{Levels}

-- the number of tokens to come for each open subtree, innermost first
abbrev pub open_levels : Levels → List ℕ
open_levels levels = levels.left ∷ reverse levels.outer.items

-- the same tokens complete both levels
abbrev pub IsSameQuestion : List ℕ → List ℕ → Type 0
IsSameQuestion old new = (tokens : List TokenTree) → AreLevels tokens old ↔ AreLevels tokens new

-- the same tokens complete both levels, or no token can follow
abbrev pub GoesBack : List ℕ → List ℕ → Bool → Type 0
GoesBack old new true = IsSameQuestion old new
GoesBack old new false = (token : TokenTree) (tokens : List TokenTree) → AreLevels (token ∷ tokens) old → ⊥

-- after a header, tokens complete the new levels exactly if they complete its subtree and then the rest of the old levels
abbrev pub Opens : List ℕ → ℕ → List ℕ → Type 0
Opens [] below new = ⊥
Opens (n ∷ ns) below new = (tokens : List TokenTree) → AreLevels tokens (below ∷ (n - 1 - below) ∷ ns) ↔ AreLevels tokens new

-- for all tokens that follow: if the token fits, they complete the new levels exactly if with the token they complete the old ones; if it
-- does not fit, none do
abbrev pub TakesToken : List ℕ → TokenTree → List ℕ → Bool → Type 0
TakesToken old token new true = (tokens : List TokenTree) → AreLevels (token ∷ tokens) old ↔ AreLevels tokens new
TakesToken old token new false = (tokens : List TokenTree) → AreLevels (token ∷ tokens) old → ⊥
