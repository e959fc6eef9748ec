-- The units of trees that were decoded.
use Rattle.std.specs.Coded.{Coded-set, ×_prop}
use Rattle.std.specs.Prelude.{◌≡◌, List, [], ◌∷◌}
use Rattle.tt.specs.Forest.{Forest}
use Rattle.tt.specs.Moves.{after_tree}
use Rattle.tt.specs.Views.{trees_of}
use Rattle.tt_base.specs.Unflat.{forest_code}
use Rattle.mbe_grammar.specs.declared.here.Here.{Here}

-- these are the first of the trees, one after another, and those are behind them
abbrev pub AreDecoded : (trees : Forest) → List Here → (behind : Forest) → Type 0
AreDecoded trees [] behind = behind ≡ trees
AreDecoded trees (here ∷ others) behind = (trees_of here.rest ≡ trees) × AreDecoded (after_tree trees) others behind

pub AreDecoded-prop : (trees : Forest) (here : List Here) (behind : Forest) → IsProp (AreDecoded trees here behind)
AreDecoded-prop trees [] behind = Coded-set forest_code behind trees
AreDecoded-prop trees (here ∷ others) behind = ×_prop (Coded-set forest_code (trees_of here.rest) trees) (AreDecoded-prop (after_tree trees) others behind)
