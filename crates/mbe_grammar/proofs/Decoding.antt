-- The units that were decoded are those of the trees.
use Rattle.std.proofs.Common.{◌≡◌, ℕ, suc, zero, List, [], ◌∷◌, ◌++◌, Some, sym, ap, ◌∙◌}
use Rattle.std.specs.Prelude.{slice_get}
use Rattle.tt.specs.Forest.{Forest}
use Rattle.tt.specs.Gluing.{after_trees}
use Rattle.tt.specs.Moves.{after_tree}
use Rattle.tt.specs.Views.{trees_of}
use Rattle.mbe_grammar.specs.declared.here.Here.{Here}
use Rattle.mbe_grammar.specs.Decoded.{AreDecoded}

-- The unit at an index begins after that many trees.
pub decoded_at : (trees behind : Forest) (items : List Here) (passed : ℕ) (it : Here) → AreDecoded trees items behind → slice_get items passed ≡ Some it → trees_of it.rest ≡ after_trees passed trees
decoded_at trees behind [] passed it d e = absurd (cc e)
decoded_at trees behind (here ∷ others) zero it d e = let same : here ≡ it = cc e in ap (λ (h : Here). trees_of h.rest) (sym same) ∙ d.0
decoded_at trees behind (here ∷ others) (suc passed) it d e = decoded_at (after_tree trees) behind others passed it d.1 e

-- One unit more is decoded.
pub decoded_more : (trees behind further : Forest) (items : List Here) (it : Here) → AreDecoded trees items behind → trees_of it.rest ≡ behind → further ≡ after_tree behind
    → AreDecoded trees (items ++ it ∷ []) further
decoded_more trees behind further [] it d e f = (e ∙ d, f ∙ ap after_tree d)
decoded_more trees behind further (here ∷ others) it d e f = (d.0, decoded_more (after_tree trees) behind further others it d.1 e f)
