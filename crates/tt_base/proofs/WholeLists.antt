-- Whole lists.
use Rattle.std.proofs.Common.{◌≡◌, ℕ, zero, suc, List, [], ◌∷◌, drop, ap, sym, ◌∙◌}
use Rattle.tt_base.specs.declared.token_tree.TokenTree.{TokenTree}
use Rattle.tt_base.specs.Forest.{Forest, end, leaf, node, flat, join, IsWhole}
use Rattle.tt_base.specs.Unflat.{flat-join}

tail_whole : (t : TokenTree) (tokens : List TokenTree) (f : Forest) → t ∷ tokens ≡ flat f → IsWhole tokens
tail_whole t tokens end e = cc
tail_whole t tokens (leaf l rest) e = (rest, ap (drop 1) e)
tail_whole t tokens (node d children rest) e = (join children rest, ap (drop 1) e ∙ sym (flat-join children rest))

-- Each end piece of a whole list is whole.
pub end_piece : (k : ℕ) (tokens : List TokenTree) → IsWhole tokens → IsWhole (drop k tokens)
end_piece zero tokens w = w
end_piece (suc k) [] w = w
end_piece (suc k) (t ∷ tokens) w = end_piece k tokens (tail_whole t tokens w.0 w.1)
