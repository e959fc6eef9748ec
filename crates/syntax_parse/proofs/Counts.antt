-- How many tokens the pieces in a builder are.
use Rattle.std.proofs.Common.{◌≡◌, ◌+◌, List, [], ◌∷◌, ◌++◌, refl, arith}
use Rattle.tt_base.specs.Building.{Stack, above, lowest, tokens_held}
use Rattle.tt_base.specs.Forest.{Forest, end, leaf, node, size}
use Rattle.tt_base.specs.declared.leaf.Leaf.{Leaf}
use Rattle.tt_base.specs.declared.leaf.Leaf.TheVariants as leaf_of
use Rattle.syntax_parse.specs.Limits.{token_count, tokens_of}
use Rattle.syntax_parse.specs.Spelled.{Piece, at_span, closing, opening, sort_of, spelled, spelled_so_far}

pub token_count-append : (ps qs : List Piece) → token_count (ps ++ qs) ≡ token_count ps + token_count qs
token_count-append [] qs = omega arith
token_count-append (p ∷ ps) qs = let more = token_count-append ps qs in omega (arith, more)

-- a leaf is one token
pub tokens_of-leaf : (it : Leaf) → tokens_of (sort_of it) ≡ 1
tokens_of-leaf (leaf_of.Literal literal) = refl
tokens_of-leaf (leaf_of.Punct punct) = refl
tokens_of-leaf (leaf_of.Ident ident) = refl

pub token_count-spelled : (trees : Forest) → token_count (spelled trees) ≡ size trees
token_count-spelled end = refl
token_count-spelled (leaf it rest) = let one = tokens_of-leaf it in let more = token_count-spelled rest in omega (arith, one, more)
token_count-spelled (node delimiter children rest) =
    let inside = token_count-spelled children in
    let more = token_count-spelled rest in
    let joined = token_count-append (spelled children) (at_span (closing delimiter.kind) delimiter.close ∷ spelled rest) in omega (arith, inside, more, joined)

pub token_count-held : (s : Stack) → token_count (spelled_so_far s) ≡ tokens_held s
token_count-held (lowest trees) = token_count-spelled trees
token_count-held (above outer kind open_span trees) =
    let below = token_count-held outer in
    let inside = token_count-spelled trees in
    let joined = token_count-append (spelled_so_far outer) (at_span (opening kind) open_span ∷ spelled trees) in omega (arith, below, inside, joined)
