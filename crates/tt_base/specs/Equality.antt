-- What `==` returns for two tokens, and for two trees.
use Rattle.std.specs.Cmp.{IsEquivalence}
use Rattle.std.specs.Prelude.{Bool}
use Rattle.tt_base.specs.declared.token_tree.TokenTree.{TokenTree}
use Rattle.std.specs.Cmp.Lexicographic.{pointwise}
use Rattle.std.specs.Ordering.{on}
use Rattle.tt_base.specs.Forest.{Root, flat_root}
use Rattle.tt_base.specs.contracts.token_tree.TokenTreeEq.TheImpl.Laws as token_eq
use Rattle.tt_base.specs.contracts.token_tree.TokenTreePartialEq.TheImpl as token_impl

-- whether two tokens are equal, field by field
abbrev pub same_token : TokenTree → TokenTree → Bool
same_token = (token_impl.ghosts).eq

-- This is an equivalence.
pub same_token-equivalence : IsEquivalence same_token
same_token-equivalence = token_eq.lawful.laws

-- whether the flat lists of two trees are equal, token by token
abbrev pub same_root : Root → Root → Bool
same_root = on flat_root (pointwise same_token)
