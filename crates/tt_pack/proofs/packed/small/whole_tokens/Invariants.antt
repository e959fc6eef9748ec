-- The header, and the tokens so far.
use Rattle.std.proofs.Common.{◌≡◌, ◌∷◌, take}
use Rattle.tt_base.specs.declared.token_tree.TokenTree.TheVariants as token
use Rattle.tt_pack.proofs.packed.small.whole_tokens.Given as goal

abbrev pub invariant-loop-place : goal.invariant-loop-place
invariant-loop-place l = l.tokens.items ≡ token.Subtree l.fn.header ∷ take l.place l.below
