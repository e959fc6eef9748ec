-- What the first tree of a list is.
use Rattle.std.specs.Prelude.{Option, Some, None}
use Rattle.tt_base.specs.declared.token_tree.TokenTree.TheVariants as token
use Rattle.tt_base.specs.Forest.{Forest, end, leaf, node, size, header}
use Rattle.tt_pack.specs.declared.token_kind.TokenKind.{TokenKind}
use Rattle.tt_pack.specs.TokenKinds.{IsKindOf}

-- the result is what the first tree is, or none if there is no tree; a header counts the tokens below it
abbrev pub IsFirstKind : Forest → Option TokenKind → Type 0
IsFirstKind end None = Unit {0}
IsFirstKind end (Some found) = ⊥
IsFirstKind (leaf it rest) None = ⊥
IsFirstKind (leaf it rest) (Some found) = IsKindOf (token.Leaf it) found
IsFirstKind (node delimiter children rest) None = ⊥
IsFirstKind (node delimiter children rest) (Some found) = IsKindOf (header delimiter (size children)) found
