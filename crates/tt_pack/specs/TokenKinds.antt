-- What tokens are, without their spans.
use Rattle.std.specs.Prelude.{◌≡◌, ℕ, Option, Some, None}
use Rattle.tt_base.specs.declared.leaf.Leaf.TheVariants as leaf
use Rattle.tt_base.specs.declared.token_tree.TokenTree.{TokenTree}
use Rattle.tt_base.specs.declared.token_tree.TokenTree.TheVariants as token
use Rattle.tt_base.specs.Literal.{kind_of}
use Rattle.tt_pack.specs.declared.token_kind.TokenKind.{TokenKind}
use Rattle.tt_pack.specs.declared.token_kind.TokenKind.TheVariants as kind

-- the kind of the token: all that it has but its span, and of a literal only the kind
abbrev pub IsKindOf : TokenTree → TokenKind → Type 0
IsKindOf (token.Leaf (leaf.Punct it)) (kind.Punct char spacing) = (char ≡ it.char) × (spacing ≡ it.spacing)
IsKindOf (token.Leaf (leaf.Ident it)) (kind.Ident text is_raw) = (text.now ≡ it.sym) × (is_raw ≡ it.is_raw)
IsKindOf (token.Leaf (leaf.Literal it)) (kind.Literal sort) = sort ≡ kind_of it
IsKindOf (token.Subtree it) (kind.Subtree delimiter len) = (delimiter ≡ it.delimiter.kind) × (len ≡ it.len)
IsKindOf it found = ⊥

-- the result is the kind of the token, or none if there is no token
abbrev pub GivesKind : Option TokenTree → Option TokenKind → Type 0
GivesKind None None = Unit {0}
GivesKind None (Some found) = ⊥
GivesKind (Some it) None = ⊥
GivesKind (Some it) (Some found) = IsKindOf it found

-- the number of tokens below a header; 0 for a leaf
abbrev pub count_in : TokenKind → ℕ
count_in (kind.Punct char spacing) = 0
count_in (kind.Ident text is_raw) = 0
count_in (kind.Literal sort) = 0
count_in (kind.Subtree delimiter len) = len
