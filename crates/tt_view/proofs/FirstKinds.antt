-- What the first tree is, by its token.
use Rattle.std.proofs.Common.{◌≡◌, Option, Some, None, refl, sym, subst}
use Rattle.tt_base.specs.declared.leaf.Leaf.TheVariants as leaf
use Rattle.tt_base.specs.declared.token_tree.TokenTree.{TokenTree}
use Rattle.tt_base.specs.declared.token_tree.TokenTree.TheVariants as token
use Rattle.tt_base.specs.Forest.{Forest, end, leaf as tip, node}
use Rattle.tt_base.specs.Moves.{first_token}
use Rattle.tt_base.specs.Token.{count_below}
use Rattle.tt_pack.specs.declared.token_kind.TokenKind.{TokenKind}
use Rattle.tt_pack.specs.declared.token_kind.TokenKind.TheVariants as kind
use Rattle.tt_pack.specs.TokenKinds.{IsKindOf, GivesKind, count_in}
use Rattle.tt_view.specs.FirstKinds.{IsFirstKind}

-- a token, and that the kind is its kind
pub record IsOfKind (given : Option TokenTree) (found : TokenKind) : Type 0 where
  pub it : TokenTree
  pub first : given ≡ Some it
  pub kind : IsKindOf it found

-- A kind that a first token gives is that of a token.
pub of_kind : (given : Option TokenTree) (found : TokenKind) → GivesKind given (Some found) → IsOfKind given found
of_kind None found gives = absurd gives
of_kind (Some it) found gives = record { it = it; first = refl; kind = gives }

-- The first token of the trees gives what the first tree is.
pub first_kind : (trees : Forest) (it : TokenTree) (found : TokenKind) → first_token trees ≡ Some it → IsKindOf it found → IsFirstKind trees (Some found)
first_kind end it found e is = cc e
first_kind (tip inner rest) it found e is =
    let same : token.Leaf inner ≡ it = cc e in
    subst (λ it. IsKindOf it found) (sym same) is
first_kind (node delimiter children rest) it found e is = given _ (sym e) is
  where
    given : (first : Option TokenTree) → Some it ≡ first → IsKindOf it found → GivesKind first (Some found)
    given first same is = subst (λ first. GivesKind first (Some found)) same is

-- If there is no tree, there is no kind.
pub no_kind : (trees : Forest) → trees ≡ end → IsFirstKind trees None
no_kind trees none = subst (λ trees. IsFirstKind trees None) (sym none) tt

-- A kind counts the tokens below its token.
pub counts_below : (it : TokenTree) (found : TokenKind) → IsKindOf it found → count_in found ≡ count_below it
counts_below (token.Leaf (leaf.Punct it)) (kind.Punct char spacing) is = refl
counts_below (token.Leaf (leaf.Punct it)) (kind.Ident text is_raw) is = absurd is
counts_below (token.Leaf (leaf.Punct it)) (kind.Literal sort) is = absurd is
counts_below (token.Leaf (leaf.Punct it)) (kind.Subtree delimiter len) is = absurd is
counts_below (token.Leaf (leaf.Ident it)) (kind.Punct char spacing) is = absurd is
counts_below (token.Leaf (leaf.Ident it)) (kind.Ident text is_raw) is = refl
counts_below (token.Leaf (leaf.Ident it)) (kind.Literal sort) is = absurd is
counts_below (token.Leaf (leaf.Ident it)) (kind.Subtree delimiter len) is = absurd is
counts_below (token.Leaf (leaf.Literal it)) (kind.Punct char spacing) is = absurd is
counts_below (token.Leaf (leaf.Literal it)) (kind.Ident text is_raw) is = absurd is
counts_below (token.Leaf (leaf.Literal it)) (kind.Literal sort) is = refl
counts_below (token.Leaf (leaf.Literal it)) (kind.Subtree delimiter len) is = absurd is
counts_below (token.Subtree it) (kind.Punct char spacing) is = absurd is
counts_below (token.Subtree it) (kind.Ident text is_raw) is = absurd is
counts_below (token.Subtree it) (kind.Literal sort) is = absurd is
counts_below (token.Subtree it) (kind.Subtree delimiter len) is = is.1
