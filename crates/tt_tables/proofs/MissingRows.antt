-- What is at a place of a list that may have open headers, and what is not, row by row.
use Rattle.std.proofs.Common.{[], ◌∷◌, refl}
use Rattle.tt_base.specs.declared.delimiter.DelimiterKind.{DelimiterKind}
use Rattle.tt_base.specs.declared.delimiter.Subtree.{Subtree}
use Rattle.tt_base.specs.declared.leaf.Leaf.{Leaf}
use Rattle.tt_base.specs.declared.span.Span.{Span}
use Rattle.tt_base.specs.declared.token_tree.TokenTree.TheVariants as token
use Rattle.tt_tables.specs.Held.{whole, opened}
use Rattle.tt_tables.specs.Missing.{NoOpenAt, NoHeaderAt, NoWholeAt}

module _ (it : Leaf) (header : Subtree) (kind : DelimiterKind) (span : Span) where
  -- No token is after the last one.
  nothing_behind : NoOpenAt (opened kind span ∷ []) 1 × NoHeaderAt (whole (token.Subtree header) ∷ []) 1 × NoWholeAt (whole (token.Leaf it) ∷ []) 1
  nothing_behind = (λ k s at. cc at, λ h at. cc at, λ t at. cc at)

  -- A leaf is whole, and no header.
  leaf_is_whole : NoOpenAt (whole (token.Leaf it) ∷ []) 0 × NoHeaderAt (whole (token.Leaf it) ∷ []) 0 × (NoWholeAt (whole (token.Leaf it) ∷ []) 0 → ⊥)
  leaf_is_whole = (λ k s at. cc at, λ h at. cc at, λ none. none (token.Leaf it) refl)

  -- A header that is closed is whole, and not open.
  header_is_whole : NoOpenAt (whole (token.Subtree header) ∷ []) 0 × (NoHeaderAt (whole (token.Subtree header) ∷ []) 0 → ⊥) × (NoWholeAt (whole (token.Subtree header) ∷ []) 0 → ⊥)
  header_is_whole = (λ k s at. cc at, λ none. none header refl, λ none. none (token.Subtree header) refl)

  -- An open header is open, and neither closed nor whole.
  open_is_open : (NoOpenAt (opened kind span ∷ []) 0 → ⊥) × NoHeaderAt (opened kind span ∷ []) 0 × NoWholeAt (opened kind span ∷ []) 0
  open_is_open = (λ none. none kind span refl, λ h at. cc at, λ t at. cc at)
