-- Edits of a tree: the top's delimiter, one leaf, and all spans.
use Rattle.std.specs.Prelude.{◌≡◌, ℕ, zero, suc, ◌-◌, nat_lt, if◌then◌else◌, List, Some, slice_get}
use Rattle.tt_base.specs.declared.delimiter.DelimSpan.{DelimSpan}
use Rattle.tt_base.specs.declared.delimiter.Delimiter.{Delimiter}
use Rattle.tt_base.specs.declared.delimiter.DelimiterKind.{DelimiterKind}
use Rattle.tt_base.specs.declared.delimiter.Subtree.{Subtree}
use Rattle.tt_base.specs.declared.leaf.Leaf.{Leaf}
use Rattle.tt_base.specs.declared.leaf.Leaf.TheVariants as leaf_of
use Rattle.tt_base.specs.declared.span.ErasedFileAstId.{ErasedFileAstId}
use Rattle.tt_base.specs.declared.span.Span.{Span}
use Rattle.tt_base.specs.declared.token_tree.TokenTree.{TokenTree}
use Rattle.tt_base.specs.declared.token_tree.TokenTree.TheVariants as token
use Rattle.tt_base.specs.Token.{delimiter}
use Rattle.tt_base.specs.Forest.{Forest, end, leaf, node, Root, size}

-- the same root with another kind
abbrev pub with_kind : DelimiterKind → Root → Root
with_kind kind root = record { delimiter = delimiter kind root.delimiter.open_span root.delimiter.close; children = root.children }

-- the same root with other spans
abbrev pub with_spans : DelimSpan → Root → Root
with_spans spans root = record { delimiter = delimiter root.delimiter.kind spans.open_span spans.close; children = root.children }

-- the same trees with another leaf at a place of the flat list; the same trees if a header or nothing is at that place
abbrev pub with_leaf : (place : ℕ) → Leaf → Forest → Forest
with_leaf place it end = end
with_leaf zero it (leaf old rest) = leaf it rest
with_leaf (suc place) it (leaf old rest) = leaf old (with_leaf place it rest)
with_leaf zero it (node delimiter children rest) = node delimiter children rest
with_leaf (suc place) it (node delimiter children rest) =
    if nat_lt place (size children) then node delimiter (with_leaf place it children) rest
    else node delimiter children (with_leaf (place - size children) it rest)

-- the same for a root; the top is at place 0
abbrev pub leaf_set : (place : ℕ) → Leaf → Root → Root
leaf_set zero it root = root
leaf_set (suc place) it root = record { delimiter = root.delimiter; children = with_leaf place it root.children }

-- a leaf is at that place of a list
abbrev pub HasLeafAt : List TokenTree → (place : ℕ) → Type 0
HasLeafAt tokens place = (it : Leaf) × (slice_get tokens place ≡ Some (token.Leaf it))

-- a header is at that place of a list
abbrev pub HasHeaderAt : List TokenTree → (place : ℕ) → Type 0
HasHeaderAt tokens place = (it : Subtree) × (slice_get tokens place ≡ Some (token.Subtree it))

-- a span with another id
abbrev pub with_id : ErasedFileAstId → Span → Span
with_id id span = record { range = span.range; anchor = record { file_id = span.anchor.file_id; ast_id = id }; ctx = span.ctx }

-- each span is replaced by the value of f for it
module _ (f : Span → Span) where
  -- in a leaf
  abbrev pub respanned_leaf : Leaf → Leaf
  respanned_leaf (leaf_of.Literal it) =
      leaf_of.Literal (record { symbol = it.symbol; span = f it.span; kind = it.kind; suffix_len = it.suffix_len; fits = it.fits; cuts = it.cuts })
  respanned_leaf (leaf_of.Punct it) = leaf_of.Punct (record { char = it.char; spacing = it.spacing; span = f it.span })
  respanned_leaf (leaf_of.Ident it) = leaf_of.Ident (record { sym = it.sym; span = f it.span; is_raw = it.is_raw })

  -- in a delimiter
  abbrev pub respanned_delimiter : Delimiter → Delimiter
  respanned_delimiter it = delimiter it.kind (f it.open_span) (f it.close)

  -- in trees, at any depth
  abbrev pub respanned : Forest → Forest
  respanned end = end
  respanned (leaf it rest) = leaf (respanned_leaf it) (respanned rest)
  respanned (node delimiter children rest) = node (respanned_delimiter delimiter) (respanned children) (respanned rest)
