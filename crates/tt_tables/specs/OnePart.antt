-- Tokens whose spans all have one part.
use Rattle.std.specs.Prelude.{◌≡◌, ℕ, ◌∷◌, [], All, List, Some, slice_get, bytes_eq}
use Rattle.std.specs.List.{AllByRecursion}
use Rattle.tt_base.specs.declared.delimiter.Subtree.{Subtree}
use Rattle.tt_base.specs.declared.leaf.Leaf.{Leaf}
use Rattle.tt_base.specs.declared.leaf.Leaf.TheVariants as leaf
use Rattle.tt_base.specs.declared.span.SpanPart.{SpanPart}
use Rattle.tt_base.specs.declared.token_tree.TokenTree.{TokenTree}
use Rattle.tt_base.specs.Literal.{kind_of, suffix_len_of, span_of}
use Rattle.tt_base.specs.Span.{part_of}
use Rattle.tt_base.specs.Token.{leaf_span}
use Rattle.tt_codec.specs.declared.entry.HeaderEntry.{HeaderEntry}
use Rattle.tt_codec.specs.declared.entry.LeafEntry.{LeafEntry}
use Rattle.tt_codec.specs.declared.entry.LeafEntry.TheVariants.{Punct as punct, Ident as ident, Literal as literal}
use Rattle.tt_codec.specs.SpanNumbers.{span_numbers}
use Rattle.tt_tables.specs.declared.token.InternedToken.{InternedToken}
use Rattle.tt_tables.specs.Held.{whole}
use Rattle.tt_tables.specs.Names.{Names}
use Rattle.tt_tables.specs.TableOrder.{different}
use Rattle.tt_tables.specs.Tables.{tables_from}
use Rattle.tt_tables.specs.Uses.{part_uses, symbol_uses}

-- all parts that the tokens use are this one
abbrev pub HasOnePart : SpanPart → List TokenTree → Type 0
HasOnePart part list = AllByRecursion (λ other. other ≡ part) (part_uses list)

-- both spans of each header have the part
abbrev pub HeadersHave : SpanPart → List Subtree → Type 0
HeadersHave part headers = All (λ it. (part_of it.delimiter.open_span ≡ part) × (part_of it.delimiter.close ≡ part)) headers

-- the span of each leaf has the part
abbrev pub LeavesHave : SpanPart → List Leaf → Type 0
LeavesHave part leaves = All (λ it. part_of (leaf_span it) ≡ part) leaves

-- if all spans have one part, the interned token means the one at the place, under that part and the symbols in the order of first uses
abbrev pub NamesAt : List TokenTree → (place : ℕ) → InternedToken → Type 0
NamesAt list place it =
    (part : SpanPart) → HasOnePart part list → (meant : TokenTree) → slice_get list place ≡ Some meant
    → Names (tables_from (part ∷ []) (different bytes_eq (symbol_uses list))) it (whole meant)

-- a leaf in numbers: its part is at the place 0, and its symbol, if it has one, at that place
abbrev pub numbered_leaf : (symbol : ℕ) → Leaf → LeafEntry
numbered_leaf symbol (leaf.Literal it) = literal symbol (kind_of it) (suffix_len_of it) (span_numbers 0 (span_of it))
numbered_leaf symbol (leaf.Punct it) = punct it.char it.spacing (span_numbers 0 it.span)
numbered_leaf symbol (leaf.Ident it) = ident symbol it.is_raw (span_numbers 0 it.span)

-- a header in numbers: both parts are at the place 0
abbrev pub numbered_header : Subtree → HeaderEntry
numbered_header it =
    record {
      opening = span_numbers 0 it.delimiter.open_span;
      closing = span_numbers 0 it.delimiter.close;
      kind = it.delimiter.kind;
      len = it.len;
      child_bytes = 0;
    }
