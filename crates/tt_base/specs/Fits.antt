-- The limits that the types of the code put on a token's numbers and texts. The numbers of a definition have no limit.
use Rattle.std.specs.Char.{IsScalar}
use Rattle.std.specs.Prelude.{◌<◌, ◌≤◌, ◌^◌, IsUtf8}
use Rattle.tt_base.specs.declared.leaf.Leaf.{Leaf}
use Rattle.tt_base.specs.declared.leaf.Leaf.TheVariants as leaf
use Rattle.tt_base.specs.declared.literal.LitKind.{LitKind}
use Rattle.tt_base.specs.declared.literal.LitKind.TheVariants as lit
use Rattle.tt_base.specs.declared.span.Span.{Span}
use Rattle.tt_base.specs.declared.token_tree.TokenTree.{TokenTree}
use Rattle.tt_base.specs.declared.token_tree.TokenTree.TheVariants as token
use Rattle.tt_base.specs.Literal.{symbol_of, span_of, kind_of, suffix_len_of}
use Rattle.tt_base.specs.Span.{start_of, end_of}

-- the five numbers of a span are below 2^32
pub record SpanFits (span : Span) : Type 0 where
  pub file : span.anchor.file_id.0 < 2 ^ 32
  pub ast : span.anchor.ast_id.0 < 2 ^ 32
  pub start : start_of span.range < 2 ^ 32
  pub end : end_of span.range < 2 ^ 32
  pub ctx : span.ctx.0 < 2 ^ 32

-- a raw kind has at most 255 hashes
abbrev pub KindFits : LitKind → Type 0
KindFits lit.Byte = Unit {0}
KindFits lit.Char = Unit {0}
KindFits lit.Integer = Unit {0}
KindFits lit.Float = Unit {0}
KindFits lit.Str = Unit {0}
KindFits (lit.StrRaw count) = count ≤ 255
KindFits lit.ByteStr = Unit {0}
KindFits (lit.ByteStrRaw count) = count ≤ 255
KindFits lit.CStr = Unit {0}
KindFits (lit.CStrRaw count) = count ≤ 255
KindFits (lit.Err unit) = Unit {0}

-- spans fit, texts are UTF-8, a character is a `char`, and a suffix has at most 255 bytes
abbrev pub LeafFits : Leaf → Type 0
LeafFits (leaf.Literal literal) =
    SpanFits (span_of literal) × KindFits (kind_of literal) × (suffix_len_of literal ≤ 255) × IsUtf8 (symbol_of literal)
LeafFits (leaf.Punct punct) = SpanFits punct.span × IsScalar punct.char
LeafFits (leaf.Ident ident) = SpanFits ident.span × IsUtf8 ident.sym

-- the same for a token; the count of a header is below 2^32
abbrev pub TokenFits : TokenTree → Type 0
TokenFits (token.Leaf leaf) = LeafFits leaf
TokenFits (token.Subtree subtree) =
    SpanFits subtree.delimiter.open_span × SpanFits subtree.delimiter.close × (subtree.len < 2 ^ 32)

-- both ends of a span are below 2^32
abbrev pub SpanInRange : Span → Type 0
SpanInRange span = (start_of span.range < 2 ^ 32) × (end_of span.range < 2 ^ 32)

-- a span is in range, and a character is a `char`
abbrev pub LeafInRange : Leaf → Type 0
LeafInRange (leaf.Literal literal) = SpanInRange (span_of literal)
LeafInRange (leaf.Punct punct) = SpanInRange punct.span × IsScalar punct.char
LeafInRange (leaf.Ident ident) = SpanInRange ident.span

-- the limits that the bytes of a token need
abbrev pub TokenInRange : TokenTree → Type 0
TokenInRange (token.Leaf leaf) = LeafInRange leaf
TokenInRange (token.Subtree subtree) = SpanInRange subtree.delimiter.open_span × SpanInRange subtree.delimiter.close
