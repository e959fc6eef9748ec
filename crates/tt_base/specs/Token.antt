-- Delimiters, puncts and idents from their parts, and the spans of a token.
use Rattle.tt_base.specs.declared.delimiter.DelimSpan.{DelimSpan}
use Rattle.tt_base.specs.declared.delimiter.Delimiter.{Delimiter}
use Rattle.tt_base.specs.declared.delimiter.DelimiterKind.{DelimiterKind}
use Rattle.tt_base.specs.declared.span.Span.{Span}
use Rattle.std.proofs.Common.{lit≤}
use Rattle.tt_base.specs.declared.punct.Punct.{Punct}
use Rattle.tt_base.specs.declared.punct.Spacing.TheVariants.{Alone}
use Rattle.std.specs.Prelude.{ℕ, List, codes, drop, nat_eq, if◌then◌else◌}
use Rattle.std.specs.List.{starts_with}
use Rattle.tt_base.specs.declared.ident.Ident.{Ident}
use Rattle.tt_base.specs.declared.ident.IdentIsRaw.{IdentIsRaw}
use Rattle.tt_base.specs.declared.ident.IdentIsRaw.TheVariants.{No, Yes}
use Rattle.tt_base.specs.declared.leaf.Leaf.{Leaf}
use Rattle.tt_base.specs.declared.token_tree.TokenTree.{TokenTree}
use Rattle.tt_base.specs.Literal.{span_of}
use Rattle.tt_base.specs.declared.leaf.Leaf.TheVariants as leaf
use Rattle.tt_base.specs.declared.token_tree.TokenTree.TheVariants as token

-- an open and a close span
abbrev pub delim_span : Span → Span → DelimSpan
delim_span opening closing = record { open_span = opening; close = closing }

-- a kind with an open and a close span
abbrev pub delimiter : DelimiterKind → Span → Span → Delimiter
delimiter kind opening closing = record { open_span = opening; close = closing; kind = kind }

-- the span whose numbers are all zero
abbrev pub zero_span : Span
zero_span =
    record {
      range = record { start = record { raw = 0 }; end = record { raw = 0 }; ordered = lit≤ tt };
      anchor = record { file_id = record { 0 = 0 }; ast_id = record { 0 = 0 } };
      ctx = record { 0 = 0 };
    }

-- U+0000, alone
abbrev pub zero_punct : Punct
zero_punct = record { char = 0; spacing = Alone; span = zero_span }

-- raw if the text begins with r#
abbrev pub rawness_of : List ℕ → IdentIsRaw
rawness_of text = if starts_with nat_eq text (codes "r#") then Yes else No

-- the text without one leading r#
abbrev pub without_raw_prefix : List ℕ → List ℕ
without_raw_prefix text = if starts_with nat_eq text (codes "r#") then drop 2 text else text

-- the ident of that text
abbrev pub ident_from : List ℕ → Span → Ident
ident_from text span = record { sym = without_raw_prefix text; span = span; is_raw = rawness_of text }

-- the span of a leaf
abbrev pub leaf_span : Leaf → Span
leaf_span (leaf.Literal literal) = span_of literal
leaf_span (leaf.Punct punct) = punct.span
leaf_span (leaf.Ident ident) = ident.span

-- a leaf's span, or a header's open span
abbrev pub first_span : TokenTree → Span
first_span (token.Leaf leaf) = leaf_span leaf
first_span (token.Subtree subtree) = subtree.delimiter.open_span

-- a leaf's span, or a header's close span
abbrev pub close_span : TokenTree → Span
close_span (token.Leaf leaf) = leaf_span leaf
close_span (token.Subtree subtree) = subtree.delimiter.close

-- the number of tokens below a header; 0 for a leaf
abbrev pub count_below : TokenTree → ℕ
count_below (token.Leaf leaf) = 0
count_below (token.Subtree subtree) = subtree.len
