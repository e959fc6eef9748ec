-- The texts of leaves, part by part.
use Rattle.std.proofs.Common.{ℕ, List, ◌≡◌, ◌∷◌, ◌++◌, ◌∙◌, ap, sym, append_assoc, codes}
use Rattle.tt_base.specs.declared.delimiter.Delimiter.{Delimiter}
use Rattle.tt_base.specs.declared.leaf.Leaf.{Leaf}
use Rattle.tt_base.specs.declared.leaf.Leaf.TheVariants as leaf
use Rattle.tt_base.specs.declared.literal.LitKind.{LitKind}
use Rattle.tt_base.specs.declared.literal.LitKind.TheVariants as lit
use Rattle.tt_base.specs.declared.literal.Literal.{Literal}
use Rattle.tt_base.specs.declared.span.Span.{Span}
use Rattle.tt_base.specs.DebugText.{ends_text, header_line, kind_text, leaf_line}
use Rattle.tt_base.specs.LeafText.{literal_text}
use Rattle.tt_base.specs.Literal.{kind_of, span_of, suffix_of, symbol_of, text_of}
use Rattle.tt_base.specs.Span.{span_text}

-- a raw string: its prefix, a fence, its text, the fence, its suffix
pub fenced_text : (prefix fence text suffix : List ℕ) → prefix ++ (fence ++ 34 ∷ (text ++ 34 ∷ (fence ++ suffix)))
    ≡ prefix ++ fence ++ codes "\"" ++ text ++ codes "\"" ++ fence ++ suffix
fenced_text prefix fence text suffix = simp append_assoc

-- a literal that is a plain string: its text between two quotes, its suffix
pub string_text : (literal : Literal) (kind : LitKind) (text suffix : List ℕ)
    → kind ≡ lit.Str → kind ≡ kind_of literal → text ≡ text_of literal → suffix ≡ suffix_of literal
    → 34 ∷ (text ++ 34 ∷ suffix) ≡ literal_text literal
string_text literal kind text suffix is kinds texts suffixes = simp (texts, suffixes, sym kinds ∙ is, append_assoc)

-- the name of a plain string of bytes
pub byte_string_name : (kind : LitKind) → kind ≡ lit.ByteStr → codes "ByteStr" ≡ kind_text kind
byte_string_name kind is = ap kind_text (sym is)

-- the line of a literal: its kind, its symbol, its span
pub literal_line : (line : Leaf) (literal : Literal) (kind : LitKind) (symbol : List ℕ) (span : Span)
    → line ≡ leaf.Literal literal → kind ≡ kind_of literal → symbol ≡ symbol_of literal → span ≡ span_of literal
    → codes "LITERAL " ++ (kind_text kind ++ 32 ∷ (symbol ++ 32 ∷ span_text span)) ≡ leaf_line line
unfolding leaf_line
literal_line line literal kind symbol span is kinds symbols spans = simp (is, kinds, symbols, spans, leaf_line)

-- the line of a header: its two ends, its two spans
pub header_told : (delimiter : Delimiter) (ends : List ℕ) → ends ≡ ends_text delimiter.kind
    → codes "SUBTREE " ++ (ends ++ 32 ∷ (span_text delimiter.open_span ++ 32 ∷ span_text delimiter.close)) ≡ header_line delimiter
unfolding header_line
header_told delimiter ends is = simp is
