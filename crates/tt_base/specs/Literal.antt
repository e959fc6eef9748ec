-- The parts of a literal: one text that ends in the suffix.
use Rattle.std.specs.Prelude.{◌≡◌, ℕ, ◌-◌, ◌≤◌, List, length, take, drop, IsCharBoundary}
use Rattle.tt_base.specs.declared.literal.LitKind.{LitKind}
use Rattle.tt_base.specs.declared.literal.Literal.{Literal}
use Rattle.tt_base.specs.declared.span.Span.{Span}

-- the text and the suffix together
abbrev pub symbol_of : Literal → List ℕ
symbol_of literal = literal.symbol

-- the span
abbrev pub span_of : Literal → Span
span_of literal = literal.span

-- the kind
abbrev pub kind_of : Literal → LitKind
kind_of literal = literal.kind

-- the number of bytes of the symbol that are the suffix
abbrev pub suffix_len_of : Literal → ℕ
suffix_len_of literal = literal.suffix_len

-- the symbol without the suffix
abbrev pub text_of : Literal → List ℕ
text_of literal = take (length literal.symbol - literal.suffix_len) literal.symbol

-- the suffix
abbrev pub suffix_of : Literal → List ℕ
suffix_of literal = drop (length literal.symbol - literal.suffix_len) literal.symbol

-- the last n bytes of the text begin at a character
abbrev pub CutsText : List ℕ → ℕ → Type 0
CutsText text n = (n ≤ length text) × IsCharBoundary text (length text - n)

-- the literal has this symbol, span, kind and suffix length
pub record IsLiteral (literal : Literal) (text : List ℕ) (place : Span) (sort : LitKind) (n : ℕ) : Type 0 where
  pub symbol : symbol_of literal ≡ text
  pub span : span_of literal ≡ place
  pub kind : kind_of literal ≡ sort
  pub suffix_len : suffix_len_of literal ≡ n
