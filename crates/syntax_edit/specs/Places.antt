-- The places of trees that are read from a text.
use Rattle.std.specs.Prelude.{Option, None, Some, option_map}
use Rattle.tt.specs.Forest.{Forest}
use Rattle.tt.specs.Moves.{first_token}
use Rattle.tt.specs.Token.{first_span}
use Rattle.tt.specs.Types.Span.{Span}
use Rattle.tt.specs.Types.SpanPart.{SpanPart}

-- the places in a text are bytes of the first file
abbrev pub text_part : SpanPart
text_part = record { anchor = record { file_id = record { 0 = 0 }; ast_id = record { 0 = 0 } }; ctx = record { 0 = 0 } }

-- the span where trees begin, or `instead` if there are none
abbrev pub span_or : Option Span → (instead : Span) → Span
span_or None instead = instead
span_or (Some it) instead = it

abbrev pub begin_at : Forest → (instead : Span) → Span
begin_at trees instead = span_or (option_map first_span (first_token trees)) instead
