-- The code of the tokens held, which a model needs.
use Rattle.std.specs.Prelude.{◌≡◌, List, Option, Some, None, refl}
use Rattle.std.specs.Coded.{Coded, code_by, coded×, coded_list, coded_option}
use Rattle.tt_base.specs.contracts.delimiter.DelimiterKind.{the_row as kind_row}
use Rattle.tt_base.specs.contracts.span.Span.{the_row as span_row}
use Rattle.tt_base.specs.contracts.token_tree.TokenTree.{the_row as token_row}
use Rattle.tt_base.specs.declared.delimiter.DelimiterKind.{DelimiterKind}
use Rattle.tt_base.specs.declared.delimiter.DelimiterKind.TheVariants.{Invisible}
use Rattle.tt_base.specs.declared.span.Span.{Span}
use Rattle.tt_base.specs.declared.token_tree.TokenTree.{TokenTree}
use Rattle.tt_base.specs.Token.{zero_span}
use Rattle.tt_tables.specs.Held.{HeldToken, whole, opened}

-- a held token in parts: a token, or the kind and the span of an open header
abbrev pub stored_held : HeldToken → Option TokenTree × Option (DelimiterKind × Span)
stored_held (whole it) = (Some it, None)
stored_held (opened kind open_span) = (None, Some (kind, open_span))

-- the held token with these parts
abbrev pub held_from : Option TokenTree × Option (DelimiterKind × Span) → HeldToken
held_from (Some it, other) = whole it
held_from (None, Some it) = opened it.0 it.1
held_from (None, None) = opened Invisible zero_span

-- This is the held token again.
pub held_back : (it : HeldToken) → held_from (stored_held it) ≡ it
held_back (whole it) = refl
held_back (opened kind open_span) = refl

-- the code of one held token
abbrev pub token_code : Coded HeldToken
token_code = code_by (Option TokenTree × Option (DelimiterKind × Span)) (coded× (coded_option token_row.coded) (coded_option (coded× kind_row.coded span_row.coded))) stored_held held_from held_back

-- the code of a list of held tokens
abbrev pub held_code : Coded (List HeldToken)
held_code = coded_list token_code
