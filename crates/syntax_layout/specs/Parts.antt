-- Which neighbours touch where rustfmt writes a text.
use Rattle.std.specs.Prelude.{Bool, true, false, ◌||◌}
use Rattle.syntax_layout.specs.declared.part.Part.{Part}
use Rattle.syntax_layout.specs.declared.part.Part.TheVariants as part

-- whether what follows touches it
abbrev pub opens : Part → Bool
opens part.Start = true
opens part.Open = true
opens part.OpenAngle = true
opens part.Prefix = true
opens part.Path = true
opens _ = false

-- whether a value ends with it, so that a sign after it is an operator
abbrev pub ends_value : Part → Bool
ends_value part.Name = true
ends_value part.Type = true
ends_value part.Literal = true
ends_value part.Close = true
ends_value part.Question = true
ends_value _ = false

-- whether a value, a block or generic arguments end with it
abbrev pub ends_piece : Part → Bool
ends_piece part.EndBrace = true
ends_piece part.CloseAngle = true
ends_piece it = ends_value it

-- whether it is `.`, `..` or `..=`
abbrev pub is_dot : Part → Bool
is_dot part.Dot = true
is_dot _ = false

-- whether it is a `{` that does not belong to a `use`
abbrev pub is_brace : Part → Bool
is_brace part.Brace = true
is_brace _ = false

-- whether a `{` after it touches it
abbrev pub takes_brace : Part → Bool
takes_brace part.Start = true
takes_brace part.Open = true
takes_brace _ = false

-- whether a `(` or `[` after it touches it: a call, an index, a macro, a type `fn(..)`, `pub(..)`
abbrev pub takes_bracket : Part → Bool
takes_bracket part.Name = true
takes_bracket part.Type = true
takes_bracket part.Literal = true
takes_bracket part.Close = true
takes_bracket part.CloseAngle = true
takes_bracket part.Question = true
takes_bracket part.Bang = true
takes_bracket part.Fn = true
takes_bracket _ = false

-- whether generic arguments after it touch it
abbrev pub takes_angle : Part → Bool
takes_angle part.Type = true
takes_angle part.Fn = true
takes_angle part.For = true
takes_angle _ = false

-- whether nothing stands between two tokens, by the second
abbrev pub touches : (before next : Part) → Bool
touches before part.Close = true
touches before part.CloseAngle = true
touches before part.Comma = true
touches before part.Colon = true
touches before part.Question = true
touches before part.Bang = true
touches before part.Bar = true
touches before part.EndBrace = is_brace before
touches before part.Brace = takes_brace before
touches before part.Open = opens before || (is_dot before || takes_bracket before)
touches before part.OpenAngle = opens before || (is_dot before || takes_angle before)
touches before part.Dot = opens before || (is_dot before || ends_piece before)
touches before part.Path = opens before || (is_dot before || ends_piece before)
touches before part.Operator = opens before
touches before part.Keyword = opens before
touches before part.Fn = opens before
touches before part.For = opens before
touches before _ = opens before || is_dot before
