-- The bytes of a text.
use Rattle.std.specs.Prelude.{ℕ, List}
use Rattle.std.specs.String.{string_bytes}
use Rattle.tt_base.specs.declared.text.Text.{Text}
use Rattle.tt_base.specs.declared.text.Text.TheVariants as text

-- its bytes, short or long
abbrev pub text_bytes : Text → List ℕ
text_bytes (text.Short short) = short.bytes
text_bytes (text.Long long) = string_bytes long
