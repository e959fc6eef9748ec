-- Characters and bytes of a text.
use Rattle.std.proofs.Common.{◌≡◌, ℕ, ◌<◌, ◌≤◌, List, [], length, arith, sym, ap, ◌∙◌}
use Rattle.std.proofs.lemmas.List.{nil_from_length}
use Rattle.std.proofs.lemmas.Str.{length-encode, len_utf8_bounds, encodes-chars, chars-nil, length-le-encodes}
use Rattle.std.specs.Prelude.{encode_utf8}
use Rattle.std.specs.Str.{chars, IsUtf8}
use Rattle.syntax_lex.specs.Front.{byte_length}

pub encode_utf8_nonempty : (c : ℕ) → 0 < length (encode_utf8 c)
encode_utf8_nonempty c = let bounds = len_utf8_bounds c in omega (arith, length-encode c)

-- a text takes as many bytes as its characters
pub byte_length-chars : (bs : List ℕ) → IsUtf8 bs → byte_length (chars bs) ≡ length bs
unfolding byte_length
byte_length-chars bs utf8 = ap length (encodes-chars bs utf8)

-- it has no more characters than bytes
pub length-chars-le : (bs : List ℕ) → IsUtf8 bs → length (chars bs) ≤ length bs
length-chars-le bs utf8 = omega (arith, length-le-encodes (chars bs), ap length (encodes-chars bs utf8))

-- a text without bytes has no characters
pub chars-empty : (bs : List ℕ) → length bs ≡ 0 → chars bs ≡ []
chars-empty bs none = ap chars (nil_from_length bs none) ∙ chars-nil

-- a text without characters has no bytes
pub empty_from_chars : (bs : List ℕ) → IsUtf8 bs → chars bs ≡ [] → length bs ≡ 0
unfolding byte_length
empty_from_chars bs utf8 none = sym (byte_length-chars bs utf8) ∙ ap byte_length none
