-- A space before a visible character of ASCII is a token.
use Rattle.std.proofs.Common.{◌≡◌, ◌<◌, ◌-◌, ◌&&◌, ◌∙◌, ℕ, List, [], ◌∷◌, true, false, refl, sym, ap, arith, length}
use Rattle.std.proofs.lemmas.Bool.{false≢true}
use Rattle.std.specs.Char.{is_ascii_graphic}
use Rattle.std.specs.Prelude.{encode_utf8, slice_get}
use Rattle.std.specs.Str.{chars}
use Rattle.syntax_edit.proofs.KindFacts.{blank_read}
use Rattle.syntax_layout.specs.Passed.{is_next, is_there}
use Rattle.syntax_lex.proofs.TokenFacts.{byte_length-cons, token_is}
use Rattle.syntax_lex.proofs.Twins.{behind_none}
use Rattle.syntax_lex.specs.Class.{is_whitespace}
use Rattle.syntax_lex.specs.Front.{byte_length}
use Rattle.syntax_lex.specs.Reading.{first_token_of, reading}
use Rattle.syntax_lex.specs.declared.token.Token.{Token}
use Rattle.syntax_lex.specs.declared.token.TokenKind.TheVariants as kinds
use Rattle.syntax_unparse.proofs.Fronts.{ascii_first}

visible : (b : ℕ) → is_ascii_graphic b ≡ true → (b < 128) × (is_whitespace b ≡ false)
visible b h = grind arith

one_byte : length (encode_utf8 32) ≡ 1
unfolding lib.Utf8.encode
one_byte = refl

-- the first token of a text that begins so
pub space_first : (text : List ℕ) → (is_next (slice_get text 0) 32 && is_there is_ascii_graphic (slice_get text 1)) ≡ true → ◌≡◌ {A = Token} (record { kind = kinds.Whitespace; len = 1 }) (first_token_of (chars text))
space_first [] h = absurd (false≢true h)
space_first (a ∷ []) h = grind arith
space_first (a ∷ b ∷ more) h =
    let is : a ≡ 32 = grind arith in
    let seen = visible b (grind arith) in
    let letters : chars (32 ∷ b ∷ more) ≡ 32 ∷ b ∷ chars more = ascii_first 32 (b ∷ more) (omega arith) ∙ ap (λ t. 32 ∷ t) (ascii_first b more seen.0) in
    let read : reading (32 ∷ b ∷ chars more) ≡ (kinds.Whitespace, b ∷ chars more) =
    blank_read 32 (b ∷ chars more) refl ∙ ap (λ t. (kinds.Whitespace, t)) (behind_none is_whitespace (b ∷ chars more) seen.1) in
    let one : 1 ≡ byte_length (32 ∷ b ∷ chars more) - byte_length (b ∷ chars more) = omega (arith, byte_length-cons 32 (b ∷ chars more), one_byte) in
    token_is kinds.Whitespace 1 (32 ∷ b ∷ chars more) (b ∷ chars more) read one ∙ ap first_token_of (sym letters ∙ ap (λ c. chars (c ∷ b ∷ more)) (sym is))
