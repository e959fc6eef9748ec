-- The tokens of a text: there is one list of them, and they take all bytes.
use Rattle.std.proofs.Common.{◌≡◌, ℕ, ◌+◌, ◌-◌, ◌<◌, ◌≤◌, List, [], ◌∷◌, length, sym, ap, ap₂, ◌∙◌, refl, subst, arith, length-append}
use Rattle.std.specs.Prelude.{encode_utf8, encode_utf8_all}
use Rattle.syntax_lex.specs.Ends.{IsEnd, whole, later}
use Rattle.syntax_lex.specs.Front.{byte_length}
use Rattle.syntax_lex.specs.Reading.{AreTokensOf, bytes_of, first_token_of, reading}
use Rattle.syntax_lex.specs.declared.token.Token.{Token}
use Rattle.syntax_lex.specs.declared.token.TokenKind.{TokenKind}
use Rattle.std.specs.Iterator.{Drains}
use Rattle.std.specs.Str.{chars}
use Rattle.syntax_lex.specs.Tokens.{gives}
use Rattle.syntax_lex.specs.declared.tokens.Tokenize.{Tokenize}
use Rattle.syntax_lex.proofs.EndFacts.{reading_end}
use Rattle.syntax_lex.proofs.FrontFacts.{encode_utf8_nonempty}

pub byte_length-cons : (c : ℕ) (cs : List ℕ) → byte_length (c ∷ cs) ≡ length (encode_utf8 c) + byte_length cs
unfolding byte_length
byte_length-cons c cs = length-append (encode_utf8 c) (encode_utf8_all cs)

pub byte_length-nil : byte_length [] ≡ 0
unfolding byte_length
byte_length-nil = refl

-- an end takes no more bytes
pub byte_length-end : {rest text : List ℕ} → IsEnd rest text → byte_length rest ≤ byte_length text
byte_length-end whole = omega arith
byte_length-end {rest = rest} (later {c = c} {text = text} h) = omega (arith, byte_length-cons c text, byte_length-end h)

-- the bytes of the first token of a text that begins with a character
pub len_first : (c : ℕ) (cs : List ℕ) → (0 < (first_token_of (c ∷ cs)).len) × ((first_token_of (c ∷ cs)).len + byte_length (reading (c ∷ cs)).1 ≡ byte_length (c ∷ cs))
unfolding first_token_of
len_first c cs =
    let le = byte_length-end (reading_end c cs) in
    (omega (arith, byte_length-cons c cs, encode_utf8_nonempty c), omega (arith, byte_length-cons c cs))

-- no other tokens are those of the text
pub one_list : (a b : List Token) (text : List ℕ) → AreTokensOf a text → AreTokensOf b text → a ≡ b
one_list [] [] text h k = refl
one_list [] (y ∷ ys) text h k = absurd (k.0 h)
one_list (x ∷ xs) [] text h k = absurd (h.0 k)
one_list (x ∷ xs) (y ∷ ys) text h k = ap₂ (λ t ts. t ∷ ts) (h.1 ∙ sym k.1) (one_list xs ys (reading text).1 h.2 k.2)

-- together the tokens take the bytes of the text
pub all_bytes : (tokens : List Token) (text : List ℕ) → AreTokensOf tokens text → bytes_of tokens ≡ byte_length text
all_bytes [] text h = sym (ap byte_length h ∙ byte_length-nil)
all_bytes (t ∷ ts) [] h = absurd (h.0 refl)
all_bytes (t ∷ ts) (c ∷ cs) h = omega (arith, ap (λ x. x.len) h.1, (len_first c cs).1, all_bytes ts (reading (c ∷ cs)).1 h.2)

-- the reading of a text is its first token
pub token_is : (k : TokenKind) (n : ℕ) (cs rest : List ℕ) → reading cs ≡ (k, rest) → n ≡ byte_length cs - byte_length rest → ◌≡◌ {A = Token} (record { kind = k; len = n }) (first_token_of cs)
unfolding first_token_of
token_is k n cs rest read len = rw (read, len) refl

-- the calls of `next` give the tokens of the text
pub in_order : (s : Tokenize) (tokens : List Token) → Drains gives s tokens → AreTokensOf tokens (chars s.rest.now)
in_order s [] (u, (t, same, none)) = ap (λ x. chars x.rest.now) same ∙ none.0
in_order s (token ∷ tokens) (u, (t, (j, given, others), none)) =
    (given.0, given.1, subst (AreTokensOf tokens) given.2 (in_order j tokens (u, (t, others, none))))
