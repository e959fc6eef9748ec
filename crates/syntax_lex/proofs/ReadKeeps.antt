-- A token before a stop is the token before the end.
use Rattle.std.proofs.Common.{◌≡◌, ◌≢◌, inr, ℕ, true, false, List, [], ◌∷◌, ◌++◌, refl, ap, ◌∙◌, append-nil}
use Rattle.std.proofs.lemmas.Bool.{false≢true}
use Rattle.syntax_lex.specs.Front.{first}
use Rattle.syntax_lex.specs.Reading.{reading}
use Rattle.syntax_lex.specs.declared.token.TokenKind.{TokenKind}
use Rattle.syntax_lex.specs.declared.token.TokenKind.TheVariants as kinds
use Rattle.syntax_lex.proofs.KeepFacts.{IsPlain, plain_null, plain_stop}
use Rattle.syntax_lex.proofs.TwinReads.{Apart, token_twin}
use Rattle.syntax_lex.proofs.TwinWords.{is_prefix, is_shut}
use Rattle.syntax_lex.proofs.Twins.{short}
use Rattle.syntax_lex.specs.Stops.{Stops, is_ended, is_sound}

-- a token that is ended is closed, and no white space and no comment
pub ended_shut : (kind : TokenKind) → is_ended kind ≡ true → is_shut kind ≡ true
ended_shut (kinds.BlockComment doc terminated) h = absurd (false≢true h)
ended_shut (kinds.Literal kind start) h = h
ended_shut kind h = refl

pub ended_apart : (r s left : List ℕ) (kind : TokenKind) → is_ended kind ≡ true → Apart r s left kind
ended_apart r s left (kinds.LineComment doc) h = absurd (false≢true h)
ended_apart r s left kinds.Whitespace h = absurd (false≢true h)
ended_apart r s left kind h = tt

-- a sound token is closed, and no prefix
pub sound_shut : (kind : TokenKind) → is_sound kind ≡ true → is_shut kind ≡ true
sound_shut (kinds.BlockComment doc terminated) h = h
sound_shut (kinds.Literal kind start) h = h
sound_shut kind h = refl

pub sound_known : (kind : TokenKind) → is_sound kind ≡ true → is_prefix kind ≡ false
sound_known kinds.UnknownPrefix h = absurd (false≢true h)
sound_known kinds.UnknownPrefixLifetime h = absurd (false≢true h)
sound_known kind h = refl

-- a token that takes all of a text ends there before a plain character
pub token_plain : (text rest : List ℕ) (kind : TokenKind) → text ≢ [] → reading text ≡ (kind, []) → is_ended kind ≡ true → IsPlain (first rest) → reading (text ++ rest) ≡ (kind, rest)
token_plain [] rest kind some read ended plain = absurd (some refl)
token_plain (c ∷ cs) rest kind some read ended plain = token_twin c cs [] [] rest kind (ap (λ t. reading (c ∷ t)) (append-nil cs) ∙ read) (record {
  fits = record { stays = short tt plain; shut = ended_shut kind ended; known = inr (tt, refl) };
  apart = ended_apart [] rest [] kind ended;
  pointless = λ is. inr tt;
})

stops_plain : (rest : List ℕ) → Stops rest → IsPlain (first rest)
stops_plain [] stops = plain_null
stops_plain (c ∷ cs) stops = plain_stop c stops

-- and before a stop
pub token_ends : (text rest : List ℕ) (kind : TokenKind) → text ≢ [] → reading text ≡ (kind, []) → is_ended kind ≡ true → Stops rest → reading (text ++ rest) ≡ (kind, rest)
token_ends text rest kind some read ended stops = token_plain text rest kind some read ended (stops_plain rest stops)
