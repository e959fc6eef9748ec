-- A token ends before a text exactly if it is read alone, and is clear of the next two characters.
use Rattle.std.proofs.Common.{◌≡◌, ◌≢◌, ◌↔◌, inl, ℕ, true, List, [], ◌∷◌, ◌++◌, length, take, refl, sym, ap, ◌∙◌, arith, append-nil}
use Rattle.syntax_lex.specs.Front.{first, second}
use Rattle.syntax_lex.specs.Reading.{reading}
use Rattle.syntax_lex.specs.declared.token.TokenKind.{TokenKind}
use Rattle.syntax_lex.proofs.KeepFacts.{plain_null}
use Rattle.syntax_lex.proofs.ReadKeeps.{ended_apart, sound_known, sound_shut}
use Rattle.syntax_lex.proofs.TwinReads.{token_twin}
use Rattle.syntax_lex.proofs.Twins.{Next, alike, plain, ended as no_less}
use Rattle.syntax_lex.specs.Clear.{Clear}
use Rattle.syntax_lex.specs.Stops.{is_ended, is_sound}

-- a token that ends before a text also ends before another text that continues in the same way
goes_on : (c : ℕ) (cs r s : List ℕ) (kind : TokenKind) → Next r s → is_sound kind ≡ true → is_ended kind ≡ true → reading (c ∷ (cs ++ r)) ≡ (kind, r) → reading (c ∷ (cs ++ s)) ≡ (kind, s)
goes_on c cs r s kind next sound ended read = token_twin c cs [] r s kind read (record {
  fits = record { stays = no_less (omega arith) next; shut = sound_shut kind sound; known = inl (sound_known kind sound) };
  apart = ended_apart r s r kind ended;
  pointless = λ is. inl (λ e. omega (arith, ap length e));
})

-- the first and the second character of the first two are those of the text
first_two : (r : List ℕ) → (first (take 2 r) ≡ first r) × (second (take 2 r) ≡ second r)
first_two [] = (refl, refl)
first_two (c ∷ []) = (refl, refl)
first_two (c ∷ d ∷ cs) = (refl, refl)

pub token_clear : (text rest : List ℕ) (kind : TokenKind) → text ≢ [] → is_sound kind ≡ true → is_ended kind ≡ true → (reading (text ++ rest) ≡ (kind, rest)) ↔ ((reading text ≡ (kind, [])) × Clear kind text rest)
token_clear [] rest kind some sound ended = absurd (some refl)
token_clear (c ∷ cs) rest kind some sound ended = (
  (λ read. (
    ap (λ t. reading (c ∷ t)) (sym (append-nil cs)) ∙ goes_on c cs rest [] kind (plain plain_null) sound ended read,
    goes_on c cs rest (take 2 rest) kind (alike (sym (first_two rest).0) (sym (first_two rest).1)) sound ended read,
  )),
  (λ both. goes_on c cs (take 2 rest) rest kind (alike (first_two rest).0 (first_two rest).1) sound ended both.1),
)
