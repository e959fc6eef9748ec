-- The one token of a text.
use Rattle.std.proofs.Common.{◌≡◌, ℕ, ◌<◌, List, [], ◌∷◌, length, take, refl, sym, ap, ◌∙◌, subst, arith}
use Rattle.std.proofs.Math.Seq.{take-length}
use Rattle.std.proofs.lemmas.Str.{chars-nil}
use Rattle.std.specs.Str.{chars}
use Rattle.syntax_lex.specs.Reading.{first_token_of, reading}
use Rattle.syntax_lex.specs.declared.token.TokenKind.{TokenKind}
use Rattle.syntax_parse.specs.Role.{role_in}
use Rattle.syntax_parse.specs.Scanned.{IsScanned}
use Rattle.syntax_parse.specs.declared.role.Role.TheVariants.{Leaf}
use Rattle.syntax_parse.proofs.ScanFacts.{word_scanned}
use Rattle.syntax_unparse.specs.Writable.{IsOneToken, first_kind}

-- an empty text is no token
no_token : (text : List ℕ) → role_in (first_token_of []).kind text ≡ Leaf → ⊥
unfolding first_token_of reading
no_token text h = cc

-- so the text of one token is not empty
pub some_token : (text : List ℕ) → IsOneToken text → 0 < length text
some_token [] one = absurd (no_token [] (ap (λ t. role_in (first_token_of t).kind []) (sym chars-nil) ∙ one.fine))
some_token (byte ∷ bytes) one = omega arith

-- the scan of a literal that takes all of a text fits the text
pub scanned_alone : (text : List ℕ) (kind : TokenKind) → kind ≡ first_kind text → IsOneToken text → IsScanned kind text
scanned_alone text kind is one =
    subst (λ k. IsScanned k text) (sym is)
    (word_scanned text text (first_token_of (chars text)) one.utf8 (some_token text one) refl (sym (ap (λ n. take n text) one.whole ∙ take-length text)) one.fine)
