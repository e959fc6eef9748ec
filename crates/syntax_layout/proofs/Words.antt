-- Tokens that depend only on their own text, and what they may touch.
use Rattle.std.proofs.Common.{◌≡◌, ◌≢◌, ℕ, ◌+◌, ◌<◌, ◌&&◌, ◌||◌, Bool, true, false, ◌==◌, List, [], ◌∷◌, ◌++◌, length, take, drop, refl, sym, ap, ap₂, ◌∙◌, arith}
use Rattle.std.proofs.lemmas.Bool.{false≢true, and_parts, eq-eqb, eqb-true, ltb-true}
use Rattle.std.proofs.lemmas.Str.{IsUtf8-append, chars-append, chars-nil}
use Rattle.std.proofs.Math.Seq.{drop-append_seam, take-append_seam}
use Rattle.std.specs.Prelude.{nat_lt}
use Rattle.std.specs.Str.{chars, IsUtf8}
use Rattle.syntax_edit.proofs.Seams.{empty_front}
use Rattle.syntax_edit.proofs.Tokens.{kept_more, token_alone, token_parted}
use Rattle.syntax_edit.proofs.Words.{first_word}
use Rattle.syntax_edit.specs.Kept.{is_parting, is_sound}
use Rattle.syntax_edit.specs.Whole.{is_whole}
use Rattle.syntax_lex.proofs.KeepFacts.{one_of}
use Rattle.syntax_lex.proofs.TwinWords.{byte_length-append, byte_length-is}
use Rattle.syntax_lex.specs.Stops.{is_ended}
use Rattle.syntax_layout.specs.Layout.{ends_before, stays_before}
use Rattle.syntax_lex.proofs.FrontFacts.{byte_length-chars}
use Rattle.syntax_lex.proofs.TokenFacts.{token_is}
use Rattle.syntax_lex.specs.Front.{byte_length}
use Rattle.syntax_lex.specs.Reading.{first_token_of, reading}
use Rattle.syntax_lex.specs.declared.token.Token.{Token}
use Rattle.syntax_lex.specs.declared.token.TokenKind.{TokenKind}
use Rattle.syntax_lex.specs.declared.token.TokenKind.TheVariants as kinds
use Rattle.syntax_unparse.proofs.Chunks.{Chunk, IsChunk}
use Rattle.syntax_unparse.proofs.Fronts.{ascii_first, text}

pub whole_sound : (kind : TokenKind) → is_whole kind ≡ true → is_sound kind ≡ true
whole_sound (kinds.LineComment doc) h = refl
whole_sound (kinds.BlockComment doc terminated) h = absurd (false≢true h)
whole_sound kinds.InvalidIdent h = absurd (false≢true h)
whole_sound kinds.UnknownPrefix h = absurd (false≢true h)
whole_sound kinds.UnknownPrefixLifetime h = absurd (false≢true h)
whole_sound kinds.GuardedStrPrefix h = absurd (false≢true h)
whole_sound (kinds.Literal kind start) h = h
whole_sound kind h = refl

whole_ended : (kind : TokenKind) → is_whole kind ≡ true → is_ended kind ≡ true
whole_ended (kinds.LineComment doc) h = absurd (false≢true h)
whole_ended (kinds.BlockComment doc terminated) h = absurd (false≢true h)
whole_ended kinds.Whitespace h = absurd (false≢true h)
whole_ended (kinds.Literal kind start) h = h
whole_ended kind h = refl

-- a chunk that depends only on its own text
pub record IsWord (x : Chunk) : Type 0 where
  pub utf8 : IsUtf8 x.text
  pub some : chars x.text ≢ []
  pub alone : reading (chars x.text) ≡ (x.kind, [])
  pub whole : is_whole x.kind ≡ true

pub word_is : (x : Chunk) (xs : List Chunk) → IsChunk x xs → is_whole x.kind ≡ true → IsWord x
word_is x xs it whole = record { utf8 = it.utf8; some = it.some; alone = token_alone (chars x.text) (text xs) x.kind it.some it.reads whole; whole = whole }

-- a token that is found to stay the same is read so
stays : (x : Chunk) (next : List ℕ) → IsWord x → IsUtf8 next → stays_before x.text next ≡ true → reading (chars x.text ++ chars next) ≡ (x.kind, chars next)
stays x next it utf8 h =
    let whole = x.text ++ next in
    let token = first_token_of (chars whole) in
    let both = and_parts (token.len == length x.text) (is_whole token.kind) h in
    let letters : chars whole ≡ chars x.text ++ chars next = chars-append x.text next it.utf8 in
    let w = first_word whole token (IsUtf8-append x.text next it.utf8 utf8) (λ e. it.some (empty_front (chars x.text) (chars next) (sym letters ∙ e))) refl in
    let len : token.len ≡ length x.text = eqb-true token.len (length x.text) both.0 in
    let front : take token.len whole ≡ x.text = ap (λ n. take n whole) len ∙ take-append_seam x.text next in
    let rest : drop token.len whole ≡ next = ap (λ n. drop n whole) len ∙ drop-append_seam x.text next in
    let read : reading (chars x.text ++ chars next) ≡ (token.kind, chars next) = ap₂ (λ a b. reading (chars a ++ chars b)) (sym front) (sym rest) ∙ w.read ∙ ap (λ t. (token.kind, chars t)) rest in
    let alone = token_alone (chars x.text) (chars next) token.kind it.some read both.1 in
    read ∙ ap (λ p. (p.0, chars next)) (sym alone ∙ it.alone)

-- a token that is read so is found to stay the same
stays_back : (x : Chunk) (next : List ℕ) → IsWord x → IsUtf8 next → reading (chars x.text ++ chars next) ≡ (x.kind, chars next) → stays_before x.text next ≡ true
stays_back x next it utf8 read =
    let whole = chars (x.text ++ next) in
    let letters : whole ≡ chars x.text ++ chars next = chars-append x.text next it.utf8 in
    let len : byte_length whole ≡ length x.text + byte_length (chars next) =
    omega (arith, ap byte_length letters, byte_length-append (chars x.text) (chars next), byte_length-is (chars x.text), byte_length-chars x.text it.utf8) in
    let token : first_token_of whole ≡ record { kind = x.kind; len = length x.text } =
    sym (token_is x.kind (length x.text) whole (chars next) (ap reading letters ∙ read) (omega (arith, len))) in
    ap (λ (t : Token). (t.len == length x.text) && is_whole t.kind) token ∙ ap₂ (λ a b. a && b) (eq-eqb (length x.text) (length x.text) refl) it.whole

-- white space of ASCII, a bracket, a comma or a semicolon ends the token
before_parting : (x : Chunk) (b : ℕ) (more : List ℕ) → IsWord x → is_parting b ≡ true → reading (chars x.text ++ b ∷ more) ≡ (x.kind, b ∷ more)
before_parting x b more it parts = token_parted (chars x.text) more b x.kind it.some it.alone (whole_sound x.kind it.whole) (whole_ended x.kind it.whole) parts

pub before_space : (x : Chunk) (more : List ℕ) → IsWord x → reading (chars x.text ++ 32 ∷ more) ≡ (x.kind, 32 ∷ more)
before_space x more it = before_parting x 32 more it refl

parting_low : (b : ℕ) → is_parting b ≡ true → b < 128
parting_low b is = ltb-true b 128 (one_of (λ n. nat_lt n 128) 9 (10 ∷ 13 ∷ 44 ∷ 59 ∷ 32 ∷ 40 ∷ 41 ∷ 91 ∷ 93 ∷ 123 ∷ 125 ∷ []) refl b is)

-- a token that is found to end is found to stay the same
ends_stays : (x : Chunk) (next : List ℕ) → IsWord x → IsUtf8 next → ends_before x.text next ≡ true → stays_before x.text next ≡ true
ends_stays x [] it utf8 h = h
ends_stays x (b ∷ next) it utf8 h = by (is_parting b) refl h
  where
    by : (p : Bool) → is_parting b ≡ p → (p || stays_before x.text (b ∷ next)) ≡ true → stays_before x.text (b ∷ next) ≡ true
    by false e k = k
    by true e k =
        let letters : chars (b ∷ next) ≡ b ∷ chars next = ascii_first b next (parting_low b e) in
        stays_back x (b ∷ next) it utf8 (ap (λ t. reading (chars x.text ++ t)) letters ∙ before_parting x b (chars next) it e ∙ ap (λ t. (x.kind, t)) (sym letters))

-- so the token is the same before that and whatever follows
pub ends_more : (x : Chunk) (next : List ℕ) (more : List ℕ) → IsWord x → IsUtf8 next → chars next ≢ [] → ends_before x.text next ≡ true
    → reading (chars x.text ++ (chars next ++ more)) ≡ (x.kind, chars next ++ more)
ends_more x next more it utf8 some h = kept_more (chars x.text) (chars next) more x.kind it.some some (stays x next it utf8 (ends_stays x next it utf8 h)) (whole_sound x.kind it.whole)

stays_longer : (x : Chunk) (next more : List ℕ) → IsWord x → IsUtf8 next → IsUtf8 more → chars next ≢ [] → stays_before x.text next ≡ true → stays_before x.text (next ++ more) ≡ true
stays_longer x next more it utf8 fine some h =
    let letters : chars (next ++ more) ≡ chars next ++ chars more = chars-append next more utf8 in
    let read = kept_more (chars x.text) (chars next) (chars more) x.kind it.some some (stays x next it utf8 h) (whole_sound x.kind it.whole) in
    stays_back x (next ++ more) it (IsUtf8-append next more utf8 fine) (ap (λ t. reading (chars x.text ++ t)) letters ∙ read ∙ ap (λ t. (x.kind, t)) (sym letters))

-- and a token that ends before a text also ends before a longer text
pub ends_longer : (x : Chunk) (next more : List ℕ) → IsWord x → IsUtf8 next → IsUtf8 more → chars next ≢ [] → ends_before x.text next ≡ true → ends_before x.text (next ++ more) ≡ true
ends_longer x [] more it utf8 fine some h = absurd (some chars-nil)
ends_longer x (b ∷ next) more it utf8 fine some h = by (is_parting b) refl h
  where
    by : (p : Bool) → is_parting b ≡ p → (p || stays_before x.text (b ∷ next)) ≡ true → (is_parting b || stays_before x.text (b ∷ (next ++ more))) ≡ true
    by true e k = ap (λ p. p || stays_before x.text (b ∷ (next ++ more))) e
    by false e k = ap (λ p. p || stays_before x.text (b ∷ (next ++ more))) e ∙ stays_longer x (b ∷ next) more it utf8 fine some k
