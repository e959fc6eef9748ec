-- What a loop over the tokens of a text keeps: any tokens of the rest complete those of the text.
use Rattle.std.proofs.Common.{◌≡◌, ℕ, ◌<◌, true, false, List, [], ◌∷◌, length, take, drop, Option, None, Some, refl, sym, ap, ◌∙◌, subst, cond, arith}
use Rattle.std.specs.Str.{chars, IsUtf8}
use Rattle.syntax_lex.specs.Reading.{AreTokensOf, first_token_of}
use Rattle.syntax_lex.specs.declared.token.Token.{Token}
use Rattle.syntax_lex.proofs.FrontFacts.{chars-empty, empty_from_chars}
use Rattle.syntax_parse.proofs.TextFacts.{cut, tokens_exist}
use Rattle.app_files.specs.RecursionLimit.{IsLimit, IsNumberIn, SetsLimit, literal_at, literal_in}
use Rattle.app_files.specs.TokenWords.{Word, is_trivia, words_of}
use Rattle.app_files.specs.declared.recursion_limit.Front.{Front}
use Rattle.app_files.specs.declared.recursion_limit.Front.TheVariants as front

-- these tokens complete those of the text
pub record Completes (text rest : List ℕ) (it : Front) (more : List Token) : Type 0 where
  pub tokens : List Token
  pub read : AreTokensOf tokens (chars text)
  pub same : literal_at it (words_of rest more) ≡ literal_in 0 (words_of text tokens)

-- any tokens of the rest complete those of the text
abbrev pub IsAhead : (text rest : List ℕ) → Front → Type 0
IsAhead text rest it = (more : List Token) → AreTokensOf more (chars rest) → Completes text rest it more

pub ahead_start : (text : List ℕ) → IsAhead text text front.Whole
ahead_start text more are = record { tokens = more; read = are; same = refl }

-- a token before the tokens of the rest after it
one_before : (rest behind : List ℕ) (token : Token) (more : List Token) → IsUtf8 rest → 0 < length rest → token ≡ first_token_of (chars rest) → behind ≡ drop token.len rest
    → AreTokensOf more (chars behind) → AreTokensOf (token ∷ more) (chars rest)
one_before rest behind token more utf8 some is left are = (
  (λ none. absurd (omega (arith, empty_from_chars rest utf8 none))),
  is,
  subst (λ cs. AreTokensOf more cs) (ap chars left ∙ ap (λ t. chars (drop t.len rest)) is ∙ (cut rest utf8 some).left) are,
)

-- white space and comments add no word
trivia_words : (rest behind : List ℕ) (token : Token) (more : List Token) → behind ≡ drop token.len rest → is_trivia token.kind ≡ true
    → words_of behind more ≡ words_of rest (token ∷ more)
trivia_words rest behind token more left trivia =
    ap (λ text. words_of text more) left
    ∙ sym (ap (λ b. cond b (words_of (drop token.len rest) more) (take token.len rest ∷ words_of (drop token.len rest) more)) trivia)

-- any other token adds its own
more_words : (rest word behind : List ℕ) (token : Token) (more : List Token) → word ≡ take token.len rest → behind ≡ drop token.len rest → is_trivia token.kind ≡ false
    → word ∷ words_of behind more ≡ words_of rest (token ∷ more)
more_words rest word behind token more word_is left some =
    ap (λ text. word ∷ words_of text more) left
    ∙ ap (λ it. it ∷ words_of (drop token.len rest) more) word_is
    ∙ sym (ap (λ b. cond b (words_of (drop token.len rest) more) (take token.len rest ∷ words_of (drop token.len rest) more)) some)

pub ahead_trivia : (text rest behind : List ℕ) (it : Front) (token : Token) → IsUtf8 rest → 0 < length rest → token ≡ first_token_of (chars rest)
    → behind ≡ drop token.len rest → is_trivia token.kind ≡ true → IsAhead text rest it → IsAhead text behind it
ahead_trivia text rest behind it token utf8 some is left trivia ahead more are =
    let all = ahead (token ∷ more) (one_before rest behind token more utf8 some is left are) in record {
      tokens = all.tokens;
      read = all.read;
      same = ap (literal_at it) (trivia_words rest behind token more left trivia) ∙ all.same;
    }

pub ahead_word : (text rest word behind : List ℕ) (it after : Front) (token : Token) → IsUtf8 rest → 0 < length rest → token ≡ first_token_of (chars rest)
    → word ≡ take token.len rest → behind ≡ drop token.len rest → is_trivia token.kind ≡ false
    → ((words : List Word) → literal_at after words ≡ literal_at it (word ∷ words)) → IsAhead text rest it → IsAhead text behind after
ahead_word text rest word behind it after token utf8 some is word_is left counts step ahead more are =
    let all = ahead (token ∷ more) (one_before rest behind token more utf8 some is left are) in record {
      tokens = all.tokens;
      read = all.read;
      same = step (words_of behind more) ∙ ap (literal_at it) (more_words rest word behind token more word_is left counts) ∙ all.same;
    }

-- without more words no literal is set
none_left : (it : Front) → literal_at it [] ≡ None
none_left front.Whole = refl
none_left front.Sign = refl
none_left front.Bang = refl
none_left front.Open = refl
none_left front.Name = refl
none_left front.Equals = refl
none_left (front.Inside others) = refl
none_left front.Behind = refl

-- the limit, if the literal is known
set_by : (text : List ℕ) (tokens : List Token) (literal : Option Word) (limit : Option ℕ) → AreTokensOf tokens (chars text)
    → literal ≡ literal_in 0 (words_of text tokens) → IsLimit literal limit → SetsLimit text limit
set_by text tokens literal limit are same is = (tokens, are, subst (λ it. IsLimit it limit) same is)

pub ahead_end : (text rest : List ℕ) (it : Front) → length rest ≡ 0 → IsAhead text rest it → SetsLimit text None
ahead_end text rest it none ahead =
    let all = ahead [] (chars-empty rest none) in
    set_by text all.tokens None None all.read (sym (none_left it) ∙ all.same) refl

pub ahead_behind : (text rest : List ℕ) → IsAhead text rest front.Behind → SetsLimit text None
ahead_behind text rest ahead =
    let more = tokens_exist (length (chars rest)) (chars rest) (omega arith) in
    let all = ahead more.0 more.1 in
    set_by text all.tokens None None all.read all.same refl

pub ahead_equals : (text rest word : List ℕ) (token : Token) (limit : Option ℕ) → IsUtf8 rest → 0 < length rest → token ≡ first_token_of (chars rest)
    → word ≡ take token.len rest → is_trivia token.kind ≡ false → IsNumberIn word limit → IsAhead text rest front.Equals → SetsLimit text limit
ahead_equals text rest word token limit utf8 some is word_is counts number ahead =
    let behind = drop token.len rest in
    let more = tokens_exist (length (chars behind)) (chars behind) (omega arith) in
    let all = ahead (token ∷ more.0) (one_before rest behind token more.0 utf8 some is refl more.1) in
    set_by text all.tokens (Some word) limit all.read
    (ap (literal_at front.Equals) (more_words rest word behind token more.0 word_is refl counts) ∙ all.same) number
