-- What each kind of token means for the written text.
use Rattle.std.proofs.Common.{◌≡◌, ℕ, Bool, true, false, ◌==◌, ◌&&◌, not, List, ◌∷◌, Option, None, Some, refl, ap, sym, ◌∙◌, if◌then◌else◌}
use Rattle.std.proofs.lemmas.Bool.{eqb-true}
use Rattle.tt_base.specs.declared.punct.Spacing.TheVariants.{Alone}
use Rattle.syntax_lex.specs.Class.{is_decimal, is_emoji_mark, is_id_continue, is_odd_rest}
use Rattle.syntax_lex.specs.Front.{behind, first, second, skip}
use Rattle.syntax_lex.specs.Opening.{opening, symbol}
use Rattle.syntax_lex.specs.Quoted.{apostrophe, begins_lifetime, begins_raw_lifetime, char_literal, literal, named, quoted_char}
use Rattle.syntax_lex.specs.Reading.{reading, reading_of}
use Rattle.syntax_lex.specs.Word.{begins_literal, word}
use Rattle.syntax_lex.specs.declared.opening.Family.{Family}
use Rattle.syntax_lex.specs.declared.opening.Family.TheVariants as opens
use Rattle.syntax_lex.specs.declared.token.DocStyle.{DocStyle}
use Rattle.syntax_lex.specs.declared.token.LiteralKind.{LiteralKind}
use Rattle.syntax_lex.specs.declared.token.LiteralKind.TheVariants.{Char}
use Rattle.syntax_lex.specs.declared.token.TokenKind.{TokenKind}
use Rattle.syntax_lex.specs.declared.token.TokenKind.TheVariants as kinds
use Rattle.syntax_parse.specs.Pieces.{punct_char, spacing_before}
use Rattle.syntax_parse.specs.Role.{role_in}
use Rattle.syntax_parse.specs.declared.bracket.Bracket.{Bracket}
use Rattle.syntax_parse.specs.declared.bracket.Bracket.TheVariants.{Parenthesis, Brace, Square}
use Rattle.syntax_parse.specs.declared.fault.BadToken.{BadToken}
use Rattle.syntax_parse.specs.declared.fault.BadToken.TheVariants as bad
use Rattle.syntax_parse.specs.declared.role.Role.TheVariants.{Bad, Nothing, Opens, Closes}
use Rattle.syntax_lex.proofs.Tables.{symbol_passes}

-- what a kind of token means for the written text
pub data Told : TokenKind → Type 0 where
  line : (style : DocStyle) → Told (kinds.LineComment (Some style))
  block : (style : DocStyle) → (terminated : Bool) → Told (kinds.BlockComment (Some style) terminated)
  blank : {kind : TokenKind} → ((text : List ℕ) → role_in kind text ≡ Nothing) → spacing_before (Some kind) ≡ Alone → Told kind
  wrong : {kind : TokenKind} → (why : BadToken) → ((text : List ℕ) → role_in kind text ≡ Bad why) → spacing_before (Some kind) ≡ Alone → Told kind
  opened : {kind : TokenKind} → (pair : Bracket) → ((text : List ℕ) → role_in kind text ≡ Opens pair) → spacing_before (Some kind) ≡ Alone → Told kind
  closed : {kind : TokenKind} → (pair : Bracket) → ((text : List ℕ) → role_in kind text ≡ Closes pair) → spacing_before (Some kind) ≡ Alone → Told kind
  word_token : Told kinds.Ident
  raw_word : Told kinds.RawIdent
  valued : (kind : LiteralKind) → (start : ℕ) → Told (kinds.Literal kind start)
  life_token : (digit : Bool) → Told (kinds.Lifetime digit)
  raw_life : Told kinds.RawLifetime
  sign : {kind : TokenKind} → (c : ℕ) → punct_char kind ≡ Some c → Told kind

pub told : (kind : TokenKind) → Told kind
told (kinds.LineComment None) = blank (λ text. refl) refl
told (kinds.LineComment (Some style)) = line style
told (kinds.BlockComment None true) = blank (λ text. refl) refl
told (kinds.BlockComment None false) = wrong bad.UnterminatedComment (λ text. refl) refl
told (kinds.BlockComment (Some style) terminated) = block style terminated
told kinds.Whitespace = blank (λ text. refl) refl
told kinds.Ident = word_token
told kinds.RawIdent = raw_word
told kinds.InvalidIdent = wrong bad.InvalidIdent (λ text. refl) refl
told kinds.UnknownPrefix = wrong bad.UnknownPrefix (λ text. refl) refl
told kinds.UnknownPrefixLifetime = wrong bad.UnknownPrefix (λ text. refl) refl
told kinds.GuardedStrPrefix = wrong bad.GuardedPrefix (λ text. refl) refl
told kinds.Unknown = wrong bad.UnknownCharacter (λ text. refl) refl
told (kinds.Literal kind start) = valued kind start
told (kinds.Lifetime digit) = life_token digit
told kinds.RawLifetime = raw_life
told kinds.OpenParen = opened Parenthesis (λ text. refl) refl
told kinds.OpenBrace = opened Brace (λ text. refl) refl
told kinds.OpenBracket = opened Square (λ text. refl) refl
told kinds.CloseParen = closed Parenthesis (λ text. refl) refl
told kinds.CloseBrace = closed Brace (λ text. refl) refl
told kinds.CloseBracket = closed Square (λ text. refl) refl
told kind = sign _ refl

-- whether a character is that of a punct, if there is one
is_of : ℕ → Option ℕ → Bool
is_of d None = true
is_of d (Some n) = d == n

-- a character that gives this punct is the punct's
symbol_back : (d c : ℕ) → punct_char (symbol d) ≡ Some c → d ≡ c
unfolding is_of
symbol_back d c h = eqb-true d c (sym (ap (is_of d) h) ∙ symbol_passes (λ n kind. is_of n (punct_char kind)) refl d refl)

-- no other token is a punct
pub no_punct : (c : ℕ) → None ≡ Some c → ⊥
no_punct c h = cc

abbrev pub word_as : (quote emoji : Bool) → List ℕ → TokenKind × List ℕ
word_as quote emoji cs = if quote then (kinds.UnknownPrefix, cs) else (if emoji then (kinds.InvalidIdent, behind is_odd_rest cs) else (kinds.Ident, cs))

-- the kinds of words
pub word_kind : (P : TokenKind → Type 0) → P kinds.UnknownPrefix → P kinds.InvalidIdent → P kinds.Ident → (cs : List ℕ) → P (word cs).0
unfolding word
word_kind P prefix odd plain cs = by (begins_literal (first (behind is_id_continue cs))) (is_emoji_mark (first (behind is_id_continue cs)))
  where
    by : (quote emoji : Bool) → P (word_as quote emoji (behind is_id_continue cs)).0
    by true emoji = prefix
    by false true = odd
    by false false = plain

abbrev pub named_as : (text : List ℕ) → (quote hash digit : Bool) → (left : List ℕ) → TokenKind × List ℕ
named_as text quote hash digit left = if quote then literal text (Char true) false (skip left) else (if hash then (kinds.UnknownPrefixLifetime, left) else (kinds.Lifetime digit, left))

abbrev pub lifetime_as : (text : List ℕ) → (begins raw : Bool) → (cs left : List ℕ) → TokenKind × List ℕ
lifetime_as text begins raw cs left =
    if begins then (if raw then (kinds.RawLifetime, behind is_id_continue (skip (skip (skip cs)))) else named text (is_decimal (first cs)) left) else char_literal text (quoted_char cs)

-- the kinds of what a quote begins
pub apostrophe_kind : (P : TokenKind → Type 0) → P kinds.RawLifetime → P kinds.UnknownPrefixLifetime → ((digit : Bool) → P (kinds.Lifetime digit)) → ((closed : Bool) → (start : ℕ) → P (kinds.Literal (Char closed) start))
    → (text cs : List ℕ) → P (apostrophe text cs).0
unfolding apostrophe literal
apostrophe_kind P raw prefix life char text cs = go (begins_lifetime cs) (begins_raw_lifetime cs)
  where
    left : List ℕ
    left = behind is_id_continue (skip cs)

    named_is : (quote hash digit : Bool) → P (named_as text quote hash digit left).0
    named_is true hash digit = char _ _
    named_is false true digit = prefix
    named_is false false digit = life digit

    go : (b w : Bool) → P (lifetime_as text b w cs left).0
    go true true = raw
    go true false = named_is (first left == 39) ((first left == 35) && not (is_decimal (first cs))) (is_decimal (first cs))
    go false w = char _ _

-- a punct is its character, and takes it alone
pub punct_back : (d : ℕ) (ds : List ℕ) (c : ℕ) → punct_char (reading (d ∷ ds)).0 ≡ Some c → (d ≡ c) × ((reading (d ∷ ds)).1 ≡ ds)
unfolding reading reading_of literal
punct_back d ds c = go (opening d (first ds) (second ds))
  where
    go : (family : Family) → punct_char (reading_of family (d ∷ ds) ds).0 ≡ Some c → (d ≡ c) × ((reading_of family (d ∷ ds) ds).1 ≡ ds)
    go opens.Symbol h = (symbol_back d c h, refl)
    go opens.Word h = absurd (no_punct c (sym (word_kind (λ k. punct_char k ≡ None) refl refl refl ds) ∙ h))
    go opens.Apostrophe h = absurd (no_punct c (sym (apostrophe_kind (λ k. punct_char k ≡ None) refl refl (λ digit. refl) (λ closed start. refl) (d ∷ ds) ds) ∙ h))
    go family h = absurd (no_punct c h)
