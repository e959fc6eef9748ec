-- What a loop over the tokens of a text keeps: any tokens of the rest complete those of the text.
use Rattle.std.proofs.Common.{◌≡◌, ℕ, ◌+◌, ◌<◌, List, [], ◌∷◌, ◌++◌, length, take, drop, Option, Ok, Err, refl, sym, ap, ◌∙◌, subst, arith, append_assoc, append-nil}
use Rattle.std.specs.Str.{chars, IsUtf8}
use Rattle.tt_base.specs.Building.{most_held, open_kinds}
use Rattle.tt.specs.FlatHeld.{Held, built}
use Rattle.tt_base.specs.Forest.{Root}
use Rattle.tt_base.specs.declared.span.SpanPart.{SpanPart}
use Rattle.syntax_lex.specs.Reading.{AreTokensOf, first_token_of}
use Rattle.syntax_lex.specs.declared.token.Token.{Token}
use Rattle.syntax_lex.proofs.FrontFacts.{chars-empty, empty_from_chars}
use Rattle.syntax_parse.specs.Faults.{fault_from, or_behind, step}
use Rattle.syntax_parse.specs.Limits.{HasManyTokens, token_count}
use Rattle.syntax_parse.specs.Parsed.{IsParse, IsTop, kind_ahead, next_kind, pieces_from, token_ahead}
use Rattle.syntax_parse.specs.Pieces.{pieces_of}
use Rattle.syntax_parse.specs.Refusal.{IsFaultOf}
use Rattle.syntax_parse.specs.Spelled.{Piece, spelled, spelled_so_far}
use Rattle.syntax_parse.specs.declared.fault.SyntaxFault.{SyntaxFault}
use Rattle.syntax_parse.specs.declared.fault.SyntaxFault.TheVariants.{Unclosed}
use Rattle.syntax_parse.specs.declared.fault.Open.{Open}
use Rattle.syntax_parse.proofs.Counts.{token_count-append}
use Rattle.syntax_parse.proofs.StackFacts.{spelled-bottom}
use Rattle.syntax_parse.proofs.TextFacts.{cut, next_is, tokens_exist}

-- these tokens complete those of the text
pub record Completes (part : SpanPart) (text rest : List ℕ) (held : List Piece) (opens : List Open) (at : ℕ) (more : List Token) : Type 0 where
  pub tokens : List Token
  pub read : AreTokensOf tokens (chars text)
  pub pieces : held ++ pieces_from part at rest more ≡ pieces_from part 0 text tokens
  pub faults : fault_from opens at rest more ≡ fault_from [] 0 text tokens

-- any tokens of the rest complete those of the text
abbrev pub IsAhead : SpanPart → (text rest : List ℕ) → List Piece → List Open → ℕ → Type 0
IsAhead part text rest held opens at = (more : List Token) → AreTokensOf more (chars rest) → Completes part text rest held opens at more

pub ahead_start : (part : SpanPart) (text : List ℕ) (held : List Piece) (opens : List Open) → held ≡ [] → opens ≡ [] → IsAhead part text text held opens 0
ahead_start part text held opens none nothing more are = record {
  tokens = more;
  read = are;
  pieces = ap (λ ps. ps ++ pieces_from part 0 text more) none;
  faults = ap (λ os. fault_from os 0 text more) nothing;
}

-- a token before the tokens of the rest after it
one_before : (rest behind : List ℕ) (token : Token) (more : List Token) → IsUtf8 rest → 0 < length rest → token ≡ first_token_of (chars rest) → behind ≡ drop token.len rest
    → AreTokensOf more (chars behind) → AreTokensOf (token ∷ more) (chars rest)
one_before rest behind token more utf8 some is left are = (
  (λ none. absurd (omega (arith, empty_from_chars rest utf8 none))),
  is,
  subst (λ cs. AreTokensOf more cs) (ap chars left ∙ ap (λ t. chars (drop t.len rest)) is ∙ (cut rest utf8 some).left) are,
)

pub ahead_step : (part : SpanPart) (text rest word behind : List ℕ) (held wider : List Piece) (opens after : List Open) (at : ℕ) (token : Token) (next : Option Token)
    → IsUtf8 rest → 0 < length rest → token ≡ first_token_of (chars rest) → next ≡ token_ahead (chars behind) → word ≡ take token.len rest → behind ≡ drop token.len rest
    → step opens at token.kind word ≡ Ok after → wider ≡ held ++ pieces_of part token.kind (kind_ahead next) at word
    → IsAhead part text rest held opens at → IsAhead part text behind wider after (at + token.len)
ahead_step part text rest word behind held wider opens after at token next utf8 some is next_token word_is left stepped holds ahead more are =
    let all = ahead (token ∷ more) (one_before rest behind token more utf8 some is left are) in
    let kind : kind_ahead next ≡ next_kind more = ap kind_ahead next_token ∙ next_is more (chars behind) are in record {
      tokens = all.tokens;
      read = all.read;
      pieces =
          ap (λ ps. ps ++ pieces_from part (at + token.len) behind more) holds
          ∙ append_assoc held (pieces_of part token.kind (kind_ahead next) at word) (pieces_from part (at + token.len) behind more)
          ∙ ap (λ k. held ++ (pieces_of part token.kind k at word ++ pieces_from part (at + token.len) behind more)) kind
          ∙ ap (λ w. held ++ (pieces_of part token.kind (next_kind more) at w ++ pieces_from part (at + token.len) behind more)) word_is
          ∙ ap (λ b. held ++ (pieces_of part token.kind (next_kind more) at (take token.len rest) ++ pieces_from part (at + token.len) b more)) left
          ∙ all.pieces;
      faults =
          ap (λ r. or_behind r (λ os. fault_from os (at + token.len) behind more)) (sym stepped)
          ∙ ap (λ w. or_behind (step opens at token.kind w) (λ os. fault_from os (at + token.len) behind more)) word_is
          ∙ ap (λ b. or_behind (step opens at token.kind (take token.len rest)) (λ os. fault_from os (at + token.len) b more)) left
          ∙ all.faults;
    }

pub ahead_fault : (part : SpanPart) (text rest word : List ℕ) (held : List Piece) (opens : List Open) (at : ℕ) (token : Token) (fault : SyntaxFault)
    → IsUtf8 rest → 0 < length rest → token ≡ first_token_of (chars rest) → word ≡ take token.len rest → step opens at token.kind word ≡ Err fault
    → IsAhead part text rest held opens at → IsFaultOf text fault
ahead_fault part text rest word held opens at token fault utf8 some is word_is stepped ahead =
    let behind = drop token.len rest in
    let more = tokens_exist (length (chars behind)) (chars behind) (omega arith) in
    let all = ahead (token ∷ more.0) (one_before rest behind token more.0 utf8 some is refl more.1) in record {
      tokens = all.tokens;
      read = all.read;
      first =
          sym all.faults
          ∙ ap (λ w. or_behind (step opens at token.kind w) (λ os. fault_from os (at + token.len) behind more.0)) (sym word_is)
          ∙ ap (λ r. or_behind r (λ os. fault_from os (at + token.len) behind more.0)) stepped;
    }

-- if a token makes more than a tree may hold, the text has too many
pub ahead_many : (part : SpanPart) (text rest word behind : List ℕ) (held : List Piece) (opens : List Open) (at : ℕ) (token : Token) (next : Option Token)
    → IsUtf8 rest → 0 < length rest → token ≡ first_token_of (chars rest) → next ≡ token_ahead (chars behind) → word ≡ take token.len rest → behind ≡ drop token.len rest
    → IsAhead part text rest held opens at → most_held < token_count (held ++ pieces_of part token.kind (kind_ahead next) at word) → HasManyTokens part text
ahead_many part text rest word behind held opens at token next utf8 some is next_token word_is left ahead many =
    let more = tokens_exist (length (chars behind)) (chars behind) (omega arith) in
    let all = ahead (token ∷ more.0) (one_before rest behind token more.0 utf8 some is left more.1) in
    let kind : kind_ahead next ≡ next_kind more.0 = ap kind_ahead next_token ∙ next_is more.0 (chars behind) more.1 in
    let now = pieces_of part token.kind (next_kind more.0) at (take token.len rest) in
    let later = pieces_from part (at + token.len) (drop token.len rest) more.0 in
    let these : pieces_of part token.kind (kind_ahead next) at word ≡ now = ap (λ k. pieces_of part token.kind k at word) kind ∙ ap (λ w. pieces_of part token.kind (next_kind more.0) at w) word_is in
    let so_far = token_count-append held (pieces_of part token.kind (kind_ahead next) at word) in
    let here = ap token_count these in
    let both = token_count-append now later in
    let total = token_count-append held (now ++ later) in
    let whole = ap token_count all.pieces in
    record { tokens = all.tokens; read = all.read; many = omega (arith, many, so_far, here, both, total, whole) }

pub ahead_unclosed : (part : SpanPart) (text rest : List ℕ) (held : List Piece) (opens before : List Open) (at : ℕ) (last : Open)
    → length rest ≡ 0 → opens ≡ last ∷ before → IsAhead part text rest held opens at → IsFaultOf text (Unclosed last.bracket last.at)
ahead_unclosed part text rest held opens before at last none some ahead =
    let all = ahead [] (chars-empty rest none) in record {
      tokens = all.tokens;
      read = all.read;
      first = sym all.faults ∙ ap (λ os. fault_from os at rest []) some;
    }

pub ahead_end : (part : SpanPart) (text rest : List ℕ) (s : Held) (root : Root) (opens : List Open) (at : ℕ)
    → length rest ≡ 0 → opens ≡ [] → open_kinds s.stack ≡ [] → root ≡ built s → IsTop part (length text) s.top → IsAhead part text rest (spelled_so_far s.stack) opens at → IsParse part text root
ahead_end part text rest s root opens at none nothing closed is top ahead =
    let all = ahead [] (chars-empty rest none) in record {
      tokens = all.tokens;
      read = all.read;
      fine = sym all.faults ∙ ap (λ os. fault_from os at rest []) nothing;
      top = subst (λ d. IsTop part (length text) d) (sym (ap (λ r. r.delimiter) is)) top;
      spells = ap (λ r. spelled r.children) is ∙ spelled-bottom s.stack closed ∙ sym (append-nil (spelled_so_far s.stack)) ∙ all.pieces;
    }
