-- A text made of chunks. Each chunk is one token of it.
use Rattle.std.proofs.Common.{◌≡◌, ◌≢◌, ℕ, ◌+◌, ◌-◌, Bool, true, false, List, [], ◌∷◌, ◌++◌, length, take, drop, Option, None, Ok, Err, refl, sym, ap, ap₂, ◌∙◌, subst, arith, length-append, if◌then◌else◌}
use Rattle.std.proofs.lemmas.Bool.{false≢true}
use Rattle.std.proofs.Math.Seq.{drop-append_seam, take-append_seam}
use Rattle.std.proofs.Math.Utf8.{encodes}
use Rattle.std.proofs.lemmas.Str.{chars-append, chars-nil, encodes-append}
use Rattle.std.specs.Str.{chars, IsUtf8}
use Rattle.tt_base.specs.declared.span.SpanPart.{SpanPart}
use Rattle.syntax_lex.specs.Front.{byte_length}
use Rattle.syntax_lex.specs.Reading.{AreTokensOf, first_token_of, reading}
use Rattle.syntax_lex.specs.declared.token.Token.{Token}
use Rattle.syntax_lex.specs.declared.token.TokenKind.{TokenKind}
use Rattle.syntax_lex.proofs.FrontFacts.{byte_length-chars}
use Rattle.syntax_parse.specs.Faults.{fault_from, or_behind, step, step_as}
use Rattle.syntax_parse.specs.Parsed.{next_kind, pieces_from}
use Rattle.syntax_parse.specs.Pieces.{pieces_of}
use Rattle.syntax_parse.specs.Role.{role_in, same_bracket}
use Rattle.syntax_parse.specs.Spelled.{Piece, Sort}
use Rattle.syntax_parse.specs.declared.bracket.Bracket.{Bracket}
use Rattle.syntax_parse.specs.declared.fault.Open.{Open}
use Rattle.syntax_parse.specs.declared.fault.SyntaxFault.{SyntaxFault}
use Rattle.syntax_parse.specs.declared.fault.SyntaxFault.TheVariants.{Mismatched}
use Rattle.syntax_parse.specs.declared.role.Role.{Role}
use Rattle.syntax_parse.specs.declared.role.Role.TheVariants.{Bad, Nothing, Opens, Closes, Leaf}
use Rattle.syntax_unparse.specs.Settled.{sorts}

-- a part of a text that is one token: its text, its kind, its role and its meaning
pub record Chunk : Type 0 where
  pub text : List ℕ
  pub kind : TokenKind
  pub role : Role
  pub means : List Sort

-- the text of chunks
abbrev pub joined : List Chunk → List ℕ
joined [] = []
joined (chunk ∷ chunks) = chunk.text ++ joined chunks

-- the tokens of chunks
abbrev pub tokens_of : List Chunk → List Token
tokens_of [] = []
tokens_of (chunk ∷ chunks) = record { kind = chunk.kind; len = length chunk.text } ∷ tokens_of chunks

-- the meaning of chunks
abbrev pub means_of : List Chunk → List Sort
means_of [] = []
means_of (chunk ∷ chunks) = chunk.means ++ means_of chunks

-- the chunk is the first token before the others, and has the meaning that it gives
pub record IsChunk (chunk : Chunk) (chunks : List Chunk) : Type 0 where
  pub utf8 : IsUtf8 chunk.text
  pub some : chars chunk.text ≢ []
  pub reads : reading (chars chunk.text ++ chars (joined chunks)) ≡ (chunk.kind, chars (joined chunks))
  pub role : role_in chunk.kind chunk.text ≡ chunk.role
  pub means : (part : SpanPart) → (at : ℕ) → sorts (pieces_of part chunk.kind (next_kind (tokens_of chunks)) at chunk.text) ≡ chunk.means

abbrev pub AreChunks : List Chunk → Type 0
AreChunks [] = Unit {0}
AreChunks (chunk ∷ chunks) = IsChunk chunk chunks × AreChunks chunks

-- the characters of the first chunk, and those of the others
pub chars_joined : (chunk : Chunk) (chunks : List Chunk) → IsUtf8 chunk.text → chars (joined (chunk ∷ chunks)) ≡ chars chunk.text ++ chars (joined chunks)
chars_joined chunk chunks utf8 = chars-append chunk.text (joined chunks) utf8

byte_length-append : (xs ys : List ℕ) → byte_length (xs ++ ys) ≡ length (encodes xs) + byte_length ys
unfolding byte_length
byte_length-append xs ys = ap length (encodes-append xs ys) ∙ length-append (encodes xs) (encodes ys)

byte_length-is : (xs : List ℕ) → byte_length xs ≡ length (encodes xs)
unfolding byte_length
byte_length-is xs = refl

not_empty : (xs ys : List ℕ) → xs ≢ [] → xs ++ ys ≢ []
not_empty [] ys some e = some refl
not_empty (x ∷ xs) ys some e = cc

-- the first token of a text with this reading
token_is : (text : List ℕ) (kind : TokenKind) (left : List ℕ) → reading text ≡ (kind, left) → first_token_of text ≡ record { kind = kind; len = byte_length text - byte_length left }
unfolding first_token_of
token_is text kind left h = ap₂ (λ k l. record { kind = k; len = byte_length text - byte_length l }) (ap (λ p. p.0) h) (ap (λ p. p.1) h)

-- the tokens of chunks are those of their text
pub tokens_are : (chunks : List Chunk) → AreChunks chunks → AreTokensOf (tokens_of chunks) (chars (joined chunks))
tokens_are [] are = chars-nil
tokens_are (chunk ∷ chunks) are =
    let it = are.0 in
    let word = chars chunk.text in
    let left = chars (joined chunks) in
    let whole : chars (joined (chunk ∷ chunks)) ≡ word ++ left = chars_joined chunk chunks it.utf8 in
    let read : reading (chars (joined (chunk ∷ chunks))) ≡ (chunk.kind, left) = ap reading whole ∙ it.reads in
    let len : byte_length (chars (joined (chunk ∷ chunks))) - byte_length left ≡ length chunk.text =
    omega (arith, ap byte_length whole, byte_length-append word left, byte_length-is word, byte_length-chars chunk.text it.utf8) in (
      (λ e. not_empty word left it.some (sym whole ∙ e)),
      sym (token_is (chars (joined (chunk ∷ chunks))) chunk.kind left read ∙ ap (λ n. record { kind = chunk.kind; len = n }) len),
      subst (λ t. AreTokensOf (tokens_of chunks) t) (sym (ap (λ p. p.1) read)) (tokens_are chunks are.1),
    )

sorts-append : (xs ys : List Piece) → sorts (xs ++ ys) ≡ sorts xs ++ sorts ys
sorts-append [] ys = refl
sorts-append (x ∷ xs) ys = ap (λ t. x.sort ∷ t) (sorts-append xs ys)

-- the pieces of chunks are their meaning
pub pieces_are : (part : SpanPart) (at : ℕ) (chunks : List Chunk) → AreChunks chunks → sorts (pieces_from part at (joined chunks) (tokens_of chunks)) ≡ means_of chunks
pieces_are part at [] are = refl
pieces_are part at (chunk ∷ chunks) are =
    let n = length chunk.text in
    let rest = joined chunks in
    sorts-append (pieces_of part chunk.kind (next_kind (tokens_of chunks)) at (take n (chunk.text ++ rest))) (pieces_from part (at + n) (drop n (chunk.text ++ rest)) (tokens_of chunks))
    ∙ ap (λ t. sorts (pieces_of part chunk.kind (next_kind (tokens_of chunks)) at t) ++ sorts (pieces_from part (at + n) (drop n (chunk.text ++ rest)) (tokens_of chunks))) (take-append_seam chunk.text rest)
    ∙ ap (λ t. sorts (pieces_of part chunk.kind (next_kind (tokens_of chunks)) at chunk.text) ++ sorts (pieces_from part (at + n) t (tokens_of chunks))) (drop-append_seam chunk.text rest)
    ∙ ap₂ (λ a b. a ++ b) (are.0.means part at) (pieces_are part (at + n) chunks are.1)

-- what holds of the open brackets after a chunk of a role; false if the chunk cannot be there
abbrev pub match_as : List Bracket → Role → (List Bracket → Bool) → Bool
match_as before (Bad why) behind = false
match_as before Nothing behind = behind before
match_as before Leaf behind = behind before
match_as before (Opens pair) behind = behind (pair ∷ before)
match_as [] (Closes pair) behind = false
match_as (last ∷ before) (Closes pair) behind = if same_bracket last pair then behind before else false

-- whether the brackets of chunks match, if these are open, innermost first
abbrev pub match : List Bracket → List Chunk → Bool
match [] [] = true
match (last ∷ before) [] = false
match before (chunk ∷ chunks) = match_as before chunk.role (λ next. match next chunks)

-- the brackets that are open
abbrev pub brackets : List Open → List Bracket
brackets [] = []
brackets (it ∷ before) = it.bracket ∷ brackets before

-- if brackets match, there is no fault
pub no_fault : (before : List Open) (at : ℕ) (chunks : List Chunk) → AreChunks chunks → match (brackets before) chunks ≡ true
    → fault_from before at (joined chunks) (tokens_of chunks) ≡ None
no_fault [] at [] are h = refl
no_fault (last ∷ before) at [] are h = absurd (false≢true h)
no_fault before at (chunk ∷ chunks) are h =
    let n = length chunk.text in
    let rest = joined chunks in
    from before at chunk chunks
    ∙ ap (λ t. or_behind (step before at chunk.kind t) (λ next. fault_from next (at + n) (drop n (chunk.text ++ rest)) (tokens_of chunks))) (take-append_seam chunk.text rest)
    ∙ ap (λ t. or_behind (step before at chunk.kind chunk.text) (λ next. fault_from next (at + n) t (tokens_of chunks))) (drop-append_seam chunk.text rest)
    ∙ ap (λ role. or_behind (step_as role before at) (λ next. fault_from next (at + n) rest (tokens_of chunks))) are.0.role
    ∙ by before at chunk.role (λ next. fault_from next (at + n) rest (tokens_of chunks)) (λ next. match next chunks) (λ next k. no_fault next (at + n) chunks are.1 k) (matched before chunk chunks h)
  where
    from : (before : List Open) (at : ℕ) (chunk : Chunk) (chunks : List Chunk)
        → fault_from before at (joined (chunk ∷ chunks)) (tokens_of (chunk ∷ chunks))
        ≡ or_behind (step before at chunk.kind (take (length chunk.text) (chunk.text ++ joined chunks))) (λ next. fault_from next (at + length chunk.text) (drop (length chunk.text) (chunk.text ++ joined chunks)) (tokens_of chunks))
    from [] at chunk chunks = refl
    from (last ∷ before) at chunk chunks = refl

    matched : (before : List Open) (chunk : Chunk) (chunks : List Chunk) → match (brackets before) (chunk ∷ chunks) ≡ true → match_as (brackets before) chunk.role (λ next. match next chunks) ≡ true
    matched [] chunk chunks h = h
    matched (last ∷ before) chunk chunks h = h

    by : (before : List Open) (at : ℕ) (role : Role) (fault : List Open → Option SyntaxFault) (fits : List Bracket → Bool) → ((next : List Open) → fits (brackets next) ≡ true → fault next ≡ None)
        → match_as (brackets before) role fits ≡ true → or_behind (step_as role before at) fault ≡ None
    by before at (Bad why) fault fits tell h = absurd (false≢true h)
    by before at Nothing fault fits tell h = tell before h
    by before at Leaf fault fits tell h = tell before h
    by before at (Opens pair) fault fits tell h = tell (record { bracket = pair; at = at } ∷ before) h
    by [] at (Closes pair) fault fits tell h = absurd (false≢true h)
    by (last ∷ before) at (Closes pair) fault fits tell h = paired (same_bracket last.bracket pair) h
      where
        paired : (b : Bool) → (if b then fits (brackets before) else false) ≡ true → or_behind (if b then Ok before else Err (Mismatched pair at last)) fault ≡ None
        paired true k = tell before k
        paired false k = absurd (false≢true k)
