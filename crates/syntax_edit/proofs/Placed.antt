-- The pieces of chunks, and those that begin before a byte of the text.
use Rattle.std.proofs.Common.{◌≡◌, ℕ, ◌+◌, ◌<◌, ◌≤◌, true, false, List, [], ◌∷◌, ◌++◌, length, Option, refl, sym, ap, ap₂, ◌∙◌, arith, append_assoc, length-append, if◌then◌else◌}
use Rattle.std.proofs.lemmas.Bool.{false≢true, le-ltb, lt-ltb}
use Rattle.std.proofs.Math.Seq.{drop-append_seam, take-append_seam}
use Rattle.std.specs.Str.{chars}
use Rattle.tt_base.specs.declared.span.SpanPart.{SpanPart}
use Rattle.syntax_lex.proofs.FrontFacts.{length-chars-le}
use Rattle.syntax_lex.specs.Opening.{opening}
use Rattle.syntax_lex.specs.Quoted.{apostrophe, literal}
use Rattle.syntax_lex.specs.Reading.{reading, reading_of}
use Rattle.syntax_lex.specs.declared.token.TokenKind.{TokenKind}
use Rattle.syntax_lex.specs.declared.token.TokenKind.TheVariants as kinds
use Rattle.syntax_edit.proofs.KindFacts.{life_first}
use Rattle.syntax_edit.proofs.SortFits.{sorts-append}
use Rattle.syntax_edit.proofs.Tokens.{token_alone}
use Rattle.syntax_edit.proofs.Words.{some_bytes}
use Rattle.syntax_edit.specs.Splices.{before_byte, from_byte}
use Rattle.syntax_edit.specs.Whole.{is_whole}
use Rattle.syntax_lex.proofs.KeepFacts.{no_start, plain_null}
use Rattle.syntax_parse.specs.Parsed.{next_kind, pieces_from}
use Rattle.syntax_parse.specs.Pieces.{leaves_of, pieces_as, pieces_of, placed, sorts_of}
use Rattle.syntax_parse.specs.Role.{role_in}
use Rattle.syntax_parse.specs.Spelled.{Piece, Sort}
use Rattle.syntax_parse.specs.declared.role.Role.{Role}
use Rattle.syntax_parse.specs.declared.role.Role.TheVariants.{Bad, Nothing, Opens, Closes, Leaf}
use Rattle.syntax_unparse.proofs.Chunks.{AreChunks, Chunk, IsChunk, joined, means_of, tokens_of}
use Rattle.syntax_unparse.specs.Settled.{sorts}
use Rattle.syntax_unparse.specs.Writable.{is_lifetime}

-- the pieces of chunks that begin at a byte
abbrev pub pieces_in : SpanPart → (at : ℕ) → List Chunk → List Piece
pieces_in part at [] = []
pieces_in part at (x ∷ xs) = pieces_of part x.kind (next_kind (tokens_of xs)) at x.text ++ pieces_in part (at + length x.text) xs

-- they are those of the tokens of their text
pub pieces_in-is : (part : SpanPart) (at : ℕ) (chunks : List Chunk) → pieces_from part at (joined chunks) (tokens_of chunks) ≡ pieces_in part at chunks
pieces_in-is part at [] = refl
pieces_in-is part at (x ∷ xs) =
    let here = λ (t : List ℕ). pieces_of part x.kind (next_kind (tokens_of xs)) at t in
    ap₂ (λ t u. here t ++ pieces_from part (at + length x.text) u (tokens_of xs)) (take-append_seam x.text (joined xs)) (drop-append_seam x.text (joined xs))
    ∙ ap (λ ps. here x.text ++ ps) (pieces_in-is part (at + length x.text) xs)

-- a quote alone is no lifetime
quote_alone : is_lifetime (reading (39 ∷ [])).0 ≡ false
unfolding reading reading_of opening apostrophe literal
quote_alone = rw (no_start 39 (omega arith) refl refl) (rw plain_null.no_start refl)

life_whole : (kind : TokenKind) → is_lifetime kind ≡ true → is_whole kind ≡ true
life_whole (kinds.Lifetime digit) h = refl
life_whole kinds.RawLifetime h = refl
life_whole kind h = absurd (false≢true h)

-- so a lifetime has two bytes or more
two_bytes : (x : Chunk) (xs : List Chunk) → IsChunk x xs → is_lifetime x.kind ≡ true → 1 < length x.text
two_bytes x xs it life = go (chars x.text) refl (token_alone (chars x.text) (chars (joined xs)) x.kind it.some it.reads (life_whole x.kind life))
  where
    go : (letters : List ℕ) → chars x.text ≡ letters → reading letters ≡ (x.kind, []) → 1 < length x.text
    go [] e read = absurd (it.some e)
    go (c ∷ []) e read =
        let is : is_lifetime (reading (c ∷ [])).0 ≡ true = ap (λ p. is_lifetime p.0) read ∙ life in
        absurd (false≢true (sym quote_alone ∙ ap (λ n. is_lifetime (reading (n ∷ [])).0) (sym (life_first c [] is)) ∙ is))
    go (c ∷ d ∷ ds) e read = omega (arith, length-chars-le x.text it.utf8, ap length e)

-- something for the byte at which each piece begins
abbrev pub Every : (ℕ → Type 0) → List Piece → Type 0
Every P [] = Unit {0}
Every P (p ∷ ps) = P p.start × Every P ps

pub every_append : (P : ℕ → Type 0) (ps qs : List Piece) → Every P ps → Every P qs → Every P (ps ++ qs)
every_append P [] qs h k = k
every_append P (p ∷ ps) qs h k = (h.0, every_append P ps qs h.1 k)

pub every_more : (P Q : ℕ → Type 0) → ((n : ℕ) → P n → Q n) → (ps : List Piece) → Every P ps → Every Q ps
every_more P Q more [] h = tt
every_more P Q more (p ∷ ps) h = (more p.start h.0, every_more P Q more ps h.1)

every_placed : (P : ℕ → Type 0) (part : SpanPart) (start end : ℕ) (ss : List Sort) → P start → Every P (placed part start end ss)
every_placed P part start end [] h = tt
every_placed P part start end (s ∷ ss) h = (h, every_placed P part start end ss h)

-- the pieces of a token begin at its first byte; the name of a lifetime begins at the second
every_pieces : (P : ℕ → Type 0) (part : SpanPart) (kind : TokenKind) (next : Option TokenKind) (at : ℕ) (t : List ℕ) → P at → (is_lifetime kind ≡ true → P (at + 1)) → Every P (pieces_of part kind next at t)
every_pieces P part kind next at t one two = by (role_in kind t)
  where
    leaves : (kind : TokenKind) → (is_lifetime kind ≡ true → P (at + 1)) → Every P (leaves_of part kind next at t)
    leaves (kinds.Lifetime digit) two = (one, (two refl, tt))
    leaves kinds.RawLifetime two = (one, (two refl, tt))
    leaves kind two = every_placed P part at (at + length t) (sorts_of kind next t) one

    by : (role : Role) → Every P (pieces_as role part kind next at t)
    by (Bad why) = tt
    by Nothing = tt
    by (Opens pair) = (one, tt)
    by (Closes pair) = (one, tt)
    by Leaf = leaves kind two

-- a byte is among those of a text
abbrev Within : (at len n : ℕ) → Type 0
Within at len n = (at ≤ n) × (n < at + len)

chunk_within : (part : SpanPart) (x : Chunk) (xs : List Chunk) (next : Option TokenKind) (at : ℕ) → IsChunk x xs → Every (Within at (length x.text)) (pieces_of part x.kind next at x.text)
chunk_within part x xs next at it = every_pieces (Within at (length x.text)) part x.kind next at x.text (omega arith, omega (arith, some_bytes x.text it.some)) (λ life. (omega arith, omega (arith, two_bytes x xs it life)))

-- the pieces of the first chunks, and those of the others
pub record Front (part : SpanPart) (at : ℕ) (front back : List Chunk) : Type 0 where
  pub pieces : List Piece
  pub are : pieces_in part at (front ++ back) ≡ pieces ++ pieces_in part (at + length (joined front)) back
  pub means : sorts pieces ≡ means_of front
  pub below : Every (λ n. n < at + length (joined front)) pieces

pub front_pieces : (part : SpanPart) (at : ℕ) (front back : List Chunk) → AreChunks (front ++ back) → Front part at front back
front_pieces part at [] back are = record { pieces = []; are = ap (λ n. pieces_in part n back) (omega arith); means = refl; below = tt }
front_pieces part at (x ∷ front) back are =
    let n = length x.text in
    let here = pieces_of part x.kind (next_kind (tokens_of (front ++ back))) at x.text in
    let inner = front_pieces part (at + n) front back are.1 in
    let ends : (at + n) + length (joined front) ≡ at + length (x.text ++ joined front) = omega (arith, length-append x.text (joined front)) in
    record {
      pieces = here ++ inner.pieces;
      are = ap (λ ps. here ++ ps) (inner.are ∙ ap (λ m. inner.pieces ++ pieces_in part m back) ends) ∙ sym (append_assoc here inner.pieces _);
      means = sorts-append here inner.pieces ∙ ap₂ (λ a b. a ++ b) (are.0.means part at) inner.means;
      below =
          every_append (λ m. m < at + length (x.text ++ joined front)) here inner.pieces
          (every_more (Within at n) _ (λ m h. omega (arith, h.1, length-append x.text (joined front))) here (chunk_within part x (front ++ back) (next_kind (tokens_of (front ++ back))) at are.0))
          (every_more (λ m. m < (at + n) + length (joined front)) _ (λ m h. omega (arith, h, ends)) inner.pieces inner.below);
    }

-- all pieces of chunks begin where the chunks begin, or after it
pub all_from : (part : SpanPart) (at : ℕ) (chunks : List Chunk) → AreChunks chunks → Every (λ n. at ≤ n) (pieces_in part at chunks)
all_from part at [] are = tt
all_from part at (x ∷ xs) are =
    let here = pieces_of part x.kind (next_kind (tokens_of xs)) at x.text in
    every_append (λ n. at ≤ n) here (pieces_in part (at + length x.text) xs)
    (every_more (Within at (length x.text)) _ (λ m h. h.0) here (chunk_within part x xs (next_kind (tokens_of xs)) at are.0))
    (every_more (λ n. at + length x.text ≤ n) _ (λ m h. omega (arith, h)) _ (all_from part (at + length x.text) xs are.1))

-- the pieces that begin before a byte are those at the front
pub before_front : (at : ℕ) (ps qs : List Piece) → Every (λ n. n < at) ps → Every (λ n. at ≤ n) qs → before_byte at (ps ++ qs) ≡ ps
before_front at [] [] h k = refl
before_front at [] (q ∷ qs) h k = ap (λ b. if b then q ∷ before_byte at qs else before_byte at qs) (le-ltb q.start at k.0) ∙ before_front at [] qs h k.1
before_front at (p ∷ ps) qs h k =
    ap (λ b. if b then p ∷ before_byte at (ps ++ qs) else before_byte at (ps ++ qs)) (lt-ltb p.start at h.0) ∙ ap (λ t. p ∷ t) (before_front at ps qs h.1 k)

-- and the others begin there or after it
pub from_back : (at : ℕ) (ps qs : List Piece) → Every (λ n. n < at) ps → Every (λ n. at ≤ n) qs → from_byte at (ps ++ qs) ≡ qs
from_back at [] [] h k = refl
from_back at [] (q ∷ qs) h k = ap (λ b. if b then from_byte at qs else q ∷ from_byte at qs) (le-ltb q.start at k.0) ∙ ap (λ t. q ∷ t) (from_back at [] qs h k.1)
from_back at (p ∷ ps) qs h k = ap (λ b. if b then from_byte at (ps ++ qs) else p ∷ from_byte at (ps ++ qs)) (lt-ltb p.start at h.0) ∙ from_back at ps qs h.1 k
