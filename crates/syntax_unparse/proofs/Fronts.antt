-- Chunks and what follows each: its first character, and that the chunk is one token.
use Rattle.std.proofs.Common.{◌≡◌, ℕ, ◌<◌, Bool, true, false, ◌==◌, ◌||◌, ◌&&◌, IsTrue, inl, inr, List, [], ◌∷◌, ◌++◌, length, Option, Some, refl, sym, ap, ap₂, ◌∙◌, subst, arith, if◌then◌else◌}
use Rattle.std.proofs.lemmas.Bool.{false≢true, ne_eqb, or_parts}
use Rattle.std.proofs.lemmas.Str.{chars-IsAscii, chars-append, chars-nil, IsUtf8-from_ascii}
use Rattle.std.specs.Prelude.{encode_utf8}
use Rattle.std.specs.Str.{chars, IsUtf8}
use Rattle.tt_base.specs.LeafText.{ident_text, leaf_text}
use Rattle.tt_base.specs.Literal.{kind_of as kind_of_literal, symbol_of}
use Rattle.tt_base.specs.Scan.{parts_told}
use Rattle.tt_base.specs.Token.{rawness_of, without_raw_prefix}
use Rattle.tt_base.specs.declared.ident.Ident.{Ident}
use Rattle.tt_base.specs.declared.leaf.Leaf.{Leaf}
use Rattle.tt_base.specs.declared.leaf.Leaf.TheVariants as leaf_of
use Rattle.tt_base.specs.declared.literal.Literal.{Literal}
use Rattle.tt_base.specs.declared.punct.Punct.{Punct}
use Rattle.tt_base.specs.declared.punct.Spacing.TheVariants.{Alone, Joint as JointSpacing}
use Rattle.tt_base.specs.declared.span.SpanPart.{SpanPart}
use Rattle.syntax_lex.specs.Class.{is_whitespace}
use Rattle.syntax_lex.specs.Front.{first}
use Rattle.syntax_lex.specs.Opening.{symbol}
use Rattle.syntax_lex.specs.Reading.{reading}
use Rattle.syntax_lex.specs.declared.token.LiteralKind.{LiteralKind}
use Rattle.syntax_lex.specs.declared.token.TokenKind.{TokenKind}
use Rattle.syntax_lex.specs.declared.token.TokenKind.TheVariants as kinds
use Rattle.syntax_lex.proofs.KeepFacts.{IsPlain, plain_null, plain_stop}
use Rattle.syntax_lex.proofs.SignFacts.{sign_read, space_read}
use Rattle.syntax_lex.specs.Stops.{Stops, is_ended, is_glued, is_sign}
use Rattle.syntax_parse.specs.Inside.{literal_fault}
use Rattle.syntax_parse.specs.Parsed.{next_kind}
use Rattle.syntax_parse.specs.Pieces.{literal_of, pieces_as, pieces_of, scan_of, spacing_before}
use Rattle.syntax_parse.specs.Role.{role_in}
use Rattle.syntax_parse.specs.Spelled.{Sort, name, sign, sort_of, value}
use Rattle.syntax_parse.specs.declared.bracket.Bracket.{Bracket}
use Rattle.syntax_parse.specs.declared.bracket.Bracket.TheVariants.{Parenthesis, Brace, Square}
use Rattle.syntax_parse.specs.declared.role.Role.TheVariants as roles
use Rattle.syntax_unparse.specs.Marks.{Mark, word, opening, closing}
use Rattle.syntax_unparse.specs.Settled.{settled_leaf, sorts}
use Rattle.syntax_unparse.specs.Text.{behind_leaf, is_string}
use Rattle.syntax_unparse.specs.Writable.{IsOneToken, MakesLifetime, Means, MeansLiteral, ReadsAlone, ReadsAs, first_kind, is_lifetime, is_name, is_punct}
use Rattle.syntax_unparse.specs.declared.behind.Behind.TheVariants.{Opening, Apart, Slash, Pound, Quote}
use Rattle.syntax_unparse.proofs.Chunks.{AreChunks, Chunk, IsChunk, joined, tokens_of}
use Rattle.syntax_unparse.proofs.KindFacts.{ascii_one, closed_leaf, lifetime_cases, literal_cases, name_cases, punct_known}
use Rattle.syntax_unparse.proofs.WordFacts.{begins_no_string, begins_not, ends_before, is_wordy, no_space, not_hash, not_slash, not_star, not_string, read_whole, some_chars}
use Rattle.syntax_unparse.proofs.Written.{Fits, behind_quote, chunks_of, closing_chunk, gap_if, leaf_chunk, lifetime_chunk, opening_chunk, word_as}

-- a character of ASCII first
pub ascii_first : (c : ℕ) (bs : List ℕ) → c < 128 → chars (c ∷ bs) ≡ c ∷ chars bs
ascii_first c bs lt = chars-append (c ∷ []) bs (IsUtf8-from_ascii (c ∷ []) (ascii_one c lt)) ∙ ap (λ t. t ++ chars bs) (chars-IsAscii (c ∷ []) (ascii_one c lt))

pub not_nil : (c : ℕ) (cs : List ℕ) → ◌≡◌ {A = List ℕ} (c ∷ cs) [] → ⊥
not_nil c cs k = cc

-- the characters of chunks
abbrev pub text : List Chunk → List ℕ
text chunks = chars (joined chunks)

-- the text after a leaf or a closing bracket begins with a stop
pub stops_apart : (ms : List Mark) → Fits Apart ms → Stops (text (chunks_of Apart ms))
stops_apart [] f = subst Stops (sym chars-nil) tt
stops_apart (word at it ∷ rest) f = subst Stops (sym (ascii_first 32 (joined (word_as it rest (chunks_of Quote rest) (chunks_of (behind_leaf it) rest))) (omega arith))) refl
stops_apart (opening pair ∷ rest) f = subst Stops (sym (ascii_first 32 (joined (opening_chunk pair ∷ chunks_of Opening rest)) (omega arith))) refl
stops_apart (closing Parenthesis ∷ rest) f = subst Stops (sym (ascii_first 41 (joined (chunks_of Apart rest)) (omega arith))) refl
stops_apart (closing Brace ∷ rest) f = subst Stops (sym (ascii_first 125 (joined (chunks_of Apart rest)) (omega arith))) refl
stops_apart (closing Square ∷ rest) f = subst Stops (sym (ascii_first 93 (joined (chunks_of Apart rest)) (omega arith))) refl

-- its first character is plain
pub plain_apart : (cs : List ℕ) → Stops cs → IsPlain (first cs)
plain_apart [] stops = plain_null
plain_apart (c ∷ cs) stops = plain_stop c stops

-- a space before a text that does not begin with one
pub gap_are : (due : Bool) (chunks : List Chunk) → AreChunks chunks → is_whitespace (first (text chunks)) ≡ false → AreChunks (gap_if due chunks)
gap_are false chunks are front = are
gap_are true chunks are front = (
  record {
    utf8 = IsUtf8-from_ascii (32 ∷ []) (ascii_one 32 (omega arith));
    some = λ e. not_nil 32 [] (sym (chars-IsAscii (32 ∷ []) (ascii_one 32 (omega arith))) ∙ e);
    reads = ap (λ t. reading (t ++ text chunks)) (chars-IsAscii (32 ∷ []) (ascii_one 32 (omega arith))) ∙ space_read (text chunks) front;
    role = refl;
    means = λ part at. refl;
  },
  are,
)

-- a bracket
pub sign_chunk : (c : ℕ) (chunk : Chunk) (chunks : List Chunk) → c < 128 → chunk.text ≡ c ∷ [] → symbol c ≡ chunk.kind → is_glued c (first (text chunks)) ≡ false
    → is_sign c ≡ true → role_in chunk.kind chunk.text ≡ chunk.role
    → ((part : SpanPart) → (at : ℕ) → sorts (pieces_of part chunk.kind (next_kind (tokens_of chunks)) at chunk.text) ≡ chunk.means)
    → IsChunk chunk chunks
sign_chunk c chunk chunks lt are kind apart known role means =
    let facts : chars chunk.text ≡ c ∷ [] = ap chars are ∙ chars-IsAscii (c ∷ []) (ascii_one c lt) in
    record {
      utf8 = subst IsUtf8 (sym are) (IsUtf8-from_ascii (c ∷ []) (ascii_one c lt));
      some = λ e. not_nil c [] (sym facts ∙ e);
      reads = ap (λ t. reading (t ++ text chunks)) facts ∙ sign_read c (text chunks) known apart ∙ ap (λ k. (k, text chunks)) kind;
      role = role;
      means = means;
    }

pub opening_is : (pair : Bracket) (chunks : List Chunk) → IsChunk (opening_chunk pair) chunks
unfolding symbol
opening_is Parenthesis chunks = sign_chunk 40 (opening_chunk Parenthesis) chunks (omega arith) refl refl refl refl refl (λ part at. refl)
opening_is Brace chunks = sign_chunk 123 (opening_chunk Brace) chunks (omega arith) refl refl refl refl refl (λ part at. refl)
opening_is Square chunks = sign_chunk 91 (opening_chunk Square) chunks (omega arith) refl refl refl refl refl (λ part at. refl)

pub closing_is : (pair : Bracket) (chunks : List Chunk) → IsChunk (closing_chunk pair) chunks
unfolding symbol
closing_is Parenthesis chunks = sign_chunk 41 (closing_chunk Parenthesis) chunks (omega arith) refl refl refl refl refl (λ part at. refl)
closing_is Brace chunks = sign_chunk 125 (closing_chunk Brace) chunks (omega arith) refl refl refl refl refl (λ part at. refl)
closing_is Square chunks = sign_chunk 93 (closing_chunk Square) chunks (omega arith) refl refl refl refl refl (λ part at. refl)

-- an opening bracket is no white space
pub opening_front : (pair : Bracket) (chunks : List Chunk) → is_whitespace (first (text (opening_chunk pair ∷ chunks))) ≡ false
opening_front Parenthesis chunks = ap (λ t. is_whitespace (first t)) (ascii_first 40 (joined chunks) (omega arith))
opening_front Brace chunks = ap (λ t. is_whitespace (first t)) (ascii_first 123 (joined chunks) (omega arith))
opening_front Square chunks = ap (λ t. is_whitespace (first t)) (ascii_first 91 (joined chunks) (omega arith))

-- facts about the token of a name
pub record IsName (kind : TokenKind) (bytes : List ℕ) (sort : Sort) : Type 0 where
  pub ended : is_ended kind ≡ true
  pub wordy : is_wordy kind ≡ true
  pub alone : spacing_before (Some kind) ≡ Alone
  pub means : (part : SpanPart) → (next : Option TokenKind) → (at : ℕ) → sorts (pieces_of part kind next at bytes) ≡ sort ∷ []

pub name_known : (ident : Ident) (bytes : List ℕ) (kind : TokenKind) → role_in kind bytes ≡ roles.Leaf → Means kind bytes (leaf_of.Ident ident) → IsName kind bytes (sort_of (leaf_of.Ident ident))
name_known ident bytes kind fine means =
    let facts : ◌≡◌ {A = List Sort} (name (without_raw_prefix bytes) (rawness_of bytes) ∷ []) (name ident.sym ident.is_raw ∷ []) = ap₂ (λ a b. name a b ∷ []) means.1 means.2 in
    name_cases (λ k. role_in k bytes ≡ roles.Leaf → IsName k bytes (sort_of (leaf_of.Ident ident))) kind
    (λ role. record { ended = refl; wordy = refl; alone = refl; means = λ part next at. facts })
    (λ role. record { ended = refl; wordy = refl; alone = refl; means = λ part next at. ap (λ r. sorts (pieces_as r part kinds.RawIdent next at bytes)) role ∙ facts })
    means.0 fine

pub literal_known : (literal : Literal) (bytes : List ℕ) (kind : TokenKind) → role_in kind bytes ≡ roles.Leaf → MeansLiteral kind bytes literal → IsName kind bytes (sort_of (leaf_of.Literal literal))
literal_known literal bytes kind fine means =
    literal_cases (λ k. role_in k bytes ≡ roles.Leaf → MeansLiteral k bytes literal → IsName k bytes (sort_of (leaf_of.Literal literal))) kind bytes literal
    (λ it start role parts. record {
      ended = closed_leaf it bytes (literal_fault it start bytes) role;
      wordy = refl;
      alone = refl;
      means = λ part next at. ap (λ r. sorts (pieces_as r part (kinds.Literal it start) next at bytes)) role ∙ facts it start parts;
    }) means fine means
  where
    facts : (it : LiteralKind) (start : ℕ) → (parts : MeansLiteral (kinds.Literal it start) bytes literal)
        → ◌≡◌ {A = List Sort} (literal_of (parts_told bytes (Some (scan_of it, start))) ∷ []) (sort_of (leaf_of.Literal literal) ∷ [])
    facts it start parts = ap (λ s. s ∷ []) (ap₂ (λ k s. value k s (length (parts_told bytes (Some (scan_of it, start))).suffix)) (sym parts.kind) (sym parts.symbol) ∙ ap (λ n. value (kind_of_literal literal) (symbol_of literal) n) (sym parts.suffix_len))

-- a name or a literal before a stop
pub known_chunk : (it : Leaf) (rest : List Mark) (chunks : List Chunk) → IsOneToken (leaf_text it) → IsName (first_kind (leaf_text it)) (leaf_text it) (settled_leaf it rest) → Stops (text chunks)
    → IsChunk (leaf_chunk it rest) chunks
known_chunk it rest chunks one known stops = record {
  utf8 = one.utf8;
  some = some_chars (leaf_text it) one;
  reads = ends_before (leaf_text it) (text chunks) one known.ended stops;
  role = one.fine;
  means = λ part at. known.means part (next_kind (tokens_of chunks)) at;
}

-- a `'` and its name before a stop
pub lifetime_is : (ident : Ident) (chunks : List Chunk) → MakesLifetime (leaf_of.Ident ident) → ReadsAlone (leaf_of.Ident ident) → Stops (text chunks)
    → IsChunk (lifetime_chunk (leaf_of.Ident ident)) chunks
lifetime_is ident chunks makes (inl quote) stops = absurd (false≢true quote)
lifetime_is ident chunks makes (inr reads) stops = record {
  utf8 = makes.0.utf8;
  some = some_chars (39 ∷ ident_text ident) makes.0;
  reads = ends_before (39 ∷ ident_text ident) (text chunks) makes.0 (lifetime_cases (λ k. is_ended k ≡ true) (first_kind (39 ∷ ident_text ident)) (λ digit. refl) refl makes.1) stops;
  role = makes.0.fine;
  means = λ part at. by part at (next_kind (tokens_of chunks)) (first_kind (39 ∷ ident_text ident)) makes.1 makes.0.fine;
}
  where
    same : name (without_raw_prefix (ident_text ident)) (rawness_of (ident_text ident)) ≡ name ident.sym ident.is_raw
    same = ap₂ name reads.1.1 reads.1.2

    by : (part : SpanPart) (at : ℕ) (next : Option TokenKind) (kind : TokenKind) → IsTrue (is_lifetime kind) → role_in kind (39 ∷ ident_text ident) ≡ roles.Leaf
        → sorts (pieces_of part kind next at (39 ∷ ident_text ident)) ≡ sign 39 JointSpacing ∷ name ident.sym ident.is_raw ∷ []
    by part at next kind is =
        lifetime_cases (λ k. role_in k (39 ∷ ident_text ident) ≡ roles.Leaf → sorts (pieces_of part k next at (39 ∷ ident_text ident)) ≡ sign 39 JointSpacing ∷ name ident.sym ident.is_raw ∷ []) kind
        (λ digit fine. ap (λ r. sorts (pieces_as r part (kinds.Lifetime digit) next at (39 ∷ ident_text ident))) fine ∙ ap (λ s. sign 39 JointSpacing ∷ s ∷ []) same)
        (λ fine. ap (λ r. sorts (pieces_as r part kinds.RawLifetime next at (39 ∷ ident_text ident))) fine ∙ ap (λ s. sign 39 JointSpacing ∷ s ∷ []) same) is

-- the first character of a text that begins with a leaf that reads alone
pub leaf_front : (it : Leaf) (rest : List Mark) (chunks : List Chunk) → IsOneToken (leaf_text it) → first (text (leaf_chunk it rest ∷ chunks)) ≡ first (chars (leaf_text it))
leaf_front it rest chunks one =
    let whole = read_whole (leaf_text it) one in
    ap first (chars-append (leaf_text it) (joined chunks) one.utf8 ∙ ap (λ t. t ++ text chunks) whole.are) ∙ ap first (sym whole.are)

-- the first character after a `'` that was written last is the `'`
pub quote_front : (rest : List Mark) → Fits Quote rest → first (text (chunks_of Quote rest)) ≡ 39
quote_front [] f = absurd f
quote_front (word at (leaf_of.Ident ident) ∷ rest) f = ap first (ascii_first 39 (ident_text ident ++ joined (chunks_of Apart rest)) (omega arith))
quote_front (word at (leaf_of.Literal literal) ∷ rest) f = absurd f.0
quote_front (word at (leaf_of.Punct punct) ∷ rest) f = absurd f.0
quote_front (opening pair ∷ rest) f = absurd f.0
quote_front (closing pair ∷ rest) f = absurd f.0

-- and the token there is a lifetime
pub quote_next : (rest : List Mark) → Fits Quote rest → spacing_before (next_kind (tokens_of (chunks_of Quote rest))) ≡ JointSpacing
quote_next [] f = absurd f
quote_next (word at (leaf_of.Ident ident) ∷ rest) f = lifetime_cases (λ k. spacing_before (Some k) ≡ JointSpacing) (first_kind (39 ∷ ident_text ident)) (λ digit. refl) refl f.0.1
quote_next (word at (leaf_of.Literal literal) ∷ rest) f = absurd f.0
quote_next (word at (leaf_of.Punct punct) ∷ rest) f = absurd f.0
quote_next (opening pair ∷ rest) f = absurd f.0
quote_next (closing pair ∷ rest) f = absurd f.0

-- a leaf that reads alone and is no `'`
pub reads_as : (it : Leaf) → is_punct 39 it ≡ false → ReadsAlone it → ReadsAs (leaf_text it) it
reads_as it other (inl quote) = absurd (false≢true (sym other ∙ quote))
reads_as it other (inr reads) = reads

-- a leaf and what follows it begin with no white space
pub word_front : (it : Leaf) (rest : List Mark) → ReadsAlone it → Fits (behind_leaf it) rest
    → is_whitespace (first (text (word_as it rest (chunks_of Quote rest) (chunks_of (behind_leaf it) rest)))) ≡ false
word_front it rest reads f = go (is_punct 39 it) refl
  where
    go : (b : Bool) → is_punct 39 it ≡ b → is_whitespace (first (text (word_as it rest (chunks_of Quote rest) (chunks_of (behind_leaf it) rest)))) ≡ false
    go true e = rw e (ap is_whitespace (quote_front rest (subst (λ b. Fits b rest) (behind_quote it e) f)))
    go false e =
        let facts = reads_as it e reads in
        rw e (ap is_whitespace (leaf_front it rest (chunks_of (behind_leaf it) rest) facts.0) ∙ no_space (leaf_text it) facts.0)

-- signs that do not join the next
pub glue_none : (c n : ℕ) → (n == 47) ≡ false → (n == 42) ≡ false → (n == 34) ≡ false → (n == 35) ≡ false → is_glued c n ≡ false
glue_none c n a b d e = rw (a, b, d, e) (go (c == 47) (c == 35))
  where
    go : (x y : Bool) → ((x && (false || false)) || (y && (false || false))) ≡ false
    go true true = refl
    go true false = refl
    go false true = refl
    go false false = refl

pub glue_slash : (n : ℕ) → (n == 47) ≡ false → (n == 42) ≡ false → is_glued 47 n ≡ false
glue_slash n a b = rw (a, b) refl

pub glue_pound : (n : ℕ) → (n == 34) ≡ false → (n == 35) ≡ false → is_glued 35 n ≡ false
glue_pound n a b = rw (a, b) refl

pub glue_other : (c n : ℕ) → (c == 47) ≡ false → (c == 35) ≡ false → is_glued c n ≡ false
glue_other c n a b = rw (a, b) refl

-- the first character of a punct
pub punct_front : (punct : Punct) (rest : List Mark) (chunks : List Chunk) → ReadsAs (leaf_text (leaf_of.Punct punct)) (leaf_of.Punct punct)
    → first (text (leaf_chunk (leaf_of.Punct punct) rest ∷ chunks)) ≡ punct.char
punct_front punct rest chunks facts =
    let known = punct_known (first_kind (encode_utf8 punct.char)) punct.char facts.1 in
    leaf_front (leaf_of.Punct punct) rest chunks facts.0 ∙ ap (λ t. first (chars t)) known.bytes ∙ ap first known.chars

-- a text that touches a `/` makes no comment with it
pub slash_front : (ms : List Mark) → Fits Slash ms → is_glued 47 (first (text (chunks_of Slash ms))) ≡ false
slash_front [] f = ap (λ t. is_glued 47 (first t)) chars-nil
slash_front (opening Parenthesis ∷ rest) f = ap (λ t. is_glued 47 (first t)) (ascii_first 40 (joined (chunks_of Opening rest)) (omega arith))
slash_front (opening Brace ∷ rest) f = ap (λ t. is_glued 47 (first t)) (ascii_first 123 (joined (chunks_of Opening rest)) (omega arith))
slash_front (opening Square ∷ rest) f = ap (λ t. is_glued 47 (first t)) (ascii_first 91 (joined (chunks_of Opening rest)) (omega arith))
slash_front (closing Parenthesis ∷ rest) f = ap (λ t. is_glued 47 (first t)) (ascii_first 41 (joined (chunks_of Apart rest)) (omega arith))
slash_front (closing Brace ∷ rest) f = ap (λ t. is_glued 47 (first t)) (ascii_first 125 (joined (chunks_of Apart rest)) (omega arith))
slash_front (closing Square ∷ rest) f = ap (λ t. is_glued 47 (first t)) (ascii_first 93 (joined (chunks_of Apart rest)) (omega arith))
slash_front (word at (leaf_of.Ident ident) ∷ rest) f =
    let facts = reads_as (leaf_of.Ident ident) refl f.1 in
    let known = name_known ident (ident_text ident) (first_kind (ident_text ident)) facts.0.fine facts.1 in
    ap (is_glued 47) (leaf_front (leaf_of.Ident ident) rest (chunks_of Apart rest) facts.0)
    ∙ glue_slash (first (chars (ident_text ident))) (begins_not 47 not_slash (ident_text ident) facts.0 known.wordy) (begins_not 42 not_star (ident_text ident) facts.0 known.wordy)
slash_front (word at (leaf_of.Literal literal) ∷ rest) f =
    let facts = reads_as (leaf_of.Literal literal) refl f.1 in
    let bytes = leaf_text (leaf_of.Literal literal) in
    let known = literal_known literal bytes (first_kind bytes) facts.0.fine facts.1 in
    ap (is_glued 47) (leaf_front (leaf_of.Literal literal) rest (chunks_of Apart rest) facts.0)
    ∙ glue_slash (first (chars bytes)) (begins_not 47 not_slash bytes facts.0 known.wordy) (begins_not 42 not_star bytes facts.0 known.wordy)
slash_front (word at (leaf_of.Punct punct) ∷ rest) f = go (punct.char == 39) refl
  where
    go : (b : Bool) → (punct.char == 39) ≡ b → is_glued 47 (first (text (chunks_of Slash (word at (leaf_of.Punct punct) ∷ rest)))) ≡ false
    go true e = ap (λ b. is_glued 47 (first (text (if b then chunks_of Quote rest else leaf_chunk (leaf_of.Punct punct) rest ∷ chunks_of (behind_leaf (leaf_of.Punct punct)) rest)))) e ∙ (ap (is_glued 47) (quote_front rest (subst (λ b. Fits b rest) (behind_quote (leaf_of.Punct punct) e) f.2)))
    go false e =
        let both = or_parts (punct.char == 47) (punct.char == 42) f.0 in
        ap (λ b. is_glued 47 (first (text (if b then chunks_of Quote rest else leaf_chunk (leaf_of.Punct punct) rest ∷ chunks_of (behind_leaf (leaf_of.Punct punct)) rest)))) e ∙ (ap (is_glued 47) (punct_front punct rest (chunks_of (behind_leaf (leaf_of.Punct punct)) rest) (reads_as (leaf_of.Punct punct) e f.1))
        ∙ glue_slash punct.char both.0 both.1)

-- no name begins with a double quote
pub no_string_name : (ident : Ident) → ReadsAs (ident_text ident) (leaf_of.Ident ident) → (first (chars (ident_text ident)) == 34) ≡ false
no_string_name ident facts =
    let it = read_whole (ident_text ident) facts.0 in
    ap (λ t. first t == 34) it.are
    ∙ ne_eqb it.c 34 (λ e. false≢true (sym (not_string it.cs) ∙ ap (λ c. is_name (reading (c ∷ it.cs)).0) (sym e) ∙ ap (λ p. is_name p.0) it.read ∙ facts.1.0))

-- a text that touches a `#` makes no prefix with it
pub pound_front : (ms : List Mark) → Fits Pound ms → is_glued 35 (first (text (chunks_of Pound ms))) ≡ false
pound_front [] f = ap (λ t. is_glued 35 (first t)) chars-nil
pound_front (opening Parenthesis ∷ rest) f = ap (λ t. is_glued 35 (first t)) (ascii_first 40 (joined (chunks_of Opening rest)) (omega arith))
pound_front (opening Brace ∷ rest) f = ap (λ t. is_glued 35 (first t)) (ascii_first 123 (joined (chunks_of Opening rest)) (omega arith))
pound_front (opening Square ∷ rest) f = ap (λ t. is_glued 35 (first t)) (ascii_first 91 (joined (chunks_of Opening rest)) (omega arith))
pound_front (closing Parenthesis ∷ rest) f = ap (λ t. is_glued 35 (first t)) (ascii_first 41 (joined (chunks_of Apart rest)) (omega arith))
pound_front (closing Brace ∷ rest) f = ap (λ t. is_glued 35 (first t)) (ascii_first 125 (joined (chunks_of Apart rest)) (omega arith))
pound_front (closing Square ∷ rest) f = ap (λ t. is_glued 35 (first t)) (ascii_first 93 (joined (chunks_of Apart rest)) (omega arith))
pound_front (word at (leaf_of.Ident ident) ∷ rest) f =
    let facts = reads_as (leaf_of.Ident ident) refl f.1 in
    let bytes = ident_text ident in
    let known = name_known ident bytes (first_kind bytes) facts.0.fine facts.1 in
    ap (is_glued 35) (leaf_front (leaf_of.Ident ident) rest (chunks_of Apart rest) facts.0)
    ∙ glue_pound (first (chars bytes)) (no_string_name ident facts) (begins_not 35 not_hash bytes facts.0 known.wordy)
pound_front (word at (leaf_of.Literal literal) ∷ rest) f = go (is_string (leaf_of.Literal literal)) refl
  where
    go : (b : Bool) → is_string (leaf_of.Literal literal) ≡ b → is_glued 35 (first (text (chunks_of Pound (word at (leaf_of.Literal literal) ∷ rest)))) ≡ false
    go true e = rw e (ap (λ t. is_glued 35 (first t)) (ascii_first 32 (joined (leaf_chunk (leaf_of.Literal literal) rest ∷ chunks_of Apart rest)) (omega arith)))
    go false e =
        let facts = reads_as (leaf_of.Literal literal) refl f.1 in
        let bytes = leaf_text (leaf_of.Literal literal) in
        let known = literal_known literal bytes (first_kind bytes) facts.0.fine facts.1 in
        rw e (ap (is_glued 35) (leaf_front (leaf_of.Literal literal) rest (chunks_of Apart rest) facts.0)
        ∙ glue_pound (first (chars bytes)) (begins_no_string bytes facts.0 e) (begins_not 35 not_hash bytes facts.0 known.wordy))
pound_front (word at (leaf_of.Punct punct) ∷ rest) f = go (punct.char == 39) refl
  where
    go : (b : Bool) → (punct.char == 39) ≡ b → is_glued 35 (first (text (chunks_of Pound (word at (leaf_of.Punct punct) ∷ rest)))) ≡ false
    go true e = ap (λ b. is_glued 35 (first (text (if b then chunks_of Quote rest else leaf_chunk (leaf_of.Punct punct) rest ∷ chunks_of (behind_leaf (leaf_of.Punct punct)) rest)))) e ∙ (ap (is_glued 35) (quote_front rest (subst (λ b. Fits b rest) (behind_quote (leaf_of.Punct punct) e) f.2)))
    go false e =
        let facts = reads_as (leaf_of.Punct punct) e f.1 in
        let known = punct_known (first_kind (encode_utf8 punct.char)) punct.char facts.1 in
        ap (λ b. is_glued 35 (first (text (if b then chunks_of Quote rest else leaf_chunk (leaf_of.Punct punct) rest ∷ chunks_of (behind_leaf (leaf_of.Punct punct)) rest)))) e ∙ (ap (is_glued 35) (punct_front punct rest (chunks_of (behind_leaf (leaf_of.Punct punct)) rest) facts)
        ∙ glue_pound punct.char known.no_string f.0)
