-- Texts that spell trees, and their chunks.
use Rattle.std.proofs.Common.{◌≡◌, ◌<◌, inl, inr, Bool, true, false, List, [], ◌∷◌, length, None, Some, refl, sym, ap, ◌∙◌, subst, arith, if◌then◌else◌, ℕ, ap₂}
use Rattle.std.specs.Str.{chars, IsUtf8}
use Rattle.syntax_edit.proofs.KindFacts.{some_part}
use Rattle.syntax_edit.proofs.Roles.{IsEither, leaf_two}
use Rattle.syntax_edit.proofs.Sources.{source, match_source, utf8_joined}
use Rattle.syntax_edit.specs.Kept.{ends_in_line, is_line}
use Rattle.syntax_edit.specs.Splices.{IsSpelling}
use Rattle.syntax_lex.proofs.TokenFacts.{one_list}
use Rattle.syntax_lex.specs.Reading.{AreTokensOf}
use Rattle.syntax_lex.specs.declared.token.DocStyle.TheVariants.{Outer, Inner}
use Rattle.syntax_lex.specs.declared.token.DocStyle.{DocStyle}
use Rattle.syntax_lex.specs.declared.token.TokenKind.TheVariants as kinds
use Rattle.syntax_lex.specs.declared.token.TokenKind.{TokenKind}
use Rattle.syntax_parse.specs.Parsed.{next_kind, pieces_from}
use Rattle.syntax_parse.specs.Pieces.{pieces_as, pieces_of}
use Rattle.syntax_parse.specs.Role.{role_in}
use Rattle.syntax_parse.specs.Spelled.{Sort}
use Rattle.syntax_parse.specs.declared.role.Role.TheVariants.{Bad, Nothing, Opens, Closes, Leaf}
use Rattle.syntax_parse.specs.declared.role.Role.{Role}
use Rattle.syntax_unparse.proofs.Back.{chunks_are, reads_back}
use Rattle.syntax_unparse.proofs.Chunks.{AreChunks, Chunk, IsChunk, joined, match, means_of, tokens_of, pieces_are, tokens_are}
use Rattle.syntax_unparse.proofs.Written.{chunks_of, fits, gap_if, joined_are, leaf_chunk, lifetime_chunk, quotes}
use Rattle.syntax_unparse.specs.Marks.{Mark, word, opening, closing, marks}
use Rattle.syntax_unparse.specs.Settled.{settled, sorts}
use Rattle.syntax_unparse.specs.Text.{behind_leaf, opens_apart, text_of, wants_space as wants_gap}
use Rattle.syntax_unparse.specs.Writable.{IsWritable, is_punct}
use Rattle.syntax_unparse.specs.declared.behind.Behind.TheVariants.{Opening, Apart, Quote}
use Rattle.syntax_unparse.specs.declared.behind.Behind.{Behind}
use Rattle.tt_base.specs.Forest.{Forest}

-- white space, a bracket, or one leaf or two
abbrev IsBrief : Role → TokenKind → List Sort → Type 0
IsBrief (Bad why) kind means = ⊥
IsBrief Nothing kind means = kind ≡ kinds.Whitespace
IsBrief (Opens pair) kind means = Unit {0}
IsBrief (Closes pair) kind means = Unit {0}
IsBrief Leaf kind means = length means < 3

-- it is no comment to the end of the line
brief_line : (x : Chunk) (xs : List Chunk) → IsChunk x xs → IsBrief x.role x.kind x.means → is_line x.kind ≡ false
brief_line x xs it brief =
    by x.kind (subst (λ role. IsBrief role x.kind (sorts (pieces_as (role_in x.kind x.text) some_part x.kind (next_kind (tokens_of xs)) 0 x.text))) (sym it.role) (subst (IsBrief x.role x.kind) (sym (it.means some_part 0)) brief))
  where
    long : (style : DocStyle) → IsBrief Leaf (kinds.LineComment (Some style)) (sorts (pieces_as Leaf some_part (kinds.LineComment (Some style)) (next_kind (tokens_of xs)) 0 x.text)) → ⊥
    long Outer h = omega (arith, h)
    long Inner h = omega (arith, h)

    documents : (style : DocStyle) (role : Role) → IsEither role → IsBrief role (kinds.LineComment (Some style)) (sorts (pieces_as role some_part (kinds.LineComment (Some style)) (next_kind (tokens_of xs)) 0 x.text)) → ⊥
    documents style role (inl is) h = long style (subst (λ r. IsBrief r (kinds.LineComment (Some style)) (sorts (pieces_as r some_part (kinds.LineComment (Some style)) (next_kind (tokens_of xs)) 0 x.text))) is h)
    documents style role (inr (why, is)) h = subst (λ r. IsBrief r (kinds.LineComment (Some style)) (sorts (pieces_as r some_part (kinds.LineComment (Some style)) (next_kind (tokens_of xs)) 0 x.text))) is h

    by : (kind : TokenKind) → IsBrief (role_in kind x.text) kind (sorts (pieces_of some_part kind (next_kind (tokens_of xs)) 0 x.text)) → is_line kind ≡ false
    by (kinds.LineComment None) h = absurd (cc h)
    by (kinds.LineComment (Some style)) h = absurd (documents style (role_in (kinds.LineComment (Some style)) x.text) (leaf_two _) h)
    by kind h = refl

abbrev AreBrief : List Chunk → Type 0
AreBrief [] = Unit {0}
AreBrief (x ∷ xs) = IsBrief x.role x.kind x.means × AreBrief xs

-- the chunks of marks are brief
gap_brief : (due : Bool) (chunks : List Chunk) → AreBrief chunks → AreBrief (gap_if due chunks)
gap_brief true chunks h = (refl, h)
gap_brief false chunks h = h

marks_brief : (behind : Behind) (ms : List Mark) → AreBrief (chunks_of behind ms)
marks_brief behind [] = tt
marks_brief behind (opening pair ∷ rest) = gap_brief (opens_apart behind) _ (tt, marks_brief Opening rest)
marks_brief behind (closing pair ∷ rest) = (tt, marks_brief Apart rest)
marks_brief behind (word at it ∷ rest) = by (quotes behind) (is_punct 39 it) (marks_brief Quote rest) (marks_brief (behind_leaf it) rest)
  where
    by : (quoted quote : Bool) → AreBrief (chunks_of Quote rest) → AreBrief (chunks_of (behind_leaf it) rest)
        → AreBrief (if quoted then lifetime_chunk it ∷ chunks_of (behind_leaf it) rest else gap_if (wants_gap behind it) (if quote then chunks_of Quote rest else leaf_chunk it rest ∷ chunks_of (behind_leaf it) rest))
    by true quote after plain = (omega arith, plain)
    by false true after plain = gap_brief (wants_gap behind it) _ after
    by false false after plain = gap_brief (wants_gap behind it) _ (omega arith, plain)

no_line : (chunks : List Chunk) → AreChunks chunks → AreBrief chunks → ends_in_line (tokens_of chunks) ≡ false
no_line [] are h = refl
no_line (x ∷ []) are h = brief_line x [] are.0 h.0
no_line (x ∷ y ∷ xs) are h = no_line (y ∷ xs) are.1 h.1

-- the text of trees that can be written spells them
pub plain_spelling : (trees : Forest) → IsWritable trees → IsSpelling trees (text_of trees)
plain_spelling trees writable =
    let ms = marks 0 trees in
    let f = fits 0 Opening ms writable in
    let chunks = chunks_of Opening ms in
    let are = chunks_are Opening ms f in
    let text_is : joined chunks ≡ text_of trees = joined_are Opening ms f in
    let back = reads_back trees writable in
    let same : back.tokens ≡ tokens_of chunks = one_list back.tokens (tokens_of chunks) (chars (text_of trees)) back.read (subst (λ t. AreTokensOf (tokens_of chunks) (chars t)) text_is (tokens_are chunks are)) in
    record {
      utf8 = subst IsUtf8 text_is (utf8_joined chunks are);
      back = back;
      line = ap ends_in_line same ∙ no_line chunks are (marks_brief Opening ms);
    }

-- the chunks of a text that spells trees
pub record Spelled (trees : Forest) (text : List ℕ) : Type 0 where
  pub chunks : List Chunk
  pub are : AreChunks chunks
  pub text_is : joined chunks ≡ text
  pub means : means_of chunks ≡ settled (marks 0 trees)
  pub matched : match [] chunks ≡ true
  pub line : ends_in_line (tokens_of chunks) ≡ false

pub spelled_chunks : (trees : Forest) (text : List ℕ) → IsSpelling trees text → Spelled trees text
spelled_chunks trees text it =
    let tokens = it.back.tokens in
    let all = source text tokens it.utf8 it.back.read in
    let chunks = all.chunks in
    record {
      chunks = chunks;
      are = all.are;
      text_is = all.text_is;
      means = sym (pieces_are some_part 0 chunks all.are) ∙ ap₂ (λ t ts. sorts (pieces_from some_part 0 t ts)) all.text_is all.tokens_are ∙ it.back.spells some_part;
      matched = match_source text tokens all it.back.fine;
      line = ap ends_in_line all.tokens_are ∙ it.line;
    }
