-- The Rust text of trees that can be written has only tokens that are blank or depend only on their own text.
use Rattle.std.proofs.Common.{◌≡◌, ℕ, Bool, true, false, ◌||◌, ◌&&◌, List, [], ◌∷◌, Some, refl, sym, ap, ap₂, ◌∙◌, subst, if◌then◌else◌}
use Rattle.std.proofs.lemmas.Bool.{false≢true}
use Rattle.std.specs.Str.{chars}
use Rattle.syntax_edit.specs.Whole.{is_whole}
use Rattle.syntax_lex.specs.Stops.{is_ended}
use Rattle.syntax_layout.specs.Gap.{is_blank}
use Rattle.syntax_layout.specs.Layout.{HasOthers, are_plain}
use Rattle.syntax_lex.proofs.TokenFacts.{one_list}
use Rattle.syntax_lex.specs.Reading.{AreTokensOf}
use Rattle.syntax_lex.specs.declared.token.TokenKind.{TokenKind}
use Rattle.syntax_lex.specs.declared.token.TokenKind.TheVariants as kinds
use Rattle.syntax_parse.specs.Pieces.{punct_char}
use Rattle.syntax_parse.specs.declared.bracket.Bracket.{Bracket}
use Rattle.syntax_parse.specs.declared.bracket.Bracket.TheVariants.{Parenthesis, Brace, Square}
use Rattle.syntax_unparse.proofs.Back.{chunks_are}
use Rattle.syntax_unparse.proofs.Chunks.{Chunk, joined, tokens_are, tokens_of}
use Rattle.syntax_unparse.proofs.Fronts.{literal_known, name_known, reads_as}
use Rattle.syntax_unparse.proofs.WordFacts.{is_wordy}
use Rattle.syntax_unparse.proofs.Written.{Fits, behind_quote, chunks_of, closing_kind, fits, gap_if, joined_are, leaf_chunk, opening_chunk, opening_kind, word_as}
use Rattle.syntax_unparse.specs.Marks.{Mark, word, opening, closing, marks}
use Rattle.syntax_unparse.specs.Text.{behind_leaf, opens_apart, text_of, wants_space}
use Rattle.syntax_unparse.specs.Writable.{IsWritable, ReadsAlone, first_kind, is_lifetime, is_punct}
use Rattle.syntax_unparse.specs.declared.behind.Behind.{Behind}
use Rattle.syntax_unparse.specs.declared.behind.Behind.TheVariants.{Opening, Apart, Joint, Slash, Pound, Quote}
use Rattle.tt_base.specs.Forest.{Forest}
use Rattle.tt_base.specs.LeafText.{ident_text, leaf_text}
use Rattle.tt_base.specs.declared.leaf.Leaf.{Leaf}
use Rattle.tt_base.specs.declared.leaf.Leaf.TheVariants as leaf_of

-- a token that is blank or told by itself
abbrev is_plain : TokenKind → Bool
is_plain kind = is_blank kind || is_whole kind

whole_plain : (kind : TokenKind) → is_whole kind ≡ true → is_plain kind ≡ true
whole_plain kind h = ap (λ b. is_blank kind || b) h ∙ by (is_blank kind)
  where
    by : (b : Bool) → (b || true) ≡ true
    by true = refl
    by false = refl

wordy_whole : (kind : TokenKind) → is_wordy kind ≡ true → is_ended kind ≡ true → is_whole kind ≡ true
wordy_whole kinds.Ident h e = refl
wordy_whole kinds.RawIdent h e = refl
wordy_whole (kinds.Literal kind start) h e = e
wordy_whole kind h e = absurd (false≢true h)

life_whole : (kind : TokenKind) → is_lifetime kind ≡ true → is_whole kind ≡ true
life_whole (kinds.Lifetime digit) h = refl
life_whole kinds.RawLifetime h = refl
life_whole kind h = absurd (false≢true h)

punct_whole : (kind : TokenKind) (c : ℕ) → punct_char kind ≡ Some c → is_whole kind ≡ true
punct_whole (kinds.LineComment doc) c h = absurd (cc)
punct_whole (kinds.BlockComment doc terminated) c h = absurd (cc)
punct_whole kinds.Whitespace c h = absurd (cc)
punct_whole kinds.InvalidIdent c h = absurd (cc)
punct_whole kinds.UnknownPrefix c h = absurd (cc)
punct_whole kinds.UnknownPrefixLifetime c h = absurd (cc)
punct_whole kinds.GuardedStrPrefix c h = absurd (cc)
punct_whole (kinds.Literal kind start) c h = absurd (cc)
punct_whole kind c h = refl

opens_plain : (pair : Bracket) → is_plain (opening_kind pair) ≡ true
opens_plain Parenthesis = refl
opens_plain Brace = refl
opens_plain Square = refl

closes_plain : (pair : Bracket) → is_plain (closing_kind pair) ≡ true
closes_plain Parenthesis = refl
closes_plain Brace = refl
closes_plain Square = refl

leaf_plain : (it : Leaf) → is_punct 39 it ≡ false → ReadsAlone it → is_plain (first_kind (leaf_text it)) ≡ true
leaf_plain (leaf_of.Ident ident) other reads =
    let told = reads_as (leaf_of.Ident ident) other reads in
    let kind = first_kind (ident_text ident) in
    let known = name_known ident (ident_text ident) kind told.0.fine told.1 in
    whole_plain kind (wordy_whole kind known.wordy known.ended)
leaf_plain (leaf_of.Literal literal) other reads =
    let it = leaf_of.Literal literal in
    let told = reads_as it other reads in
    let kind = first_kind (leaf_text it) in
    let known = literal_known literal (leaf_text it) kind told.0.fine told.1 in
    whole_plain kind (wordy_whole kind known.wordy known.ended)
leaf_plain (leaf_of.Punct punct) other reads =
    let it = leaf_of.Punct punct in
    let kind = first_kind (leaf_text it) in
    whole_plain kind (punct_whole kind punct.char (reads_as it other reads).1)

-- all of the chunks are
abbrev AllPlain : List Chunk → Type 0
AllPlain [] = Unit {0}
AllPlain (x ∷ xs) = (is_plain x.kind ≡ true) × AllPlain xs

gap_plain : (due : Bool) (chunks : List Chunk) → AllPlain chunks → AllPlain (gap_if due chunks)
gap_plain true chunks h = (refl, h)
gap_plain false chunks h = h

word_plain : (it : Leaf) (rest : List Mark) → ReadsAlone it → AllPlain (chunks_of (behind_leaf it) rest) → AllPlain (word_as it rest (chunks_of Quote rest) (chunks_of (behind_leaf it) rest))
word_plain it rest reads inner = go (is_punct 39 it) refl
  where
    go : (b : Bool) → is_punct 39 it ≡ b → AllPlain (if is_punct 39 it then chunks_of Quote rest else leaf_chunk it rest ∷ chunks_of (behind_leaf it) rest)
    go true e =
        subst (λ b. AllPlain (if b then chunks_of Quote rest else leaf_chunk it rest ∷ chunks_of (behind_leaf it) rest)) (sym e) (subst (λ b. AllPlain (chunks_of b rest)) (behind_quote it e) inner)
    go false e = subst (λ b. AllPlain (if b then chunks_of Quote rest else leaf_chunk it rest ∷ chunks_of (behind_leaf it) rest)) (sym e) (leaf_plain it e reads, inner)

all_plain : (behind : Behind) (ms : List Mark) → Fits behind ms → AllPlain (chunks_of behind ms)
all_plain behind [] f = tt
all_plain behind (opening pair ∷ rest) f = gap_plain (opens_apart behind) (opening_chunk pair ∷ chunks_of Opening rest) (opens_plain pair, all_plain Opening rest f.1)
all_plain behind (closing pair ∷ rest) f = (closes_plain pair, all_plain Apart rest f.1)
all_plain Quote (word at (leaf_of.Ident ident) ∷ rest) f =
    let kind = first_kind (39 ∷ ident_text ident) in (whole_plain kind (life_whole kind f.0.1), all_plain Apart rest f.2)
all_plain Quote (word at (leaf_of.Literal literal) ∷ rest) f = absurd f.0
all_plain Quote (word at (leaf_of.Punct punct) ∷ rest) f = absurd f.0
all_plain Opening (word at it ∷ rest) f =
    gap_plain (wants_space Opening it) (word_as it rest (chunks_of Quote rest) (chunks_of (behind_leaf it) rest)) (word_plain it rest f.1 (all_plain (behind_leaf it) rest f.2))
all_plain Apart (word at it ∷ rest) f =
    gap_plain (wants_space Apart it) (word_as it rest (chunks_of Quote rest) (chunks_of (behind_leaf it) rest)) (word_plain it rest f.1 (all_plain (behind_leaf it) rest f.2))
all_plain Joint (word at it ∷ rest) f =
    gap_plain (wants_space Joint it) (word_as it rest (chunks_of Quote rest) (chunks_of (behind_leaf it) rest)) (word_plain it rest f.1 (all_plain (behind_leaf it) rest f.2))
all_plain Slash (word at it ∷ rest) f =
    gap_plain (wants_space Slash it) (word_as it rest (chunks_of Quote rest) (chunks_of (behind_leaf it) rest)) (word_plain it rest f.1 (all_plain (behind_leaf it) rest f.2))
all_plain Pound (word at it ∷ rest) f =
    gap_plain (wants_space Pound it) (word_as it rest (chunks_of Quote rest) (chunks_of (behind_leaf it) rest)) (word_plain it rest f.1 (all_plain (behind_leaf it) rest f.2))

told : (chunks : List Chunk) → AllPlain chunks → are_plain (tokens_of chunks) ≡ true
told [] h = refl
told (x ∷ xs) h = ap₂ (λ a b. a && b) h.0 (told xs h.1)

-- so the text of such trees can be laid out
pub no_others : (trees : Forest) → IsWritable trees → HasOthers (text_of trees) → ⊥
no_others trees writable found =
    let ms = marks 0 trees in
    let f = fits 0 Opening ms writable in
    let chunks = chunks_of Opening ms in
    let text_is : joined chunks ≡ text_of trees = joined_are Opening ms f in
    let read : AreTokensOf (tokens_of chunks) (chars (text_of trees)) = subst (λ t. AreTokensOf (tokens_of chunks) (chars t)) text_is (tokens_are chunks (chunks_are Opening ms f)) in
    let same = one_list found.tokens (tokens_of chunks) (chars (text_of trees)) found.read read in
    false≢true (sym found.others ∙ ap are_plain same ∙ told chunks (all_plain Opening ms f))
