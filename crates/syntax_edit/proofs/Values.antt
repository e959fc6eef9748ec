-- Literals that are read from a text read alone.
use Rattle.std.proofs.Common.{◌≡◌, ℕ, ◌-◌, Bool, true, false, ◌==◌, inr, List, [], ◌∷◌, ◌++◌, length, take, drop, Some, refl, sym, ap, ap₂, ◌∙◌, subst, arith, append-nil, if◌then◌else◌}
use Rattle.std.proofs.Math.Seq.{drop-append_seam}
use Rattle.std.proofs.Math.Utf8.{encodes, scalars}
use Rattle.std.proofs.lemmas.Bool.{false≢true}
use Rattle.std.proofs.lemmas.List.{take-append-drop}
use Rattle.std.proofs.lemmas.List.Folds.{drop_split}
use Rattle.std.proofs.lemmas.Slice.Eq.{bytes_eq-Decides}
use Rattle.std.proofs.lemmas.Str.{chars-IsAscii, chars-encodes, encodes-append, encodes-chars, scalars-chars}
use Rattle.std.specs.Prelude.{bytes_eq, codes, slice_range}
use Rattle.std.specs.Str.{chars}
use Rattle.tt_base.specs.LeafText.{literal_text}
use Rattle.tt_base.specs.Literal.{kind_of, symbol_of}
use Rattle.tt_base.specs.Scan.{LiteralParts, kind_told, no_literal, parts_told, suffix_told}
use Rattle.tt_base.specs.declared.leaf.Leaf.TheVariants as leaf_of
use Rattle.tt_base.specs.declared.literal.LitKind.{LitKind}
use Rattle.tt_base.specs.declared.literal.LitKind.TheVariants as lit
use Rattle.tt_base.specs.declared.literal.Literal.{Literal}
use Rattle.syntax_lex.specs.Front.{byte_length, first}
use Rattle.syntax_lex.specs.Reading.{reading}
use Rattle.syntax_lex.specs.declared.token.LiteralKind.{LiteralKind}
use Rattle.syntax_lex.specs.declared.token.LiteralKind.TheVariants as literals
use Rattle.syntax_lex.specs.declared.token.TokenKind.TheVariants as kinds
use Rattle.syntax_edit.proofs.LiteralsBack.{IsNumber, number_back, quotes_back}
use Rattle.syntax_edit.proofs.QuotedAlone.{quoted_alone}
use Rattle.syntax_edit.proofs.QuotedTexts.{Quoted, has_quotes, is_quoted}
use Rattle.syntax_edit.proofs.Tokens.{token_alone}
use Rattle.syntax_edit.proofs.ReadyFacts.{Read, one}
use Rattle.syntax_edit.proofs.Roles.{literal_closed}
use Rattle.syntax_edit.proofs.SortFits.{ValueAlone}
use Rattle.syntax_lex.proofs.TwinWords.{byte_length-append}
use Rattle.syntax_edit.proofs.Words.{scalars-back}
use Rattle.syntax_lex.specs.Stops.{is_closed, is_number_kind}
use Rattle.syntax_parse.specs.Pieces.{scan_of}
use Rattle.syntax_parse.specs.Role.{role_in}
use Rattle.syntax_parse.specs.declared.role.Role.TheVariants.{Leaf}
use Rattle.syntax_unparse.proofs.KindFacts.{ascii_one}
use Rattle.syntax_unparse.specs.Writable.{MeansLiteral, ReadsAlone, ReadsAs}

-- a literal without quotes has its symbol as text
plain_text : (literal : Literal) → has_quotes (kind_of literal) ≡ false → literal_text literal ≡ symbol_of literal
plain_text literal plain = go (kind_of literal) refl plain
  where
    all : take (length literal.symbol - literal.suffix_len) literal.symbol ++ drop (length literal.symbol - literal.suffix_len) literal.symbol ≡ literal.symbol
    all = take-append-drop (length literal.symbol - literal.suffix_len) literal.symbol

    cut : List ℕ
    cut = take (length literal.symbol - literal.suffix_len) literal.symbol

    joined : (cut ++ []) ++ drop (length literal.symbol - literal.suffix_len) literal.symbol ≡ literal.symbol
    joined = ap (λ t. t ++ drop (length literal.symbol - literal.suffix_len) literal.symbol) (append-nil cut) ∙ all

    go : (kind : LitKind) → kind_of literal ≡ kind → has_quotes kind ≡ false → literal_text literal ≡ symbol_of literal
    go lit.Integer e h = rw e joined
    go lit.Float e h = rw e joined
    go (lit.Err unit) e h = rw e joined
    go kind e h = absurd (false≢true (sym h))

-- a suffix that does not begin with `_` counts
suffix_counts : (rest : List ℕ) → scalars rest ≡ true → (first rest == 95) ≡ false → suffix_told (encodes rest) ≡ encodes rest
suffix_counts rest fine line = go (bytes_eq (encodes rest) (codes "_")) refl
  where
    go : (b : Bool) → bytes_eq (encodes rest) (codes "_") ≡ b → (if b then [] else encodes rest) ≡ encodes rest
    go false e = refl
    go true e =
        let same : encodes rest ≡ 95 ∷ [] = (bytes_eq-Decides (encodes rest) (codes "_")).0 e in
        let is : rest ≡ 95 ∷ [] = sym (chars-encodes rest fine) ∙ ap chars same ∙ chars-IsAscii (95 ∷ []) (ascii_one 95 (omega arith)) in
        absurd (false≢true (sym line ∙ ap (λ t. first t == 95) is))

-- the parts of a number make up its text
number_text : (word front : List ℕ) (start : ℕ) → word ≡ encodes front → scalars front ≡ true → IsNumber front start → slice_range word 0 (start - 0) ++ suffix_told (drop start word) ≡ word
number_text word front start are fine it =
    let bytes : word ≡ encodes it.front ++ encodes it.rest = are ∙ ap encodes it.are ∙ encodes-append it.front it.rest in
    let place : start ≡ length (encodes it.front) = omega (arith, it.place, ap byte_length it.are, byte_length-append it.front it.rest) in
    let left : drop start word ≡ encodes it.rest = ap (λ n. drop n word) place ∙ ap (λ t. drop (length (encodes it.front)) t) bytes ∙ drop-append_seam (encodes it.front) (encodes it.rest) in
    let scalar : scalars it.rest ≡ true = scalars-back it.front it.rest (subst (λ t. scalars t ≡ true) it.are fine) in
    let whole : start - 0 ≡ start = omega arith in
    ap₂ (λ n t. slice_range word 0 n ++ t) whole (ap suffix_told left ∙ suffix_counts it.rest scalar it.no_line ∙ sym left)
    ∙ sym (drop_split word 0 start (omega arith))

-- the parts of a literal without quotes make up its text
quoted_text : (word : List ℕ) (kind : LitKind) (parts : LiteralParts) → has_quotes kind ≡ true → parts.kind ≡ kind → (b : Bool)
    → has_quotes (if b then parts else no_literal word).kind ≡ false → (if b then parts else no_literal word).value ++ (if b then parts else no_literal word).suffix ≡ word
quoted_text word kind parts quotes is true plain = absurd (false≢true (sym plain ∙ ap has_quotes is ∙ quotes))
quoted_text word kind parts quotes is false plain = append-nil word

parts_text : (word front : List ℕ) (kind : LiteralKind) (start : ℕ) → word ≡ encodes front → scalars front ≡ true → (is_number_kind kind ≡ true → IsNumber front start)
    → has_quotes (parts_told word (Some (scan_of kind, start))).kind ≡ false
    → (parts_told word (Some (scan_of kind, start))).value ++ (parts_told word (Some (scan_of kind, start))).suffix ≡ word
parts_text word front (literals.Int base empty) start are fine number plain = number_text word front start are fine (number refl)
parts_text word front (literals.Float base empty) start are fine number plain = number_text word front start are fine (number refl)
parts_text word front kind start are fine number plain = quoted_text word (kind_told (scan_of kind)) _ refl refl _ plain

-- an empty text has no literal
nothing_literal : (kind : LiteralKind) (start : ℕ) → reading [] ≡ (kinds.Literal kind start, []) → ⊥
unfolding reading
nothing_literal kind start e = let k : kinds.Unknown ≡ kinds.Literal kind start = ap (λ p. p.0) e in cc

-- a literal with quotes is one that is read with quotes
quoted_kind : (kind : LiteralKind) (word : List ℕ) (start : ℕ) → is_closed kind ≡ true → has_quotes (parts_told word (Some (scan_of kind, start))).kind ≡ true → is_quoted kind ≡ true
quoted_kind (literals.Int base empty) word start closed quotes = absurd (false≢true quotes)
quoted_kind (literals.Float base empty) word start closed quotes = absurd (false≢true quotes)
quoted_kind kind word start closed quotes = closed

-- a literal reads alone
pub value_alone : (word letters left : List ℕ) (kind : LiteralKind) (start : ℕ) → Read word letters left (kinds.Literal kind start) → role_in (kinds.Literal kind start) word ≡ Leaf
    → ValueAlone (parts_told word (Some (scan_of kind, start))).kind ((parts_told word (Some (scan_of kind, start))).value ++ (parts_told word (Some (scan_of kind, start))).suffix)
    (length (parts_told word (Some (scan_of kind, start))).suffix)
value_alone word letters left kind start it fine literal symbol sort len = go (has_quotes parts.kind) refl
  where
    parts : LiteralParts
    parts = parts_told word (Some (scan_of kind, start))

    closed : is_closed kind ≡ true
    closed = literal_closed kind start word fine

    read : reading (chars word) ≡ (kinds.Literal kind start, [])
    read = token_alone (chars word) left (kinds.Literal kind start) it.some it.read closed

    number : (front : List ℕ) → reading front ≡ (kinds.Literal kind start, []) → is_number_kind kind ≡ true → IsNumber front start
    number [] e is = absurd (nothing_literal kind start e)
    number (c ∷ cs) e is = number_back c cs (kinds.Literal kind start) e is

    quotes : (front : List ℕ) → reading front ≡ (kinds.Literal kind start, []) → is_quoted kind ≡ true → Quoted kind front start
    quotes [] e is = absurd (nothing_literal kind start e)
    quotes (c ∷ cs) e is = quotes_back c cs (kinds.Literal kind start) e is

    go : (b : Bool) → has_quotes parts.kind ≡ b → ReadsAlone (leaf_of.Literal literal)
    go true has =
        let is = quoted_kind kind word start closed has in
        quoted_alone kind word (chars word) start (quotes (chars word) read is) is (sym (encodes-chars word it.utf8)) (scalars-chars word it.utf8) fine has literal symbol sort len
    go false plain =
        let alone = one word letters left (kinds.Literal kind start) it closed fine in
        let text = parts_text word (chars word) kind start (sym (encodes-chars word it.utf8)) (scalars-chars word it.utf8) (number (chars word) read) plain in
        let is : literal_text literal ≡ word = plain_text literal (ap has_quotes sort ∙ plain) ∙ symbol ∙ text in
        inr (subst (λ t. ReadsAs t (leaf_of.Literal literal)) (sym is)
        (alone.0, subst (λ k. MeansLiteral k word literal) (sym alone.1) (record { symbol = symbol; span = refl; kind = sort; suffix_len = len })))
