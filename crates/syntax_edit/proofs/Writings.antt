-- What each token of a text becomes can be written. So trees that were read can be written, and are read again.
use Rattle.std.proofs.Common.{◌≡◌, ℕ, zero, suc, ◌+◌, ◌<◌, true, false, IsTrue, inl, inr, List, [], ◌∷◌, ◌++◌, length, append-nil, Option, Some, refl, sym, ap, ◌∙◌, subst, arith}
use Rattle.std.proofs.Math.Utf8.{encodes, scalars}
use Rattle.std.proofs.lemmas.Bool.{eqb-true}
use Rattle.std.proofs.lemmas.Str.{IsUtf8-from_ascii, chars-IsAscii, chars-encodes, encode_ascii, encodes-append, encodes-chars, scalars-chars}
use Rattle.std.specs.Prelude.{codes}
use Rattle.std.specs.Str.{IsAscii, chars, IsUtf8}
use Rattle.syntax_edit.proofs.DocTexts.{doc_alone, IsDocText, block_doc, line_doc}
use Rattle.syntax_edit.proofs.KindFacts.{placed_sorts}
use Rattle.syntax_edit.proofs.LifeFacts.{Life, life_back, name_read}
use Rattle.syntax_edit.proofs.Words.{name_alone, name_text, scalars-back, whole_token}
use Rattle.syntax_edit.proofs.Placed.{pieces_in}
use Rattle.syntax_edit.proofs.ReadyFacts.{Ready, Fit, alone_joint, ready_no_quote, ready_blank, ready_sign, ready_quote, ready_doc, ready_name, pair_is, Read, one, name_reads, sign_letters, slash_apart, pound_apart, ready_behind, settled_is}
use Rattle.syntax_edit.proofs.Roles.{block_role, leaf_valid, life_name, line_role, literal_two, name_kind, leaf_two}
use Rattle.syntax_parse.proofs.Hashes.{block_few, line_few}
use Rattle.syntax_edit.proofs.Seams.{AreSound}
use Rattle.syntax_edit.proofs.SortFits.{NameAlone, QuoteFits, SortFits, marks_are, settled_are, sorts-append, writable}
use Rattle.syntax_edit.proofs.Sources.{parsed}
use Rattle.syntax_edit.proofs.Tokens.{token_alone}
use Rattle.syntax_edit.proofs.ToldKinds.{Told, line, block, blank, wrong, opened, closed, valued, sign as sign_kind, told, word_token, raw_word, life_token, raw_life}
use Rattle.syntax_edit.proofs.Values.{value_alone}
use Rattle.syntax_edit.specs.Whole.{is_whole}
use Rattle.syntax_lex.specs.Front.{first}
use Rattle.syntax_lex.specs.Reading.{reading}
use Rattle.syntax_lex.specs.declared.token.DocStyle.TheVariants.{Outer, Inner}
use Rattle.syntax_lex.specs.declared.token.DocStyle.{DocStyle}
use Rattle.syntax_lex.specs.declared.token.TokenKind.TheVariants as kinds
use Rattle.syntax_lex.specs.declared.token.TokenKind.{TokenKind}
use Rattle.syntax_parse.specs.Doc.{block_text, hashes_wanted, line_text}
use Rattle.syntax_parse.specs.Parsed.{IsParse, next_kind}
use Rattle.syntax_parse.specs.Pieces.{doc, pieces_as, pieces_of, punct_char, spacing_before}
use Rattle.syntax_parse.specs.RawName.{behind_apostrophe}
use Rattle.syntax_parse.specs.Role.{role_in}
use Rattle.syntax_parse.specs.Spelled.{Sort, name, sign, spelled}
use Rattle.syntax_parse.specs.declared.fault.BadToken.{BadToken}
use Rattle.syntax_parse.specs.declared.fault.BadToken.TheVariants as bad
use Rattle.syntax_parse.specs.declared.role.Role.TheVariants.{Bad, Leaf}
use Rattle.syntax_parse.specs.declared.role.Role.{Role}
use Rattle.syntax_unparse.proofs.Back.{reads_back}
use Rattle.syntax_unparse.proofs.Chunks.{AreChunks, Chunk, IsChunk, chars_joined, tokens_of}
use Rattle.syntax_unparse.proofs.Fronts.{text as text_in}
use Rattle.syntax_unparse.proofs.KindFacts.{IsPunct, lifetime_cases, punct_known}
use Rattle.syntax_unparse.proofs.Readings.{read_as_settled}
use Rattle.syntax_unparse.specs.Marks.{marks}
use Rattle.syntax_unparse.specs.Settled.{sorts}
use Rattle.syntax_unparse.specs.Text.{behind_punct, text_of}
use Rattle.syntax_unparse.specs.Writable.{IsOneToken, first_kind, is_lifetime, is_name, IsWritable}
use Rattle.syntax_unparse.specs.declared.behind.Behind.TheVariants.{Opening, Apart, Quote}
use Rattle.syntax_unparse.specs.declared.behind.Behind.{Behind}
use Rattle.tt_base.specs.Forest.{Root}
use Rattle.tt_base.specs.Token.{rawness_of, without_raw_prefix}
use Rattle.tt_base.specs.declared.ident.IdentIsRaw.TheVariants.{No}
use Rattle.tt_base.specs.declared.punct.Spacing.TheVariants.{Alone, Joint as JointSpacing}
use Rattle.tt_base.specs.declared.span.SpanPart.{SpanPart}
use Rattle.unicode_ident.proofs.Computing.{unicode_ident}

-- the pieces that a doc comment means
doc_read : reading (100 ∷ 111 ∷ 99 ∷ []) ≡ (kinds.Ident, [])
unfolding unicode_ident
doc_read = name_read 100 (111 ∷ 99 ∷ []) refl refl

doc_ascii : IsAscii (100 ∷ 111 ∷ 99 ∷ [])
doc_ascii zero = omega arith
doc_ascii (suc zero) = omega arith
doc_ascii (suc (suc zero)) = omega arith
doc_ascii (suc (suc (suc i))) = omega arith

doc_name : NameAlone (codes "doc") No
doc_name ident text raw =
    let alone = whole_token (codes "doc") (codes "doc") kinds.Ident (IsUtf8-from_ascii (codes "doc") doc_ascii) (chars-IsAscii (codes "doc") doc_ascii) doc_read refl in
    name_alone (codes "doc") ident alone.0 (ap is_name alone.1) text raw

-- what follows a token can be written after all that may precede it
abbrev Behinds : (left : List ℕ) (next : Option TokenKind) (rest : List Sort) → Type 0
Behinds left next rest = (b : Behind) → Ready b left next → Fit b next rest

doc_fits : (behind : Behind) (cs left : List ℕ) (kind : TokenKind) (next : Option TokenKind) (style : DocStyle) (text : List ℕ) (rest : List Sort) → IsDocText text → hashes_wanted text < 256 → spacing_before (Some kind) ≡ Alone → Ready behind cs (Some kind)
    → Behinds left next rest → SortFits behind (doc style text ++ rest)
doc_fits behind cs left kind next Outer text rest it few alone ready more =
    (ready_doc behind cs kind alone ready, inr (kinds.Pound, refl), refl, (tt, tt, (doc_name, tt, (tt, inr (kinds.Eq, refl), refl, (tt, doc_alone text it few, (tt, tt, (more Apart tt).0))))))
doc_fits behind cs left kind next Inner text rest it few alone ready more =
    (ready_doc behind cs kind alone ready, inr (kinds.Pound, refl), refl, (tt, inr (kinds.Bang, refl), refl, (tt, tt, (doc_name, tt, (tt, inr (kinds.Eq, refl), refl, (tt, doc_alone text it few, (tt, tt, (more Apart tt).0)))))))

-- a lifetime: a `'`, joint, and a name that makes a lifetime with it
life_fits : (behind : Behind) (word letters left : List ℕ) (kind : TokenKind) (next : Option TokenKind) (rest : List Sort) → Read word letters left kind → is_whole kind ≡ true → role_in kind word ≡ Leaf
    → IsTrue (is_lifetime kind) → (kind ≡ kinds.Lifetime true → ⊥) → Ready behind letters (Some kind) → Behinds left next rest
    → SortFits behind (sign 39 JointSpacing ∷ name (without_raw_prefix (behind_apostrophe word)) (rawness_of (behind_apostrophe word)) ∷ rest)
life_fits behind word letters left kind next rest it is fine lasts digit ready more =
    (ready_quote behind letters (Some kind) 39 ready refl refl, inl refl, refl, (named, lives, (more Apart tt).0))
  where
    life : Life kind (chars word)
    life = life_back (chars word) kind (token_alone (chars word) left kind it.some it.read is) lasts digit

    tail : List ℕ
    tail = encodes life.rest

    bytes : word ≡ 39 ∷ tail
    bytes = sym (encodes-chars word it.utf8) ∙ ap encodes life.are ∙ encodes-append (39 ∷ []) life.rest ∙ ap (λ t. t ++ tail) (append-nil _ ∙ encode_ascii 39 (omega arith))

    tail_is : behind_apostrophe word ≡ tail
    tail_is = ap behind_apostrophe bytes

    scalar_rest : scalars life.rest ≡ true
    scalar_rest = scalars-back (39 ∷ []) life.rest (subst (λ t. scalars t ≡ true) life.are (scalars-chars word it.utf8))

    role : role_in (name_kind kind) tail ≡ Leaf
    role = life_name kind tail lasts (subst (λ t. role_in kind t ≡ Leaf) bytes fine)

    alone : IsOneToken tail × (first_kind tail ≡ name_kind kind)
    alone = whole_token tail life.rest (name_kind kind) (life.rest, (scalar_rest, refl)) (chars-encodes life.rest scalar_rest) life.read role

    is_named : IsTrue (is_name (name_kind kind))
    is_named = lifetime_cases (λ k. IsTrue (is_name (name_kind k))) kind (λ digit. refl) refl lasts

    named : NameAlone (without_raw_prefix (behind_apostrophe word)) (rawness_of (behind_apostrophe word))
    named = subst (λ t. NameAlone (without_raw_prefix t) (rawness_of t)) (sym tail_is) (λ ident text raw. name_alone tail ident alone.0 (ap is_name alone.1 ∙ is_named) text raw)

    whole : IsOneToken word × (first_kind word ≡ kind)
    whole = one word letters left kind it is fine

    makes : IsOneToken (39 ∷ tail) × IsTrue (is_lifetime (first_kind (39 ∷ tail)))
    makes = subst (λ t. IsOneToken t × IsTrue (is_lifetime (first_kind t))) bytes (whole.0, ap is_lifetime whole.1 ∙ lasts)

    lives : QuoteFits Quote (without_raw_prefix (behind_apostrophe word)) (rawness_of (behind_apostrophe word))
    lives =
        subst (λ t. QuoteFits Quote (without_raw_prefix t) (rawness_of t)) (sym tail_is)
        (λ ident text raw. subst (λ t. IsOneToken (39 ∷ t) × IsTrue (is_lifetime (first_kind (39 ∷ t)))) (sym (name_text tail ident text raw)) makes)

-- the sorts that a token of a role is read as
abbrev SortsAs : (role : Role) (part : SpanPart) (kind : TokenKind) (next : Option TokenKind) (at : ℕ) (word : List ℕ) → List Sort
SortsAs role part kind next at word = sorts (pieces_as role part kind next at word)

-- the reading of a token can be written
pub token_fits : (behind : Behind) (part : SpanPart) (at : ℕ) (word letters left : List ℕ) (kind : TokenKind) (next : Option TokenKind) (rest : List Sort) → Told kind → Read word letters left kind
    → ((why : BadToken) → role_in kind word ≡ Bad why → ⊥) → Ready behind letters (Some kind) → Behinds left next rest → Fit behind (Some kind) (sorts (pieces_of part kind next at word) ++ rest)
token_fits behind part at word letters left kind next rest (blank role alone) it fine ready more =
    subst (λ r. Fit behind (Some kind) (SortsAs r part kind next at word ++ rest)) (sym (role word))
    ((more behind (ready_blank behind letters left kind next alone ready)).0, λ h. absurd (alone_joint (sym alone ∙ h)))
token_fits behind part at word letters left kind next rest (wrong why role alone) it fine ready more = absurd (fine why (role word))
token_fits behind part at word letters left kind next rest (opened pair role alone) it fine ready more =
    subst (λ r. Fit behind (Some kind) (SortsAs r part kind next at word ++ rest)) (sym (role word))
    ((ready_no_quote behind letters (Some kind) ready, pair_is pair, (more Opening tt).0), λ h. absurd (alone_joint (sym alone ∙ h)))
token_fits behind part at word letters left kind next rest (closed pair role alone) it fine ready more =
    subst (λ r. Fit behind (Some kind) (SortsAs r part kind next at word ++ rest)) (sym (role word))
    ((ready_no_quote behind letters (Some kind) ready, pair_is pair, (more Apart tt).0), λ h. absurd (alone_joint (sym alone ∙ h)))
token_fits behind part at word letters left _ next rest word_token it fine ready more =
    ((name_reads word letters left kinds.Ident it refl refl refl, ready_name behind letters (Some kinds.Ident) word ready, (more Apart tt).0), λ h. absurd (alone_joint h))
token_fits behind part at word letters left _ next rest raw_word it fine ready more =
    let e : role_in kinds.RawIdent word ≡ Leaf = leaf_valid (role_in kinds.RawIdent word) (leaf_two _) fine in
    subst (λ r. Fit behind (Some kinds.RawIdent) (SortsAs r part kinds.RawIdent next at word ++ rest)) (sym e)
    ((name_reads word letters left kinds.RawIdent it refl e refl, ready_name behind letters (Some kinds.RawIdent) word ready, (more Apart tt).0), λ h. absurd (alone_joint h))
token_fits behind part at word letters left _ next rest (life_token true) it fine ready more = absurd (fine _ refl)
token_fits behind part at word letters left _ next rest (life_token false) it fine ready more = (life_fits behind word letters left (kinds.Lifetime false) next rest it refl refl refl (λ is. cc) ready more, λ h. refl)
token_fits behind part at word letters left _ next rest raw_life it fine ready more =
    let e : role_in kinds.RawLifetime word ≡ Leaf = leaf_valid (role_in kinds.RawLifetime word) (leaf_two _) fine in
    subst (λ r. Fit behind (Some kinds.RawLifetime) (SortsAs r part kinds.RawLifetime next at word ++ rest)) (sym e)
    (life_fits behind word letters left kinds.RawLifetime next rest it refl e refl (λ is. cc) ready more, λ h. refl)
token_fits behind part at word letters left kind next rest (sign_kind c is) it fine ready more =
    subst (λ t. Fit behind (Some kind) (t ++ rest)) (sym (known.means part next at word))
    ((ready_sign behind letters (Some kind) c ready (ap first letters_are), inr (kind, is), settled_is c next rest known.no_quote (λ h. (more (behind_punct c (spacing_before next)) behind_ready).1 h), (more (behind_punct c (spacing_before next)) behind_ready).0), λ h. refl)
  where
    known : IsPunct kind c
    known = punct_known kind c is

    letters_are : letters ≡ c ∷ left
    letters_are = sign_letters word letters left kind c it is

    read : punct_char (reading (c ∷ left)).0 ≡ Some c
    read = ap (λ t. punct_char (reading t).0) (sym letters_are ∙ it.letters_are) ∙ ap (λ p. punct_char p.0) it.read ∙ is

    behind_ready : Ready (behind_punct c (spacing_before next)) left next
    behind_ready =
        ready_behind c left next known.no_quote
        (λ e. slash_apart left c (subst (λ n. punct_char (reading (n ∷ left)).0 ≡ Some c) (eqb-true c 47 e) read))
        (λ e. pound_apart left c (subst (λ n. punct_char (reading (n ∷ left)).0 ≡ Some c) (eqb-true c 35 e) read))
token_fits behind part at word letters left _ next rest (valued it start) read fine ready more =
    let kind : TokenKind = kinds.Literal it start in
    let e : role_in kind word ≡ Leaf = leaf_valid (role_in kind word) (literal_two it start word) fine in
    subst (λ r. Fit behind (Some kind) (SortsAs r part kind next at word ++ rest)) (sym e)
    ((ready_no_quote behind letters (Some kind) ready, value_alone word letters left it start read e, (more Apart tt).0), λ h. absurd (alone_joint h))
token_fits behind part at word letters left _ next rest (line style) it fine ready more =
    let kind : TokenKind = kinds.LineComment (Some style) in
    let text = line_text style word in
    let e : role_in kind word ≡ Leaf = leaf_valid (role_in kind word) (leaf_two _) fine in
    subst (λ r. Fit behind (Some kind) (SortsAs r part kind next at word ++ rest)) (sym e) (
      subst (λ t. SortFits behind (t ++ rest)) (sym (placed_sorts part at (at + length word) (doc style text))) (doc_fits behind letters left kind next style text rest (line_doc style word it.utf8 (line_role style word e)) (line_few style word e) refl ready more),
      λ h. absurd (alone_joint h),
    )
token_fits behind part at word letters left _ next rest (block style false) it fine ready more = absurd (fine bad.UnterminatedComment refl)
token_fits behind part at word letters left _ next rest (block style true) it fine ready more =
    let kind : TokenKind = kinds.BlockComment (Some style) true in
    let text = block_text style word in
    let e : role_in kind word ≡ Leaf = leaf_valid (role_in kind word) (leaf_two _) fine in
    subst (λ r. Fit behind (Some kind) (SortsAs r part kind next at word ++ rest)) (sym e) (
      subst (λ t. SortFits behind (t ++ rest)) (sym (placed_sorts part at (at + length word) (doc style text))) (doc_fits behind letters left kind next style text rest (block_doc style word it.utf8 (block_role style word e)) (block_few style true word e) refl ready more),
      λ h. absurd (alone_joint h),
    )

-- a chunk, as a token that is read
as_read : (x : Chunk) (xs : List Chunk) → IsChunk x xs → Read x.text (text_in (x ∷ xs)) (text_in xs) x.kind
as_read x xs it = record { letters_are = chars_joined x xs it.utf8; read = it.reads; some = it.some; utf8 = it.utf8 }

-- the reading of chunks can be written
chunks_fit : (part : SpanPart) (at : ℕ) (chunks : List Chunk) (behind : Behind) → AreChunks chunks → AreSound chunks → Ready behind (text_in chunks) (next_kind (tokens_of chunks))
    → Fit behind (next_kind (tokens_of chunks)) (sorts (pieces_in part at chunks))
chunks_fit part at [] behind are sound ready = (ready_no_quote behind (text_in []) _ ready, λ h. absurd (alone_joint h))
chunks_fit part at (x ∷ xs) behind are sound ready =
    let rest = pieces_in part (at + length x.text) xs in
    subst (λ t. Fit behind (Some x.kind) t) (sym (sorts-append (pieces_of part x.kind (next_kind (tokens_of xs)) at x.text) rest))
    (token_fits behind part at x.text (text_in (x ∷ xs)) (text_in xs) x.kind (next_kind (tokens_of xs)) (sorts rest) (told x.kind) (as_read x xs are.0) sound.0 ready
    (λ b h. chunks_fit part (at + length x.text) xs b are.1 sound.1 h))

-- the sorts of trees that were read can be written
read_fits : (part : SpanPart) (text : List ℕ) (root : Root) → IsUtf8 text → IsParse part text root → SortFits Opening (sorts (spelled root.children))
read_fits part text root utf8 parse =
    let it = parsed part text root utf8 parse in
    subst (λ ps. SortFits Opening (sorts ps)) (sym it.pieces) (chunks_fit part 0 it.chunks Opening it.are it.sound tt).0

-- trees that were read can be written, if their leaves read alone
pub read_is_writable : (part : SpanPart) (text : List ℕ) (root : Root) → IsUtf8 text → IsParse part text root → IsWritable root.children
read_is_writable part text root utf8 parse =
    let fits = read_fits part text root utf8 parse in
    writable 0 Opening (marks 0 root.children) (subst (SortFits Opening) (sym (marks_are Opening root.children fits)) fits)

-- and their text is read as the same trees, spans aside
pub read_again : (part other : SpanPart) (text : List ℕ) (root again : Root) → IsUtf8 text → IsParse part text root → IsParse other (text_of root.children) again
    → sorts (spelled again.children) ≡ sorts (spelled root.children)
read_again part other text root again utf8 parse back =
    let fits = read_fits part text root utf8 parse in
    let same = marks_are Opening root.children fits in
    read_as_settled root.children (text_of root.children) other again (reads_back root.children (read_is_writable part text root utf8 parse)) back
    ∙ settled_are Opening (marks 0 root.children) (subst (SortFits Opening) (sym same) fits)
    ∙ same
