-- The chunks of a text that was read, and those of its parts.
use Rattle.std.proofs.Common.{◌≡◌, ◌≢◌, inl, ℕ, ◌+◌, Bool, true, false, List, [], ◌∷◌, ◌++◌, length, take, drop, Option, None, Ok, Err, refl, sym, ap, ap₂, ◌∙◌, subst, arith, append-nil, if◌then◌else◌, ◌-◌, ◌&&◌, IsTrue, Some, append_assoc, length-append}
use Rattle.std.proofs.Math.Seq.{drop-append_seam, take-append_seam}
use Rattle.std.proofs.lemmas.Bool.{false≢true}
use Rattle.std.proofs.lemmas.List.{nil_from_length, take-append-drop}
use Rattle.std.proofs.lemmas.Str.{chars-nil, IsUtf8-append, IsUtf8-nil, chars-append}
use Rattle.std.specs.Str.{chars, IsUtf8}
use Rattle.syntax_edit.proofs.KindFacts.{blank_read, line_left, pieces_same, some_part, sound_role}
use Rattle.syntax_edit.proofs.Seams.{match_cons, AreSound, letters_there, some_text}
use Rattle.syntax_edit.proofs.Placed.{pieces_in, pieces_in-is}
use Rattle.syntax_edit.proofs.Tokens.{alone, kept_alone, some_length}
use Rattle.syntax_edit.proofs.Words.{first_word}
use Rattle.syntax_edit.specs.Kept.{is_number, is_sound, ends_in_line, is_line}
use Rattle.syntax_edit.specs.Splices.{begins_with_name, ends_in_point, is_dot}
use Rattle.syntax_lex.proofs.SignFacts.{sign_read}
use Rattle.syntax_lex.proofs.FrontFacts.{empty_from_chars}
use Rattle.syntax_lex.specs.Opening.{symbol}
use Rattle.syntax_lex.specs.Reading.{AreTokensOf, reading, bytes_of}
use Rattle.syntax_lex.specs.declared.token.Token.{Token}
use Rattle.syntax_lex.specs.declared.token.TokenKind.TheVariants as kinds
use Rattle.syntax_lex.specs.declared.token.TokenKind.{TokenKind}
use Rattle.syntax_parse.specs.Faults.{fault_from, or_behind, step, step_as}
use Rattle.syntax_parse.specs.Parsed.{IsParse, next_kind, pieces_from}
use Rattle.syntax_parse.specs.Pieces.{pieces_of, spacing_before}
use Rattle.syntax_parse.specs.Role.{role_in, same_bracket}
use Rattle.syntax_parse.specs.Spelled.{spelled}
use Rattle.syntax_parse.specs.declared.bracket.Bracket.{Bracket}
use Rattle.syntax_parse.specs.declared.fault.BadToken.{BadToken}
use Rattle.syntax_parse.specs.declared.fault.Open.{Open}
use Rattle.syntax_parse.specs.declared.fault.SyntaxFault.TheVariants.{Mismatched}
use Rattle.syntax_parse.specs.declared.fault.SyntaxFault.{SyntaxFault}
use Rattle.syntax_parse.specs.declared.role.Role.TheVariants.{Bad, Nothing, Opens, Closes, Leaf}
use Rattle.syntax_parse.specs.declared.role.Role.{Role}
use Rattle.syntax_unparse.proofs.Chunks.{AreChunks, Chunk, brackets, joined, match, match_as, tokens_of, IsChunk}
use Rattle.syntax_unparse.proofs.Fronts.{text}
use Rattle.syntax_unparse.proofs.KindFacts.{name_cases}
use Rattle.syntax_unparse.specs.Settled.{sorts}
use Rattle.syntax_unparse.specs.Writable.{is_name}
use Rattle.tt_base.specs.Forest.{Forest, Root}
use Rattle.tt_base.specs.declared.punct.Spacing.TheVariants.{Alone}
use Rattle.tt_base.specs.declared.span.SpanPart.{SpanPart}

-- the tokens of a text as chunks
pub record Source (t : List ℕ) (tokens : List Token) : Type 0 where
  pub chunks : List Chunk
  pub are : AreChunks chunks
  pub text_is : joined chunks ≡ t
  pub tokens_are : tokens_of chunks ≡ tokens

pub source : (t : List ℕ) (tokens : List Token) → IsUtf8 t → AreTokensOf tokens (chars t) → Source t tokens
source t [] utf8 are = record { chunks = []; are = tt; text_is = sym (nil_from_length t (empty_from_chars t utf8 are)); tokens_are = refl }
source t (token ∷ tokens) utf8 (some, is, are) =
    let it = first_word t token utf8 some is in
    let rest = source (drop token.len t) tokens it.rest (subst (AreTokensOf tokens) it.left are) in
    let word = take token.len t in
    let next = next_kind tokens in
    record {
      chunks = record { text = word; kind = token.kind; role = role_in token.kind word; means = sorts (pieces_of some_part token.kind next 0 word) } ∷ rest.chunks;
      are = (
        record {
          utf8 = it.utf8;
          some = it.some;
          reads = subst (λ u. reading (chars word ++ u) ≡ (token.kind, u)) (sym (ap chars rest.text_is)) it.read;
          role = refl;
          means = λ part at. pieces_same part some_part token.kind (next_kind (tokens_of rest.chunks)) next at 0 word (inl (ap (λ ts. spacing_before (next_kind ts)) rest.tokens_are));
        },
        rest.are,
      );
      text_is = ap (λ u. word ++ u) rest.text_is ∙ take-append-drop token.len t;
      tokens_are = ap₂ (λ n ts. record { kind = token.kind; len = n } ∷ ts) it.size rest.tokens_are;
    }

-- a token that can be at its place, with no fault after it
pub step_match : (before : List Open) (at : ℕ) (role : Role) (fault : List Open → Option SyntaxFault) (fits : List Bracket → Bool) → ((next : List Open) → fault next ≡ None → fits (brackets next) ≡ true)
    → or_behind (step_as role before at) fault ≡ None → match_as (brackets before) role fits ≡ true
step_match before at (Bad why) fault fits tell h = absurd (cc)
step_match before at Nothing fault fits tell h = tell before h
step_match before at Leaf fault fits tell h = tell before h
step_match before at (Opens pair) fault fits tell h = tell (record { bracket = pair; at = at } ∷ before) h
step_match [] at (Closes pair) fault fits tell h = absurd (cc)
step_match (last ∷ before) at (Closes pair) fault fits tell h = paired (same_bracket last.bracket pair) h
  where
    paired : (b : Bool) → or_behind (if b then Ok before else Err (Mismatched pair at last)) fault ≡ None → (if b then fits (brackets before) else false) ≡ true
    paired true k = tell before k
    paired false k = absurd (cc)

-- if the tokens of the first chunks have no fault, the brackets of these match
pub match_front : (before : List Open) (at : ℕ) (front back : List Chunk) → AreChunks (front ++ back) → fault_from before at (joined (front ++ back)) (tokens_of front) ≡ None → match (brackets before) front ≡ true
match_front [] at [] back are fine = refl
match_front (last ∷ before) at [] back are fine = absurd (cc)
match_front before at (x ∷ front) back are fine =
    let n = length x.text in
    let rest = joined (front ++ back) in
    let faults = λ (t u : List ℕ). or_behind (step before at x.kind t) (λ next. fault_from next (at + n) u (tokens_of front)) in
    match_cons (brackets before) x front
    ∙ step_match before at x.role (λ next. fault_from next (at + n) rest (tokens_of front)) (λ next. match next front) (λ next h. match_front next (at + n) front back are.1 h)
    (ap (λ role. or_behind (step_as role before at) (λ next. fault_from next (at + n) rest (tokens_of front))) (sym are.0.role)
    ∙ sym (ap₂ faults (take-append_seam x.text rest) (drop-append_seam x.text rest)) ∙ from before ∙ fine)
  where
    from : (before : List Open)
        → or_behind (step before at x.kind (take (length x.text) (joined (x ∷ (front ++ back))))) (λ next. fault_from next (at + length x.text) (drop (length x.text) (joined (x ∷ (front ++ back)))) (tokens_of front))
        ≡ fault_from before at (joined (x ∷ (front ++ back))) (tokens_of (x ∷ front))
    from [] = refl
    from (last ∷ before) = refl

-- a token that can be at its place is not bad, and the tokens after it can be at theirs
sound_step : (before : List Bracket) (role : Role) (fits : List Bracket → Bool) → match_as before role fits ≡ true → ((why : BadToken) → role ≡ Bad why → ⊥) × (next : List Bracket) × (fits next ≡ true)
sound_step before (Bad why) fits h = absurd (false≢true h)
sound_step before Nothing fits h = ((λ why e. absurd (cc)), before, h)
sound_step before Leaf fits h = ((λ why e. absurd (cc)), before, h)
sound_step before (Opens pair) fits h = ((λ why e. absurd (cc)), pair ∷ before, h)
sound_step [] (Closes pair) fits h = absurd (false≢true h)
sound_step (last ∷ before) (Closes pair) fits h = ((λ why e. absurd (cc)), before, paired (same_bracket last pair) h)
  where
    paired : (b : Bool) → (if b then fits before else false) ≡ true → fits before ≡ true
    paired true k = k
    paired false k = absurd (false≢true k)

-- chunks whose brackets match are sound
pub sound_chunks : (before : List Bracket) (chunks : List Chunk) → AreChunks chunks → match before chunks ≡ true → AreSound chunks
sound_chunks before [] are h = tt
sound_chunks before (x ∷ xs) are h =
    let it = sound_step before x.role (λ next. match next xs) (sym (match_cons before x xs) ∙ h) in
    ((λ why bad. it.0 why (sym are.0.role ∙ bad)), sound_chunks it.1 xs are.1 it.2)

pub sound_front : (front back : List Chunk) → AreSound (front ++ back) → AreSound front
sound_front [] back sound = tt
sound_front (x ∷ front) back sound = (sound.0, sound_front front back sound.1)

pub sound_back : (front back : List Chunk) → AreSound (front ++ back) → AreSound back
sound_back [] back sound = sound
sound_back (x ∷ front) back sound = sound_back front back sound.1

pub are_back : (front back : List Chunk) → AreChunks (front ++ back) → AreChunks back
are_back [] back are = are
are_back (x ∷ front) back are = are_back front back are.1

-- the brackets of a text without a fault match
pub match_source : (t : List ℕ) (tokens : List Token) (it : Source t tokens) → fault_from [] 0 t tokens ≡ None → match [] it.chunks ≡ true
match_source t tokens it none =
    let chunks = it.chunks in
    match_front [] 0 chunks [] (subst AreChunks (sym (append-nil chunks)) it.are)
    (ap (λ cs. fault_from [] 0 (joined cs) (tokens_of chunks)) (append-nil chunks) ∙ ap₂ (fault_from [] 0) it.text_is it.tokens_are ∙ none)

-- a text that was read, as chunks
pub record Parsed (part : SpanPart) (text : List ℕ) (tokens : List Token) (trees : Forest) : Type 0 where
  pub chunks : List Chunk
  pub are : AreChunks chunks
  pub matched : match [] chunks ≡ true
  pub sound : AreSound chunks
  pub text_is : joined chunks ≡ text
  pub tokens_are : tokens_of chunks ≡ tokens
  pub pieces : spelled trees ≡ pieces_in part 0 chunks

pub parsed : (part : SpanPart) (text : List ℕ) (root : Root) → IsUtf8 text → (parse : IsParse part text root) → Parsed part text parse.tokens root.children
parsed part text root utf8 parse =
    let it = source text parse.tokens utf8 parse.read in
    let chunks = it.chunks in
    let matched = match_source text parse.tokens it parse.fine in
    record {
      chunks = chunks;
      are = it.are;
      matched = matched;
      sound = sound_chunks [] chunks it.are matched;
      text_is = it.text_is;
      tokens_are = it.tokens_are;
      pieces = parse.spells ∙ sym (ap₂ (pieces_from part 0) it.text_is it.tokens_are) ∙ pieces_in-is part 0 chunks;
    }

pub utf8_joined : (xs : List Chunk) → AreChunks xs → IsUtf8 (joined xs)
utf8_joined [] are = IsUtf8-nil
utf8_joined (x ∷ xs) are = IsUtf8-append x.text (joined xs) are.0.utf8 (utf8_joined xs are.1)

pub joined-append : (xs ys : List Chunk) → joined (xs ++ ys) ≡ joined xs ++ joined ys
joined-append [] ys = refl
joined-append (x ∷ xs) ys = ap (λ t. x.text ++ t) (joined-append xs ys) ∙ sym (append_assoc x.text (joined xs) (joined ys))

-- the text after two parts
pub rest_text : (at start stop : ℕ) (kept inside rest : List Chunk) → start ≡ at + length (joined kept) → stop ≡ start + length (joined inside) → drop (stop - at) (joined (kept ++ (inside ++ rest))) ≡ joined rest
rest_text at start stop kept inside rest begins ends =
    ap₂ (λ n t. drop n t) (omega (arith, begins, ends, length-append (joined kept) (joined inside)))
    (joined-append kept (inside ++ rest) ∙ ap (λ t. joined kept ++ t) (joined-append inside rest) ∙ sym (append_assoc (joined kept) (joined inside) (joined rest)))
    ∙ drop-append_seam (joined kept ++ joined inside) (joined rest)

-- chunks take as many bytes as their tokens
pub bytes_are : (xs : List Chunk) → bytes_of (tokens_of xs) ≡ length (joined xs)
bytes_are [] = refl
bytes_are (x ∷ xs) = omega (arith, bytes_are xs, length-append x.text (joined xs))

pub head_of : {A : Type 0} {x y : A} {xs ys : List A} → x ∷ xs ≡ y ∷ ys → x ≡ y
head_of e = cc

pub tail_of : {A : Type 0} {x y : A} {xs ys : List A} → x ∷ xs ≡ y ∷ ys → xs ≡ ys
tail_of e = cc

-- chunks whose tokens are two lists are two lists of chunks
pub split : (chunks : List Chunk) (before rest : List Token) → tokens_of chunks ≡ before ++ rest → (front : List Chunk) × (back : List Chunk) × (chunks ≡ front ++ back) × (tokens_of front ≡ before) × (tokens_of back ≡ rest)
split chunks [] rest e = ([], chunks, refl, refl, e)
split [] (token ∷ before) rest e = absurd (omega (arith, ap length e))
split (x ∷ xs) (token ∷ before) rest e =
    let (front, back, are, fronts, backs) = split xs before rest (tail_of e) in
    (x ∷ front, back, ap (λ t. x ∷ t) are, ap₂ (λ k ts. k ∷ ts) (head_of e) fronts, backs)

utf8_front : (front back : List Chunk) → AreChunks (front ++ back) → IsUtf8 (joined front)
utf8_front [] back are = IsUtf8-nil
utf8_front (x ∷ front) back are = IsUtf8-append x.text (joined front) are.0.utf8 (utf8_front front back are.1)

text-append : (front back : List Chunk) → AreChunks (front ++ back) → text (front ++ back) ≡ text front ++ text back
text-append front back are = ap chars (joined-append front back) ∙ chars-append (joined front) (joined back) (utf8_front front back are)

name_apart : (kind : TokenKind) → IsTrue (is_name kind) → spacing_before (Some kind) ≡ Alone
name_apart kind = name_cases (λ k. spacing_before (Some k) ≡ Alone) kind refl refl

name_white : (kind : TokenKind) → is_name kind ≡ true → kind ≡ kinds.Whitespace → ⊥
name_white kind named is = false≢true (ap is_name (sym is) ∙ named)

-- no comment to the end of the line comes right before a name
no_line : (x : Chunk) (back : List Chunk) → AreChunks (x ∷ back) → begins_with_name (tokens_of back) ≡ true → is_line x.kind ≡ false
no_line x [] are named = absurd (false≢true named)
no_line x (n ∷ ns) are named = go (is_line x.kind) refl
  where
    go : (b : Bool) → is_line x.kind ≡ b → is_line x.kind ≡ false
    go false e = e
    go true e =
        let (c, cs, letters) = letters_there (chars x.text) are.0.some in
        let (f, fs, marks) = letters_there (chars n.text) are.1.0.some in
        let behind : text (n ∷ ns) ≡ f ∷ (fs ++ text ns) = chars-append n.text (joined ns) are.1.0.utf8 ∙ ap (λ t. t ++ text ns) marks in
        let read : reading (c ∷ (cs ++ text (n ∷ ns))) ≡ (x.kind, f ∷ (fs ++ text ns)) = ap (λ t. reading (t ++ text (n ∷ ns))) (sym letters) ∙ are.0.reads ∙ ap (λ t. (x.kind, t)) behind in
        let feed : f ≡ 10 = line_left c (cs ++ text (n ∷ ns)) x.kind f (fs ++ text ns) read e in
        let kind : n.kind ≡ kinds.Whitespace =
        ap (λ p. p.0) (sym (ap (λ t. reading (t ++ text ns)) (sym marks) ∙ are.1.0.reads)) ∙ ap (λ p. p.0) (ap (λ d. reading (d ∷ (fs ++ text ns))) feed ∙ blank_read 10 (fs ++ text ns) refl) in
        absurd (name_white n.kind named kind)

pub front_not_line : (front back : List Chunk) → AreChunks (front ++ back) → begins_with_name (tokens_of back) ≡ true → ends_in_line (tokens_of front) ≡ false
front_not_line [] back are named = refl
front_not_line (x ∷ []) back are named = no_line x back are named
front_not_line (x ∷ y ∷ front) back are named = front_not_line (y ∷ front) back are.1 named

-- a point is a point
point_kind : (y : Chunk) (back : List Chunk) → IsChunk y back → chars y.text ≡ 46 ∷ [] → is_dot y.kind ≡ true
unfolding symbol
point_kind y back it letters = ap (λ p. is_dot p.0) (sym (ap (λ t. reading (t ++ text back)) (sym letters) ∙ it.reads) ∙ sign_read 46 (text back) refl refl)

-- if the kept part follows a number, it is not only a point
no_point : (x y : Chunk) (front back : List Chunk) → AreChunks (x ∷ y ∷ (front ++ back)) → ends_in_point (tokens_of (x ∷ y ∷ front)) ≡ false → is_number x.kind ≡ true → text (y ∷ front) ≢ 46 ∷ []
no_point x y [] back are apart number e =
    let letters : chars y.text ≡ 46 ∷ [] = sym (append-nil (chars y.text)) ∙ ap (λ t. chars y.text ++ t) (sym chars-nil) ∙ sym (chars-append y.text [] are.1.0.utf8) ∙ e in
    absurd (false≢true (sym apart ∙ ap₂ (λ a b. a && b) number (point_kind y back are.1.0 letters)))
no_point x y (z ∷ front) back are apart number e =
    omega (
      arith,
      ap length e,
      ap length (chars-append y.text (joined (z ∷ front)) are.1.0.utf8),
      ap length (chars-append z.text (joined front) are.1.1.0.utf8),
      length-append (chars y.text) (text (z ∷ front)),
      length-append (chars z.text) (text front),
      some_length (chars y.text) are.1.0.some,
      some_length (chars z.text) are.1.1.0.some,
    )

-- a chunk before a name is a chunk alone
last_alone : (x : Chunk) (back : List Chunk) → AreChunks (x ∷ back) → is_sound x.kind ≡ true → begins_with_name (tokens_of back) ≡ true → IsChunk x []
last_alone x [] are sound named = absurd (false≢true named)
last_alone x (n ∷ ns) are sound named =
    let it = are.0 in
    let read = alone (chars x.text) (text (n ∷ ns)) x.kind it.some it.reads sound (no_line x (n ∷ ns) are named) in
    record {
      utf8 = it.utf8;
      some = it.some;
      reads = ap (λ t. reading (chars x.text ++ t)) chars-nil ∙ ap reading (append-nil (chars x.text)) ∙ read ∙ ap (λ t. (x.kind, t)) (sym chars-nil);
      role = it.role;
      means = λ part at. pieces_same part part x.kind None (Some n.kind) at at x.text (inl (sym (name_apart n.kind named))) ∙ it.means part at;
    }

-- the chunks before a name are chunks alone
pub cut_chunks : (front back : List Chunk) → AreChunks (front ++ back) → AreSound front → begins_with_name (tokens_of back) ≡ true → ends_in_point (tokens_of front) ≡ false → AreChunks front
cut_chunks [] back are sound named apart = tt
cut_chunks (x ∷ []) back are sound named apart = (last_alone x back are (sound_role x.kind x.text sound.0) named, tt)
cut_chunks (x ∷ y ∷ front) back are sound named apart =
    let it = are.0 in
    let whole : text ((y ∷ front) ++ back) ≡ text (y ∷ front) ++ text back = text-append (y ∷ front) back are.1 in
    let read = kept_alone (chars x.text) (text (y ∷ front)) (text back) x.kind it.some (some_text y front are.1.0.utf8 are.1.0.some) (ap (λ t. reading (chars x.text ++ t)) (sym whole) ∙ it.reads ∙ ap (λ t. (x.kind, t)) whole) (sound_role x.kind x.text sound.0) (no_point x y front back are apart) in
    (record { utf8 = it.utf8; some = it.some; reads = read; role = it.role; means = it.means }, cut_chunks (y ∷ front) back are.1 sound.1 named (later front apart))
  where
    later : (rest : List Chunk) → ends_in_point (tokens_of (x ∷ y ∷ rest)) ≡ false → ends_in_point (tokens_of (y ∷ rest)) ≡ false
    later [] h = refl
    later (z ∷ rest) h = h

neutral_step : (opened before : List Bracket) (role : Role) (held all : List Bracket → Bool) (rest : Bool) → ((next : List Bracket) → held next ≡ true → all (next ++ before) ≡ rest)
    → match_as opened role held ≡ true → match_as (opened ++ before) role all ≡ rest
neutral_step opened before (Bad why) held all rest tell h = absurd (false≢true h)
neutral_step opened before Nothing held all rest tell h = tell opened h
neutral_step opened before Leaf held all rest tell h = tell opened h
neutral_step opened before (Opens pair) held all rest tell h = tell (pair ∷ opened) h
neutral_step [] before (Closes pair) held all rest tell h = absurd (false≢true h)
neutral_step (last ∷ opened) before (Closes pair) held all rest tell h = paired (same_bracket last pair) h
  where
    paired : (b : Bool) → (if b then held opened else false) ≡ true → (if b then all (opened ++ before) else false) ≡ rest
    paired true k = tell opened k
    paired false k = absurd (false≢true k)

-- chunks whose brackets match do not change the open brackets
pub neutral : (opened before : List Bracket) (xs ys : List Chunk) → match opened xs ≡ true → match (opened ++ before) (xs ++ ys) ≡ match before ys
neutral [] before [] ys h = refl
neutral (o ∷ opened) before [] ys h = absurd (false≢true h)
neutral opened before (x ∷ xs) ys h =
    match_cons (opened ++ before) x (xs ++ ys)
    ∙ neutral_step opened before x.role (λ next. match next xs) (λ next. match next (xs ++ ys)) (match before ys) (λ next m. neutral next before xs ys m) (sym (match_cons opened x xs) ∙ h)
