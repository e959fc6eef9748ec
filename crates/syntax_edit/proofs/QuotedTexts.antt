-- A literal in quotes that is read from a text: its quotes, the text between them, and the rest of the token. Without that rest it is the same.
use Rattle.std.proofs.Common.{◌≡◌, ℕ, zero, suc, ◌<◌, Bool, true, false, ◌==◌, ◌&&◌, List, [], ◌∷◌, ◌++◌, replicate, drop, Option, None, Some, is_some, refl, sym, ap, ◌∙◌, arith, append-nil, if◌then◌else◌, ◌-◌, not, length, ap₂, subst, append_assoc}
use Rattle.std.proofs.lemmas.Bool.{and_parts, eqb-true, false≢true, lt-ltb, ltb-true}
use Rattle.std.specs.Prelude.{nat_lt}
use Rattle.syntax_lex.proofs.KeepFacts.{no_start, plain_null}
use Rattle.syntax_lex.proofs.TwinQuotes.{char_twins}
use Rattle.syntax_lex.proofs.TwinWords.{byte_length-append, byte_length-is}
use Rattle.syntax_lex.proofs.Twins.{ended, plain, twin_is, twins_of}
use Rattle.syntax_lex.specs.Stops.{is_closed, is_number_kind}
use Rattle.syntax_lex.proofs.GrammarFacts.{hashes_front, raw_closed, raw_read, string_closed, string_read}
use Rattle.syntax_lex.proofs.TokenFacts.{byte_length-nil}
use Rattle.syntax_lex.specs.Class.{is_id_continue}
use Rattle.syntax_lex.specs.Closing.{behind_raw, counted, hashes_of, raw_body, raw_text, behind_quote}
use Rattle.syntax_lex.specs.Front.{first, second, skip, behind, behind_name, byte_length}
use Rattle.syntax_lex.specs.Grammar.{IsRawText}
use Rattle.syntax_lex.specs.Literals.{quoted, raw}
use Rattle.syntax_lex.specs.Opening.{opening}
use Rattle.syntax_lex.specs.Quoted.{literal, quoted_char}
use Rattle.syntax_lex.specs.Reading.{reading}
use Rattle.syntax_lex.specs.declared.opening.Family.TheVariants as opens
use Rattle.syntax_lex.specs.declared.token.LiteralKind.{LiteralKind}
use Rattle.syntax_lex.specs.declared.token.TokenKind.TheVariants as kinds
use Rattle.syntax_lex.specs.declared.token.TokenKind.{TokenKind}
use Rattle.syntax_parse.proofs.ShapeParts.{begins, char_closed}
use Rattle.syntax_parse.specs.Pieces.{scan_of}
use Rattle.tt_base.specs.LeafText.{closing_quote, opening_quote}
use Rattle.tt_base.specs.Scan.{kind_told}
use Rattle.tt_base.specs.declared.literal.LitKind.TheVariants as lit
use Rattle.tt_base.specs.declared.literal.LitKind.{LitKind}

-- exactly `n` hashes precede a quote
hashes_counted : (n : ℕ) (t : List ℕ) → hashes_of (replicate n 35 ++ 34 ∷ t) ≡ n
hashes_counted zero t = refl
hashes_counted (suc n) t = ap suc (hashes_counted n t)

drop_counted : (n : ℕ) (t : List ℕ) → drop n (replicate n 35 ++ t) ≡ t
drop_counted zero t = refl
drop_counted (suc n) t = drop_counted n t

-- a raw text of fewer than 256 hashes, with nothing after it
raw_text_whole : (n : ℕ) (body : List ℕ) → n < 256 → IsRawText n body → raw_text (replicate n 35 ++ 34 ∷ (body ++ 34 ∷ replicate n 35)) ≡ (Some n, [])
unfolding raw_text
raw_text_whole n body few is =
    let inner : List ℕ = body ++ 34 ∷ replicate n 35 in
    let told : counted true n ≡ Some n = rw (lt-ltb n 256 few) refl in
    ap (λ k. raw_body k (drop k (replicate n 35 ++ 34 ∷ inner))) (hashes_counted n inner)
    ∙ ap (raw_body n) (drop_counted n (34 ∷ inner))
    ∙ ap (λ found. (counted found.0 n, found.1)) (ap (λ t. behind_raw n (body ++ 34 ∷ t)) (sym (append-nil (replicate n 35))) ∙ raw_read n body [] is)
    ∙ ap (λ c. (c, [])) told

-- an `r` before hashes and a quote begins a raw string
pub raw_opens : (n : ℕ) (t : List ℕ) → opening 114 (first (replicate n 35 ++ 34 ∷ t)) (second (replicate n 35 ++ 34 ∷ t)) ≡ opens.RawStr
unfolding opening
raw_opens zero t = refl
raw_opens (suc zero) t = rw (no_start 34 (omega arith) refl refl) refl
raw_opens (suc (suc n)) t = rw (no_start 35 (omega arith) refl refl) refl

-- so do a `b` or a `c` before that
pub raw_byte_opens : (n : ℕ) (t : List ℕ) → opening 98 114 (first (replicate n 35 ++ 34 ∷ t)) ≡ opens.RawByteStr
unfolding opening
raw_byte_opens zero t = refl
raw_byte_opens (suc n) t = refl

pub raw_c_opens : (n : ℕ) (t : List ℕ) → opening 99 114 (first (replicate n 35 ++ 34 ∷ t)) ≡ opens.RawCStr
unfolding opening
raw_c_opens zero t = refl
raw_c_opens (suc n) t = refl

-- by whether it begins with a quote
abbrev body_as : (n : ℕ) → (quote : Bool) → List ℕ → Option ℕ × List ℕ
body_as n quote cs = if quote then (counted (behind_raw n (skip cs)).0 n, (behind_raw n (skip cs)).1) else (None, skip cs)

-- a number that is counted is there
some_told : (b : Bool) (n : ℕ) → is_some (if b then Some n else None) ≡ true → b ≡ true
some_told true n some = refl
some_told false n some = absurd (false≢true some)

-- a closed raw text: its hashes, a quote, its inside, a quote and as many hashes, and the rest
pub record RawText (cs : List ℕ) (found : Option ℕ × List ℕ) : Type 0 where
  pub count : ℕ
  pub body : List ℕ
  pub few : count < 256
  pub kept : IsRawText count body
  pub told : found.0 ≡ Some count
  pub are : cs ≡ replicate count 35 ++ 34 ∷ (body ++ 34 ∷ (replicate count 35 ++ found.1))

pub raw_text_back : (cs : List ℕ) → is_some (raw_text cs).0 ≡ true → RawText cs (raw_text cs)
unfolding raw_text
raw_text_back cs = go (first rest == 34) refl
  where
    n : ℕ
    n = hashes_of cs

    rest : List ℕ
    rest = drop n cs

    go : (b : Bool) → (first rest == 34) ≡ b → is_some (body_as n b rest).0 ≡ true → RawText cs (body_as n b rest)
    go false e some = absurd (false≢true some)
    go true e some =
        let found = behind_raw n (skip rest) in
        let both : (found.0 && nat_lt n 256) ≡ true = some_told (found.0 && nat_lt n 256) n some in
        let parts = and_parts found.0 (nat_lt n 256) both in
        let it = raw_closed n (skip rest) found.1 (ap (λ b. (b, found.1)) parts.0) in record {
          count = n;
          body = it.0;
          few = ltb-true n 256 parts.1;
          kept = it.1;
          told = ap (λ b. if b then Some n else None) both;
          are = hashes_front n cs (omega arith) ∙ ap (λ t. replicate n 35 ++ t) (begins rest 33 (eqb-true (first rest) 34 e) ∙ ap (λ t. 34 ∷ t) it.2);
        }

-- whether a literal of a kind has quotes: all except numbers, and literals with a suffix that they may not have
abbrev pub has_quotes : LitKind → Bool
has_quotes lit.Integer = false
has_quotes lit.Float = false
has_quotes (lit.Err unit) = false
has_quotes _ = true

-- whether a kind is that of a literal in quotes that is closed
abbrev pub is_quoted : LiteralKind → Bool
is_quoted kind = not (is_number_kind kind) && is_closed kind

-- whether a token is such a literal
abbrev pub is_quoted_token : TokenKind → Bool
is_quoted_token (kinds.Literal kind start) = is_quoted kind
is_quoted_token _ = false

-- the literal for a lexer's kind
abbrev pub lit_of : LiteralKind → LitKind
lit_of kind = kind_told (scan_of kind)

-- the text of a literal in quotes
abbrev pub text_in : LiteralKind → (body : List ℕ) → List ℕ
text_in kind body = opening_quote (lit_of kind) ++ (body ++ closing_quote (lit_of kind))

-- a literal in quotes and the rest of its token: without that rest the text is one token of the same kind
pub record Quoted (kind : LiteralKind) (front : List ℕ) (start : ℕ) : Type 0 where
  pub body : List ℕ
  pub rest : List ℕ
  pub are : front ≡ text_in kind body ++ rest
  pub place : start ≡ byte_length (text_in kind body)
  pub alone : reading (text_in kind body) ≡ (kinds.Literal kind start, [])

-- a token that is such a literal
abbrev pub QuotedAs : TokenKind → List ℕ → Type 0
QuotedAs (kinds.Literal kind start) front = Quoted kind front start
QuotedAs _ front = Unit {0}

-- a text that is read as one literal, to its end
abbrev pub IsAll : LiteralKind → List ℕ → Type 0
IsAll kind text = reading text ≡ (kinds.Literal kind (byte_length text - byte_length []), [])

pub quoted_as : (kind : LiteralKind) (front before body after rest : List ℕ) → before ≡ opening_quote (lit_of kind) → after ≡ closing_quote (lit_of kind)
    → front ≡ before ++ (body ++ (after ++ rest)) → IsAll kind (before ++ (body ++ after)) → Quoted kind front (byte_length front - byte_length rest)
quoted_as kind front before body after rest opens closes are read =
    let text : List ℕ = text_in kind body in
    let same : before ++ (body ++ after) ≡ text = ap₂ (λ a b. a ++ (body ++ b)) opens closes in
    let whole : front ≡ text ++ rest = are ∙ sym (append_assoc before (body ++ after) rest ∙ ap (λ t. before ++ t) (append_assoc body after rest)) ∙ ap (λ t. t ++ rest) same in
    let place : byte_length front - byte_length rest ≡ byte_length text = omega (arith, ap byte_length whole, byte_length-append text rest, byte_length-is text) in
    let all : byte_length text - byte_length [] ≡ byte_length front - byte_length rest = omega (arith, place, byte_length-nil) in
    record { body = body; rest = rest; are = whole; place = place; alone = subst (IsAll kind) same read ∙ ap (λ n. (kinds.Literal kind n, [])) all }

-- an empty text has no name
name_nil : behind_name [] ≡ []
name_nil = ap (λ b. if b then behind is_id_continue [] else []) plain_null.no_start

-- a text that a quote closes is also closed if nothing follows it
abbrev pub Closes : (List ℕ → Bool × List ℕ) → (quote : ℕ) → Type 0
Closes find quote = (cs rest : List ℕ) → find cs ≡ (true, rest) → (body : List ℕ) × (cs ≡ body ++ quote ∷ rest) × (find (body ++ quote ∷ []) ≡ (true, []))

pub string_closes : Closes (behind_quote false) 34
string_closes cs rest h = let it = string_closed cs rest h in (it.0, it.2, string_read it.0 [] it.1)

pub char_closes : Closes quoted_char 39
char_closes cs rest h =
    let it = char_closed cs rest h in
    let text : List ℕ = it.0 ++ 39 ∷ [] in
    let are : cs ≡ text ++ rest = it.1 ∙ sym (append_assoc it.0 (39 ∷ []) rest) in
    let found : quoted_char (text ++ rest) ≡ (true, rest) = ap quoted_char (sym are) ∙ h in
    let same = char_twins (twins_of text rest []) (ap (λ p. p.0) found) (ended (omega (arith, ap (λ p. length p.1) found)) (plain plain_null)) in
    let both : quoted_char (text ++ []) ≡ (true, []) = ap₂ (λ a b. (a, b)) (sym same.kind ∙ ap (λ p. p.0) found) (twin_is rest [] [] same.left (ap (λ p. p.1) found)) in
    (it.0, it.1, ap quoted_char (sym (append-nil text)) ∙ both)

-- a literal that a quote closes, after the characters that open it
pub quoted_back : (text before cs : List ℕ) (quote : ℕ) (kind : Bool → LiteralKind) (find : List ℕ → Bool × List ℕ) (token : TokenKind)
    → before ≡ opening_quote (lit_of (kind true)) → quote ∷ [] ≡ closing_quote (lit_of (kind true)) → text ≡ before ++ cs → Closes find quote
    → ((body rest : List ℕ) → cs ≡ body ++ quote ∷ rest → reading (before ++ (body ++ quote ∷ [])) ≡ quoted (before ++ (body ++ quote ∷ [])) kind (find (body ++ quote ∷ [])))
    → (find cs).0 ≡ true → (quoted text kind (find cs)).0 ≡ token → QuotedAs token text
unfolding literal
quoted_back text before cs quote kind find token opens closes are shut reads closed is =
    let rest = (find cs).1 in
    let it = shut cs rest (ap (λ b. (b, rest)) closed) in
    let alone : List ℕ = before ++ (it.0 ++ quote ∷ []) in
    let start = byte_length alone - byte_length [] in
    let read : IsAll (kind true) alone = reads it.0 rest it.1 ∙ ap (quoted alone kind) it.2 ∙ ap (λ t. (kinds.Literal (kind true) start, t)) name_nil in
    let told : kinds.Literal (kind true) (byte_length text - byte_length rest) ≡ token = ap (λ b. kinds.Literal (kind b) (byte_length text - byte_length rest)) (sym closed) ∙ is in
    subst (λ t. QuotedAs t text) told
    (quoted_as (kind true) text before it.0 (quote ∷ []) rest opens closes (are ∙ ap (λ t. before ++ t) it.1) read)

-- a raw literal alone: its letters, hashes and a text that these keep
pub raw_alone : (letters body : List ℕ) (n : ℕ) (kind : Option ℕ → LiteralKind) → n < 256 → IsRawText n body
    → ((t : List ℕ) → reading (letters ++ (replicate n 35 ++ 34 ∷ t)) ≡ raw (letters ++ (replicate n 35 ++ 34 ∷ t)) kind (raw_text (replicate n 35 ++ 34 ∷ t)))
    → IsAll (kind (Some n)) ((letters ++ (replicate n 35 ++ 34 ∷ [])) ++ (body ++ 34 ∷ replicate n 35))
unfolding literal
raw_alone letters body n kind few kept reads =
    let tail : List ℕ = body ++ 34 ∷ replicate n 35 in
    let text : List ℕ = letters ++ (replicate n 35 ++ 34 ∷ tail) in
    let grouped : (letters ++ (replicate n 35 ++ 34 ∷ [])) ++ tail ≡ text = append_assoc letters (replicate n 35 ++ 34 ∷ []) tail ∙ ap (λ t. letters ++ t) (append_assoc (replicate n 35) (34 ∷ []) tail) in
    let read : IsAll (kind (Some n)) text =
    reads tail ∙ ap (raw text kind) (raw_text_whole n body few kept) ∙ ap (λ t. (kinds.Literal (kind (Some n)) (byte_length text - byte_length []), t)) name_nil in
    subst (IsAll (kind (Some n))) (sym grouped) read

-- a closed raw literal, after its letters
pub raw_back : (text letters cs : List ℕ) (kind : Option ℕ → LiteralKind) (token : TokenKind)
    → ((n : ℕ) → letters ++ (replicate n 35 ++ 34 ∷ []) ≡ opening_quote (lit_of (kind (Some n)))) → ((n : ℕ) → 34 ∷ replicate n 35 ≡ closing_quote (lit_of (kind (Some n)))) → text ≡ letters ++ cs
    → ((n : ℕ) (t : List ℕ) → reading (letters ++ (replicate n 35 ++ 34 ∷ t)) ≡ raw (letters ++ (replicate n 35 ++ 34 ∷ t)) kind (raw_text (replicate n 35 ++ 34 ∷ t)))
    → is_some (raw_text cs).0 ≡ true → (raw text kind (raw_text cs)).0 ≡ token → QuotedAs token text
unfolding literal
raw_back text letters cs kind token opens closes are reads some is =
    let rest = (raw_text cs).1 in
    let it = raw_text_back cs some in
    let hashes : List ℕ = replicate it.count 35 in
    let tail : List ℕ = it.body ++ 34 ∷ (hashes ++ rest) in
    let told : kinds.Literal (kind (Some it.count)) (byte_length text - byte_length rest) ≡ token = ap (λ o. kinds.Literal (kind o) (byte_length text - byte_length rest)) (sym it.told) ∙ is in
    let grouped : (letters ++ (hashes ++ 34 ∷ [])) ++ tail ≡ letters ++ (hashes ++ 34 ∷ tail) = append_assoc letters (hashes ++ 34 ∷ []) tail ∙ ap (λ t. letters ++ t) (append_assoc hashes (34 ∷ []) tail) in
    subst (λ t. QuotedAs t text) told
    (quoted_as (kind (Some it.count)) text (letters ++ (hashes ++ 34 ∷ [])) it.body (34 ∷ hashes) rest (opens it.count) (closes it.count)
    (are ∙ ap (λ t. letters ++ t) it.are ∙ sym grouped)
    (raw_alone letters it.body it.count kind it.few it.kept (reads it.count)))
