-- What follows the parts of an attribute.
use Rattle.std.proofs.Common.{◌≡◌, ℕ, zero, suc, ◌+◌, ◌-◌, ◌<◌, List, [], ◌∷◌, ◌++◌, length, take, drop, get_or, Option, None, Some, MatchOption, replicate, refl, sym, ap, ap₂, ◌∙◌, subst, arith, append_assoc}
use Rattle.std.proofs.Math.Seq.{drop-append_seam, get_or-append_seam, take-append_seam}
use Rattle.std.proofs.Math.Utf8.{encodes}
use Rattle.std.proofs.lemmas.List.{append_cancel_left, length-append, length-replicate, replicate-append-replicate}
use Rattle.std.proofs.lemmas.Str.{IsCharBoundary-before_ascii, chars-append, encodes-chars}
use Rattle.std.specs.Prelude.{unwrap_or}
use Rattle.std.specs.Str.{IsCharBoundary, IsUtf8, chars}
use Rattle.syntax_edit.proofs.DocTexts.{wanted_keep}
use Rattle.syntax_edit.proofs.QuotedAlone.{text_bytes}
use Rattle.syntax_edit.proofs.QuotedTexts.{raw_alone, raw_opens, text_in}
use Rattle.syntax_edit.proofs.Tokens.{token_parted}
use Rattle.syntax_lex.proofs.TwinWords.{byte_length-append}
use Rattle.syntax_layout.specs.Documented.{IsClosed, IsReplaced, attribute_opening, raw_string, string_hashes}
use Rattle.syntax_lex.proofs.TokenFacts.{token_is}
use Rattle.syntax_lex.specs.Closing.{raw_text}
use Rattle.syntax_lex.specs.Front.{byte_length}
use Rattle.syntax_lex.specs.Grammar.{IsRawText}
use Rattle.syntax_lex.specs.Literals.{raw}
use Rattle.syntax_lex.specs.Reading.{first_token_of, reading, reading_of}
use Rattle.syntax_lex.specs.declared.token.DocStyle.{DocStyle}
use Rattle.syntax_lex.specs.declared.token.LiteralKind.{LiteralKind}
use Rattle.syntax_lex.specs.declared.token.LiteralKind.TheVariants as literals
use Rattle.syntax_lex.specs.declared.token.Token.{Token}
use Rattle.syntax_lex.specs.declared.token.TokenKind.{TokenKind}
use Rattle.syntax_lex.specs.declared.token.TokenKind.TheVariants as kinds
use Rattle.syntax_parse.specs.Doc.{hashes_wanted}
use Rattle.syntax_unparse.proofs.Fronts.{ascii_first, not_nil}
use Rattle.tt_base.specs.LeafText.{closing_quote, opening_quote}
use Rattle.tt_base.specs.declared.literal.LitKind.TheVariants.{StrRaw}

-- a hash follows fewer hashes than there are
pub hashes_left : (text rest behind : List ℕ) (i n : ℕ) → i < n → text ≡ replicate i 35 ++ rest → text ≡ replicate n 35 ++ behind → (next : List ℕ) × (rest ≡ 35 ∷ next)
hashes_left text rest behind i n less e is =
    let k : ℕ = n - suc i in
    let total : n ≡ i + suc k = omega arith in
    let all : replicate n 35 ≡ replicate i 35 ++ replicate (suc k) 35 = ap (λ m. replicate m 35) total ∙ sym (replicate-append-replicate i (suc k) 35) in
    (replicate k 35 ++ behind, append_cancel_left (replicate i 35) rest (replicate (suc k) 35 ++ behind) (sym e ∙ is ∙ ap (λ t. t ++ behind) all ∙ append_assoc (replicate i 35) (replicate (suc k) 35) behind))

-- what follows a sign, hashes and another sign
pub signs_some : (a b n : ℕ) (t one two rest : List ℕ) → t ≡ a ∷ one → one ≡ replicate n 35 ++ two → two ≡ b ∷ rest → t ≡ a ∷ (replicate n 35 ++ b ∷ rest)
signs_some a b n t one two rest e f g = e ∙ ap (λ u. a ∷ u) (f ∙ ap (λ u. replicate n 35 ++ u) g)

pub signs_none : (a b n : ℕ) (t one two rest : List ℕ) → t ≡ a ∷ one → one ≡ replicate n 35 ++ two → t ≡ a ∷ (replicate n 35 ++ b ∷ rest) → two ≡ b ∷ rest
signs_none a b n t one two rest e f g =
    append_cancel_left (replicate n 35) two (b ∷ rest) (sym f ∙ append_cancel_left (a ∷ []) one (replicate n 35 ++ b ∷ rest) (sym e ∙ g))

-- what is known of what follows holds of another thing too
pub match_other : {T : Type 0} (r : Option T) (P Q : Type 0) (R S : T → Type 0) → (P → Q) → ((x : T) → R x → S x) → MatchOption r P R → MatchOption r Q S
match_other None P Q R S f g h = f h
match_other (Some x) P Q R S f g h = g x h

-- the signs of a raw string in its text
pub string_is : (doc behind : List ℕ) → raw_string doc ++ 93 ∷ behind ≡ opening_quote (StrRaw (hashes_wanted doc)) ++ (doc ++ (closing_quote (StrRaw (hashes_wanted doc)) ++ 93 ∷ behind))
string_is doc behind =
    let before = opening_quote (StrRaw (hashes_wanted doc)) in
    let after = closing_quote (StrRaw (hashes_wanted doc)) in
    append_assoc before (doc ++ after) (93 ∷ behind) ∙ ap (λ t. before ++ t) (append_assoc doc after (93 ∷ behind))

pub string_long : (doc : List ℕ) → length (raw_string doc) ≡ length doc + (hashes_wanted doc + hashes_wanted doc + 3)
string_long doc =
    let n = hashes_wanted doc in
    let first : length (opening_quote (StrRaw n)) ≡ suc (length (replicate {A = ℕ} n 35 ++ 34 ∷ [])) = refl in
    let last : length (closing_quote (StrRaw n)) ≡ suc (length (replicate {A = ℕ} n 35)) = refl in
    omega (
      arith,
      first,
      last,
      length-append (opening_quote (StrRaw n)) (doc ++ closing_quote (StrRaw n)),
      length-append doc (closing_quote (StrRaw n)),
      length-append {A = ℕ} (replicate n 35) (34 ∷ []),
      length-replicate {A = ℕ} n 35,
    )

hashes_chars : (n : ℕ) (t : List ℕ) → chars (replicate n 35 ++ t) ≡ replicate n 35 ++ chars t
hashes_chars zero t = refl
hashes_chars (suc n) t = ascii_first 35 (replicate n 35 ++ t) (omega arith) ∙ ap (λ u. 35 ∷ u) (hashes_chars n t)

-- the characters of a raw string and a bracket
string_chars : (doc behind : List ℕ) → IsUtf8 doc
    → chars (raw_string doc ++ 93 ∷ behind) ≡ 114 ∷ (replicate (hashes_wanted doc) 35 ++ 34 ∷ (chars doc ++ 34 ∷ (replicate (hashes_wanted doc) 35 ++ 93 ∷ chars behind)))
string_chars doc behind utf8 =
    let n = hashes_wanted doc in
    let last : List ℕ = 34 ∷ (replicate n 35 ++ 93 ∷ behind) in
    ap chars (string_is doc behind ∙ ap (λ t. 114 ∷ t) (append_assoc (replicate n 35) (34 ∷ []) (doc ++ last)))
    ∙ ascii_first 114 (replicate n 35 ++ 34 ∷ (doc ++ last)) (omega arith)
    ∙ ap (λ t. 114 ∷ t) (hashes_chars n (34 ∷ (doc ++ last)))
    ∙ ap (λ t. 114 ∷ (replicate n 35 ++ t)) (ascii_first 34 (doc ++ last) (omega arith) ∙ ap (λ t. 34 ∷ t) (chars-append doc last utf8))
    ∙ ap (λ t. 114 ∷ (replicate n 35 ++ 34 ∷ (chars doc ++ t))) (ascii_first 34 (replicate n 35 ++ 93 ∷ behind) (omega arith) ∙ ap (λ t. 34 ∷ t) (hashes_chars n (93 ∷ behind) ∙ ap (λ t. replicate n 35 ++ t) (ascii_first 93 behind (omega arith))))

raw_reads : (n : ℕ) (t : List ℕ) → reading (114 ∷ (replicate n 35 ++ 34 ∷ t)) ≡ raw (114 ∷ (replicate n 35 ++ 34 ∷ t)) literals.RawStr (raw_text (replicate n 35 ++ 34 ∷ t))
unfolding reading reading_of
raw_reads n t = let rest : List ℕ = replicate n 35 ++ 34 ∷ t in ap (λ f. reading_of f (114 ∷ rest) rest) (raw_opens n t)

-- the first token of a text that begins with a raw string and a bracket
pub closed_token : (doc behind t : List ℕ) → (it : IsClosed doc behind t)
    → (start : ℕ) × (first_token_of (chars t) ≡ record { kind = kinds.Literal (literals.RawStr (Some (hashes_wanted doc))) start; len = length (raw_string doc) })
closed_token doc behind t it = (start, sym (token_is kind (length (raw_string doc)) (chars t) (93 ∷ chars behind) read len))
  where
    n : ℕ
    n = hashes_wanted doc

    sort : LiteralKind
    sort = literals.RawStr (Some n)

    body : List ℕ
    body = chars doc

    letters : List ℕ
    letters = text_in sort body

    start : ℕ
    start = byte_length letters - byte_length []

    kind : TokenKind
    kind = kinds.Literal sort start

    keeps : IsRawText n body
    keeps = subst (λ u. IsRawText (hashes_wanted u) body) (encodes-chars doc it.utf8) (wanted_keep body)

    whole : reading letters ≡ (kind, [])
    whole = raw_alone (114 ∷ []) body n literals.RawStr it.few keeps (λ u. raw_reads n u)

    shown : chars t ≡ letters ++ 93 ∷ chars behind
    shown =
        ap chars it.is ∙ string_chars doc behind it.utf8
        ∙ sym (append_assoc (opening_quote (StrRaw n)) (body ++ closing_quote (StrRaw n)) (93 ∷ chars behind) ∙ ap (λ u. opening_quote (StrRaw n) ++ u) (append_assoc body (closing_quote (StrRaw n)) (93 ∷ chars behind))
        ∙ ap (λ u. 114 ∷ u) (append_assoc (replicate n 35) (34 ∷ []) (body ++ (closing_quote (StrRaw n) ++ 93 ∷ chars behind))))

    read : reading (chars t) ≡ (kind, 93 ∷ chars behind)
    read = ap reading shown ∙ token_parted letters (chars behind) 93 kind (λ e. not_nil 114 _ e) whole refl refl refl

    bytes : length (encodes letters) ≡ length (raw_string doc)
    bytes = ap length (text_bytes sort body ∙ ap (text_in sort) (encodes-chars doc it.utf8))

    len : length (raw_string doc) ≡ byte_length (chars t) - byte_length (93 ∷ chars behind)
    len = omega (arith, bytes, ap byte_length shown, byte_length-append letters (93 ∷ chars behind))

-- what follows the signs that open it
pub opened_is : (doc behind t opened : List ℕ) (n : ℕ) → IsClosed doc behind t → hashes_wanted doc ≡ n → t ≡ opening_quote (StrRaw n) ++ opened → opened ≡ doc ++ (closing_quote (StrRaw n) ++ 93 ∷ behind)
opened_is doc behind t opened n it same e =
    subst (λ m. t ≡ opening_quote (StrRaw m) ++ opened → opened ≡ doc ++ (closing_quote (StrRaw m) ++ 93 ∷ behind)) same
    (λ g. append_cancel_left (opening_quote (StrRaw (hashes_wanted doc))) opened (doc ++ (closing_quote (StrRaw (hashes_wanted doc)) ++ 93 ∷ behind)) (sym g ∙ it.is ∙ string_is doc behind)) e

-- no two such beginnings are beginnings of one text
pub closed_one : (one two a b t : List ℕ) → IsClosed one a t → IsClosed two b t → (one ≡ two) × (a ≡ b)
closed_one one two a b t first second =
    let first_token = closed_token one a t first in
    let second_token = closed_token two b t second in
    let same = sym first_token.1 ∙ second_token.1 in
    let n = hashes_wanted one in
    let hashes : hashes_wanted two ≡ n = sym (ap (λ k. unwrap_or (string_hashes k.kind) 0) same) in
    let opened = one ++ (closing_quote (StrRaw n) ++ 93 ∷ a) in
    let split : opened ≡ two ++ (closing_quote (StrRaw n) ++ 93 ∷ b) = opened_is two b t opened n second hashes (first.is ∙ string_is one a) in
    let long : length one ≡ length two = omega (arith, ap (λ k. k.len) same, string_long one, string_long two, hashes) in
    let docs : one ≡ two =
    sym (take-append_seam one (closing_quote (StrRaw n) ++ 93 ∷ a)) ∙ ap₂ (λ m u. take m u) long split ∙ take-append_seam two (closing_quote (StrRaw n) ++ 93 ∷ b) in
    let shut : closing_quote (StrRaw n) ++ 93 ∷ a ≡ closing_quote (StrRaw n) ++ 93 ∷ b =
    append_cancel_left one (closing_quote (StrRaw n) ++ 93 ∷ a) (closing_quote (StrRaw n) ++ 93 ∷ b) (split ∙ ap (λ d. d ++ (closing_quote (StrRaw n) ++ 93 ∷ b)) (sym docs)) in
    (docs, append_cancel_left (93 ∷ []) a b (append_cancel_left (closing_quote (StrRaw n)) (93 ∷ a) (93 ∷ b) shut))

-- an attribute that may be replaced has the string that follows its beginning
pub replaced_one : (style : DocStyle) (doc ending rest t literal one a : List ℕ) → t ≡ attribute_opening style ++ literal → IsClosed one a literal → (it : IsReplaced style doc ending rest t) → (one ≡ doc) × (a ≡ it.behind)
replaced_one style doc ending rest t literal one a e closed it =
    let same : it.literal ≡ literal = append_cancel_left (attribute_opening style) it.literal literal (sym it.opens ∙ e) in
    closed_one one doc a it.behind literal closed (subst (IsClosed doc it.behind) same it.closed)

-- the hashes of such a beginning are those that its first token has
pub hashes_told : (doc behind t : List ℕ) (token : Token) → token ≡ first_token_of (chars t) → IsClosed doc behind t → string_hashes token.kind ≡ Some (hashes_wanted doc)
hashes_told doc behind t token is it = ap (λ k. string_hashes k.kind) (is ∙ (closed_token doc behind t it).1)

pub hashes_are : (doc behind t : List ℕ) (token : Token) (h : ℕ) → token ≡ first_token_of (chars t) → Some h ≡ string_hashes token.kind → IsClosed doc behind t → hashes_wanted doc ≡ h
hashes_are doc behind t token h is told it = sym (ap (λ o. unwrap_or o 0) (told ∙ hashes_told doc behind t token is it))

-- the text ends where they say
pub text_long : (doc behind t : List ℕ) (token : Token) (h : ℕ) → token ≡ first_token_of (chars t) → hashes_wanted doc ≡ h → IsClosed doc behind t → token.len - (h + h + 3) ≡ length doc
text_long doc behind t token h is same it = omega (arith, ap (λ k. k.len) (is ∙ (closed_token doc behind t it).1), string_long doc, same)

pub string_opens : (doc behind t : List ℕ) (h : ℕ) → IsClosed doc behind t → hashes_wanted doc ≡ h → t ≡ opening_quote (StrRaw h) ++ (doc ++ (closing_quote (StrRaw h) ++ 93 ∷ behind))
string_opens doc behind t h it same = subst (λ m. t ≡ opening_quote (StrRaw m) ++ (doc ++ (closing_quote (StrRaw m) ++ 93 ∷ behind))) same (it.is ∙ string_is doc behind)

pub text_boundary : (doc behind opened : List ℕ) (h len : ℕ) → opened ≡ doc ++ (closing_quote (StrRaw h) ++ 93 ∷ behind) → len ≡ length doc → IsCharBoundary opened len
text_boundary doc behind opened h len e long =
    let more : List ℕ = replicate h 35 ++ 93 ∷ behind in
    let split : opened ≡ doc ++ 34 ∷ more = e in
    let at : get_or opened len 0 ≡ 34 = ap₂ (λ t n. get_or t n 0) split long ∙ get_or-append_seam doc 34 more 0 in
    IsCharBoundary-before_ascii opened len (omega (arith, long, ap length split, length-append doc (34 ∷ more))) (omega (arith, at))

pub shut_is : (doc more opened shut : List ℕ) (len : ℕ) → opened ≡ doc ++ more → len ≡ length doc → shut ≡ drop len opened → shut ≡ more
shut_is doc more opened shut len e long is = is ∙ ap₂ (λ n t. drop n t) long e ∙ drop-append_seam doc more

pub text_is : (doc more opened found : List ℕ) (len : ℕ) → opened ≡ doc ++ more → len ≡ length doc → found ≡ take len opened → found ≡ doc
text_is doc more opened found len e long is = is ∙ ap₂ (λ n t. take n t) long e ∙ take-append_seam doc more
