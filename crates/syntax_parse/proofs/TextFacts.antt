-- A text is cut after its first token.
use Rattle.std.proofs.Common.{◌≡◌, ℕ, zero, suc, ◌+◌, ◌<◌, ◌≤◌, true, false, ◌==◌, false-eqb, List, [], ◌∷◌, ◌++◌, length, drop, refl, sym, ap, ◌∙◌, subst, arith, length-append, Option, None, Some}
use Rattle.std.proofs.Math.Seq.{drop-append_seam}
use Rattle.std.proofs.Math.Utf8.{encodes, scalars}
use Rattle.std.proofs.lemmas.Bool.{and_parts}
use Rattle.std.proofs.lemmas.Str.{IsCharBoundary-at_seam, chars-encodes, chars-nil, encodes-append, encodes-chars, scalars-chars}
use Rattle.std.specs.Str.{chars, IsCharBoundary, IsUtf8}
use Rattle.syntax_lex.specs.Ends.{IsEnd, whole, later}
use Rattle.syntax_lex.specs.Front.{byte_length}
use Rattle.syntax_lex.specs.Reading.{AreTokensOf, first_token_of, reading}
use Rattle.syntax_lex.specs.declared.token.Token.{Token}
use Rattle.syntax_lex.proofs.EndFacts.{reading_end}
use Rattle.syntax_lex.proofs.FrontFacts.{chars-empty, empty_from_chars}
use Rattle.syntax_lex.proofs.TokenFacts.{len_first}
use Rattle.syntax_parse.specs.Parsed.{kind_ahead, next_kind, token_ahead}

-- what precedes an end
pub end_split : {rest text : List ℕ} → IsEnd rest text → (front : List ℕ) × (text ≡ front ++ rest)
end_split whole = ([], refl)
end_split (later {c = c} h) = let e = end_split h in (c ∷ e.0, ap (λ t. c ∷ t) e.1)

scalars-end : {rest text : List ℕ} → IsEnd rest text → scalars text ≡ true → scalars rest ≡ true
scalars-end whole s = s
scalars-end (later {c = c} h) s = scalars-end h (and_parts _ _ s).1

length-end : {rest text : List ℕ} → IsEnd rest text → length rest ≤ length text
length-end whole = omega arith
length-end (later h) = omega (arith, length-end h)

byte_length-append : (xs ys : List ℕ) → byte_length (xs ++ ys) ≡ length (encodes xs) + byte_length ys
unfolding byte_length
byte_length-append xs ys = ap length (encodes-append xs ys) ∙ length-append (encodes xs) (encodes ys)

-- the first token of a text with these characters ends at the end of a character, and the rest follows it
pub record Cut (bs cs : List ℕ) : Type 0 where
  pub some : 0 < (first_token_of cs).len
  pub boundary : IsCharBoundary bs (first_token_of cs).len
  pub left : chars (drop (first_token_of cs).len bs) ≡ (reading cs).1

pub cut_at : (bs cs : List ℕ) → IsUtf8 bs → 0 < length bs → chars bs ≡ cs → Cut bs cs
cut_at bs [] utf8 some e = absurd (omega (arith, empty_from_chars bs utf8 e))
cut_at bs (c ∷ cs) utf8 some e =
    let left = (reading (c ∷ cs)).1 in
    let is_end : IsEnd left (c ∷ cs) = later (reading_end c cs) in
    let front = (end_split is_end).0 in
    let joined : c ∷ cs ≡ front ++ left = (end_split is_end).1 in
    let seam : bs ≡ encodes front ++ encodes left = sym (encodes-chars bs utf8) ∙ ap encodes (e ∙ joined) ∙ encodes-append front left in
    let fine : scalars left ≡ true = scalars-end is_end (subst (λ t. scalars t ≡ true) e (scalars-chars bs utf8)) in
    let len : (first_token_of (c ∷ cs)).len ≡ length (encodes front) = omega (arith, (len_first c cs).1, ap byte_length joined, byte_length-append front left) in
    record {
      some = (len_first c cs).0;
      boundary = subst (λ n. IsCharBoundary bs n) (sym len) (IsCharBoundary-at_seam bs (encodes front) (encodes left) seam (left, (fine, refl)));
      left = ap (λ n. chars (drop n bs)) len ∙ ap (λ t. chars (drop (length (encodes front)) t)) seam ∙ ap chars (drop-append_seam (encodes front) (encodes left)) ∙ chars-encodes left fine;
    }

pub cut : (bs : List ℕ) → IsUtf8 bs → 0 < length bs → Cut bs (chars bs)
cut bs utf8 some = cut_at bs (chars bs) utf8 some refl

-- each text has tokens
pub tokens_exist : (n : ℕ) (cs : List ℕ) → length cs ≤ n → (tokens : List Token) × AreTokensOf tokens cs
tokens_exist n [] le = ([], refl)
tokens_exist zero (c ∷ cs) le = absurd (omega arith)
tokens_exist (suc n) (c ∷ cs) le =
    let behind = tokens_exist n (reading (c ∷ cs)).1 (omega (arith, length-end (reading_end c cs))) in
    (first_token_of (c ∷ cs) ∷ behind.0, ((λ none. absurd (cc)), refl, behind.1))

-- the kind of the first of its tokens is that of the token ahead
pub next_is : (tokens : List Token) (cs : List ℕ) → AreTokensOf tokens cs → kind_ahead (token_ahead cs) ≡ next_kind tokens
next_is [] cs are = ap (λ t. kind_ahead (token_ahead t)) are
next_is (token ∷ tokens) [] are = absurd (are.0 refl)
next_is (token ∷ tokens) (c ∷ cs) are = ap (λ t. Some t.kind) (sym are.1)

-- a number that is not zero is more than zero
pub more_than_none : (n : ℕ) → false ≡ (n == 0) → 0 < n
more_than_none n h = let ne : n ≡ 0 → ⊥ = λ e. false-eqb n 0 h e in omega (arith, ne)

-- an empty text has no token ahead
pub none_ahead : (bs : List ℕ) → length bs ≡ 0 → None ≡ token_ahead (chars bs)
none_ahead bs none = sym (ap token_ahead (chars-empty bs none))

-- any other text has its first token ahead
pub some_ahead : (bs : List ℕ) → IsUtf8 bs → 0 < length bs → Some (first_token_of (chars bs)) ≡ token_ahead (chars bs)
some_ahead bs utf8 some = go (chars bs) refl
  where
    go : (cs : List ℕ) → chars bs ≡ cs → Some (first_token_of cs) ≡ token_ahead cs
    go [] e = absurd (omega (arith, empty_from_chars bs utf8 e))
    go (c ∷ cs) e = refl

-- the token ahead is the first of a text that is not empty
pub ahead_is : (token : Token) (bs : List ℕ) → Some token ≡ token_ahead (chars bs) → (0 < length bs) × (token ≡ first_token_of (chars bs))
ahead_is token [] h = absurd (no (h ∙ ap token_ahead chars-nil))
  where
    no : ◌≡◌ {A = Option Token} (Some token) None → ⊥
    no k = cc
ahead_is token (b ∷ bs) h = (omega arith, go (chars (b ∷ bs)) h)
  where
    go : (cs : List ℕ) → Some token ≡ token_ahead cs → token ≡ first_token_of cs
    go [] k = absurd (cc)
    go (c ∷ cs) k = cc

-- a text without a token ahead is empty
pub is_empty : (bs : List ℕ) → IsUtf8 bs → None ≡ token_ahead (chars bs) → length bs ≡ 0
is_empty bs utf8 h = go (chars bs) refl h
  where
    go : (cs : List ℕ) → chars bs ≡ cs → None ≡ token_ahead cs → length bs ≡ 0
    go [] e k = empty_from_chars bs utf8 e
    go (c ∷ cs) e k = absurd (cc)
