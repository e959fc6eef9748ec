-- A token of a text, as bytes: one that means leaves is one token alone. A name and a punct read alone.
use Rattle.std.proofs.Common.{◌≡◌, ◌≢◌, ℕ, ◌<◌, ◌&&◌, true, List, [], ◌∷◌, ◌++◌, length, take, drop, refl, sym, ap, ap₂, ◌∙◌, subst, arith, ◌==◌, ◌||◌, Bool, false, IsTrue, Some, if◌then◌else◌}
use Rattle.std.proofs.Math.Utf8.{scalars}
use Rattle.std.proofs.lemmas.Bool.Decides.{Decides-eqb}
use Rattle.std.proofs.lemmas.Bool.{and_parts}
use Rattle.std.proofs.lemmas.List.{length-take-le, take-append-drop}
use Rattle.std.proofs.lemmas.Slice.Eq.{starts_is}
use Rattle.std.proofs.lemmas.Str.{IsUtf8-drop, IsUtf8-take, chars-append, chars-nil}
use Rattle.std.specs.List.{starts_with}
use Rattle.std.specs.Prelude.{codes, encode_utf8, nat_eq}
use Rattle.std.specs.Str.{chars, IsUtf8}
use Rattle.syntax_edit.proofs.Tokens.{token_alone}
use Rattle.syntax_edit.specs.Whole.{is_whole}
use Rattle.syntax_lex.proofs.SignFacts.{sign_read}
use Rattle.syntax_lex.specs.Stops.{is_glued}
use Rattle.syntax_lex.proofs.FrontFacts.{byte_length-chars, empty_from_chars}
use Rattle.syntax_lex.proofs.TokenFacts.{byte_length-nil, token_is}
use Rattle.syntax_lex.specs.Reading.{first_token_of, reading}
use Rattle.syntax_lex.specs.declared.token.Token.{Token}
use Rattle.syntax_lex.specs.declared.token.TokenKind.{TokenKind}
use Rattle.syntax_parse.proofs.TextFacts.{cut}
use Rattle.syntax_parse.specs.Pieces.{punct_char}
use Rattle.syntax_parse.specs.Role.{role_in}
use Rattle.syntax_parse.specs.declared.role.Role.TheVariants.{Leaf}
use Rattle.syntax_unparse.proofs.KindFacts.{punct_known}
use Rattle.syntax_unparse.specs.Writable.{IsOneToken, first_kind, ReadsAs, is_name}
use Rattle.tt_base.specs.LeafText.{ident_text, raw_prefix}
use Rattle.tt_base.specs.Token.{rawness_of, without_raw_prefix}
use Rattle.tt_base.specs.declared.ident.Ident.{Ident}
use Rattle.tt_base.specs.declared.ident.IdentIsRaw.TheVariants.{No, Yes}
use Rattle.tt_base.specs.declared.leaf.Leaf.TheVariants as leaf_of
use Rattle.tt_base.specs.declared.punct.Punct.{Punct}

pub scalars-back : (xs ys : List ℕ) → scalars (xs ++ ys) ≡ true → scalars ys ≡ true
scalars-back [] ys h = h
scalars-back (x ∷ xs) ys h = scalars-back xs ys (and_parts _ _ h).1

pub scalars-front : (xs ys : List ℕ) → scalars (xs ++ ys) ≡ true → scalars xs ≡ true
scalars-front [] ys h = refl
scalars-front (x ∷ xs) ys h = let both = and_parts _ _ h in ap₂ (λ a b. a && b) both.0 (scalars-front xs ys both.1)

pub some_bytes : (t : List ℕ) → chars t ≢ [] → 0 < length t
some_bytes [] some = absurd (some chars-nil)
some_bytes (b ∷ t) some = omega arith

-- the first token of a text, and the rest
pub record Word (bs : List ℕ) (token : Token) : Type 0 where
  pub utf8 : IsUtf8 (take token.len bs)
  pub rest : IsUtf8 (drop token.len bs)
  pub size : length (take token.len bs) ≡ token.len
  pub some : chars (take token.len bs) ≢ []
  pub left : (reading (chars bs)).1 ≡ chars (drop token.len bs)
  pub read : reading (chars (take token.len bs) ++ chars (drop token.len bs)) ≡ (token.kind, chars (drop token.len bs))

kind_is : (cs : List ℕ) → (first_token_of cs).kind ≡ (reading cs).0
unfolding first_token_of
kind_is cs = refl

pub first_word : (bs : List ℕ) (token : Token) → IsUtf8 bs → chars bs ≢ [] → token ≡ first_token_of (chars bs) → Word bs token
first_word bs token utf8 some is =
    let it = cut bs utf8 (some_bytes bs some) in
    let n = (first_token_of (chars bs)).len in
    let size : length (take n bs) ≡ n = length-take-le n bs it.boundary.0 in
    let front : IsUtf8 (take n bs) = IsUtf8-take bs n utf8 it.boundary in
    let letters : chars bs ≡ chars (take n bs) ++ chars (drop n bs) = ap chars (sym (take-append-drop n bs)) ∙ chars-append (take n bs) (drop n bs) front in
    subst (Word bs) (sym is) (record {
      utf8 = front;
      rest = IsUtf8-drop bs n utf8 it.boundary;
      size = size;
      some = λ e. omega (arith, it.some, size, empty_from_chars (take n bs) front e);
      left = sym it.left;
      read = ap reading (sym letters) ∙ ap₂ (λ k t. (k, t)) (sym (kind_is (chars bs))) (sym it.left);
    })

-- a reading that takes all of a text is one token
pub whole_token : (word front : List ℕ) (kind : TokenKind) → IsUtf8 word → chars word ≡ front → reading front ≡ (kind, []) → role_in kind word ≡ Leaf → IsOneToken word × (first_kind word ≡ kind)
whole_token word front kind utf8 are read fine =
    let token : first_token_of (chars word) ≡ record { kind = kind; len = length word } =
    sym (token_is kind (length word) (chars word) [] (ap reading are ∙ read) (omega (arith, byte_length-chars word utf8, byte_length-nil))) in
    let is : first_kind word ≡ kind = ap (λ (t : Token). t.kind) token in
    (record { utf8 = utf8; whole = ap (λ (t : Token). t.len) token; fine = ap (λ k. role_in k word) is ∙ fine }, is)

-- a token that means leaves is one token alone
pub leaf_alone : (text : List ℕ) (token : Token) → IsUtf8 text → chars text ≢ [] → token ≡ first_token_of (chars text) → is_whole token.kind ≡ true → role_in token.kind (take token.len text) ≡ Leaf
    → IsOneToken (take token.len text) × (first_kind (take token.len text) ≡ token.kind)
leaf_alone text token utf8 some are is fine =
    let it = first_word text token utf8 some are in
    let word = take token.len text in whole_token word (chars word) token.kind it.utf8 refl (token_alone (chars word) (chars (drop token.len text)) token.kind it.some it.read is) fine

-- a name with the prefix that it was read with is its text
pub prefix_back : (word : List ℕ) → raw_prefix (rawness_of word) ++ without_raw_prefix word ≡ word
prefix_back word = go (starts_with nat_eq word (codes "r#")) refl
  where
    go : (b : Bool) → starts_with nat_eq word (codes "r#") ≡ b → raw_prefix (if b then Yes else No) ++ (if b then drop 2 word else word) ≡ word
    go true e = sym ((starts_is Decides-eqb word (codes "r#") _ refl).0 e)
    go false e = refl

-- the leaf of a name that is read has its text
pub name_text : (word : List ℕ) (ident : Ident) → ident.sym ≡ without_raw_prefix word → ident.is_raw ≡ rawness_of word → ident_text ident ≡ word
name_text word ident text raw = ap₂ (λ r t. raw_prefix r ++ t) raw text ∙ prefix_back word

pub name_alone : (word : List ℕ) (ident : Ident) → IsOneToken word → IsTrue (is_name (first_kind word)) → ident.sym ≡ without_raw_prefix word → ident.is_raw ≡ rawness_of word
    → ReadsAs (ident_text ident) (leaf_of.Ident ident)
name_alone word ident one named text raw = subst (λ t. ReadsAs t (leaf_of.Ident ident)) (sym (name_text word ident text raw)) (one, (named, sym text, sym raw))

unglued : (c : ℕ) → is_glued c 0 ≡ false
unglued c = go (c == 47) (c == 35)
  where
    go : (a b : Bool) → ((a && ((0 == 47) || (0 == 42))) || (b && ((0 == 34) || (0 == 35)))) ≡ false
    go true true = refl
    go true false = refl
    go false true = refl
    go false false = refl

-- a punct of a kind reads alone
pub punct_alone : (punct : Punct) (kind : TokenKind) → punct_char kind ≡ Some punct.char → ReadsAs (encode_utf8 punct.char) (leaf_of.Punct punct)
punct_alone punct kind is =
    let known = punct_known kind punct.char is in
    let read : reading (punct.char ∷ []) ≡ (kind, []) = sign_read punct.char [] known.sign (unglued punct.char) ∙ ap (λ k. (k, [])) known.symbol in
    let whole = whole_token (punct.char ∷ []) (punct.char ∷ []) kind known.utf8 known.chars read (known.role (punct.char ∷ [])) in
    subst (λ t. ReadsAs t (leaf_of.Punct punct)) (sym known.bytes) (whole.0, ap punct_char whole.1 ∙ is)
