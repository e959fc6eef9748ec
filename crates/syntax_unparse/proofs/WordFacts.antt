-- A leaf's text that reads alone: its first character, and that it reads the same before a stop.
use Rattle.std.proofs.Common.{◌≡◌, ◌≢◌, ℕ, ◌-◌, Bool, true, false, ◌==◌, ◌||◌, List, [], ◌∷◌, ◌++◌, refl, sym, ap, ap₂, ◌∙◌, arith}
use Rattle.std.proofs.lemmas.Bool.{false≢true, ne_eqb}
use Rattle.std.specs.Str.{chars}
use Rattle.std.proofs.lemmas.Str.{encode_ascii, encodes-chars}
use Rattle.std.proofs.Math.Utf8.{encodes}
use Rattle.std.specs.Prelude.{slice_get}
use Rattle.syntax_lex.specs.Class.{is_whitespace}
use Rattle.syntax_lex.specs.Closing.{behind_quote}
use Rattle.syntax_lex.specs.Front.{byte_length, first}
use Rattle.syntax_lex.specs.Opening.{opening, symbol}
use Rattle.syntax_lex.specs.Quoted.{literal}
use Rattle.syntax_lex.specs.Reading.{first_token_of, reading, reading_of}
use Rattle.syntax_lex.specs.declared.token.LiteralKind.TheVariants as literals
use Rattle.syntax_lex.specs.declared.token.TokenKind.{TokenKind}
use Rattle.syntax_lex.specs.declared.token.TokenKind.TheVariants as kinds
use Rattle.syntax_lex.proofs.FrontFacts.{byte_length-chars, encode_utf8_nonempty}
use Rattle.syntax_lex.proofs.TokenFacts.{byte_length-cons, len_first}
use Rattle.syntax_lex.proofs.KeepFacts.{no_start}
use Rattle.syntax_lex.proofs.ReadKeeps.{token_ends}
use Rattle.syntax_lex.proofs.SignFacts.{sign_read}
use Rattle.syntax_lex.specs.Stops.{Stops, is_ended, is_glued}
use Rattle.syntax_parse.specs.Role.{role_in}
use Rattle.syntax_parse.specs.declared.role.Role.TheVariants.{Leaf}
use Rattle.syntax_unparse.specs.Text.{is_quote}
use Rattle.syntax_unparse.specs.Writable.{IsOneToken, first_kind, is_name}

-- a list of characters without bytes is empty
no_bytes : (cs : List ℕ) → byte_length cs ≡ 0 → cs ≡ []
no_bytes [] h = refl
no_bytes (c ∷ cs) h = absurd (omega (arith, h, byte_length-cons c cs, encode_utf8_nonempty c))

kind_is : (cs : List ℕ) → (first_token_of cs).kind ≡ (reading cs).0
unfolding first_token_of
kind_is cs = refl

-- an empty text is no token
no_token : (text : List ℕ) → role_in (first_token_of []).kind text ≡ Leaf → ⊥
unfolding first_token_of reading
no_token text h = cc

-- a text that is one token is read as that token, with nothing left
pub record IsReadWhole (text : List ℕ) : Type 0 where
  pub c : ℕ
  pub cs : List ℕ
  pub are : chars text ≡ c ∷ cs
  pub read : reading (c ∷ cs) ≡ (first_kind text, [])

pub read_whole : (text : List ℕ) → IsOneToken text → IsReadWhole text
read_whole text one = go (chars text) refl
  where
    go : (cs : List ℕ) → chars text ≡ cs → IsReadWhole text
    go [] e = absurd (no_token text (ap (λ t. role_in (first_token_of t).kind text) (sym e) ∙ one.fine))
    go (c ∷ cs) e =
        let left : byte_length (reading (c ∷ cs)).1 ≡ 0 =
        omega (arith, (len_first c cs).1, ap (λ t. (first_token_of t).len) (sym e), one.whole, byte_length-chars text one.utf8, ap byte_length e) in
        let kind : (reading (c ∷ cs)).0 ≡ first_kind text = sym (ap (λ t. (first_token_of t).kind) e ∙ kind_is (c ∷ cs)) in
        record { c = c; cs = cs; are = e; read = ap₂ (λ k l. (k, l)) kind (no_bytes (reading (c ∷ cs)).1 left) }

-- the text of one token is not empty
pub some_chars : (text : List ℕ) → IsOneToken text → chars text ≢ []
some_chars text one e = let it = read_whole text one in absurd (not_empty it.c it.cs (sym it.are ∙ e))
  where
    not_empty : (c : ℕ) (cs : List ℕ) → ◌≡◌ {A = List ℕ} (c ∷ cs) [] → ⊥
    not_empty c cs k = cc

-- the text is read the same before a stop
pub ends_before : (text rest : List ℕ) → IsOneToken text → is_ended (first_kind text) ≡ true → Stops rest → reading (chars text ++ rest) ≡ (first_kind text, rest)
ends_before text rest one ended stops =
    let it = read_whole text one in
    token_ends (chars text) rest (first_kind text) (some_chars text one) (ap reading it.are ∙ it.read) ended stops

-- white space is no leaf
space_kind : (c : ℕ) (cs : List ℕ) → is_whitespace c ≡ true → (reading (c ∷ cs)).0 ≡ kinds.Whitespace
unfolding reading reading_of opening
space_kind c cs h = rw h refl

pub no_space : (text : List ℕ) → IsOneToken text → is_whitespace (first (chars text)) ≡ false
no_space text one =
    let it = read_whole text one in
    go it.c it.cs it.are it.read (is_whitespace it.c) refl
  where
    no_leaf : role_in kinds.Whitespace text ≡ Leaf → ⊥
    no_leaf h = cc

    go : (c : ℕ) (cs : List ℕ) → chars text ≡ c ∷ cs → reading (c ∷ cs) ≡ (first_kind text, []) → (b : Bool) → is_whitespace c ≡ b → is_whitespace (first (chars text)) ≡ false
    go c cs are read false e = ap (λ t. is_whitespace (first t)) are ∙ e
    go c cs are read true e =
        absurd (no_leaf (ap (λ k. role_in k text) (sym (space_kind c cs e) ∙ ap (λ p. p.0) read) ∙ one.fine))

-- whether a token is a name or a literal
abbrev pub is_wordy : TokenKind → Bool
is_wordy kinds.Ident = true
is_wordy kinds.RawIdent = true
is_wordy (kinds.Literal kind start) = true
is_wordy _ = false

-- no word begins with `/` and these characters
pub not_slash : (cs : List ℕ) → is_wordy (reading (47 ∷ cs)).0 ≡ false
unfolding reading reading_of opening symbol
not_slash cs = go (first cs == 47) refl (first cs == 42) refl
  where
    go : (b : Bool) → (first cs == 47) ≡ b → (d : Bool) → (first cs == 42) ≡ d → is_wordy (reading (47 ∷ cs)).0 ≡ false
    go true e d k = rw e refl
    go false e true k = rw (e, k) refl
    go false e false k = rw (e, k) refl

pound_is : is_wordy (symbol 35) ≡ false
unfolding symbol
pound_is = refl

star_is : is_wordy (symbol 42) ≡ false
unfolding symbol
star_is = refl

guarded : (cs : List ℕ) → is_glued 35 (first cs) ≡ true → is_wordy (reading (35 ∷ cs)).0 ≡ false
unfolding reading reading_of opening
guarded cs e = let glued : ((first cs == 34) || (first cs == 35)) ≡ true = e in rw (no_start 35 (omega arith) refl refl, glued) refl

pub not_hash : (cs : List ℕ) → is_wordy (reading (35 ∷ cs)).0 ≡ false
not_hash cs = go (is_glued 35 (first cs)) refl
  where
    go : (b : Bool) → is_glued 35 (first cs) ≡ b → is_wordy (reading (35 ∷ cs)).0 ≡ false
    go true e = guarded cs e
    go false e = ap (λ p. is_wordy p.0) (sign_read 35 cs refl e) ∙ pound_is

pub not_star : (cs : List ℕ) → is_wordy (reading (42 ∷ cs)).0 ≡ false
not_star cs = ap (λ p. is_wordy p.0) (sign_read 42 cs refl refl) ∙ star_is

-- a character that begins no word is not its first
pub begins_not : (n : ℕ) → ((cs : List ℕ) → is_wordy (reading (n ∷ cs)).0 ≡ false) → (text : List ℕ) → IsOneToken text → is_wordy (first_kind text) ≡ true → (first (chars text) == n) ≡ false
begins_not n none text one wordy =
    let it = read_whole text one in
    ap (λ t. first t == n) it.are ∙ ne_eqb it.c n (λ e. false≢true (sym (none it.cs) ∙ ap (λ c. is_wordy (reading (c ∷ it.cs)).0) (sym e) ∙ ap (λ p. is_wordy p.0) it.read ∙ wordy))

-- a token that begins with a double quote is a string
string_kind : (cs : List ℕ) → (reading (34 ∷ cs)).0 ≡ kinds.Literal (literals.Str (behind_quote false cs).0) (byte_length (34 ∷ cs) - byte_length (behind_quote false cs).1)
unfolding reading reading_of opening literal
string_kind cs = rw (no_start 34 (omega arith) refl refl) refl

-- a text that begins with another byte begins with another character
pub begins_no_string : (text : List ℕ) → IsOneToken text → is_quote (slice_get text 0) ≡ false → (first (chars text) == 34) ≡ false
begins_no_string text one other =
    let it = read_whole text one in
    ap (λ t. first t == 34) it.are
    ∙ ne_eqb it.c 34 (λ e.
    let begins : text ≡ 34 ∷ encodes it.cs =
    sym (encodes-chars text one.utf8) ∙ ap encodes it.are ∙ ap (λ c. encodes (c ∷ it.cs)) e ∙ ap (λ b. b ++ encodes it.cs) (encode_ascii 34 (omega arith)) in
    let yes : is_quote (slice_get text 0) ≡ true = ap (λ t. is_quote (slice_get t 0)) begins in
    false≢true (sym other ∙ yes))

-- no name begins with one
pub not_string : (cs : List ℕ) → is_name (reading (34 ∷ cs)).0 ≡ false
not_string cs = ap is_name (string_kind cs)
