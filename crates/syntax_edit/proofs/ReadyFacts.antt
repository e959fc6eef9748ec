-- What may follow what was written last, and a token of a text.
use Rattle.std.proofs.Common.{◌≡◌, ◌≢◌, ◌⊎◌, ℕ, Bool, true, false, ◌==◌, ◌||◌, IsTrue, inl, inr, List, [], ◌∷◌, ◌++◌, Option, None, Some, is_some, refl, sym, ap, ap₂, ◌∙◌, subst, arith, if◌then◌else◌}
use Rattle.std.proofs.Math.Bool.{or-true}
use Rattle.std.specs.Str.{chars, IsUtf8}
use Rattle.tt_base.specs.Token.{rawness_of, without_raw_prefix}
use Rattle.tt_base.specs.TreeText.{is_alone}
use Rattle.tt_base.specs.declared.punct.Spacing.{Spacing}
use Rattle.tt_base.specs.declared.punct.Spacing.TheVariants.{Alone, Joint as JointSpacing}
use Rattle.syntax_lex.specs.Front.{first}
use Rattle.syntax_lex.specs.Opening.{opening}
use Rattle.syntax_lex.specs.Reading.{reading, reading_of}
use Rattle.syntax_lex.specs.declared.token.TokenKind.{TokenKind}
use Rattle.syntax_lex.specs.declared.token.TokenKind.TheVariants as kinds
use Rattle.syntax_edit.proofs.Words.{name_alone, whole_token}
use Rattle.syntax_edit.proofs.Tokens.{token_alone}
use Rattle.syntax_edit.proofs.SortFits.{IsPair, NameAlone, NoQuote, QuoteFits, SignFollows, SortFits, begins_sign, settled_before}
use Rattle.syntax_edit.proofs.ToldKinds.{no_punct, punct_back}
use Rattle.syntax_edit.specs.Whole.{is_whole}
use Rattle.syntax_lex.proofs.KeepFacts.{no_start}
use Rattle.syntax_parse.specs.Pieces.{punct_char, spacing_before}
use Rattle.syntax_parse.specs.Role.{kind_of, role_in}
use Rattle.syntax_parse.specs.Spelled.{Sort}
use Rattle.syntax_parse.specs.declared.bracket.Bracket.{Bracket}
use Rattle.syntax_parse.specs.declared.bracket.Bracket.TheVariants.{Parenthesis, Brace, Square}
use Rattle.syntax_parse.specs.declared.role.Role.TheVariants.{Leaf}
use Rattle.syntax_unparse.specs.Text.{behind_punct}
use Rattle.syntax_unparse.specs.Writable.{IsOneToken, first_kind, is_name}
use Rattle.syntax_unparse.specs.declared.behind.Behind.{Behind}
use Rattle.syntax_unparse.specs.declared.behind.Behind.TheVariants.{Apart, Joint, Slash, Pound, Quote}

-- the rest of a text may follow what was written last
abbrev pub Ready : Behind → (letters : List ℕ) → (next : Option TokenKind) → Type 0
Ready Quote cs next = ⊥
Ready Slash cs next = (((first cs == 47) || (first cs == 42)) ≡ false) × (spacing_before next ≡ JointSpacing)
Ready Pound cs next = ((first cs == 35) ≡ false) × (spacing_before next ≡ JointSpacing)
Ready _ cs next = Unit {0}

-- sorts can be written after it, and begin with a punct if one before them is joint
abbrev pub Fit : Behind → Option TokenKind → List Sort → Type 0
Fit behind next ss = SortFits behind ss × (spacing_before next ≡ JointSpacing → begins_sign ss ≡ true)

pub alone_joint : Alone ≡ JointSpacing → ⊥
alone_joint h = cc

pub ready_no_quote : (behind : Behind) (cs : List ℕ) (next : Option TokenKind) → Ready behind cs next → NoQuote behind
ready_no_quote Quote cs next ready = absurd ready
ready_no_quote behind cs next ready = tt

-- no token that makes a punct alone follows a joint one
pub ready_blank : (behind : Behind) (cs left : List ℕ) (kind : TokenKind) (next : Option TokenKind) → spacing_before (Some kind) ≡ Alone → Ready behind cs (Some kind) → Ready behind left next
ready_blank Slash cs left kind next alone ready = absurd (alone_joint (sym alone ∙ ready.1))
ready_blank Pound cs left kind next alone ready = absurd (alone_joint (sym alone ∙ ready.1))
ready_blank Quote cs left kind next alone ready = absurd ready
ready_blank behind cs left kind next alone ready = tt

pub ready_sign : (behind : Behind) (cs : List ℕ) (next : Option TokenKind) (c : ℕ) → Ready behind cs next → first cs ≡ c → SignFollows behind c
ready_sign Slash cs next c ready is = ap (λ n. (n == 47) || (n == 42)) (sym is) ∙ ready.0
ready_sign Pound cs next c ready is = ap (λ n. n == 35) (sym is) ∙ ready.0
ready_sign Quote cs next c ready is = absurd ready
ready_sign behind cs next c ready is = tt

pub ready_quote : (behind : Behind) (cs : List ℕ) (next : Option TokenKind) (c : ℕ) → Ready behind cs next → (((c == 47) || (c == 42)) ≡ false) → (c == 35) ≡ false → SignFollows behind c
ready_quote Slash cs next c ready slash pound = slash
ready_quote Pound cs next c ready slash pound = pound
ready_quote Quote cs next c ready slash pound = absurd ready
ready_quote behind cs next c ready slash pound = tt

pub ready_doc : (behind : Behind) (cs : List ℕ) (kind : TokenKind) → spacing_before (Some kind) ≡ Alone → Ready behind cs (Some kind) → SignFollows behind 35
ready_doc Slash cs kind alone ready = refl
ready_doc Pound cs kind alone ready = absurd (alone_joint (sym alone ∙ ready.1))
ready_doc Quote cs kind alone ready = absurd ready
ready_doc behind cs kind alone ready = tt

pub ready_name : (behind : Behind) (cs : List ℕ) (next : Option TokenKind) (text : List ℕ) → Ready behind cs next → QuoteFits behind (without_raw_prefix text) (rawness_of text)
ready_name Quote cs next text ready = absurd ready
ready_name behind cs next text ready = tt

pub pair_is : (pair : Bracket) → IsPair (kind_of pair)
pair_is Parenthesis = tt
pair_is Brace = tt
pair_is Square = tt

-- a token is alone or joint
pub spacing_two : (next : Option TokenKind) → (spacing_before next ≡ Alone) ⊎ (spacing_before next ≡ JointSpacing)
spacing_two None = inl refl
spacing_two (Some (kinds.Lifetime digit)) = inr refl
spacing_two (Some kinds.RawLifetime) = inr refl
spacing_two (Some kind) = by (is_some (punct_char kind))
  where
    by : (b : Bool) → ((if b then JointSpacing else Alone) ≡ Alone) ⊎ ((if b then JointSpacing else Alone) ≡ JointSpacing)
    by true = inr refl
    by false = inl refl

-- a token of a text
pub record Read (word letters left : List ℕ) (kind : TokenKind) : Type 0 where
  pub letters_are : letters ≡ chars word ++ left
  pub read : reading (chars word ++ left) ≡ (kind, left)
  pub some : chars word ≢ []
  pub utf8 : IsUtf8 word

-- a token alone is one token
pub one : (word letters left : List ℕ) (kind : TokenKind) → Read word letters left kind → is_whole kind ≡ true → role_in kind word ≡ Leaf → IsOneToken word × (first_kind word ≡ kind)
one word letters left kind it is fine = whole_token word (chars word) kind it.utf8 refl (token_alone (chars word) left kind it.some it.read is) fine

pub name_reads : (word letters left : List ℕ) (kind : TokenKind) → Read word letters left kind → is_whole kind ≡ true → role_in kind word ≡ Leaf → IsTrue (is_name kind) → NameAlone (without_raw_prefix word) (rawness_of word)
name_reads word letters left kind it is fine named ident text raw =
    let alone = one word letters left kind it is fine in
    name_alone word ident alone.0 (ap is_name alone.1 ∙ named) text raw

-- a punct's text
pub sign_letters : (word letters left : List ℕ) (kind : TokenKind) (c : ℕ) → Read word letters left kind → punct_char kind ≡ Some c → letters ≡ c ∷ left
sign_letters word letters left kind c it is = go (chars word) it.letters_are it.read it.some
  where
    go : (front : List ℕ) → letters ≡ front ++ left → reading (front ++ left) ≡ (kind, left) → front ≢ [] → letters ≡ c ∷ left
    go [] are read some = absurd (some refl)
    go (d ∷ ds) are read some =
        let back = punct_back d (ds ++ left) c (ap (λ p. punct_char p.0) read ∙ is) in
        are ∙ ap₂ (λ n t. n ∷ t) back.0 (sym back.1 ∙ ap (λ p. p.1) read)

pub slash_apart : (left : List ℕ) (c : ℕ) → punct_char (reading (47 ∷ left)).0 ≡ Some c → ((first left == 47) || (first left == 42)) ≡ false
unfolding reading reading_of opening
slash_apart left c is = go (first left == 47) refl (first left == 42) refl
  where
    go : (a : Bool) → (first left == 47) ≡ a → (b : Bool) → (first left == 42) ≡ b → ((first left == 47) || (first left == 42)) ≡ false
    go true e b k = let none : punct_char (reading (47 ∷ left)).0 ≡ None = rw e refl in absurd (no_punct c (sym none ∙ is))
    go false e true k = let none : punct_char (reading (47 ∷ left)).0 ≡ None = rw (e, k) refl in absurd (no_punct c (sym none ∙ is))
    go false e false k = rw (e, k) refl

pub pound_apart : (left : List ℕ) (c : ℕ) → punct_char (reading (35 ∷ left)).0 ≡ Some c → (first left == 35) ≡ false
unfolding reading reading_of opening
pound_apart left c is = go (first left == 35) refl
  where
    go : (a : Bool) → (first left == 35) ≡ a → (first left == 35) ≡ false
    go false e = e
    go true e =
        let glued : ((first left == 34) || (first left == 35)) ≡ true = ap (λ b. (first left == 34) || b) e ∙ or-true (first left == 34) in
        let none : punct_char (reading (35 ∷ left)).0 ≡ None = rw (no_start 35 (omega arith) refl refl, glued) refl in
        absurd (no_punct c (sym none ∙ is))

-- what follows a punct may follow it
pub ready_behind : (c : ℕ) (left : List ℕ) (next : Option TokenKind) → (c == 39) ≡ false → ((c == 47) ≡ true → ((first left == 47) || (first left == 42)) ≡ false) → ((c == 35) ≡ true → (first left == 35) ≡ false)
    → Ready (behind_punct c (spacing_before next)) left next
ready_behind c left next other slash pound = go (spacing_two next) (c == 47) refl (c == 35) refl
  where
    shape : (spacing : Spacing) → behind_punct c spacing ≡ (if is_alone spacing then Apart else (if c == 47 then Slash else (if c == 35 then Pound else Joint)))
    shape spacing = ap (λ b. if b then Quote else (if is_alone spacing then Apart else (if c == 47 then Slash else (if c == 35 then Pound else Joint)))) other

    of : (b : Behind) → behind_punct c (spacing_before next) ≡ b → Ready b left next → Ready (behind_punct c (spacing_before next)) left next
    of b e h = subst (λ x. Ready x left next) (sym e) h

    go : (spacing_before next ≡ Alone) ⊎ (spacing_before next ≡ JointSpacing) → (s : Bool) → (c == 47) ≡ s → (p : Bool) → (c == 35) ≡ p → Ready (behind_punct c (spacing_before next)) left next
    go (inl alone) s es p ep = of Apart (ap (behind_punct c) alone ∙ shape Alone) tt
    go (inr joint) true es p ep =
        of Slash (ap (behind_punct c) joint ∙ shape JointSpacing ∙ ap (λ b. if b then Slash else (if c == 35 then Pound else Joint)) es) (slash es, joint)
    go (inr joint) false es true ep =
        of Pound (ap (behind_punct c) joint ∙ shape JointSpacing ∙ ap₂ (λ a b. if a then Slash else (if b then Pound else Joint)) es ep) (pound ep, joint)
    go (inr joint) false es false ep =
        of Joint (ap (behind_punct c) joint ∙ shape JointSpacing ∙ ap₂ (λ a b. if a then Slash else (if b then Pound else Joint)) es ep) tt

-- the spacing of a punct is settled
pub settled_is : (c : ℕ) (next : Option TokenKind) (rest : List Sort) → (c == 39) ≡ false → (spacing_before next ≡ JointSpacing → begins_sign rest ≡ true) → settled_before c (spacing_before next) rest ≡ spacing_before next
settled_is c next rest other joins =
    ap (λ b. if b then JointSpacing else (if is_alone (spacing_before next) then Alone else (if begins_sign rest then JointSpacing else Alone))) other
    ∙ go (spacing_two next)
  where
    go : (spacing_before next ≡ Alone) ⊎ (spacing_before next ≡ JointSpacing) → (if is_alone (spacing_before next) then Alone else (if begins_sign rest then JointSpacing else Alone)) ≡ spacing_before next
    go (inl alone) = ap (λ s. if is_alone s then Alone else (if begins_sign rest then JointSpacing else Alone)) alone ∙ sym alone
    go (inr joint) =
        ap₂ (λ s b. if is_alone s then Alone else (if b then JointSpacing else Alone)) joint (joins joint) ∙ sym joint
