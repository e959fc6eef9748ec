-- The signs and the families of the lexer as tables, with the facts of each row.
use Rattle.std.proofs.Common.{◌≡◌, ℕ, Bool, true, false, ◌==◌, ◌&&◌, List, [], ◌∷◌, refl, ap, ◌∙◌, if◌then◌else◌}
use Rattle.std.proofs.lemmas.Bool.{and_parts, eqb-true}
use Rattle.syntax_lex.specs.Class.{is_decimal, is_emoji_mark, is_id_start, is_whitespace}
use Rattle.syntax_lex.specs.Opening.{begins_raw, opening, symbol}
use Rattle.syntax_lex.specs.declared.opening.Family.{Family}
use Rattle.syntax_lex.specs.declared.opening.Family.TheVariants as opens
use Rattle.syntax_lex.specs.declared.token.TokenKind.{TokenKind}
use Rattle.syntax_lex.specs.declared.token.TokenKind.TheVariants as kinds

-- each sign with its token
abbrev pub signs : List (ℕ × TokenKind)
signs =
    (59, kinds.Semi) ∷ (44, kinds.Comma) ∷ (46, kinds.Dot) ∷ (40, kinds.OpenParen) ∷ (41, kinds.CloseParen) ∷ (123, kinds.OpenBrace) ∷ (125, kinds.CloseBrace) ∷ (91, kinds.OpenBracket) ∷ (93, kinds.CloseBracket)
    ∷ (64, kinds.At) ∷ (35, kinds.Pound) ∷ (126, kinds.Tilde) ∷ (63, kinds.Question) ∷ (58, kinds.Colon) ∷ (36, kinds.Dollar) ∷ (61, kinds.Eq) ∷ (33, kinds.Bang) ∷ (60, kinds.Lt) ∷ (62, kinds.Gt) ∷ (45, kinds.Minus)
    ∷ (38, kinds.And) ∷ (124, kinds.Or) ∷ (43, kinds.Plus) ∷ (42, kinds.Star) ∷ (47, kinds.Slash) ∷ (94, kinds.Caret) ∷ (37, kinds.Percent) ∷ []

-- the token of a character in a table
looked_up : List (ℕ × TokenKind) → ℕ → TokenKind
looked_up [] c = kinds.Unknown
looked_up (row ∷ rows) c = if c == row.0 then row.1 else looked_up rows c

-- whether each row passes a test
abbrev pub each_row : (ℕ → TokenKind → Bool) → List (ℕ × TokenKind) → Bool
each_row test [] = true
each_row test (row ∷ rows) = test row.0 row.1 && each_row test rows

symbol_row : (c : ℕ) → symbol c ≡ looked_up signs c
unfolding symbol looked_up
symbol_row c = refl

row_passes : (test : ℕ → TokenKind → Bool) (rows : List (ℕ × TokenKind)) (c : ℕ) → each_row test rows ≡ true → test c kinds.Unknown ≡ true → test c (looked_up rows c) ≡ true
unfolding looked_up
row_passes test [] c all none = none
row_passes test (row ∷ rows) c all none =
    let both = and_parts (test row.0 row.1) (each_row test rows) all in
    go (c == row.0) refl both.0 (row_passes test rows c both.1 none)
  where
    go : (b : Bool) → (c == row.0) ≡ b → test row.0 row.1 ≡ true → test c (looked_up rows c) ≡ true → test c (if b then row.1 else looked_up rows c) ≡ true
    go true e here others = ap (λ n. test n row.1) (eqb-true c row.0 e) ∙ here
    go false e here others = others

-- a test that passes for each row, and for a character that is no sign, passes for a character and its token
pub symbol_passes : (test : ℕ → TokenKind → Bool) → each_row test signs ≡ true → (c : ℕ) → test c kinds.Unknown ≡ true → test c (symbol c) ≡ true
symbol_passes test all c none = ap (test c) (symbol_row c) ∙ row_passes test signs c all none

-- the first two characters of a text that begins with a token of a family
abbrev pub Facts : Family → (c d : ℕ) → Type 0
Facts opens.LineComment c d = (c ≡ 47) × (d ≡ 47)
Facts opens.BlockComment c d = (c ≡ 47) × (d ≡ 42)
Facts opens.Whitespace c d = is_whitespace c ≡ true
Facts opens.RawStr c d = c ≡ 114
Facts opens.Byte c d = (c ≡ 98) × (d ≡ 39)
Facts opens.ByteStr c d = (c ≡ 98) × (d ≡ 34)
Facts opens.RawByteStr c d = (c ≡ 98) × (d ≡ 114)
Facts opens.CStr c d = (c ≡ 99) × (d ≡ 34)
Facts opens.RawCStr c d = (c ≡ 99) × (d ≡ 114)
Facts opens.Apostrophe c d = c ≡ 39
Facts opens.Str c d = c ≡ 34
Facts _ c d = Unit {0}

-- known facts, by either branch
pub data Known (family : Family) (c d : ℕ) : Type 0 where
  known : Facts family c d → Known family c d

facts : (b : Bool) (x y : Family) (c d : ℕ) → (b ≡ true → Known x c d) → (b ≡ false → Known y c d) → Known (if b then x else y) c d
facts true x y c d h k = h refl
facts false x y c d h k = k refl

pub opening_facts : (c d e : ℕ) → Known (opening c d e) c d
unfolding opening
opening_facts c d e =
    facts (is_whitespace c) _ _ c d (λ h. known h) (λ _.
    facts (c == 47) _ _ c d
    (λ h. facts (d == 47) _ _ c d (λ k. known (eqb-true c 47 h, eqb-true d 47 k)) (λ _. facts (d == 42) _ _ c d (λ k. known (eqb-true c 47 h, eqb-true d 42 k)) (λ _. known tt))) (λ _.
    facts (c == 114) _ _ c d (λ h. facts ((d == 35) && is_id_start e) _ _ c d (λ _. known tt) (λ _. facts (begins_raw d) _ _ c d (λ _. known (eqb-true c 114 h)) (λ _. known tt))) (λ _.
    facts (c == 98) _ _ c d
    (λ h. facts (d == 39) _ _ c d (λ k. known (eqb-true c 98 h, eqb-true d 39 k)) (λ _.
    facts (d == 34) _ _ c d (λ k. known (eqb-true c 98 h, eqb-true d 34 k)) (λ _.
    facts ((d == 114) && begins_raw e) _ _ c d (λ k. known (eqb-true c 98 h, eqb-true d 114 (and_parts (d == 114) (begins_raw e) k).0)) (λ _. known tt)))) (λ _.
    facts (c == 99) _ _ c d
    (λ h. facts (d == 34) _ _ c d (λ k. known (eqb-true c 99 h, eqb-true d 34 k)) (λ _.
    facts ((d == 114) && begins_raw e) _ _ c d (λ k. known (eqb-true c 99 h, eqb-true d 114 (and_parts (d == 114) (begins_raw e) k).0)) (λ _. known tt))) (λ _.
    facts (is_id_start c) _ _ c d (λ _. known tt) (λ _.
    facts (is_decimal c) _ _ c d (λ _. known tt) (λ _.
    facts (c == 39) _ _ c d (λ h. known (eqb-true c 39 h)) (λ _.
    facts (c == 34) _ _ c d (λ h. known (eqb-true c 34 h)) (λ _.
    facts ((c == 35) && begins_raw d) _ _ c d (λ _. known tt) (λ _.
    facts (is_emoji_mark c) _ _ c d (λ _. known tt) (λ _. known tt)))))))))))
