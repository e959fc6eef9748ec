-- How an input is cut into lines.
use Rattle.std.proofs.Common.{◌≡◌, ◌≢◌, ℕ, List, [], ◌∷◌, ◌++◌, false, eqb, cond, ap, ◌∙◌, refl, append_assoc, rules}
use Rattle.std.specs.List.{All, onto_first}
use Rattle.std.proofs.lemmas.Grind.{common_steps}
use Rattle.std.proofs.lemmas.List.Elements.{All-head, All-tail}
use Rattle.app_language.specs.Reading.{IsOneLine}
use Rattle.app_console.specs.Lines.{lines_of, ended_lines}

not_feed : (byte : ℕ) → byte ≢ 10 → eqb byte 10 ≡ false
not_feed byte other = grind (rules, common_steps)

more_of_line : (byte : ℕ) (bytes : List ℕ) → byte ≢ 10 → lines_of (byte ∷ bytes) ≡ onto_first byte (lines_of bytes)
more_of_line byte bytes other = ap (λ b. cond b ([] ∷ lines_of bytes) (onto_first byte (lines_of bytes))) (not_feed byte other)

pub lines_of-line : (line rest : List ℕ) → IsOneLine line → lines_of (line ++ 10 ∷ rest) ≡ line ∷ lines_of rest
lines_of-line [] rest one = refl
lines_of-line (byte ∷ bytes) rest one =
    more_of_line byte (bytes ++ 10 ∷ rest) (All-head (λ x. x ≢ 10) byte bytes one)
    ∙ ap (onto_first byte) (lines_of-line bytes rest (All-tail (λ x. x ≢ 10) byte bytes one))

pub lines_of-last : (byte : ℕ) (bytes : List ℕ) → IsOneLine (byte ∷ bytes) → lines_of (byte ∷ bytes) ≡ (byte ∷ bytes) ∷ []
lines_of-last byte [] one = more_of_line byte [] (All-head (λ x. x ≢ 10) byte [] one)
lines_of-last byte (next ∷ bytes) one =
    more_of_line byte (next ∷ bytes) (All-head (λ x. x ≢ 10) byte (next ∷ bytes) one)
    ∙ ap (onto_first byte) (lines_of-last next bytes (All-tail (λ x. x ≢ 10) byte (next ∷ bytes) one))

pub lines_of-ended : (lines : List (List ℕ)) (rest : List ℕ) → All IsOneLine lines → lines_of (ended_lines lines ++ rest) ≡ lines ++ lines_of rest
lines_of-ended [] rest each = refl
lines_of-ended (line ∷ lines) rest each =
    ap lines_of (append_assoc (line ++ 10 ∷ []) (ended_lines lines) rest ∙ append_assoc line (10 ∷ []) (ended_lines lines ++ rest))
    ∙ lines_of-line line (ended_lines lines ++ rest) (All-head IsOneLine line lines each)
    ∙ ap (λ x. line ∷ x) (lines_of-ended lines rest (All-tail IsOneLine line lines each))
