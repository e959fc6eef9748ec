-- The place of the first line feed in some bytes.
use Rattle.std.proofs.Common.{◌≡◌, ◌≢◌, ℕ, ◌+◌, ◌<◌, ◌==◌, List, [], ◌∷◌, ◌++◌, Some, None, take, drop, get_or, sym, ap, ◌∙◌, arith, length-take, append_assoc, take-append-drop, rules}
use Rattle.std.proofs.lemmas.List.{get_or-take, take_more}
use Rattle.std.proofs.lemmas.List.Elements.{All-from_get_or}
use Rattle.memchr.specs.Find.{IsFirstByte, is_byte}
use Rattle.app_language.specs.Reading.{IsOneLine}

-- without a line feed there is one line
pub IsOneLine-none : (bytes : List ℕ) → IsFirstByte (is_byte 10) bytes None → IsOneLine bytes
IsOneLine-none bytes found = All-from_get_or (λ x. x ≢ 10) bytes 0 (λ i within feed. found i (omega arith) within (ap (λ x. x == 10) feed))

-- the bytes before it are one line
pub IsOneLine-before : (bytes : List ℕ) (end : ℕ) → IsFirstByte (is_byte 10) bytes (Some end) → IsOneLine (take end bytes)
IsOneLine-before bytes end found = All-from_get_or (λ x. x ≢ 10) (take end bytes) 0 (λ i within feed.
    let before : i < end = omega (arith, within, length-take end bytes, found.0.high) in
    found.0.before i (omega arith) before (ap (λ x. x == 10) (sym (get_or-take end bytes i 0 before) ∙ feed)))

parted : (bytes : List ℕ) (end : ℕ) → IsFirstByte (is_byte 10) bytes (Some end) → bytes ≡ (take end bytes ++ 10 ∷ []) ++ drop (end + 1) bytes
parted bytes end found =
    let feed : get_or bytes end 0 ≡ 10 = search (rules, found.1) in
    let line : take (end + 1) bytes ≡ take end bytes ++ 10 ∷ [] =
    take_more bytes end 0 found.0.high ∙ ap (λ x. take end bytes ++ x ∷ []) feed in
    sym (take-append-drop (end + 1) bytes) ∙ ap (λ l. l ++ drop (end + 1) bytes) line

-- all bytes are the first ones, the next line with its line feed, and what follows
pub parted_on : (all fed rest : List ℕ) (end : ℕ) → all ≡ fed ++ rest → IsFirstByte (is_byte 10) rest (Some end)
    → all ≡ (fed ++ (take end rest ++ 10 ∷ [])) ++ drop (end + 1) rest
parted_on all fed rest end cut found =
    cut ∙ ap (λ l. fed ++ l) (parted rest end found) ∙ sym (append_assoc fed (take end rest ++ 10 ∷ []) (drop (end + 1) rest))
