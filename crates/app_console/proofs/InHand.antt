-- Where the current line ends, and how much lies behind it.
use Rattle.std.proofs.Common.{◌≡◌, ◌≢◌, ℕ, ◌+◌, ◌<◌, ◌≤◌, List, [], ◌∷◌, ◌++◌, length, ap, ◌∙◌, refl, inl, inr, append_assoc, length-append, arith}
use Rattle.std.proofs.lemmas.Bool.{cases_eq}
use Rattle.std.proofs.lemmas.List.Elements.{All-nil, All-cons, All-head, All-tail}
use Rattle.app_language.specs.Reading.{IsOneLine}
use Rattle.app_console.specs.Lines.{ended_lines, EndsLine}

-- bytes begin with one line, which ends in them or at their end
pub record InHand (bytes : List ℕ) : Type 0 where
  pub hand : List ℕ
  pub behind : List ℕ
  pub is : bytes ≡ hand ++ behind
  pub one_line : IsOneLine hand
  pub ends : EndsLine behind

pub first_line : (bytes : List ℕ) → InHand bytes
first_line [] = record { hand = []; behind = []; is = refl; one_line = All-nil (λ x. x ≢ 10); ends = tt }
first_line (byte ∷ bytes) =
    let more = first_line bytes in
    elim (cases_eq byte 10) as (λ _. InHand (byte ∷ bytes)) [
      | inl feed ↦ record { hand = []; behind = byte ∷ bytes; is = refl; one_line = All-nil (λ x. x ≢ 10); ends = feed }
      | inr other ↦ record {
        hand = byte ∷ more.hand;
        behind = more.behind;
        is = ap (λ l. byte ∷ l) more.is;
        one_line = All-cons (λ x. x ≢ 10) byte more.hand other more.one_line;
        ends = more.ends;
      }
    ]

-- the begun bytes lie before the first line feed
begun_before : (begun bytes line rest : List ℕ) → IsOneLine begun → begun ++ bytes ≡ line ++ 10 ∷ rest → length begun ≤ length line
begun_before [] bytes line rest one e = omega arith
begun_before (b ∷ begun) bytes [] rest one e =
    let feed : b ≡ 10 = cc in absurd (All-head (λ x. x ≢ 10) b begun one feed)
begun_before (b ∷ begun) bytes (c ∷ line) rest one e =
    let more : begun ++ bytes ≡ line ++ 10 ∷ rest = cc in
    let short = begun_before begun bytes line rest (All-tail (λ x. x ≢ 10) b begun one) more in
    omega arith

-- so what follows it came with the bytes
after_feed : (begun bytes line rest : List ℕ) → IsOneLine begun → begun ++ bytes ≡ line ++ 10 ∷ rest → length rest < length bytes
after_feed begun bytes line rest one e =
    let same : length begun + length bytes ≡ length line + length (10 ∷ rest) = simp length-append at (ap length e) in
    let short = begun_before begun bytes line rest one e in
    omega arith

-- what lies behind the current line came with the bytes
pub behind_within : (begun bytes : List ℕ) (lines : List (List ℕ)) (hand behind : List ℕ) → IsOneLine begun → EndsLine behind
    → begun ++ bytes ≡ ended_lines lines ++ (hand ++ behind) → length behind ≤ length bytes
behind_within begun bytes lines hand [] one ends e = omega arith
behind_within begun bytes [] hand (feed ∷ behind) one ends e =
    let short = after_feed begun bytes hand behind one (rw ends at e) in omega arith
behind_within begun bytes (line ∷ lines) hand (feed ∷ behind) one ends e =
    let rest = ended_lines lines ++ (hand ++ feed ∷ behind) in
    let cut : begun ++ bytes ≡ line ++ 10 ∷ rest =
    e ∙ append_assoc (line ++ 10 ∷ []) (ended_lines lines) (hand ++ feed ∷ behind) ∙ append_assoc line (10 ∷ []) rest in
    let short = after_feed begun bytes line rest one cut in
    omega (arith, short, length-append (ended_lines lines) (hand ++ feed ∷ behind), length-append hand (feed ∷ behind))
