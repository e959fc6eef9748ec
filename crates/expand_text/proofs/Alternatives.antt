-- How texts are added to those that a message names, and how they are joined.
use Rattle.std.proofs.Common.{◌≡◌, ◌++◌, ◌||◌, ◌==◌, ◌⊎◌, ℕ, Bool, true, false, List, [], ◌∷◌, Option, None, Some, length, map, codes, inl, inr, refl, ap, sym, if◌then◌else◌}
use Rattle.std.specs.List.{flat_map, join_by, list_any}
use Rattle.std.specs.Prelude.{String, bytes_eq, nat_lt, string_bytes}
use Rattle.std.specs.Global.{Global}
use Rattle.expand_text.specs.Expecting.{added, label_text, part_added, rule_text}
use Rattle.mbe_matcher.specs.Labels.{Label}

-- A text is among strings if it is among their texts.
pub among : (text : List ℕ) (texts : List (String Global)) → list_any (λ other. bytes_eq (string_bytes other) text) texts ≡ list_any (λ other. bytes_eq other text) (map string_bytes texts)
among text [] = refl
among text (other ∷ others) = ap (λ b. bytes_eq (string_bytes other) text || b) (among text others)

-- Strings are joined as their texts are.
joined_behind : (between : List ℕ) (texts : List (String Global)) → flat_map (λ it. between ++ string_bytes it) texts ≡ flat_map (λ it. between ++ it) (map string_bytes texts)
joined_behind between [] = refl
joined_behind between (it ∷ others) = ap (λ b. (between ++ string_bytes it) ++ b) (joined_behind between others)

pub joined : (between : List ℕ) (texts : List (String Global)) → join_by string_bytes between texts ≡ join_by (λ it. it) between (map string_bytes texts)
joined between [] = refl
joined between (it ∷ others) = ap (λ b. string_bytes it ++ b) (joined_behind between others)

chosen : {A : Type 0} (b c : Bool) (x y : A) → (b ≡ true) ⊎ (c ≡ true) → (if b || c then x else y) ≡ x
chosen true c x y is = refl
chosen false true x y is = refl
chosen false false x y (inl is) = absurd (cc is)
chosen false false x y (inr is) = absurd (cc is)

-- A text that is there already is not added, and none behind enough others.
pub not_added : (texts : List (List ℕ)) (text : List ℕ) → (list_any (λ other. bytes_eq other text) texts ≡ true) ⊎ (nat_lt 3 (length texts) ≡ true) → texts ≡ added texts text
not_added texts text is =
    sym
    (chosen (list_any (λ other. bytes_eq other text) texts) (nat_lt 3 (length texts)) texts
    (texts ++ (if length texts == 3 then codes "others" else text) ∷ []) is)

-- So nothing comes of another part behind them.
pub full : (texts : List (List ℕ)) (arm : ℕ) (label : Option Label) → nat_lt 3 (length texts) ≡ true → texts ≡ part_added texts arm label
full texts arm None is = refl
full texts arm (Some label) is = not_added texts (label_text label ++ rule_text arm) (inr is)
