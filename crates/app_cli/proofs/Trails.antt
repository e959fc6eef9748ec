-- The calls around a place, call by call, and those of them that are shown.
use Rattle.std.proofs.Common.{◌≡◌, ◌<◌, ◌++◌, ◌-◌, ◌∙◌, ℕ, zero, suc, List, [], ◌∷◌, Option, None, Some, length, map, take, drop, cond, refl, ap, ap₂}
use Rattle.std.proofs.lemmas.Bool.{lt-ltb}
use Rattle.std.proofs.lemmas.List.{drop-map, length-map, take-map}
use Rattle.std.specs.Prelude.{nat_lt}
use Rattle.app_cli.specs.Notes.{caller_at, shown_callers, trail_from, with_outer}
use Rattle.expand_text.specs.declared.caller.Caller.{Caller}

-- Without a caller of that number, there is none.
pub trail_ended : (callers : List Caller) (most : ℕ) (number : Option ℕ) → caller_at callers number ≡ None → trail_from callers most number ≡ []
trail_ended callers zero number none = refl
trail_ended callers (suc most) number none = ap (with_outer (λ it. trail_from callers most it.caller)) none

-- Otherwise it comes first.
pub trail_more : (callers : List Caller) (most : ℕ) (number : Option ℕ) (it : Caller) → caller_at callers number ≡ Some it
    → trail_from callers (suc most) number ≡ it ∷ trail_from callers most it.caller
trail_more callers most number it same = ap (with_outer (λ it. trail_from callers most it.caller)) same

-- Of more than eight, the first seven and the last are shown.
pub shown_many : {A : Type 0} (f : A → Caller) (its : List A) → 8 < length its → shown_callers (map f its) ≡ map f (take 7 its) ++ map f (drop (length its - 1) its)
shown_many f its more =
    ap (λ n. cond (nat_lt 8 n) (take 7 (map f its) ++ drop (n - 1) (map f its)) (map f its)) (length-map its f)
    ∙ ap (λ b. cond b (take 7 (map f its) ++ drop (length its - 1) (map f its)) (map f its)) (lt-ltb 8 (length its) more)
    ∙ ap₂ (λ front behind. front ++ behind) (take-map f 7 its) (drop-map f (length its - 1) its)
