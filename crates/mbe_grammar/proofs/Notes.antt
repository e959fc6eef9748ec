-- What the log of a place does not change.
use Rattle.std.proofs.Common.{◌≡◌, ◌++◌, ℕ, suc, Bool, true, false, List, [], ◌∷◌, length, take, refl, ap, ◌∙◌, cond, arith}
use Rattle.std.proofs.lemmas.Bool.Decides.{nat_tests}
use Rattle.std.specs.Prelude.{◌==◌}
use Rattle.mbe_grammar.specs.Positions.{Entry, Position, enters, leaves, noted, opened, cut, closed}

pub noted_rest : (noting : Bool) (more : List Entry) (to : Position) → (noted noting more to).rest ≡ to.rest
noted_rest true more to = refl
noted_rest false more to = refl

pub noted_passed : (noting : Bool) (more : List Entry) (to : Position) → (noted noting more to).passed ≡ to.passed
noted_passed true more to = refl
noted_passed false more to = refl

closed_rest_by : (b : Bool) (since : ℕ) (to : Position) → (cond b (cut since to) (noted true (leaves ∷ []) to)).rest ≡ to.rest
closed_rest_by true since to = refl
closed_rest_by false since to = refl

pub closed_rest : (noting : Bool) (since : ℕ) (to : Position) → (closed noting since to).rest ≡ to.rest
closed_rest true since to = closed_rest_by (length to.log == suc since) since to
closed_rest false since to = refl

-- An expression that takes nothing leaves the place of its name as it was.
length_more : (log : List Entry) (it : Entry) → length (log ++ it ∷ []) ≡ suc (length log)
length_more [] it = refl
length_more (other ∷ log) it = ap suc (length_more log it)

take_more : (log : List Entry) (it : Entry) → take (length log) (log ++ it ∷ []) ≡ log
take_more [] it = refl
take_more (other ∷ log) it = ap (λ (rest : List Entry). other ∷ rest) (take_more log it)

same_length : (n m : ℕ) → n ≡ m → (n == m) ≡ true
same_length n m e = grind (arith, nat_tests)

pub closed_opened : (noting : Bool) (name : ℕ) (from : Position) → closed noting (length from.log) (opened noting name from) ≡ from
closed_opened true name from =
    ap (λ (b : Bool). cond b (cut (length from.log) (opened true name from)) (noted true (leaves ∷ []) (opened true name from)))
    (same_length (length (from.log ++ enters name ∷ [])) (suc (length from.log)) (length_more from.log (enters name)))
    ∙ ap (λ (log : List Entry). record { passed = from.passed; rest = from.rest; log = log }) (take_more from.log (enters name))
closed_opened false name from = refl
