-- The first finding that is no warning.
use Rattle.std.proofs.Common.{◌≡◌, ◌<◌, ℕ, zero, suc, true, false, List, [], ◌∷◌, length, drop, None, slice_get, get_or, refl, ap, sym, ◌∙◌, arith}
use Rattle.expand_text.specs.declared.fault.Finding.{Finding}
use Rattle.expand_text.specs.Expansion.{first_fault, fault_or}
use Rattle.expand_text.specs.Findings.{is_warning}

-- A finding that is no warning is the first fault from its place on.
pub fault_there : (findings : List Finding) (place : ℕ) (it : Finding) → place < length findings → it ≡ get_or findings place it → is_warning it.fault ≡ false
    → first_fault (drop place findings) ≡ slice_get findings place
fault_there [] place it less is fault = absurd (omega (arith, less))
fault_there (first ∷ others) zero it less is fault = ap (λ b. fault_or b first (first_fault others)) (sym (ap (λ f. is_warning f.fault) is) ∙ fault)
fault_there (first ∷ others) (suc place) it less is fault = fault_there others place it (omega (arith, less)) is fault

-- After a warning, the first fault is the first fault after it.
pub fault_behind : (findings : List Finding) (place : ℕ) (it : Finding) → place < length findings → it ≡ get_or findings place it → is_warning it.fault ≡ true
    → first_fault (drop place findings) ≡ first_fault (drop (suc place) findings)
fault_behind [] place it less is warning = absurd (omega (arith, less))
fault_behind (first ∷ others) zero it less is warning = ap (λ b. fault_or b first (first_fault others)) (sym (ap (λ f. is_warning f.fault) is) ∙ warning)
fault_behind (first ∷ others) (suc place) it less is warning = fault_behind others place it (omega (arith, less)) is warning

-- After all findings there is no fault.
pub no_fault : (findings : List Finding) → first_fault (drop (length findings) findings) ≡ None
no_fault [] = refl
no_fault (first ∷ others) = no_fault others
