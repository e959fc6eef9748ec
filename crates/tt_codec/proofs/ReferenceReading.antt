-- A written reference is read again, whatever follows it.
use Rattle.std.proofs.Common.{◌≡◌, ℕ, ◌+◌, ◌*◌, ◌/◌, ◌%◌, ◌^◌, ◌<◌, Bool, true, false, cond, ◌==◌, nat_lt, List, [], ◌∷◌, ◌++◌, Some, refl, ap, ap₂, ◌∙◌, arith, w16, if◌then◌else◌}
use Rattle.std.specs.Int.{to_le_bytes}
use Rattle.std.proofs.lemmas.Nat.{from_le_bytes-to_le_bytes_2}
use Rattle.std.proofs.lemmas.Bool.{eq-eqb, ne_eqb}
use Rattle.tt_codec.specs.Reference.{reference_bytes, reference_at}
use Rattle.tt_codec.specs.declared.reference.Reference.{Reference}
use Rattle.tt_codec.specs.Read.{Read, ◌>>=◌, half_at}

pub half_at-half : (n : ℕ) (rest : List ℕ) → n < 2 ^ 16 → half_at (to_le_bytes w16 n ++ rest) ≡ Some (n, rest)
half_at-half n rest h = ap (λ m. Some (m, rest)) (from_le_bytes-to_le_bytes_2 n h)

-- a test of a bit
pub bit_0 : {X : Type 0} (n : ℕ) (x y : X) → n ≡ 0 → (if n == 0 then x else y) ≡ x
bit_0 n x y e = ap (λ t. cond t x y) (eq-eqb _ _ e)

pub bit_1 : {X : Type 0} (n : ℕ) (x y : X) → n ≡ 1 → (if n == 0 then x else y) ≡ y
bit_1 n x y e = ap (λ t. cond t x y) (ne_eqb n 0 (λ z. omega arith))

abbrev pub referred : (index tag : ℕ) → List ℕ → Read Reference
referred index tag rest = Some (record { index = index; tag = tag }, rest)

reference_is : (index tag index' tag' : ℕ) (rest : List ℕ) → index ≡ index' → tag ≡ tag' → referred index tag rest ≡ referred index' tag' rest
reference_is index tag index' tag' rest e f = ap₂ (λ i t. referred i t rest) e f

-- A reference is read again.
pub reference_again : (index tag : ℕ) (rest : List ℕ) → index < 2 ^ 29 → tag < 2
    → reference_at (reference_bytes index tag ++ rest) ≡ referred index tag rest
unfolding reference_bytes reference_at
reference_again index tag rest hi ht = by_form (nat_lt index 64) refl (nat_lt index 8192) refl
  where
    one : ℕ
    one = index * 4 + tag

    first : ℕ
    first = index % 64 * 4 + 2 + tag

    by_form : (one_byte : Bool) → nat_lt index 64 ≡ one_byte → (two_bytes : Bool) → nat_lt index 8192 ≡ two_bytes
        → reference_at
        (cond one_byte ((index * 4 + tag) ∷ [])
        (cond two_bytes ((index % 64 * 4 + 2 + tag) ∷ (index / 64 * 2) ∷ [])
        ((index % 64 * 4 + 2 + tag) ∷ (index / 64 % 128 * 2 + 1) ∷ to_le_bytes w16 (index / 2 ^ 13)))
        ++ rest)
        ≡ referred index tag rest
    by_form true e b f =
        bit_0 (one / 2 % 2) _ _ (omega arith) ∙ reference_is _ _ _ _ rest (omega arith) (omega arith)
    by_form false e true f =
        bit_1 (first / 2 % 2) _ _ (omega arith)
        ∙ bit_0 (index / 64 * 2 % 2) _ _ (omega arith)
        ∙ reference_is _ _ _ _ rest (omega arith) (omega arith)
    by_form false e false f =
        bit_1 (first / 2 % 2) _ _ (omega arith)
        ∙ bit_1 ((index / 64 % 128 * 2 + 1) % 2) _ _ (omega arith)
        ∙ ap (λ r. r >>= λ c. Some (record { index = first / 4 + (index / 64 % 128 * 2 + 1) / 2 * 64 + c.0 * 2 ^ 13; tag = first % 2 }, c.1))
        (half_at-half (index / 2 ^ 13) rest (omega arith))
        ∙ reference_is _ _ _ _ rest (omega arith) (omega arith)
