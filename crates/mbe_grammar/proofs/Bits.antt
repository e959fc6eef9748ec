-- Bits of numbers that represent kinds.
use Rattle.std.proofs.Common.{◌≡◌, inl, inr, ◌<◌, ℕ, zero, suc, true, refl, sym, subst, ap, ◌∙◌, arith}
use Rattle.std.proofs.lemmas.Bool.{eqb-true}
use Rattle.std.proofs.lemmas.Nat.Bits.{bit_at-lt, bit_at-zero, bit_at_and, bit_at_or}
use Rattle.std.specs.Int.{bit_at}
use Rattle.std.specs.Int.RustNames.{bit_and, bit_or}
use Rattle.std.specs.Prelude.{◌⊎◌, ◌==◌, min, max}
use Rattle.mbe_grammar.specs.Known.{is_within}

both_set : (a b : ℕ) → a < 2 → b < 2 → min a b ≡ 1 → (a ≡ 1) × (b ≡ 1)
both_set zero zero p q e = absurd (cc e)
both_set zero (suc zero) p q e = absurd (cc e)
both_set zero (suc (suc b)) p q e = absurd (omega (arith, q))
both_set (suc zero) zero p q e = absurd (cc e)
both_set (suc zero) (suc zero) p q e = (refl, refl)
both_set (suc zero) (suc (suc b)) p q e = absurd (omega (arith, q))
both_set (suc (suc a)) b p q e = absurd (omega (arith, p))

one_set : (a b : ℕ) → a < 2 → b < 2 → max a b ≡ 1 → (a ≡ 1) ⊎ (b ≡ 1)
one_set zero zero p q e = absurd (cc e)
one_set zero (suc zero) p q e = inr refl
one_set zero (suc (suc b)) p q e = absurd (omega (arith, q))
one_set (suc zero) b p q e = inl refl
one_set (suc (suc a)) b p q e = absurd (omega (arith, p))

-- a bit of both numbers, and of one of them
pub of_both : (a b k : ℕ) → bit_at (bit_and a b) k ≡ 1 → (bit_at a k ≡ 1) × (bit_at b k ≡ 1)
of_both a b k e = both_set (bit_at a k) (bit_at b k) (bit_at-lt a k) (bit_at-lt b k) (sym (bit_at_and a b k) ∙ e)

pub of_one : (a b k : ℕ) → bit_at (bit_or a b) k ≡ 1 → (bit_at a k ≡ 1) ⊎ (bit_at b k ≡ 1)
of_one a b k e = one_set (bit_at a k) (bit_at b k) (bit_at-lt a k) (bit_at-lt b k) (sym (bit_at_or a b k) ∙ e)

-- a number within another has no other bits
pub of_outer : (a b k : ℕ) → is_within a b ≡ true → bit_at a k ≡ 1 → bit_at b k ≡ 1
of_outer a b k w e =
    let same : bit_and a b ≡ a = eqb-true (bit_and a b) a w in
    (of_both a b k (subst (λ n. bit_at n k ≡ 1) (sym same) e)).1

-- zero has no bits
pub of_nothing : (a k : ℕ) → (a == 0) ≡ true → bit_at a k ≡ 1 → ⊥
of_nothing a k w e =
    let same : a ≡ 0 = eqb-true a 0 w in
    let none : bit_at 0 k ≡ 1 = subst (λ n. bit_at n k ≡ 1) same e in
    absurd (cc (sym (bit_at-zero k) ∙ none))

-- two numbers that have no bit in common
pub of_apart : (a b k : ℕ) → (bit_and a b == 0) ≡ true → bit_at a k ≡ 1 → bit_at b k ≡ 1 → ⊥
of_apart a b k w e f =
    of_nothing (bit_and a b) k w (bit_at_and a b k ∙ ap (λ n. min n (bit_at b k)) e ∙ ap (λ n. min 1 n) f)
