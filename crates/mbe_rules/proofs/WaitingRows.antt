-- A macro whose first and third arm come equally far.
use Rattle.std.proofs.Common.{◌≡◌, inl, inr, ℕ, zero, suc, List, [], ◌∷◌, codes, refl, true, false, ap, sym, subst, ◌∙◌, arith}
use Rattle.std.proofs.lemmas.Bool.{false≢true}
use Rattle.std.specs.Prelude.{Contains, bytes_eq}
use Rattle.tt.specs.Forest.{Forest, end, leaf}
use Rattle.tt.specs.Types.Leaf.{Leaf}
use Rattle.tt.specs.Types.DelimiterKind.TheVariants.{Brace}
use Rattle.tt_base.specs.Token.{delimiter}
use Rattle.tt_base.proofs.Samples.{span, ident}
use Rattle.mbe_matcher.specs.Fronts.{Waits}
use Rattle.mbe_matcher.specs.Waiting.{AreWaiting}
use Rattle.mbe_pattern.specs.Patterns.{Pattern}
use Rattle.mbe_pattern.specs.Patterns as pattern
use Rattle.mbe_rules.specs.Arms.{Arm}
use Rattle.mbe_rules.specs.Templates.{nothing}
use Rattle.mbe_rules.specs.Waiting.{in_arm, AreWaitingIn}

-- `(a b) => {}; (c) => {}; (a d) => {}`, and the input `a e`
abbrev after_a : Leaf → Pattern
after_a it = pattern.token (ident (codes "a") ∷ []) (pattern.token (it ∷ []) pattern.nothing)

abbrev only_c : Pattern
only_c = pattern.token (ident (codes "c") ∷ []) pattern.nothing

abbrev arm_of : Pattern → Arm
arm_of its = record { pattern = its; delimiter = delimiter Brace (span 0 1) (span 0 1); template = nothing }

abbrev input : Forest
input = leaf (ident (codes "a")) (leaf (ident (codes "e")) end)

-- No part of the second arm waits behind the `a`.
none_waits : AreWaiting only_c input 1 []
none_waits =
    record {
      rising = λ k lt. absurd (omega (arith, lt));
      each = λ n there. absurd (omega (arith, there.1));
      all = all;
    }
  where
    all : (n : ℕ) → Waits only_c input 1 n → Contains [] n
    all n (left, place, inl (inl (is, at, stuck))) = absurd (omega (arith, place, at))
    all n (left, place, inl (inr (c, more))) = absurd more
    all n (left, place, inr (reading, rest, (c, whole), next)) = absurd (false≢true (sym (ap (λ it. bytes_eq it (codes "c")) c.1.0.0)))

-- The second part of the first and the third does.
abbrev b : Leaf
b = ident (codes "b")

abbrev d : Leaf
d = ident (codes "d")

not_e : (text : List ℕ) → bytes_eq text text ≡ true → bytes_eq (codes "e") text ≡ false → text ≡ codes "e" → ⊥
not_e text same other is = false≢true (sym other ∙ ap (λ it. bytes_eq it text) (sym is) ∙ same)

second_there : (n : ℕ) (P : ℕ → Type 0) → P 1 → Contains (1 ∷ []) n → P n
second_there n P p (zero, lt, is) = subst P is p
second_there n P p (suc k, lt, is) = absurd (omega (arith, lt))

b_waits : AreWaiting (after_a b) input 1 (1 ∷ [])
b_waits =
    record {
      rising = λ k lt. absurd (omega (arith, lt));
      each = λ n there. second_there n (Waits (after_a b) input 1) (1, refl, inl (inr ((refl, ((refl, refl), tt)), inl (refl, refl, λ same. not_e (codes "b") refl refl same.1.0.0)))) there;
      all = all;
    }
  where
    all : (n : ℕ) → Waits (after_a b) input 1 n → Contains (1 ∷ []) n
    all n (left, place, inl (inl (is, at, stuck))) = absurd (omega (arith, place, at))
    all n (left, place, inl (inr (a, inl (is, at, stuck)))) = (0, omega arith, is)
    all n (left, place, inl (inr (a, inr (second, more)))) = absurd more
    all n (left, place, inr (reading, rest, (a, (second, whole)), next)) = absurd (not_e (codes "b") refl refl second.1.0.0)

d_waits : AreWaiting (after_a d) input 1 (1 ∷ [])
d_waits =
    record {
      rising = λ k lt. absurd (omega (arith, lt));
      each = λ n there. second_there n (Waits (after_a d) input 1) (1, refl, inl (inr ((refl, ((refl, refl), tt)), inl (refl, refl, λ same. not_e (codes "d") refl refl same.1.0.0)))) there;
      all = all;
    }
  where
    all : (n : ℕ) → Waits (after_a d) input 1 n → Contains (1 ∷ []) n
    all n (left, place, inl (inl (is, at, stuck))) = absurd (omega (arith, place, at))
    all n (left, place, inl (inr (a, inl (is, at, stuck)))) = (0, omega arith, is)
    all n (left, place, inl (inr (a, inr (second, more)))) = absurd more
    all n (left, place, inr (reading, rest, (a, (second, whole)), next)) = absurd (not_e (codes "d") refl refl second.1.0.0)

arms_wait : AreWaitingIn (arm_of (after_a b) ∷ arm_of only_c ∷ arm_of (after_a d) ∷ []) 0 input 1 (in_arm 0 1 ∷ in_arm 2 1 ∷ [])
arms_wait =
    (1 ∷ [], in_arm 2 1 ∷ [], refl, b_waits, ([], in_arm 2 1 ∷ [], refl, none_waits, (1 ∷ [], [], refl, d_waits, refl)))
