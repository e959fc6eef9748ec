-- What a limit says of more or fewer tokens.
use Rattle.std.proofs.Common.{◌≡◌, ◌+◌, ◌≤◌, ℕ, refl, None, Some, Option, ap, sym, subst, ◌∙◌, arith}
use Rattle.std.specs.Prelude.{option_map}
use Rattle.mbe_rules.specs.Limits.{IsOver, IsWithin}

-- More tokens exceed it too, and fewer are within it too.
pub over_more : (most : Option ℕ) (n m : ℕ) → n ≤ m → IsOver most n → IsOver most m
over_more None n m fewer over = over
over_more (Some most) n m fewer over = omega (arith, fewer, over)

pub within_fewer : (most : Option ℕ) (n m : ℕ) → n ≤ m → IsWithin most m → IsWithin most n
within_fewer None n m fewer within = tt
within_fewer (Some most) n m fewer within = omega (arith, fewer, within)

-- what may be written in all, if so many tokens are held and so many may still be written
abbrev pub in_all : (held : ℕ) → (left : Option ℕ) → Option ℕ
in_all held left = option_map (λ it. it + held) left

-- What is held is within it.
pub held_within : (held : ℕ) (left : Option ℕ) → IsWithin (in_all held left) held
held_within held None = tt
held_within held (Some it) = omega arith

-- At the beginning it is what may still be written.
pub none_held : (left : Option ℕ) → in_all 0 left ≡ left
none_held None = refl
none_held (Some it) = ap Some (zero_more it)
  where
    zero_more : (n : ℕ) → n + 0 ≡ n
    zero_more n = omega arith

-- More tokens than may still be written exceed it.
pub over_all : (more held : ℕ) (left : Option ℕ) → IsOver left more → IsOver (in_all held left) (held + more)
over_all more held None over = over
over_all more held (Some it) over = omega (arith, over)

module _ (more held : ℕ) (left : Option ℕ) where
  -- It stays the same after some are written.
  pub in_all_after : (rest : Option ℕ) (then : ℕ) → left ≡ option_map (λ it. it + more) rest → then ≡ held + more → in_all then rest ≡ in_all held left
  in_all_after None then is all = sym (ap (in_all held) is)
  in_all_after (Some it) then is all =
      let same : it + then ≡ it + more + held = omega (arith, all) in
      ap Some same ∙ sym (ap (in_all held) is)

  -- These are within it.
  pub within_all : (rest : Option ℕ) → left ≡ option_map (λ it. it + more) rest → IsWithin (in_all held left) (held + more)
  within_all None is = subst (λ l. IsWithin (in_all held l) (held + more)) (sym is) tt
  within_all (Some it) is =
      let within : held + more ≤ it + more + held = omega arith in
      subst (λ l. IsWithin (in_all held l) (held + more)) (sym is) within
