-- Knowing nothing of a table is right.
use Rattle.std.proofs.Common.{◌≡◌, ℕ, suc, Bool, true, arith, List, [], ◌∷◌, refl, ap}
use Rattle.std.proofs.lemmas.Bool.Decides.{nat_tests}
use Rattle.std.specs.Int.Bits.{and_zero_l}
use Rattle.std.specs.Int.RustNames.{bit_and, bit_or}
use Rattle.std.specs.Prelude.{◌==◌, ◌&&◌, nat_lt, slice_get}
use Rattle.mbe_grammar.specs.declared.rule.Rule.{Rule}
use Rattle.mbe_grammar.specs.declared.rule.Rule.TheVariants as rule
use Rattle.mbe_grammar.specs.Known.{is_within, begins, always_passes, is_right_rule, are_right}

within_all : (b : ℕ) → is_within 0 b ≡ true
within_all b = ap (λ n. n == 0) (and_zero_l b)

both_so : (a b : Bool) → a ≡ true → b ≡ true → (a && b) ≡ true
both_so a b e f = rw (e, f)

right_rule : (rules : List Rule) (at : ℕ) (it : Rule) → is_right_rule [] rules at it ≡ true
right_rule rules at rule.Empty = refl
right_rule rules at (rule.Unit wanted) = both_so (bit_and 0 (begins wanted) == 0) true (within_all (begins wanted)) refl
right_rule rules at (rule.Name other) = refl
right_rule rules at (rule.Sequence first second) = refl
right_rule rules at (rule.Choice first other) = refl
right_rule rules at (rule.ZeroOrMore part) = refl
right_rule rules at (rule.Not part) =
    both_so (is_within 0 (bit_or 0 (always_passes (slice_get rules part)))) true (within_all (bit_or 0 (always_passes (slice_get rules part)))) refl

some_left : (at : ℕ) → nat_lt 0 (suc at) ≡ true
some_left at = grind (arith, nat_tests)

pub nothing_known : (rules others : List Rule) (at : ℕ) → are_right [] rules at others ≡ true
nothing_known rules [] at = some_left at
nothing_known rules (it ∷ others) at =
    both_so (is_right_rule [] rules at it) (are_right [] rules (suc at) others) (right_rule rules at it) (nothing_known rules others (suc at))
