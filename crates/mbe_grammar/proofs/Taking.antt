-- A unit that passes a test is taken.
use Rattle.std.proofs.Common.{◌≡◌, ◌+◌, ◌≤◌, ℕ, zero, suc, Bool, true, false, List, [], ◌∷◌, ◌++◌, map, Some, None, refl, sym, ap, ap₂, ◌∙◌, cond, arith}
use Rattle.tt.specs.Forest.{Forest, end, leaf, node, size}
use Rattle.tt.specs.Gluing.{after_trees}
use Rattle.mbe_grammar.specs.declared.entry.Entry.{Entry as Noted}
use Rattle.mbe_grammar.specs.declared.test.Test.{Test}
use Rattle.mbe_grammar.specs.Places.{entry, position_of}
use Rattle.mbe_grammar.specs.Positions.{Entry, count_of, entry_of, taken, takes}
use Rattle.mbe_grammar.specs.Tests.{named, passes}
use Rattle.mbe_grammar.specs.Units.{first_unit}
use Rattle.mbe_grammar.proofs.Behind.{after_both}
use Rattle.mbe_grammar.proofs.Shrinking.{taken_fits, passing_some}

after_end : (n : ℕ) → after_trees n end ≡ end
after_end zero = refl
after_end (suc n) = after_end n

-- Trees that are left come after no more tokens than there are.
pub past : (n : ℕ) (trees : Forest) → (after_trees n trees ≡ end → ⊥) → n + size (after_trees n trees) ≤ size trees
past zero trees some = omega arith
past (suc n) end some = absurd (some (after_end n))
past (suc n) (leaf it rest) some = omega (arith, past n rest some)
past (suc n) (node delimiter children rest) some = omega (arith, past n rest some)

-- So a unit that passes a test ends within them.
pub within : (here : ℕ) (trees : Forest) (wanted : Test) → passes wanted (first_unit (after_trees here trees)) ≡ true → here + count_of wanted (after_trees here trees) ≤ size trees
within here trees wanted passing =
    omega (arith, past here trees (passing_some wanted (after_trees here trees) passing), taken_fits wanted (after_trees here trees) passing)

module _ (trees : Forest) (old new : List Noted) (here : ℕ) (wanted : Test) (passing : passes wanted (first_unit (after_trees here trees)) ≡ true) where
  abbrev rest : Forest
  rest = after_trees here trees

  moved : (log : List Entry) → map entry new ≡ log
      → position_of trees new (here + count_of wanted rest) ≡ record { passed = here + count_of wanted rest; rest = after_trees (count_of wanted rest) rest; log = log }
  moved log is =
      ap₂ (λ (t : Forest) (l : List Entry). record { passed = here + count_of wanted rest; rest = t; log = l }) (sym (after_both here (count_of wanted rest) trees)) is

  taken_here : (noting : Bool) → takes noting wanted (position_of trees old here) ≡ Some (taken noting wanted (position_of trees old here))
  taken_here noting = ap (λ b. cond b (Some (taken noting wanted (position_of trees old here))) None) passing

  -- It is noted.
  pub took_noting : map entry new ≡ map entry old ++ entry_of (named wanted) (count_of wanted rest) rest ∷ []
      → Some (position_of trees new (here + count_of wanted rest)) ≡ takes true wanted (position_of trees old here)
  took_noting is = ap Some (moved (map entry old ++ entry_of (named wanted) (count_of wanted rest) rest ∷ []) is) ∙ sym (taken_here true)

  -- It is not noted.
  pub took_silently : map entry new ≡ map entry old → Some (position_of trees new (here + count_of wanted rest)) ≡ takes false wanted (position_of trees old here)
  took_silently is = ap Some (moved (map entry old) is) ∙ sym (taken_here false)
