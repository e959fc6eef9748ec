-- Steps of the machine, over plain values.
use Rattle.std.proofs.Common.{◌≡◌, ℕ, Bool, true, false, List, Some, inl, inr, cond, sym, refl}
use Rattle.tt_base.specs.Forest.{Root}
use Rattle.tt_base.specs.Equality.{same_root}
use Rattle.tt_base.proofs.SameTree.{same_root_iff}
use Rattle.app_language.specs.declared.command.Command.TheVariants as command
use Rattle.app_console.specs.Answer.{yes_line, no_line}
use Rattle.app_console.specs.Machine.{Step, Compares}
use Rattle.app_console.specs.State.{State, tree_in}

-- Trees that exist are compared.
pub compared : (old : State) (left right : ℕ) (a b : Root) (same : Bool) (answer : List ℕ) → tree_in old left ≡ Some a → tree_in old right ≡ Some b
    → same ≡ same_root a b → answer ≡ cond same yes_line no_line → Step old (command.Equal left right) answer old
compared old left right a b same answer at_left at_right is reported = inl (rw (at_left, at_right) (by same is reported), refl)
  where
    by : (same : Bool) → same ≡ same_root a b → answer ≡ cond same yes_line no_line → Compares (Some a) (Some b) answer
    by true is reported = inl ((same_root_iff a b).0 (sym is), reported)
    by false is reported = inr (λ e. cc (is, (same_root_iff a b).1 e), reported)
