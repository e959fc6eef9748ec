-- What a call expands to, and its faults.
use Rattle.std.proofs.Common.{◌≡◌, ◌<◌, ℕ, zero, suc, List, Option, None, Some, refl, ap, subst, arith}
use Rattle.tt.specs.Forest.{Root}
use Rattle.expand_text.specs.declared.calling.Made.TheVariants as made
use Rattle.expand_text.specs.declared.fault.MacroFault.{MacroFault}
use Rattle.expand_text.specs.declared.scope.Macro as rust
use Rattle.expand_text.specs.Calling.{IsFaulty, IsMade}
use Rattle.expand_text.specs.Contexts.{Config, Context, tokens_left, with_finding}
use Rattle.expand_text.specs.Scopes.{Macro, AreRules, IsReadyIf}
use Rattle.expand_items.specs.Items.{Call}
use Rattle.expand_text.specs.Expecting.{IsExpectedFor}
use Rattle.expand_text.specs.Macros.{IsInputFault, Writes, called_by}
use Rattle.mbe_rules.specs.Arms.{Arm}
use Rattle.mbe_rules.specs.Expansions.{AreMade}
use Rattle.mbe_rules.specs.declared.macro_rules.MacroRules.{MacroRules}

-- If an expansion is allowed, arms make a tree of an input, or a fault.
pub made_tree : (limit allowed : ℕ) (arms : List Arm) (it : Call) (tree : Root) → 0 < limit → Writes allowed arms it tree → IsMade limit allowed arms it (made.Tree tree)
made_tree zero allowed arms it tree some is = absurd (omega (arith, some))
made_tree (suc left) allowed arms it tree some is = (left, refl, is)

pub made_fault : (limit allowed : ℕ) (arms : List Arm) (it : Call) (at : ℕ) (fault : MacroFault) (expected : Option (List ℕ)) → 0 < limit → IsInputFault allowed arms it at fault
    → IsExpectedFor arms it fault expected → IsMade limit allowed arms it (made.Faulty at fault expected)
made_fault zero allowed arms it at fault expected some is wanted = absurd (omega (arith, some))
made_fault (suc left) allowed arms it at fault expected some is wanted = (is, wanted)

module _ (config : Config) (limit : ℕ) (it : Call) (before : Context) (its : rust.Macro) (rules : MacroRules) (at : ℕ) (fault : MacroFault) (expected : Option (List ℕ)) where
  -- If the macro that a call names is ready, and its arms have a fault, that is found.
  pub faulty_call : IsReadyIf (called_by config before it) (Some its) → its.rules ≡ Some rules
      → ((arms : List Arm) → AreMade arms rules.arms.items → IsMade limit (tokens_left config before) arms it (made.Faulty at fault expected))
      → IsFaulty config limit it before (with_finding (record { name = it.name.sym; at = at; fault = fault; defined_at = Some its.defined_at; expected = expected; caller = None }) before)
  faulty_call ready ruled wrong = by (called_by config before it) refl ready
    where
      found : (defined_at : ℕ) → Context
      found defined_at = with_finding (record { name = it.name.sym; at = at; fault = fault; defined_at = Some defined_at; expected = expected; caller = None }) before

      by_arms : (macro : Macro) → called_by config before it ≡ Some macro → its.defined_at ≡ macro.defined_at → (arms : Option (List Arm)) → macro.arms ≡ arms → AreRules arms (Some rules)
          → IsFaulty config limit it before (found its.defined_at)
      by_arms macro called same None none are = absurd are
      by_arms macro called same (Some arms) expands are =
          record {
            macro = macro;
            arms = arms;
            at = at;
            fault = fault;
            expected = expected;
            called = called;
            expands = expands;
            wrong = (wrong arms are).0;
            wanted = (wrong arms are).1;
            found = ap found same;
          }

      by : (macro : Option Macro) → called_by config before it ≡ macro → IsReadyIf macro (Some its) → IsFaulty config limit it before (found its.defined_at)
      by None called is = absurd is
      by (Some macro) called is = by_arms macro called is.defined_at macro.arms refl (subst (AreRules macro.arms) ruled is.rules)
