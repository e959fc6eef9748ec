-- What a call expands to.
use Rattle.std.specs.Prelude.{◌≡◌, ◌<◌, ◌≤◌, ℕ, suc, List, Option, None, Some}
use Rattle.tt.specs.Forest.{Root, size}
use Rattle.expand_text.specs.declared.calling.Called.{Called}
use Rattle.expand_text.specs.declared.calling.Called.TheVariants as called
use Rattle.expand_text.specs.declared.calling.Made.{Made}
use Rattle.expand_text.specs.declared.calling.Made.TheVariants as made
use Rattle.expand_text.specs.declared.fault.MacroFault.{MacroFault}
use Rattle.expand_items.specs.Items.{Call}
use Rattle.expand_text.specs.Contexts.{Config, Context, with_finding, tokens_left}
use Rattle.expand_text.specs.Expecting.{IsExpectedFor}
use Rattle.expand_text.specs.Macros.{IsCallFault, Writes, called_by, arms_of, found_expecting, context_behind}
use Rattle.expand_text.specs.Scopes.{Macro}
use Rattle.mbe_rules.specs.Arms.{Arm}

-- what arms make of a call, with at most so many nested expansions and so many tokens: a tree, or a fault, its byte and what is expected there
abbrev pub IsMade : (limit allowed : ℕ) → List Arm → Call → Made → Type 0
IsMade limit allowed arms it (made.Tree tree) = (left : ℕ) × (limit ≡ suc left) × Writes allowed arms it tree
IsMade limit allowed arms it (made.Faulty at fault expected) = IsCallFault limit allowed arms it at fault × IsExpectedFor arms it fault expected

-- a tree is made only if one expansion more is allowed, and so many tokens
abbrev pub IsMadeWithin : (limit allowed : ℕ) → Made → Type 0
IsMadeWithin limit allowed (made.Tree tree) = (0 < limit) × (size tree.children ≤ allowed)
IsMadeWithin limit allowed (made.Faulty at fault expected) = Unit {0}

abbrev pub IsCalledWithin : (limit allowed : ℕ) → Called → Type 0
IsCalledWithin limit allowed called.Other = Unit {0}
IsCalledWithin limit allowed called.Faulty = Unit {0}
IsCalledWithin limit allowed (called.Tree tree defined_at) = (0 < limit) × (size tree.children ≤ allowed)

-- a call has a fault, which is found
pub record IsFaulty (config : Config) (limit : ℕ) (it : Call) (before after : Context) : Type 0 where
  pub macro : Macro
  pub arms : List Arm
  pub at : ℕ
  pub fault : MacroFault
  pub expected : Option (List ℕ)
  pub called : called_by config before it ≡ Some macro
  pub expands : macro.arms ≡ Some arms
  pub wrong : IsCallFault limit (tokens_left config before) arms it at fault
  pub wanted : IsExpectedFor arms it fault expected
  pub found : after ≡ with_finding (found_expecting it macro at fault expected) before

-- a call of a macro whose name begins at that byte in its definition expands to a tree
pub record IsExpanded (config : Config) (limit : ℕ) (it : Call) (tree : Root) (defined_at : ℕ) (before after : Context) : Type 0 where
  pub left : ℕ
  pub macro : Macro
  pub arms : List Arm
  pub fits : limit ≡ suc left
  pub called : called_by config before it ≡ Some macro
  pub defined : macro.defined_at ≡ defined_at
  pub expands : macro.arms ≡ Some arms
  pub makes : Writes (tokens_left config before) arms it tree
  pub context : after ≡ before

-- what becomes of a call, and what is known then: nothing if no arms expand it, a fault, or a tree
abbrev pub IsCalled : Config → (limit : ℕ) → Call → Called → (before after : Context) → Type 0
IsCalled config limit it called.Other before after =
    (arms_of (called_by config before it) ≡ None) × (after ≡ context_behind config it before)
IsCalled config limit it called.Faulty before after = IsFaulty config limit it before after
IsCalled config limit it (called.Tree tree defined_at) before after = IsExpanded config limit it tree defined_at before after
