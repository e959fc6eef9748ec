-- The macros in scope.
use Rattle.std.specs.Prelude.{◌≡◌, ℕ, List, [], ◌∷◌, take, Option, None, Some, bytes_eq, if◌then◌else◌}
use Rattle.mbe_rules.specs.Arms.{Arm}
use Rattle.mbe_rules.specs.Expansions.{AreMade}
use Rattle.mbe_rules.specs.declared.macro_rules.MacroRules.{MacroRules}
use Rattle.expand_text.specs.declared.fault.MacroFault.{MacroFault}
use Rattle.expand_text.specs.declared.scope.Macro as rust

-- a macro: its name, the byte at which that begins in its definition, and its arms; or, if it has none, why a call of it is left as it is
pub record Macro : Type 0 where
  pub name : List ℕ
  pub defined_at : ℕ
  pub left : MacroFault
  pub arms : Option (List Arm)

-- the one, or else the other
abbrev pub or_else : {A : Type 0} → Option A → Option A → Option A
or_else None other = other
or_else (Some it) other = Some it

-- the last thing with a name
abbrev pub last_by : {A : Type 0} → (name_of : A → List ℕ) → (name : List ℕ) → List A → Option A
last_by name_of name [] = None
last_by name_of name (it ∷ others) = or_else (last_by name_of name others) (if bytes_eq (name_of it) name then Some it else None)

-- the first so many of them, or all
abbrev pub kept_of : {A : Type 0} → Option ℕ → List A → List A
kept_of None its = its
kept_of (Some n) its = take n its

-- the last macro of a name, of macros in the order of their definitions
abbrev pub last_named : (name : List ℕ) → List Macro → Option Macro
last_named name macros = last_by (λ it. it.name) name macros

-- rules are made of arms, or there are none
abbrev pub AreRules : Option (List Arm) → Option MacroRules → Type 0
AreRules None None = Unit {0}
AreRules None (Some rules) = ⊥
AreRules (Some arms) None = ⊥
AreRules (Some arms) (Some rules) = AreMade arms rules.arms.items

-- a macro is made ready to expand
pub record IsReady (macro : Macro) (it : rust.Macro) : Type 0 where
  pub name : it.name ≡ macro.name
  pub defined_at : it.defined_at ≡ macro.defined_at
  pub left : it.left ≡ macro.left
  pub rules : AreRules macro.arms it.rules

-- all of them are, one by one
abbrev pub AreReady : List Macro → List rust.Macro → Type 0
AreReady [] [] = Unit {0}
AreReady [] (it ∷ others) = ⊥
AreReady (macro ∷ more) [] = ⊥
AreReady (macro ∷ more) (it ∷ others) = IsReady macro it × AreReady more others

-- the one is made ready of the other, or there is neither
abbrev pub IsReadyIf : Option Macro → Option rust.Macro → Type 0
IsReadyIf None None = Unit {0}
IsReadyIf None (Some it) = ⊥
IsReadyIf (Some macro) None = ⊥
IsReadyIf (Some macro) (Some it) = IsReady macro it
