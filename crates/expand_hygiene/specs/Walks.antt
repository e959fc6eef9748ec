-- The walk through the tokens of an expansion.
use Rattle.std.specs.Prelude.{◌≡◌, ◌∷◌, ℕ, suc, List, [], Option, None, IfNone}
use Rattle.std.specs.Option.{option_or}
use Rattle.tt.specs.Types.Leaf.TheVariants as leaf
use Rattle.tt.specs.Types.TokenTree.{TokenTree}
use Rattle.tt.specs.Types.TokenTree.TheVariants as token
use Rattle.mbe_grammar.specs.declared.event.Event.{Event}
use Rattle.expand_hygiene.specs.declared.captures.Capture.{Capture}
use Rattle.expand_hygiene.specs.declared.given.Given.{Given}
use Rattle.expand_hygiene.specs.declared.mention.BindingKind.TheVariants.{Local, Label}
use Rattle.expand_hygiene.specs.declared.mention.Mention.{Mention}
use Rattle.expand_hygiene.specs.Binders.{behind_trees, unit_binders, binders_among}
use Rattle.expand_hygiene.specs.Captures.{captured_by, first_capture}
use Rattle.expand_hygiene.specs.Given.{IsGiven}

-- one tree was passed, which this name took
pub record PassesTree (given : Given) (name : Option ℕ) (old : List TokenTree) (found : Option Capture) (new : List TokenTree) : Type 0 where
  pub captures : (input : List Mention) → IsGiven given input → (count : ℕ) →
      first_capture input (unit_binders name (suc count) old) ≡ option_or found (first_capture input (unit_binders name count new))
  pub behind : (count : ℕ) → behind_trees (suc count) old ≡ behind_trees count new

-- of the trees of a unit, which this name took, so many are left, and the others capture nothing
pub record LeavesUnit (given : Given) (name : Option ℕ) (count left : ℕ) (old now : List TokenTree) : Type 0 where
  pub captures : (input : List Mention) → IsGiven given input → first_capture input (unit_binders name left now) ≡ first_capture input (unit_binders name count old)
  pub behind : behind_trees left now ≡ behind_trees count old

-- that many trees were passed, which this name took, or some of them captured this
pub record PassesUnit (given : Given) (name : Option ℕ) (count : ℕ) (old : List TokenTree) (found : Option Capture) (new : List TokenTree) : Type 0 where
  pub captures : (input : List Mention) → IsGiven given input → found ≡ first_capture input (unit_binders name count old)
  pub behind : IfNone found (new ≡ behind_trees count old)

-- names that are open, and the tokens that are left
pub record State : Type 0 where
  pub names : List ℕ
  pub tokens : List TokenTree

abbrev pub state : (names : List ℕ) → List TokenTree → State
state names tokens = record { names = names; tokens = tokens }

-- an event was passed, or its tokens captured this
abbrev pub PassesEvent : Given → Event → (old : State) → (found : Option Capture) → (new : State) → Type 0
PassesEvent given event old found new =
    (input : List Mention) → IsGiven given input → (more : List Event) →
    first_capture input (binders_among old.names old.tokens (event ∷ more)) ≡ option_or found (first_capture input (binders_among new.names new.tokens more))

-- a token can capture nothing
abbrev pub IsUncaptured : (input : List Mention) → TokenTree → Type 0
IsUncaptured input (token.Leaf (leaf.Literal it)) = Unit {0}
IsUncaptured input (token.Leaf (leaf.Punct it)) = Unit {0}
IsUncaptured input (token.Leaf (leaf.Ident it)) = (captured_by input Local it ≡ None) × (captured_by input Label it ≡ None)
IsUncaptured input (token.Subtree it) = Unit {0}

-- no token can
abbrev pub AreUncaptured : (input : List Mention) → List TokenTree → Type 0
AreUncaptured input [] = Unit {0}
AreUncaptured input (it ∷ more) = IsUncaptured input it × AreUncaptured input more
