-- Macros that are made ready.
use Rattle.std.proofs.Common.{◌≡◌, ◌++◌, ℕ, zero, suc, List, [], ◌∷◌, length, take, Bool, true, false, Option, Some, None, refl, ap, sym, cond}
use Rattle.std.proofs.lemmas.Bool.{false≢true}
use Rattle.std.specs.Prelude.{bytes_eq, is_some}
use Rattle.expand_text.specs.declared.scope.Macro as rust
use Rattle.expand_text.specs.Macros.{arms_of, unless_several}
use Rattle.expand_text.specs.Scopes.{Macro, or_else, last_by, last_named, kept_of, AreRules, IsReady, AreReady, IsReadyIf}
use Rattle.mbe_rules.specs.Arms.{Arm}
use Rattle.mbe_rules.specs.Expansions.{AreMade}
use Rattle.mbe_rules.specs.declared.macro_rules.MacroRules.{MacroRules}

-- The last of a name among the macros is made ready into the last of that name.
pub ready_last : (name : List ℕ) (macros : List Macro) (its : List rust.Macro) → AreReady macros its
    → IsReadyIf (last_named name macros) (last_by (λ it. it.name) name its)
ready_last name [] [] are = tt
ready_last name [] (it ∷ its) are = absurd are
ready_last name (macro ∷ macros) [] are = absurd are
ready_last name (macro ∷ macros) (it ∷ its) (is, are) =
    by (last_named name macros) (last_by (λ m. m.name) name its) (ready_last name macros its are) (bytes_eq macro.name name) (bytes_eq it.name name)
    (ap (λ n. bytes_eq n name) (sym is.name))
  where
    by : (found : Option Macro) (there : Option rust.Macro) → IsReadyIf found there → (a b : Bool) → a ≡ b
        → IsReadyIf (or_else found (cond a (Some macro) None)) (or_else there (cond b (Some it) None))
    by None None p true true same = is
    by None None p false false same = tt
    by None None p true false same = absurd (cc same)
    by None None p false true same = absurd (cc same)
    by None (Some t) p a b same = absurd p
    by (Some f) None p a b same = absurd p
    by (Some f) (Some t) p a b same = p

-- There are as many ready macros as macros.
pub ready_length : (macros : List Macro) (its : List rust.Macro) → AreReady macros its → length macros ≡ length its
ready_length [] [] are = refl
ready_length [] (it ∷ its) are = absurd are
ready_length (macro ∷ macros) [] are = absurd are
ready_length (macro ∷ macros) (it ∷ its) are = ap suc (ready_length macros its (are.1))

-- One more macro and its ready form keep this.
pub ready_more : (macros : List Macro) (its : List rust.Macro) (macro : Macro) (it : rust.Macro) → AreReady macros its → IsReady macro it
    → AreReady (macros ++ macro ∷ []) (its ++ it ∷ [])
ready_more [] [] macro it are is = (is, tt)
ready_more [] (other ∷ its) macro it are is = absurd are
ready_more (first ∷ macros) [] macro it are is = absurd are
ready_more (first ∷ macros) (other ∷ its) macro it are is = (are.0, ready_more macros its macro it (are.1) is)

-- The first `n` of them are ready.
pub ready_front : (n : ℕ) (macros : List Macro) (its : List rust.Macro) → AreReady macros its → AreReady (take n macros) (take n its)
ready_front zero macros its are = tt
ready_front (suc n) [] [] are = tt
ready_front (suc n) [] (it ∷ its) are = absurd are
ready_front (suc n) (macro ∷ macros) [] are = absurd are
ready_front (suc n) (macro ∷ macros) (it ∷ its) are = (are.0, ready_front n macros its (are.1))

-- The first so many, or all, are ready.
pub ready_kept : (kept : Option ℕ) (macros : List Macro) (its : List rust.Macro) → AreReady macros its → AreReady (kept_of kept macros) (kept_of kept its)
ready_kept None macros its are = are
ready_kept (Some n) macros its are = ready_front n macros its are

-- A ready macro has rules if and only if it has arms.
pub arms_ready : (found : Option Macro) (it : rust.Macro) → IsReadyIf found (Some it) → is_some it.rules ≡ is_some (arms_of found)
arms_ready None it is = absurd is
arms_ready (Some macro) it is = by macro.arms it.rules is.rules
  where
    by : (arms : Option (List Arm)) (rules : Option MacroRules) → AreRules arms rules → is_some rules ≡ is_some arms
    by None None are = refl
    by None (Some rules) are = absurd are
    by (Some arms) None are = absurd are
    by (Some arms) (Some rules) are = refl

pub arms_none : (found : Option Macro) → IsReadyIf found None → false ≡ is_some (arms_of found)
arms_none None is = refl
arms_none (Some macro) is = absurd is

-- There is a ready macro if and only if there is one to make ready.
pub some_ready : (found : Option Macro) (it : Option rust.Macro) → IsReadyIf found it → is_some it ≡ is_some found
some_ready None None is = refl
some_ready None (Some it) is = absurd is
some_ready (Some macro) None is = absurd is
some_ready (Some macro) (Some it) is = refl

-- The rules of arms are ready, unless both are left out.
pub ready_unless : (is_several : Bool) (arms : List Arm) (made : MacroRules) → AreMade arms made.arms.items
    → AreRules (unless_several is_several arms) (cond is_several None (Some made))
ready_unless true arms made are = tt
ready_unless false arms made are = are

-- A test that is false means that there is none.
pub no_arms : {A : Type 0} (found : Option A) → is_some found ≡ false → found ≡ None
no_arms None none = refl
no_arms (Some it) none = absurd (false≢true (sym none))
