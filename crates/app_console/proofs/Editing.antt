-- Steps that take a tree out of its slot and put another one back.
use Rattle.std.proofs.Common.{◌≡◌, inl, inr, ℕ, List, Some, None, set, ap, sym, ◌∙◌, subst}
use Rattle.std.proofs.lemmas.List.{set-set, set-get_or}
use Rattle.tt.specs.Forest.{Root}
use Rattle.tt.specs.Stored.{IsWithinLimits}
use Rattle.tt_base.specs.declared.fault.TtFault.{TtFault}
use Rattle.app_console.specs.Answer.{ok_line, fault_line}
use Rattle.app_console.specs.Editing.{Changes, StoresOr}
use Rattle.app_console.specs.State.{State, tree_in, with_tree}

-- the slot is emptied
abbrev pub without : State → ℕ → State
without old slot = record old { slots = set old.slots slot None }

-- A tree is put where another was taken.
pub put_back : (old mid new : State) (slot : ℕ) (root : Root) → mid ≡ without old slot → new ≡ with_tree mid slot root → new ≡ with_tree old slot root
put_back old mid new slot root taken put =
    put ∙ ap (λ s. with_tree s slot root) taken ∙ ap (λ slots. record old { slots = slots }) (set-set old.slots slot None (Some root))

-- The tree that was taken leaves the state as before.
pub put_same : (old mid new : State) (slot : ℕ) (root : Root) → tree_in old slot ≡ Some root → mid ≡ without old slot → new ≡ with_tree mid slot root → new ≡ old
put_same old mid new slot root at taken put =
    put_back old mid new slot root taken put
    ∙ ap (λ it. record old { slots = set old.slots slot it }) (sym at)
    ∙ ap (λ slots. record old { slots = slots }) (set-get_or old.slots slot None)

-- A slot's tree was changed.
pub changed : (change : Root → Root) (old mid new : State) (slot : ℕ) (root tree : Root) (answer : List ℕ) → tree_in old slot ≡ Some root → mid ≡ without old slot
    → tree ≡ change root → new ≡ with_tree mid slot tree → answer ≡ ok_line → Changes change old slot (tree_in old slot) answer new
changed change old mid new slot root tree answer at taken is put reported =
    subst (λ found. Changes change old slot found answer new) (sym at)
    (reported, put_back old mid new slot tree taken put ∙ ap (with_tree old slot) is)

-- A tree was stored in the slot.
pub stored : (IsFault : TtFault → Type 0) (IsTree : Root → Type 0) (old mid new : State) (slot : ℕ) (tree : Root) (answer : List ℕ) → mid ≡ without old slot
    → IsTree tree → IsWithinLimits tree → new ≡ with_tree mid slot tree → answer ≡ ok_line → StoresOr IsFault IsTree old slot answer new
stored IsFault IsTree old mid new slot tree answer taken is limits put reported = inl (tree, is, limits, reported, put_back old mid new slot tree taken put)

-- The tree was refused.
pub refused : (IsFault : TtFault → Type 0) (IsTree : Root → Type 0) (old mid new : State) (slot : ℕ) (root tree : Root) (fault : TtFault) (answer : List ℕ)
    → tree_in old slot ≡ Some root → mid ≡ without old slot → IsFault fault → tree ≡ root → new ≡ with_tree mid slot tree → answer ≡ fault_line fault
    → StoresOr IsFault IsTree old slot answer new
refused IsFault IsTree old mid new slot root tree fault answer at taken why same put reported =
    inr (fault, why, reported, put_same old mid new slot root at taken (put ∙ ap (with_tree mid slot) same))
