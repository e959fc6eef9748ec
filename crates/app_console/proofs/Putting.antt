-- A tree is rewritten outside its slot: the other slots keep their contents.
use Rattle.std.proofs.Common.{◌≡◌, ◌≢◌, ◌⊎◌, inl, inr, ℕ, ◌==◌, true, false, List, [], ◌∷◌, map, Option, Some, None, refl, ap, ap₂, sym, ◌∙◌, subst}
use Rattle.std.specs.Prelude.{if◌then◌else◌}
use Rattle.std.proofs.lemmas.List.{get_or-set_other}
use Rattle.std.proofs.lemmas.Bool.Decides.{eqb_tells}
use Rattle.tt.specs.Forest.{Root, only}
use Rattle.tt.specs.OneRoot.{one_root}
use Rattle.tt.specs.Rewrites.{IsResultFault}
use Rattle.tt.specs.Rewriting.{replace, rewrite}
use Rattle.tt.specs.Stored.{IsWithinLimits}
use Rattle.tt_base.specs.declared.fault.TtFault.{TtFault}
use Rattle.tt_base.specs.declared.fault.TtFault.TheVariants.{Memory}
use Rattle.app_language.specs.declared.command.Command.TheVariants as command
use Rattle.app_language.specs.declared.command.action.Action.{Action}
use Rattle.app_language.specs.declared.command.action.Action.TheVariants as action
use Rattle.app_console.specs.Answer.{ok_line, same_line, fault_line}
use Rattle.app_console.specs.Editing.{trees_in, action_in, empty_refusal, put_refusal, or_else, first_refusal, rewritten_by, RewritesTree, RewritesSlot}
use Rattle.app_console.specs.Machine.{Step}
use Rattle.app_console.specs.State.{State, tree_in, with_tree}
use Rattle.app_console.proofs.Editing.{without, put_same, stored, refused}

other_slot : (old : State) (slot from : ℕ) → from ≢ slot → tree_in (without old slot) from ≡ tree_in old from
other_slot old slot from other = get_or-set_other old.slots slot from None None other

same_refusal : (old : State) (slot : ℕ) (it : Action) → put_refusal (without old slot) slot it ≡ put_refusal old slot it
same_refusal old slot action.Keep = refl
same_refusal old slot action.Remove = refl
same_refusal old slot (action.Put from) = reported (eqb_tells from slot)
  where
    reported : (((from == slot) ≡ true) × (from ≡ slot)) ⊎ (((from == slot) ≡ false) × (from ≢ slot)) → put_refusal (without old slot) slot (action.Put from) ≡ put_refusal old slot (action.Put from)
    reported (inl (same, is)) = rw same refl
    reported (inr (differ, other)) = ap (λ found. if from == slot then Some same_line else empty_refusal found) (other_slot old slot from other)

same_refusals : (old : State) (slot : ℕ) (actions : List Action) → first_refusal (without old slot) slot actions ≡ first_refusal old slot actions
same_refusals old slot [] = refl
same_refusals old slot (it ∷ more) = ap₂ or_else (same_refusal old slot it) (same_refusals old slot more)

-- An action that is not refused does the same.
same_action : (old : State) (slot : ℕ) (it : Action) → put_refusal old slot it ≡ None → action_in (without old slot) it ≡ action_in old it
same_action old slot action.Keep none = refl
same_action old slot action.Remove none = refl
same_action old slot (action.Put from) none = reported (eqb_tells from slot)
  where
    reported : (((from == slot) ≡ true) × (from ≡ slot)) ⊎ (((from == slot) ≡ false) × (from ≢ slot)) → action_in (without old slot) (action.Put from) ≡ action_in old (action.Put from)
    reported (inl (same, is)) =
        let gone : Some same_line ≡ None = sym (ap (λ b. if b then Some same_line else empty_refusal (tree_in old from)) same) ∙ none in
        cc
    reported (inr (differ, other)) = ap (λ found. replace (trees_in found)) (other_slot old slot from other)

none_of : (first second : Option (List ℕ)) → or_else first second ≡ None → (first ≡ None) × (second ≡ None)
none_of None second none = (refl, none)
none_of (Some line) second none = (none, cc)

same_actions : (old : State) (slot : ℕ) (actions : List Action) → first_refusal old slot actions ≡ None → map (action_in (without old slot)) actions ≡ map (action_in old) actions
same_actions old slot [] none = refl
same_actions old slot (it ∷ more) none =
    let both = none_of (put_refusal old slot it) (first_refusal old slot more) none in
    ap₂ (λ a l. a ∷ l) (same_action old slot it both.0) (same_actions old slot more both.1)

-- So a tree that was taken out of its slot is rewritten in the same way.
same_result : (old mid : State) (slot : ℕ) (actions : List Action) → mid ≡ without old slot → first_refusal old slot actions ≡ None
    → map (action_in mid) actions ≡ map (action_in old) actions
same_result old mid slot actions taken none = ap (λ s. map (action_in s) actions) taken ∙ same_actions old slot actions none

refusal_before : (old mid : State) (slot : ℕ) (actions : List Action) (found : Option (List ℕ)) → mid ≡ without old slot → first_refusal mid slot actions ≡ found → first_refusal old slot actions ≡ found
refusal_before old mid slot actions found taken is =
    sym (ap (λ s. first_refusal s slot actions) taken ∙ same_refusals old slot actions) ∙ is

-- The actions were refused.
pub rewrite_refused : (old mid new : State) (slot : ℕ) (actions : List Action) (root : Root) (line answer : List ℕ) → tree_in old slot ≡ Some root → mid ≡ without old slot
    → first_refusal mid slot actions ≡ Some line → answer ≡ line → new ≡ with_tree mid slot root → RewritesSlot old slot actions (tree_in old slot) answer new
rewrite_refused old mid new slot actions root line answer at taken is reported put =
    subst (λ found. RewritesSlot old slot actions found answer new) (sym at)
    (subst (λ why. RewritesTree old slot actions root why answer new) (sym (refusal_before old mid slot actions (Some line) taken is))
    (reported, put_same old mid new slot root at taken put))

-- The tree was rewritten.
pub rewrite_stored : (old mid new : State) (slot : ℕ) (actions : List Action) (root tree : Root) (answer : List ℕ) → tree_in old slot ≡ Some root → mid ≡ without old slot
    → first_refusal mid slot actions ≡ None → one_root (rewritten_by mid actions root) ≡ Some tree → IsWithinLimits tree → new ≡ with_tree mid slot tree → answer ≡ ok_line
    → RewritesSlot old slot actions (tree_in old slot) answer new
rewrite_stored old mid new slot actions root tree answer at taken is gives limits put reported =
    let none = refusal_before old mid slot actions None taken is in
    let same : rewritten_by mid actions root ≡ rewritten_by old actions root = ap (λ l. (rewrite (only root) l).0) (same_result old mid slot actions taken none) in
    subst (λ found. RewritesSlot old slot actions found answer new) (sym at)
    (subst (λ why. RewritesTree old slot actions root why answer new) (sym none)
    (stored (IsResultFault (rewritten_by old actions root)) (λ other. one_root (rewritten_by old actions root) ≡ Some other) old mid new slot tree answer taken
    (ap one_root (sym same) ∙ gives) limits put reported))

-- The result is no tree, or memory for it ran out.
pub rewrite_failed : (old mid new : State) (slot : ℕ) (actions : List Action) (root tree : Root) (fault : TtFault) (answer : List ℕ) → tree_in old slot ≡ Some root → mid ≡ without old slot
    → first_refusal mid slot actions ≡ None → (fault ≡ Memory) ⊎ IsResultFault (rewritten_by mid actions root) fault → tree ≡ root → new ≡ with_tree mid slot tree → answer ≡ fault_line fault
    → Step old (command.Rewrite slot actions) answer new
rewrite_failed old mid new slot actions root tree fault answer at taken is (inl memory) same put reported =
    inr (tt, reported ∙ ap fault_line memory, put_same old mid new slot root at taken (put ∙ ap (with_tree mid slot) same))
rewrite_failed old mid new slot actions root tree fault answer at taken is (inr why) same put reported =
    let none = refusal_before old mid slot actions None taken is in
    let alike : rewritten_by mid actions root ≡ rewritten_by old actions root = ap (λ l. (rewrite (only root) l).0) (same_result old mid slot actions taken none) in
    inl (subst (λ found. RewritesSlot old slot actions found answer new) (sym at)
    (subst (λ cause. RewritesTree old slot actions root cause answer new) (sym none)
    (refused (IsResultFault (rewritten_by old actions root)) (λ other. one_root (rewritten_by old actions root) ≡ Some other) old mid new slot root tree fault answer at taken
    (subst (λ trees. IsResultFault trees fault) alike why) same put reported)))
