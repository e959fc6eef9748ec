-- The answers of the commands that change a slot's tree, and the state after them.
use Rattle.std.specs.Prelude.{◌≡◌, ◌⊎◌, ◌==◌, ℕ, List, [], ◌∷◌, map, Option, None, Some, if◌then◌else◌}
use Rattle.tt.specs.AstIds.{ids_changed}
use Rattle.tt.specs.Edits.{HasLeafAt, leaf_set}
use Rattle.tt.specs.Forest.{Forest, Root, end, only, flat_root}
use Rattle.tt.specs.OneRoot.{one_root}
use Rattle.tt.specs.Rewriting.{keep, replace, rewrite, Action as TreeAction}
use Rattle.tt.specs.Rewrites.{IsResultFault}
use Rattle.tt.specs.Stored.{IsWithinLimits}
use Rattle.tt.specs.TreeFault.{IsTreeFault, IsSetFault}
use Rattle.tt_base.specs.declared.fault.TtFault.{TtFault}
use Rattle.tt_base.specs.declared.leaf.Leaf.{Leaf}
use Rattle.tt_base.specs.declared.span.ErasedFileAstId.{ErasedFileAstId}
use Rattle.app_language.specs.declared.command.action.Action.{Action}
use Rattle.app_language.specs.declared.command.action.Action.TheVariants as action
use Rattle.app_console.specs.Answer.{ok_line, empty_line, same_line, fault_line}
use Rattle.app_console.specs.State.{State, tree_in, with_tree}

-- the slot's tree, if there is one, is changed
abbrev pub Changes : (Root → Root) → State → (slot : ℕ) → Option Root → List ℕ → State → Type 0
Changes change old slot None answer new = (answer ≡ empty_line) × (new ≡ old)
Changes change old slot (Some root) answer new = (answer ≡ ok_line) × (new ≡ with_tree old slot (change root))

-- the tree goes to the slot if it is small enough, or it is refused with a reason
abbrev pub StoresOr : (TtFault → Type 0) → (Root → Type 0) → State → (slot : ℕ) → List ℕ → State → Type 0
StoresOr IsFault IsTree old slot answer new =
    ((root : Root) × IsTree root × IsWithinLimits root × (answer ≡ ok_line) × (new ≡ with_tree old slot root))
    ⊎ ((fault : TtFault) × IsFault fault × (answer ≡ fault_line fault) × (new ≡ old))

-- the leaf at a place is changed, if there is a leaf
abbrev pub SetsLeaf : State → (slot place : ℕ) → Leaf → Option Root → List ℕ → State → Type 0
SetsLeaf old slot place it None answer new = (answer ≡ empty_line) × (new ≡ old)
SetsLeaf old slot place it (Some root) answer new =
    StoresOr (IsSetFault root place it) (λ other. HasLeafAt (flat_root root) place × (other ≡ leaf_set place it root)) old slot answer new

-- these numbers, as ids
abbrev pub ids_of : List ℕ → List ErasedFileAstId
ids_of numbers = map (λ n. record { 0 = n }) numbers

-- the stored parts take these ids in order; those after them keep theirs
abbrev pub ChangesIds : State → (slot : ℕ) → List ℕ → Option Root → List ℕ → State → Type 0
ChangesIds old slot ids None answer new = (answer ≡ empty_line) × (new ≡ old)
ChangesIds old slot ids (Some root) answer new =
    StoresOr (IsTreeFault (ids_changed (ids_of ids) root)) (λ other. other ≡ ids_changed (ids_of ids) root) old slot answer new

-- the first of the remaining ids; without one, the part keeps its own
abbrev pub next_id : List ℕ → ErasedFileAstId → ErasedFileAstId
next_id [] id = id
next_id (n ∷ more) id = record { 0 = n }

-- the trees of a slot
abbrev pub trees_in : Option Root → Forest
trees_in None = end
trees_in (Some root) = only root

-- what an action does, with these trees in the slots
abbrev pub action_in : State → Action → TreeAction
action_in state action.Keep = keep
action_in state action.Remove = replace end
action_in state (action.Put from) = replace (trees_in (tree_in state from))

-- the first of the remaining actions; without one, the token is kept
abbrev pub next_action : State → List Action → TreeAction
next_action state [] = keep
next_action state (it ∷ more) = action_in state it

-- the forest that these actions make of a tree; all later tokens are kept
abbrev pub rewritten_by : State → List Action → Root → Forest
rewritten_by state actions root = (rewrite (only root) (map (action_in state) actions)).0

-- a slot that is put contains a tree
abbrev pub empty_refusal : Option Root → Option (List ℕ)
empty_refusal None = Some empty_line
empty_refusal (Some root) = None

-- why an action is refused: what it puts into the slot is the slot's own tree, or there is none
abbrev pub put_refusal : State → (slot : ℕ) → Action → Option (List ℕ)
put_refusal state slot action.Keep = None
put_refusal state slot action.Remove = None
put_refusal state slot (action.Put from) = if from == slot then Some same_line else empty_refusal (tree_in state from)

-- the first, or else the second
abbrev pub or_else : Option (List ℕ) → Option (List ℕ) → Option (List ℕ)
or_else None other = other
or_else (Some line) other = Some line

-- the first refusal of some actions
abbrev pub first_refusal : State → (slot : ℕ) → List Action → Option (List ℕ)
first_refusal state slot [] = None
first_refusal state slot (it ∷ more) = or_else (put_refusal state slot it) (first_refusal state slot more)

-- a refused action is the answer; otherwise the tree that the actions make is stored
abbrev pub RewritesTree : State → (slot : ℕ) → List Action → Root → Option (List ℕ) → List ℕ → State → Type 0
RewritesTree old slot actions root (Some line) answer new = (answer ≡ line) × (new ≡ old)
RewritesTree old slot actions root None answer new =
    StoresOr (IsResultFault (rewritten_by old actions root)) (λ other. one_root (rewritten_by old actions root) ≡ Some other) old slot answer new

-- the slot's tree, if there is one, is rewritten by the actions
abbrev pub RewritesSlot : State → (slot : ℕ) → List Action → Option Root → List ℕ → State → Type 0
RewritesSlot old slot actions None answer new = (answer ≡ empty_line) × (new ≡ old)
RewritesSlot old slot actions (Some root) answer new = RewritesTree old slot actions root (first_refusal old slot actions) answer new
