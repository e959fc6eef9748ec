-- The machine as a plain value: the answer to each command, and the state after it. A later command is one more case.
use Rattle.std.specs.Prelude.{◌≡◌, ◌≢◌, ℕ, List, [], ◌∷◌, ◌++◌, ◌⊎◌, Option, None, Some}
use Rattle.tt.specs.Building.{alone, built, built_skipping, empty_builder, opened, pushed, removed}
use Rattle.tt.specs.Forest.{Root, IsOneSubtree, only}
use Rattle.tt.specs.Edits.{with_kind, with_spans}
use Rattle.tt.specs.PackFault.{IsPackFault}
use Rattle.tt.specs.Stored.{IsWithinLimits}
use Rattle.tt.specs.Token.{delim_span}
use Rattle.tt_base.specs.declared.fault.TtFault.{TtFault}
use Rattle.tt_base.specs.declared.fault.TtFault.TheVariants.{Memory}
use Rattle.app_language.specs.declared.command.Command.{Command}
use Rattle.app_language.specs.declared.command.Command.TheVariants as command
use Rattle.app_console.specs.Answer.{ok_line, empty_line, yes_line, no_line, fault_line}
use Rattle.app_console.specs.Arms.{ExpandsArms}
use Rattle.app_console.specs.Building.{OfBuilder, OfTree, Grows, Appends, Closes, Points, Restores, Builds, expected_text, counts_text}
use Rattle.app_console.specs.Expanding.{Expands}
use Rattle.app_console.specs.State.{State, tree_in, with_builder, with_tree}
use Rattle.app_console.specs.Editing.{Changes, SetsLeaf, ChangesIds, RewritesSlot}
use Rattle.app_console.specs.Reading.{ReadsText}
use Rattle.app_console.specs.Saving.{Saves, Loads}
use Rattle.app_console.specs.ViewText.{split_text, view_text}
use Rattle.app_console.specs.Writing.{WritesText}

-- the list becomes a tree in the slot, and is then empty; a list that is not packed stays
abbrev pub MakesTree : State → ℕ → List ℕ → State → Type 0
MakesTree old slot answer new =
    ((one : IsOneSubtree old.list) × IsWithinLimits one.0 × (answer ≡ ok_line) × (new ≡ record (with_tree old slot one.0) { list = [] }))
    ⊎ ((fault : TtFault) × IsPackFault old.list fault × (answer ≡ fault_line fault) × (new ≡ old))

-- the tree, if there is one, goes to the slot too
abbrev pub Copies : State → ℕ → Option Root → List ℕ → State → Type 0
Copies old to None answer new = (answer ≡ empty_line) × (new ≡ old)
Copies old to (Some root) answer new = (answer ≡ ok_line) × (new ≡ with_tree old to root)

-- the text of a slot's tree, if the slot contains one
abbrev pub text_or_empty : (Root → List ℕ) → Option Root → List ℕ
text_or_empty text None = empty_line
text_or_empty text (Some root) = text root

-- yes if and only if both slots contain the same tree
abbrev pub Compares : Option Root → Option Root → List ℕ → Type 0
Compares None right answer = answer ≡ empty_line
Compares (Some left) None answer = answer ≡ empty_line
Compares (Some left) (Some right) answer = ((left ≡ right) × (answer ≡ yes_line)) ⊎ ((left ≢ right) × (answer ≡ no_line))

-- if there is memory, the machine gives this answer to the command, and goes from the old state to the new
abbrev pub Does : State → Command → List ℕ → State → Type 0
Does old (command.Item token) answer new = (answer ≡ ok_line) × (new ≡ record old { list = old.list ++ token ∷ [] })
Does old command.Clear answer new = (answer ≡ ok_line) × (new ≡ record old { list = [] })
Does old (command.List slot) answer new = MakesTree old slot answer new
Does old (command.New delimiter) answer new = (answer ≡ ok_line) × (new ≡ with_builder old (empty_builder delimiter))
Does old (command.Open kind span) answer new = OfBuilder (λ builder. Grows 1 builder (opened kind span builder) old answer new) old old.builder answer new
Does old (command.Push leaf) answer new = OfBuilder (λ builder. Grows 1 builder (pushed leaf builder) old answer new) old old.builder answer new
Does old (command.Close span) answer new = OfBuilder (λ builder. Closes span builder builder.stack old answer new) old old.builder answer new
Does old (command.Append slot) answer new = OfBuilder (λ builder. OfTree (λ root. Appends (only root) (only root) builder old answer new) old (tree_in old slot) answer new) old old.builder answer new
Does old (command.Alone slot) answer new = OfBuilder (λ builder. OfTree (λ root. Appends (only root) (alone (only root)) builder old answer new) old (tree_in old slot) answer new) old old.builder answer new
Does old command.Unwrap answer new = OfBuilder (λ builder. (answer ≡ ok_line) × (new ≡ with_builder old (removed builder))) old old.builder answer new
Does old command.Point answer new = OfBuilder (λ builder. Points builder old answer new) old old.builder answer new
Does old (command.Restore number) answer new = OfBuilder (λ builder. Restores number builder old answer new) old old.builder answer new
Does old command.Expected answer new = OfBuilder (λ builder. (answer ≡ expected_text builder) × (new ≡ old)) old old.builder answer new
Does old command.Counts answer new = OfBuilder (λ builder. (answer ≡ counts_text builder) × (new ≡ old)) old old.builder answer new
Does old (command.Build slot) answer new = OfBuilder (λ builder. Builds (built builder) slot builder.stack old answer new) old old.builder answer new
Does old (command.Skip slot) answer new = OfBuilder (λ builder. Builds (built_skipping builder) slot builder.stack old answer new) old old.builder answer new
Does old (command.Copy to from) answer new = Copies old to (tree_in old from) answer new
Does old (command.Kind slot kind) answer new = Changes (with_kind kind) old slot (tree_in old slot) answer new
Does old (command.Spans slot opens closes) answer new = Changes (with_spans (delim_span opens closes)) old slot (tree_in old slot) answer new
Does old (command.Set slot place leaf) answer new = SetsLeaf old slot place leaf (tree_in old slot) answer new
Does old (command.Ids slot ids) answer new = ChangesIds old slot ids (tree_in old slot) answer new
Does old (command.Rewrite slot actions) answer new = RewritesSlot old slot actions (tree_in old slot) answer new
Does old (command.Expand pattern template input to) answer new = Expands old (tree_in old pattern) (tree_in old template) (tree_in old input) to answer new
Does old (command.Arms arms input to) answer new = ExpandsArms old (tree_in old arms) (tree_in old input) to answer new
Does old (command.View view slot) answer new = (answer ≡ text_or_empty (view_text view) (tree_in old slot)) × (new ≡ old)
Does old (command.Split slot char) answer new = (answer ≡ text_or_empty (split_text char) (tree_in old slot)) × (new ≡ old)
Does old (command.Equal left right) answer new = Compares (tree_in old left) (tree_in old right) answer × (new ≡ old)
Does old (command.Save slot) answer new = Saves (tree_in old slot) answer × (new ≡ old)
Does old (command.Load slot bytes) answer new = Loads old slot bytes answer new
Does old (command.Read slot text) answer new = ReadsText old slot text answer new
Does old (command.Text slot) answer new = WritesText (tree_in old slot) answer × (new ≡ old)

-- the command may run out of memory
abbrev pub TakesMemory : Command → Type 0
TakesMemory (command.Item token) = Unit {0}
TakesMemory command.Clear = ⊥
TakesMemory (command.List slot) = Unit {0}
TakesMemory (command.New delimiter) = Unit {0}
TakesMemory (command.Open kind span) = Unit {0}
TakesMemory (command.Push leaf) = Unit {0}
TakesMemory (command.Close span) = Unit {0}
TakesMemory (command.Append slot) = Unit {0}
TakesMemory (command.Alone slot) = Unit {0}
TakesMemory command.Unwrap = ⊥
TakesMemory command.Point = Unit {0}
TakesMemory (command.Restore number) = ⊥
TakesMemory command.Expected = Unit {0}
TakesMemory command.Counts = ⊥
TakesMemory (command.Build slot) = Unit {0}
TakesMemory (command.Skip slot) = Unit {0}
TakesMemory (command.Copy to from) = Unit {0}
TakesMemory (command.Kind slot kind) = ⊥
TakesMemory (command.Spans slot opens closes) = ⊥
TakesMemory (command.Set slot place leaf) = Unit {0}
TakesMemory (command.Ids slot ids) = Unit {0}
TakesMemory (command.Rewrite slot actions) = Unit {0}
TakesMemory (command.Expand pattern template input to) = Unit {0}
TakesMemory (command.Arms arms input to) = Unit {0}
TakesMemory (command.View view slot) = Unit {0}
TakesMemory (command.Split slot char) = Unit {0}
TakesMemory (command.Equal left right) = ⊥
TakesMemory (command.Save slot) = Unit {0}
TakesMemory (command.Load slot bytes) = Unit {0}
TakesMemory (command.Read slot text) = Unit {0}
TakesMemory (command.Text slot) = Unit {0}

-- a step of the machine: a command that runs out of memory answers fault 1 and changes nothing
abbrev pub Step : State → Command → List ℕ → State → Type 0
Step old command answer new =
    Does old command answer new ⊎ (TakesMemory command × (answer ≡ fault_line Memory) × (new ≡ old))

-- the machine may give these answers to these commands, one step after another
abbrev pub Run : State → List Command → List (List ℕ) → State → Type 0
Run old [] [] new = new ≡ old
Run old (command ∷ commands) (answer ∷ answers) new = (mid : State) × Step old command answer mid × Run mid commands answers new
Run old [] (answer ∷ answers) new = ⊥
Run old (command ∷ commands) [] new = ⊥
