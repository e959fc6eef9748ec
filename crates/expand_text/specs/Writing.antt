-- What is written for the next event of a walk through a text.
use Rattle.std.specs.Prelude.{◌≡◌, ◌++◌, ℕ, Bool, true, false, List, [], ◌∷◌}
use Rattle.syntax_edit.specs.Texts.{Writing, AreReplaced}
use Rattle.expand_text.specs.Contexts.{Config, Context}
use Rattle.expand_text.specs.Outcomes.{Outcome, nothing}
use Rattle.expand_text.specs.Reading.{AreSplices}
use Rattle.expand_text.specs.Walks.{Level, Ends, Leads}
use Rattle.syntax_edit.specs.Splices.{Splice, replacements_of}

-- the trees that replace calls of what levels expand to, in order, each with a text that spells them
pub data AllSplices (one_line : Bool) : List Outcome → List Splice → Type 0 where
  no_level : AllSplices one_line [] []
  one_level : {it : Outcome} {others : List Outcome} {first second : List Splice}
      → AreSplices one_line it first
      → AllSplices one_line others second
      → AllSplices one_line (it ∷ others) (first ++ second)

-- these levels lead to others, and what is replaced on the way is written
pub record IsWrittenOn (config : Config) (limit : ℕ) (levels nexts : List Level) (old new : Writing) (before after : Context) : Type 0 where
  pub grown : List Outcome → List Outcome
  pub more : List Splice
  pub leads : Leads config true limit levels before grown nexts after
  pub same :
      (then : Context) (outcomes : List Outcome) (splices : List Splice) → Ends config true limit levels before then (grown outcomes)
      → AllSplices config.one_line outcomes splices → AllSplices config.one_line (grown outcomes) (more ++ splices)
  pub replaced : AreReplaced (replacements_of more) old new

-- the walk goes on so, or is at its end
abbrev pub IsNextWritten : (goes_on : Bool) → Config → (limit : ℕ) → (levels nexts : List Level) → (old new : Writing) → (before after : Context) → Type 0
IsNextWritten true config limit levels nexts old new before after = IsWrittenOn config limit levels nexts old new before after
IsNextWritten false config limit levels nexts old new before after = Ends config true limit levels before after (nothing ∷ []) × (new ≡ old)
