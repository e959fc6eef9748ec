-- A text without the definitions that it does not need.
use Rattle.std.specs.Prelude.{◌≡◌, ℕ, Bool, List, [], ◌∷◌, if◌then◌else◌}
use Rattle.tt.specs.Forest.{Forest, Root}
use Rattle.expand_unused.specs.declared.choice.Choice.{Choice}
use Rattle.expand_unused.specs.declared.fault.DropRulesError.{DropRulesError}
use Rattle.expand_unused.specs.declared.fault.DropRulesError.TheVariants as error
use Rattle.expand_unused.specs.Needing.{AreRight}
use Rattle.expand_unused.specs.Parts.{Part, word, rules, Rules, parts_of}
use Rattle.expand_unused.specs.Places.{AreDefined}
use Rattle.syntax_edit.specs.Places.{text_part}
use Rattle.syntax_edit.specs.Texts.{Replacement, Writing, begun, replaced, with_all, FitAll}
use Rattle.syntax_parse.specs.Parsed.{IsParse}
use Rattle.syntax_parse.specs.Refusal.{IsRefusal}

-- a definition is replaced by nothing
abbrev pub cut_of : Rules → Replacement
cut_of it = record { start = it.start; end = it.end; text = [] }

-- all cuts, in order
abbrev pub cuts : (goes : List ℕ → Bool) → List Part → List Replacement
cuts goes [] = []
cuts goes (word it ∷ more) = cuts goes more
cuts goes (rules it ∷ more) = if goes it.name then cut_of it ∷ cuts goes more else cuts goes more

-- the writing after a part of a text: a definition that goes is passed
abbrev pub cut_behind : (goes : List ℕ → Bool) → Part → Writing → Writing
cut_behind goes (word it) writing = writing
cut_behind goes (rules it) writing = if goes it.name then replaced (cut_of it) writing else writing

-- these are the parts of trees: definitions are where Rust's grammar has them
abbrev pub AreParts : Choice → Forest → List Part → Type 0
AreParts choice trees parts = (defined : ℕ → Bool) × AreDefined trees defined × (parts ≡ parts_of choice defined trees)

-- a text without the definitions that are not needed, of those that may go; all else stays, but for lines of which only white space is left
pub record IsWithout (choice : Choice) (source result : List ℕ) : Type 0 where
  pub tree : Root
  pub read : IsParse text_part source tree
  pub parts : List Part
  pub are_parts : AreParts choice tree.children parts
  pub goes : List ℕ → Bool
  pub right : AreRight goes parts
  pub fits : FitAll (cuts goes parts) (begun source)
  pub text : result ≡ with_all (cuts goes parts) (begun source)

-- why no text results: it is not read, or memory runs out
abbrev pub IsDropRulesError : (text : List ℕ) → DropRulesError → Type 0
IsDropRulesError text (error.Text fault) = IsRefusal text_part text fault
IsDropRulesError text error.Memory = Unit {0}
