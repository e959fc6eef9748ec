-- What a caller gets of an expansion with options of its own: bytes, and words about the findings.
use Rattle.std.specs.Prelude.{◌≡◌, ◌⊎◌, ◌+◌, ◌++◌, ℕ, List, [], ◌∷◌, Option, None, Some, IsUtf8, length, nat_lt, option_map, string_bytes}
use Rattle.app_c.specs.Conditions.{IsNotSaid, IsSaid}
use Rattle.app_c.specs.Failures.{expand_text_failure, macro_fault, placeless}
use Rattle.app_c.specs.Faults.{number_of}
use Rattle.app_c.specs.Texts.{IsNoText}
use Rattle.app_c.specs.declared.asked.Asked.{Asked}
use Rattle.app_c.specs.declared.failure.Failure.{Failure}
use Rattle.app_c.specs.declared.fault.Fault.TheVariants as answer
use Rattle.expand_items.specs.Cfg.{known_of}
use Rattle.expand_text.specs.Expansion.{IsExpanded, IsLenientError}
use Rattle.expand_text.specs.declared.caller.Caller.{Caller}
use Rattle.expand_text.specs.declared.fault.ExpandTextError.{ExpandTextError}
use Rattle.expand_text.specs.declared.fault.Finding.{Finding}
use Rattle.expand_text.specs.declared.fault.MacroFault.{MacroFault}
use Rattle.expand_text.specs.declared.fault.MacroFault.TheVariants as found
use Rattle.expand_text.specs.declared.options.ExpandOptions.{ExpandOptions}
use Rattle.expand_text.specs.declared.text.Expanded.{Expanded}

-- an empty name means all macros
abbrev pub only_of : (name : List ℕ) → Option (List ℕ)
only_of [] = None
only_of (byte ∷ bytes) = Some (byte ∷ bytes)

-- these are the options of a caller
pub record AreAsked (asked : Asked) (options : ExpandOptions) : Type 0 where
  pub cfg : IsSaid asked.cfg.now (known_of options.cfg.now)
  pub limit : options.limit ≡ asked.limit
  pub max_tokens : options.max_tokens ≡ asked.max_tokens
  pub root : options.root.now ≡ asked.root.now
  pub everywhere : options.everywhere ≡ nat_lt 0 asked.everywhere
  pub one_line : options.one_line ≡ nat_lt 0 asked.one_line
  pub only : option_map (λ name. name.now) options.only ≡ only_of asked.only.now

-- a number, or the largest word if there is none
abbrev pub word_of : Option ℕ → ℕ
word_of None = 18446744073709551615
word_of (Some number) = number

-- what else is said of a fault: the byte at which a captured name is bound, or the number of the arm
abbrev pub detail_of : MacroFault → ℕ
detail_of (found.Definition error) = error.arm
detail_of (found.Captured binding) = binding
detail_of (found.Ambiguous arm) = arm
detail_of (found.Expansion error) = error.arm
detail_of fault = 0

-- a text with the 0 that ends it
abbrev pub ended : (text : List ℕ) → List ℕ
ended text = text ++ 0 ∷ []

-- what is expected, if that is known
abbrev pub expected_bytes : (expected : Option (List ℕ)) → List ℕ
expected_bytes None = []
expected_bytes (Some text) = ended text

-- the byte at which it begins
abbrev pub expected_at : (expected : Option (List ℕ)) → (at : ℕ) → Option ℕ
expected_at None at = None
expected_at (Some text) at = Some at

-- the texts of a finding: its name, and what is expected
abbrev pub finding_bytes : Finding → List ℕ
finding_bytes it = ended it.name ++ expected_bytes it.expected

-- the words of a finding whose texts begin at that byte
abbrev pub finding_words : (texts : ℕ) → Finding → List ℕ
finding_words texts it =
    number_of (macro_fault it.fault) ∷ it.at ∷ word_of it.defined_at ∷ word_of it.caller ∷ detail_of it.fault ∷ texts
    ∷ word_of (expected_at it.expected (texts + length (ended it.name))) ∷ []

-- the texts of findings, one behind the other
abbrev pub findings_bytes : List Finding → List ℕ
findings_bytes [] = []
findings_bytes (it ∷ its) = finding_bytes it ++ findings_bytes its

-- the words of findings whose texts begin at that byte
abbrev pub findings_words : (texts : ℕ) → List Finding → List ℕ
findings_words texts [] = []
findings_words texts (it ∷ its) = finding_words texts it ++ findings_words (texts + length (finding_bytes it)) its

-- the words of a caller whose name begins at that byte
abbrev pub caller_words : (name : ℕ) → Caller → List ℕ
caller_words name it = it.at ∷ word_of it.caller ∷ name ∷ []

-- the names of callers, one behind the other
abbrev pub callers_bytes : List Caller → List ℕ
callers_bytes [] = []
callers_bytes (it ∷ its) = ended it.name ++ callers_bytes its

-- the words of callers whose names begin at that byte
abbrev pub callers_words : (names : ℕ) → List Caller → List ℕ
callers_words names [] = []
callers_words names (it ∷ its) = caller_words names it ++ callers_words (names + length (ended it.name)) its

-- the bytes: the text, the texts of the findings and the names of the callers
abbrev pub listed_bytes : (text : List ℕ) → List Finding → List Caller → List ℕ
listed_bytes text findings callers = ended text ++ findings_bytes findings ++ callers_bytes callers

-- the words: how long the text is, how many findings there are, then the findings and the callers
abbrev pub listed_words : (text : List ℕ) → List Finding → List Caller → List ℕ
listed_words text findings callers =
    length text ∷ length findings ∷ findings_words (length (ended text)) findings
    ++ callers_words (length (ended text ++ findings_bytes findings)) callers

-- the bytes and the words of an expanded text
pub record IsListingOf (it : Expanded) (bytes words : List ℕ) : Type 0 where
  pub bytes_are : bytes ≡ listed_bytes (string_bytes it.text) it.findings.items it.callers.items
  pub words_are : words ≡ listed_words (string_bytes it.text) it.findings.items it.callers.items

-- a text expands to this with these options
pub record IsListed (source : List ℕ) (asked : Asked) (bytes words : List ℕ) : Type 0 where
  pub source_utf8 : IsUtf8 source
  pub root_utf8 : IsUtf8 asked.root.now
  pub only_utf8 : IsUtf8 asked.only.now
  pub cfg_utf8 : IsUtf8 asked.cfg.now
  pub options : ExpandOptions
  pub are : AreAsked asked options
  pub expanded : Expanded
  pub is : IsExpanded options source expanded
  pub listing : IsListingOf expanded bytes words

-- the first of the text, the word for `$crate` and the name that is not UTF-8, with its byte
abbrev pub IsNotUtf8 : (source : List ℕ) → Asked → Failure → Type 0
IsNotUtf8 source asked failure =
    IsNoText source failure
    ⊎ ((IsUtf8 source × IsNoText asked.root.now failure)
    ⊎ (IsUtf8 source × IsUtf8 asked.root.now × IsNoText asked.only.now failure))

-- all three are, and nothing is said of conditions, with the reason
abbrev pub HasNoConditions : (source : List ℕ) → Asked → Failure → Type 0
HasNoConditions source asked failure = IsUtf8 source × IsUtf8 asked.root.now × IsUtf8 asked.only.now × IsNotSaid asked.cfg.now failure

-- a text cannot be read as trees, or memory runs out while it is expanded, with the reason
abbrev pub IsNotRead : (source : List ℕ) → Asked → Failure → Type 0
IsNotRead source asked failure =
    (options : ExpandOptions) × AreAsked asked options
    × ((error : ExpandTextError) × IsLenientError options source error × (failure ≡ expand_text_failure error))

-- why a text is not expanded: memory runs out, a text is not UTF-8, nothing is said of conditions, or the text is not read
abbrev pub IsNotListed : (source : List ℕ) → Asked → Failure → Type 0
IsNotListed source asked failure =
    (failure ≡ placeless answer.Memory)
    ⊎ (IsNotUtf8 source asked failure ⊎ (HasNoConditions source asked failure ⊎ IsNotRead source asked failure))
