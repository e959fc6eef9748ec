-- What a text with expanded macros is.
use Rattle.std.specs.Prelude.{◌≡◌, ◌<◌, ◌⊎◌, ℕ, Bool, true, false, List, [], ◌∷◌, Option, None, Some, length, slice_get, option_map, string_bytes}
use Rattle.tt.specs.Forest.{Forest, Root}
use Rattle.tt.specs.Span.{start_of}
use Rattle.tt.specs.Types.Delimiter.{Delimiter}
use Rattle.tt_base.specs.declared.span.SpanPart.{SpanPart}
use Rattle.expand_text.specs.declared.fault.ExpandTextError.{ExpandTextError}
use Rattle.expand_text.specs.declared.fault.ExpandTextError.TheVariants as error
use Rattle.expand_text.specs.declared.fault.Finding.{Finding}
use Rattle.expand_text.specs.declared.fault.MacroFault.{MacroFault}
use Rattle.expand_text.specs.declared.options.ExpandOptions.{ExpandOptions}
use Rattle.expand_text.specs.declared.source.Written.{Written}
use Rattle.expand_text.specs.declared.source.Written.TheVariants as made
use Rattle.expand_text.specs.declared.text.Expanded.{Expanded}
use Rattle.expand_text.specs.declared.invocation.Invocation.{Invocation}
use Rattle.expand_text.specs.Meaning.{ExpandsTo}
use Rattle.expand_text.specs.Findings.{is_warning}
use Rattle.expand_text.specs.Contexts.{Config, Context, new_context, with_finding, outside_call}
use Rattle.expand_text.specs.Exports.{AreExported}
use Rattle.expand_text.specs.Macros.{MayBePut, IsUnwritten}
use Rattle.expand_text.specs.Outcomes.{Outcome, trees_left}
use Rattle.expand_items.specs.Cfg.{known_of}
use Rattle.expand_items.specs.Positions.{begun as begun_among}
use Rattle.expand_items.specs.declared.position.Siblings.TheVariants.{Items}
use Rattle.syntax_edit.specs.Places.{text_part}
use Rattle.syntax_edit.specs.Splices.{Splice, replacement_of, replacements_of}
use Rattle.syntax_edit.specs.Texts.{Writing, begun, finished, with_all, IsReplaced, AreReplaced, FitAll}
use Rattle.expand_text.specs.Reading.{AreSplices, Spells, sorts_left, splice}
use Rattle.expand_text.specs.Scopes.{Macro}
use Rattle.expand_text.specs.Stops.{ComesToCall}
use Rattle.expand_text.specs.CallSites.{CallSite, PutIn, IsKept}
use Rattle.expand_text.specs.Invocations.{body_of, entered_by, found_by, site_of}
use Rattle.syntax_parse.specs.Parsed.{IsParse}
use Rattle.syntax_parse.specs.Refusal.{IsFaultOf, IsRefusal}
use Rattle.syntax_parse.specs.Spelled.{Sort, spelled}
use Rattle.syntax_parse.specs.declared.fault.SyntaxFault.{SyntaxFault}
use Rattle.syntax_unparse.specs.Settled.{sorts}

-- a text that spells trees that replace a call which begins at a byte, or why they have none
abbrev pub IsTextOf : (one_line : Bool) → (call : Delimiter) → (put : Forest) → (begin : ℕ) → Written → Type 0
IsTextOf one_line call put begin (made.Text text) = MayBePut true call put × Spells one_line put (string_bytes text)
IsTextOf one_line call put begin (made.Faulty at fault) = IsUnwritten call put begin at fault

-- a text that spells the expansion of a call, in its place, or why the call stays
abbrev pub IsCallText : (one_line : Bool) → CallSite → (trees : Forest) → (begin : ℕ) → Written → Type 0
IsCallText one_line it trees begin (made.Text text) = (put : Forest) × PutIn true it trees put × MayBePut true it.delimiter put × Spells one_line put (string_bytes text)
IsCallText one_line it trees begin (made.Faulty at fault) = IsKept true it trees begin at fault

-- what a call expands to is written as Rust, or cannot be
pub record IsInvocationText (config : Config) (limit : ℕ) (it : Invocation) (whole : Forest) (tree : Root) (result : Written) (before after : Context) : Type 0 where
  pub inside : Context
  pub outcome : Outcome
  pub expands_to : ExpandsTo config false limit it.position 0 (entered_by config it tree before) (body_of it tree) inside outcome
  pub behind : after ≡ outside_call before inside
  pub text : IsCallText config.one_line (site_of whole it) (trees_left outcome) (start_of it.first_span.range) result

-- a text that spells an expansion replaces its call, if that part of the source is left; or the call stays, and that is found
abbrev pub IsPut : (one_line : Bool) → Invocation → (whole trees : Forest) → (behind after : Context) → (old new : Writing) → Type 0
IsPut one_line it whole trees behind after old new =
    ((put : Forest) × PutIn true (site_of whole it) trees put × MayBePut true it.delimiter put × (after ≡ behind)
    × (text : List ℕ) × Spells one_line put text × IsReplaced (replacement_of (splice it.first_span it.last_span put text)) old new)
    ⊎ ((at : ℕ) × (fault : MacroFault) × IsKept true (site_of whole it) trees (start_of it.first_span.range) at fault
    × (after ≡ with_finding (found_by it at fault) behind) × (new ≡ old))

-- a call of these trees is replaced by its expansion
pub record IsInvocationWritten (config : Config) (limit : ℕ) (it : Invocation) (whole : Forest) (tree : Root) (old new : Writing) (before after : Context) : Type 0 where
  pub inside : Context
  pub outcome : Outcome
  pub expands_to : ExpandsTo config false limit it.position 0 (entered_by config it tree before) (body_of it tree) inside outcome
  pub put : IsPut config.one_line it whole (trees_left outcome) (outside_call before inside) after old new

-- a source of these trees is written with each call replaced by its expansion
pub record IsSourceText (config : Config) (limit : ℕ) (source : List ℕ) (trees : Forest) (result : List ℕ) (before after : Context) : Type 0 where
  pub outcome : Outcome
  pub expands_to : ExpandsTo config true limit (begun_among Items) 0 before trees after outcome
  pub splices : List Splice
  pub are : AreSplices config.one_line outcome splices
  pub written : Writing
  pub replaced : AreReplaced (replacements_of splices) (begun source) written
  pub text : result ≡ finished written

-- the setting of the options
abbrev pub config_by : ExpandOptions → Config
config_by it = record { known = known_of it.cfg.now; root = it.root.now; everywhere = it.everywhere; max_tokens = it.max_tokens; only = option_map (λ name. name.now) it.only; one_line = it.one_line }

-- a text reads back as what is left: it has no fault of syntax, and any tree that it is read as spells what is left
pub record ReadsAs (text : List ℕ) (left : List Sort) : Type 0 where
  pub sound : (fault : SyntaxFault) → IsFaultOf text fault → ⊥
  pub reads : (part : SpanPart) (again : Root) → IsParse part text again → sorts (spelled again.children) ≡ left

-- a text that is read as trees, and its expansion: each call is replaced by a text that spells its expansion, and all other text stays
-- byte for byte, but for lines of which only white space is left. The result reads back as the trees that are left
pub record IsExpanded (options : ExpandOptions) (source : List ℕ) (it : Expanded) : Type 0 where
  pub tree : Root
  pub read : IsParse text_part source tree
  pub exported : List Macro
  pub exports : AreExported (config_by options) tree.children exported
  pub after : Context
  pub outcome : Outcome
  pub expands_to : ExpandsTo (config_by options) true options.limit (begun_among Items) 0 (new_context exported) tree.children after outcome
  pub splices : List Splice
  pub are : AreSplices options.one_line outcome splices
  pub fits : FitAll (replacements_of splices) (begun source)
  pub text : string_bytes it.text ≡ with_all (replacements_of splices) (begun source)
  pub back : ReadsAs (string_bytes it.text) (sorts_left outcome)
  pub findings : it.findings.items ≡ after.findings
  pub callers : it.callers.items ≡ after.callers

-- the first finding that is no warning
abbrev pub fault_or : (is_warning : Bool) → Finding → Option Finding → Option Finding
fault_or true it others = others
fault_or false it others = Some it

abbrev pub first_fault : List Finding → Option Finding
first_fault [] = None
first_fault (it ∷ others) = fault_or (is_warning it.fault) it (first_fault others)

-- the first fault is at that place
abbrev pub IsFirstFault : List Finding → (place : ℕ) → Type 0
IsFirstFault findings place = (place < length findings) × (first_fault findings ≡ slice_get findings place)

-- memory runs out while a call of a text that is read as trees is expanded, which begins at that byte
pub record IsCallOf (options : ExpandOptions) (text : List ℕ) (at : ℕ) : Type 0 where
  pub tree : Root
  pub read : IsParse text_part text tree
  pub exported : List Macro
  pub exports : AreExported (config_by options) tree.children exported
  pub call : ComesToCall (config_by options) options.limit tree.children (new_context exported) at

-- memory runs out: while a call is expanded, or else without a place
abbrev pub IsOutOfMemory : ExpandOptions → (text : List ℕ) → (at : Option ℕ) → Type 0
IsOutOfMemory options text None = Unit {0}
IsOutOfMemory options text (Some at) = IsCallOf options text at

-- why there is no expanded text: the text is not read, or memory runs out
abbrev pub IsLenientError : ExpandOptions → (text : List ℕ) → ExpandTextError → Type 0
IsLenientError options text (error.Text fault) = IsRefusal text_part text fault
IsLenientError options text (error.Macro it) = ⊥
IsLenientError options text (error.Memory at) = IsOutOfMemory options text at

-- the same; or a macro or a call has a fault, and this is the first such finding
abbrev pub IsExpandTextError : ExpandOptions → (text : List ℕ) → ExpandTextError → Type 0
IsExpandTextError options text (error.Macro it) = (expanded : Expanded) × IsExpanded options text expanded × (first_fault expanded.findings.items ≡ Some it)
IsExpandTextError options text (error.Text fault) = IsRefusal text_part text fault
IsExpandTextError options text (error.Memory at) = IsOutOfMemory options text at
