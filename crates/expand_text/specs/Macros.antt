-- What is defined, and what calls expand to.
use Rattle.std.specs.Prelude.{◌≡◌, ◌≢◌, ◌⊎◌, ◌<◌, ◌≤◌, ◌+◌, ◌^◌, ◌&&◌, ℕ, suc, zero, Bool, true, false, List, length, Option, None, Some, is_some, if◌then◌else◌}
use Rattle.tt.specs.Forest.{Forest, Root, size}
use Rattle.tt.specs.Span.{start_of}
use Rattle.tt.specs.Stored.{IsWithinLimits}
use Rattle.tt.specs.TreeFault.{under, IsTreeFault}
use Rattle.tt.specs.Types.Delimiter.{Delimiter}
use Rattle.tt.specs.Types.DelimiterKind.TheVariants.{Invisible}
use Rattle.tt.specs.Types.TtFault.{TtFault}
use Rattle.tt.specs.Types.TtFault.TheVariants as limit
use Rattle.expand_text.specs.declared.fault.Finding.{Finding}
use Rattle.expand_text.specs.declared.fault.MacroFault.{MacroFault}
use Rattle.expand_text.specs.declared.fault.MacroFault.TheVariants as wrong
use Rattle.expand_items.specs.Items.{Definition, Call, is_root}
use Rattle.expand_items.specs.declared.item.MacroPath.{MacroPath}
use Rattle.expand_items.specs.declared.item.MacroPath.TheVariants as path
use Rattle.expand_items.specs.declared.position.Position.{Position}
use Rattle.expand_text.specs.Contexts.{Config, Context, asks_for, with_macro, with_finding}
use Rattle.expand_text.specs.Places.{byte_at, definition_byte}
use Rattle.expand_text.specs.Prepared.{prepared}
use Rattle.expand_text.specs.Scopes.{Macro, last_named}
use Rattle.mbe_rules.specs.Arms.{Arm, Spell}
use Rattle.mbe_rules.specs.Expansions.{IsExpansion, IsExpandErrorWithin}
use Rattle.mbe_rules.specs.declared.rules_error.ExpandError.{ExpandError}
use Rattle.mbe_rules.specs.ArmFaults.{IsRulesError}
use Rattle.mbe_rules.specs.declared.rules_error.ArmFault.TheVariants as arm_fault
use Rattle.mbe_rules.specs.declared.macro_rules.Expansion.TheVariants as expansion
use Rattle.mbe_rules.specs.declared.transcribe_error.TranscribeError.TheVariants as transcribe_error
use Rattle.syntax_unparse.specs.Text.{text_of}
use Rattle.syntax_unparse.specs.Writable.{IsWritable, IsWriteFault}
use Rattle.syntax_unparse.specs.declared.fault.WriteFault.TheVariants as unwritten

-- the macro that is defined
abbrev pub macro_of : Definition → (left : MacroFault) → Option (List Arm) → Macro
macro_of it left arms = record { name = it.name.sym; defined_at = start_of it.name.span.range; left = left; arms = arms }

-- a definition under a condition is one of several if another macro of its name is in scope
abbrev pub is_several : (is_open : Bool) → Definition → List Macro → Bool
is_several is_open it macros = is_open && is_some (last_named it.name.sym macros)

-- these arms, unless the macro is left as it is
abbrev pub unless_several : (is_several : Bool) → List Arm → Option (List Arm)
unless_several true arms = None
unless_several false arms = Some arms

-- why a macro is left as it is, if it is: it is one of several, or its definition has a fault
abbrev pub left_by : (is_several : Bool) → MacroFault
left_by true = wrong.SeveralDefinitions
left_by false = wrong.Left

-- a definition that spells these arms is read as this macro
abbrev pub macro_with : (is_open : Bool) → Definition → List Arm → List Macro → Macro
macro_with is_open it arms macros = macro_of it (left_by (is_several is_open it macros)) (unless_several (is_several is_open it macros) arms)

-- a tree is refused for that reason, which is not memory
abbrev pub IsPastLimit : Root → TtFault → Type 0
IsPastLimit root why = IsTreeFault root why × (why ≢ limit.Memory)

-- the fault of a definition with these arms, and its byte: the arms have a fault; or as a tree they exceed a limit, which shows at the name
abbrev pub IsDefinitionFault : Definition → (arms : Forest) → (at : ℕ) → MacroFault → Type 0
IsDefinitionFault it trees at (wrong.Definition why) =
    IsRulesError trees why × (why.fault ≢ arm_fault.Memory) × (at ≡ definition_byte trees why (start_of it.delimiter.close.range))
IsDefinitionFault it trees at (wrong.TooLarge why) = IsPastLimit (under it.delimiter trees) why × (at ≡ start_of it.name.span.range)
IsDefinitionFault it trees at fault = ⊥

-- a finding in the definition
abbrev pub found_in : Definition → (at : ℕ) → MacroFault → Finding
found_in it at fault = record { name = it.name.sym; at = at; fault = fault; defined_at = None; expected = None; caller = None }

-- what is known after a definition with these arms, which is under a condition if `is_open`: they spell arms; or the definition has a fault,
-- and is left as it is
abbrev pub IsDefined : (is_open : Bool) → Definition → (arms : Forest) → (before after : Context) → Type 0
IsDefined is_open it trees before after =
    ((arms : List Arm) × IsWithinLimits (under it.delimiter trees) × Spell trees arms × (after ≡ with_macro (macro_with is_open it arms before.macros) before))
    ⊎ ((at : ℕ) × (fault : MacroFault) × IsDefinitionFault it trees at fault
    × (after ≡ with_macro (macro_of it wrong.Left None) (with_finding (found_in it at fault) before)))

-- a macro that is built into the compiler is defined: it has no arms
abbrev pub IsBuiltIn : Definition → (before after : Context) → Type 0
IsBuiltIn it before after = after ≡ with_macro (macro_of it wrong.BuiltIn None) before

-- such a macro is defined, or one of arms with the root's word for the root of the crate
abbrev pub IsDefinedAt : (is_built_in : Bool) → (root : List ℕ) → (is_open : Bool) → Definition → (before after : Context) → Type 0
IsDefinedAt true root is_open it before after = IsBuiltIn it before after
IsDefinedAt false root is_open it before after = IsDefined is_open it (prepared root it.arms) before after

-- a definition is read if macros of its name are
abbrev pub IsReadIf : (asked : Bool) → (root : List ℕ) → Position → Definition → (before after : Context) → Type 0
IsReadIf false root position it before after = after ≡ before
IsReadIf true root position it before after = IsDefinedAt position.is_built_in root position.is_open it before after

abbrev pub IsRead : Config → Position → Definition → (before after : Context) → Type 0
IsRead config position it before after = IsReadIf (asks_for config.only it.name.sym) config.root position it before after

-- the macro of a name behind a path: the last of its name in scope, or the last that the crate exports
abbrev pub named_by : MacroPath → (name : List ℕ) → Context → Option Macro
named_by path.Name name context = last_named name context.macros
named_by path.Root name context = last_named name context.exported
named_by path.Other name context = None

-- the macro that a call names, if macros of that name are expanded
abbrev pub called_by : Config → Context → Call → Option Macro
called_by config context it = if asks_for config.only it.name.sym then named_by it.path it.name.sym context else None

-- the macro in scope that a call would name without the crate's root before its name
abbrev pub unexported_by : Config → Context → Call → Option Macro
unexported_by config context it = if asks_for config.only it.name.sym && is_root it.path then last_named it.name.sym context.macros else None

-- its arms
abbrev pub arms_of : Option Macro → Option (List Arm)
arms_of None = None
arms_of (Some macro) = macro.arms

-- a finding in a call of a macro, and what its arms expect there
abbrev pub found_expecting : Call → Macro → (at : ℕ) → MacroFault → (expected : Option (List ℕ)) → Finding
found_expecting it macro at fault expected =
    record { name = it.name.sym; at = at; fault = fault; defined_at = Some macro.defined_at; expected = expected; caller = None }

abbrev pub found_of : Call → Macro → (at : ℕ) → MacroFault → Finding
found_of it macro at fault = found_expecting it macro at fault None

-- arms write that tree for a call, and it has at most so many tokens
abbrev pub Writes : (allowed : ℕ) → List Arm → Call → Root → Type 0
Writes allowed arms it tree = IsExpansion arms 0 0 it.input (expansion.Tree tree) × (size tree.children ≤ allowed)

-- the arm of that number would write more tokens than it may
abbrev pub over_limit : (arm : ℕ) → ExpandError
over_limit arm = record { arm = arm; fault = transcribe_error.OverLimit }

-- the fault of an input for which an arm may write so many tokens, and its byte: no arm matches it, which shows where the farthest arm stops;
-- or an arm matches it in two ways, is not filled, or would write more tokens, which shows at the name of the call
abbrev pub IsInputFault : (allowed : ℕ) → List Arm → Call → (at : ℕ) → MacroFault → Type 0
IsInputFault allowed arms it at wrong.NoMatch =
    (place : ℕ) × IsExpansion arms 0 0 it.input (expansion.NoMatch place) × (at ≡ byte_at it.input place (start_of it.delimiter.close.range))
IsInputFault allowed arms it at (wrong.Ambiguous arm) = IsExpansion arms 0 0 it.input (expansion.Ambiguous arm) × (at ≡ start_of it.name.span.range)
IsInputFault allowed arms it at (wrong.Expansion why) =
    IsExpandErrorWithin (Some allowed) arms 0 it.input why × (why.fault ≢ transcribe_error.Tree limit.Memory) × (why.fault ≢ transcribe_error.OverLimit)
    × (at ≡ start_of it.name.span.range)
IsInputFault allowed arms it at wrong.OverMaxTokens =
    (arm : ℕ) × IsExpandErrorWithin (Some allowed) arms 0 it.input (over_limit arm) × (at ≡ start_of it.name.span.range)
IsInputFault allowed arms it at fault = ⊥

-- the fault of a call that arms expand, with at most so many nested expansions and so many tokens
abbrev pub IsCallFault : (limit allowed : ℕ) → List Arm → Call → (at : ℕ) → MacroFault → Type 0
IsCallFault zero allowed arms it at fault = (fault ≡ wrong.TooDeep) × (at ≡ start_of it.name.span.range)
IsCallFault (suc limit) allowed arms it at fault = IsInputFault allowed arms it at fault

-- what is known after a call that no macro expands: if its macro is left as it is, or is in scope but not exported, that is found
abbrev pub left_behind : Call → (called unexported : Option Macro) → Context → Context
left_behind it (Some macro) unexported context = with_finding (found_of it macro (start_of it.name.span.range) macro.left) context
left_behind it None (Some macro) context = with_finding (found_of it macro (start_of it.name.span.range) wrong.NotExported) context
left_behind it None None context = context

abbrev pub context_behind : Config → Call → Context → Context
context_behind config it context = left_behind it (called_by config context it) (unexported_by config context it) context

-- an expansion as a tree of its own, with the places of the call
abbrev pub tree_of : (call : Delimiter) → Forest → Root
tree_of call trees = under (record call { kind = Invisible }) trees

-- an expansion exceeds a limit as such a tree
abbrev pub IsTooLargeTree : (call : Delimiter) → Forest → MacroFault → Type 0
IsTooLargeTree call trees (wrong.TooLarge why) = IsPastLimit (tree_of call trees) why
IsTooLargeTree call trees fault = ⊥

-- these trees may replace a call: in the text only if they are a tree within the limits, can be written as Rust, and have a length that a
-- text may have
abbrev pub MayBePut : (in_text : Bool) → (call : Delimiter) → Forest → Type 0
MayBePut false call trees = Unit {0}
MayBePut true call trees = IsWithinLimits (tree_of call trees) × IsWritable trees × (1 + length (text_of trees) < 2 ^ 32)

-- why the expansion of a call that begins at a byte is not written, and its byte: as a tree it exceeds a limit, which shows at the
-- beginning of the call; or else its text is too long, which shows there too; or else a leaf is the first that cannot be written, which
-- shows where the leaf comes from
abbrev pub IsUnwritten : (call : Delimiter) → Forest → (begin : ℕ) → (at : ℕ) → MacroFault → Type 0
IsUnwritten call trees begin at (wrong.TooLarge why) = IsPastLimit (tree_of call trees) why × (at ≡ begin)
IsUnwritten call trees begin at wrong.TooLong = IsWithinLimits (tree_of call trees) × IsWriteFault trees unwritten.TooLong × (at ≡ begin)
IsUnwritten call trees begin at wrong.NotWritable =
    IsWithinLimits (tree_of call trees) × (place : ℕ) × IsWriteFault trees (unwritten.NotWritable place) × (at ≡ byte_at trees place begin)
IsUnwritten call trees begin at fault = ⊥
