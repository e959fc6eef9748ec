-- If the findings at the end name no limit of trees, those before do not either.
use Rattle.std.proofs.Common.{◌≡◌, ◌++◌, Bool, true, false, List, [], ◌∷◌, ℕ, Option, None, Some, inl, inr, subst}
use Rattle.tt.specs.Forest.{Forest}
use Rattle.tt.specs.Span.{start_of}
use Rattle.expand_items.specs.declared.position.Position.{Position}
use Rattle.expand_items.specs.Items.{Definition, Call}
use Rattle.expand_items.specs.Positions.{keeps_macros}
use Rattle.expand_text.specs.declared.fault.Finding.{Finding}
use Rattle.expand_text.specs.declared.fault.MacroFault.TheVariants as wrong
use Rattle.expand_text.specs.Meaning.{ExpandsTo, ends, on_leaf, on_node, on_definition, on_inactive, on_other_call, into_other_call, into_attributes, on_faulty_call, on_call, on_kept_call, begun_by, body_in, context_after}
use Rattle.expand_text.specs.Contexts.{Config, Context, asks_for, outside_call, with_finding}
use Rattle.expand_text.specs.Limits.{names_limit, KeepLimits}
use Rattle.expand_text.specs.Capturing.{IsCaptureFound, capture_found}
use Rattle.expand_text.specs.Macros.{IsDefinedAt, IsReadIf, IsRead, called_by, context_behind, found_expecting, found_in, found_of, left_behind, unexported_by}
use Rattle.expand_text.specs.Outcomes.{Outcome}
use Rattle.expand_text.specs.Scopes.{Macro}

-- The last finding names no limit, and the others do not either.
keep_first : (findings : List Finding) (it : Finding) → KeepLimits (findings ++ it ∷ []) → KeepLimits findings × (names_limit it.fault ≡ false)
keep_first [] it keep = (tt, keep.0)
keep_first (first ∷ others) it keep =
    let behind = keep_first others it keep.1 in
    ((keep.0, behind.0), behind.1)

-- The same of a finding in what a caller wrote.
pub keep_found : (it : Finding) (context : Context) → KeepLimits (with_finding it context).findings → KeepLimits context.findings × (names_limit it.fault ≡ false)
keep_found it context keep = keep_first context.findings (record it { caller = context.caller }) keep

-- Before the end of a subtree.
pub keep_inside : (are_kept : Bool) (before inside : Context) → KeepLimits (context_after are_kept before inside).findings → KeepLimits inside.findings
keep_inside true before inside keep = keep
keep_inside false before inside keep = keep

-- Before a definition.
pub keep_read : (config : Config) (position : Position) (it : Definition) (before inside : Context) → IsRead config position it before inside → KeepLimits inside.findings → KeepLimits before.findings
keep_read config position it before inside = by (asks_for config.only it.name.sym)
  where
    defined : (is_built_in : Bool) → IsDefinedAt is_built_in config.root position.is_open it before inside → KeepLimits inside.findings → KeepLimits before.findings
    defined true is keep = subst (λ context. KeepLimits context.findings) is keep
    defined false (inl (arms, within, spells, is)) keep = subst (λ context. KeepLimits context.findings) is keep
    defined false (inr (at, fault, bad, is)) keep = (keep_found (found_in it at fault) before (subst (λ context. KeepLimits context.findings) is keep)).0

    by : (asked : Bool) → IsReadIf asked config.root position it before inside → KeepLimits inside.findings → KeepLimits before.findings
    by false is keep = subst (λ context. KeepLimits context.findings) is keep
    by true is keep = defined position.is_built_in is keep

-- Before a call that no macro expands.
keep_left : (it : Call) (macro unexported : Option Macro) (context : Context) → KeepLimits (left_behind it macro unexported context).findings → KeepLimits context.findings
keep_left it (Some macro) unexported context keep = (keep_found (found_of it macro (start_of it.name.span.range) macro.left) context keep).0
keep_left it None (Some macro) context keep = (keep_found (found_of it macro (start_of it.name.span.range) wrong.NotExported) context keep).0
keep_left it None None context keep = keep

keep_behind : (config : Config) (it : Call) (context : Context) → KeepLimits (context_behind config it context).findings → KeepLimits context.findings
keep_behind config it context keep = keep_left it (called_by config context it) (unexported_by config context it) context keep

-- Before an expansion whose names were looked at.
pub keep_capture : (defined_at : ℕ) (it : Call) (position : Position) (body : Forest) (before after : Context) → IsCaptureFound defined_at it position body before after
    → KeepLimits after.findings → KeepLimits before.findings
keep_capture defined_at it position body before after (None, is, same) keep = subst (λ context. KeepLimits context.findings) same keep
keep_capture defined_at it position body before after (Some found, is, same) keep =
    (keep_found (capture_found defined_at it found) before (subst (λ context. KeepLimits context.findings) same keep)).0

-- Before any trees.
pub keep_before : {config : Config} {in_text : Bool} {limit plain : ℕ} {position : Position} {context after : Context} {trees : Forest} {outcome : Outcome}
    → ExpandsTo config in_text limit position plain context trees after outcome → KeepLimits after.findings → KeepLimits context.findings
keep_before ends keep = keep
keep_before (on_leaf plain others) keep = keep_before others keep
keep_before (on_node {position = position} {context = context} {inside = inside} {delimiter = delimiter} {children = children} plain held others) keep =
    keep_before held (keep_inside (keeps_macros delimiter.kind children position) context inside (keep_before others keep))
keep_before {config = config} (on_definition {position = position} {context = context} {it = it} inside going is read others) keep = keep_read config position it context inside read (keep_before others keep)
keep_before {config = config} (on_other_call {context = context} {it = it} going is bare unexpanded not_into others) keep =
    keep_behind config it context (keep_before others keep)
keep_before {config = config} (into_other_call {context = context} {it = it} going is bare unexpanded into others) keep =
    keep_behind config it context (keep_before others keep)
keep_before (on_inactive going is others) keep = keep_before others keep
keep_before (into_attributes going is some unexpanded others) keep = keep_before others keep
keep_before (on_faulty_call {context = context} {it = it} {macro = macro} at fault expected going is called some faulty wanted others) keep =
    (keep_found (found_expecting it macro at fault expected) context (keep_before others keep)).0
keep_before (on_call {position = position} {context = context} {noted = noted} {it = it} {macro = macro} {trees = trees} tree put going is called some expands captures held so may others) keep =
    keep_capture macro.defined_at it (begun_by position it trees) (body_in position it trees tree) context noted captures (keep_before held (keep_before others keep))
keep_before (on_kept_call {position = position} {context = context} {noted = noted} {inside = inside} {it = it} {macro = macro} {trees = trees} tree at fault going is called some expands captures held kept others) keep =
    keep_capture macro.defined_at it (begun_by position it trees) (body_in position it trees tree) context noted captures
    (keep_before held (keep_found (found_of it macro at fault) (outside_call noted inside) (keep_before others keep)).0)
