-- If nothing is found, no call of a macro in scope is left.
use Rattle.std.proofs.Common.{◌≡◌, ◌++◌, Bool, true, false, List, [], ◌∷◌, ℕ, Option, None, Some, inl, inr, refl, sym, ap, ◌∙◌}
use Rattle.std.specs.Prelude.{◌&&◌, is_some}
use Rattle.tt.specs.Forest.{Forest}
use Rattle.tt.specs.Span.{start_of}
use Rattle.expand_items.specs.declared.position.Position.{Position}
use Rattle.expand_items.specs.Items.{Definition, Call}
use Rattle.expand_items.specs.Positions.{keeps_macros}
use Rattle.expand_text.specs.declared.fault.Finding.{Finding}
use Rattle.expand_text.specs.declared.fault.MacroFault.TheVariants as wrong
use Rattle.expand_text.specs.Contexts.{Config, Context, asks_for, outside_call, with_finding}
use Rattle.expand_text.specs.Left.{NoneIsLeft}
use Rattle.expand_text.specs.Capturing.{IsCaptureFound, capture_found}
use Rattle.expand_text.specs.Macros.{IsDefinedAt, IsReadIf, IsRead, called_by, context_behind, found_expecting, found_in, found_of, left_behind, unexported_by}
use Rattle.expand_text.specs.Meaning.{ExpandsTo, ends, on_leaf, on_node, on_definition, on_inactive, on_other_call, into_other_call, into_attributes, on_faulty_call, on_call, on_kept_call, begun_by, body_in, context_after}
use Rattle.expand_text.specs.Outcomes.{Outcome}
use Rattle.expand_text.specs.Scopes.{Macro}

-- Something was found.
one_found : (findings : List Finding) (it : Finding) → findings ++ it ∷ [] ≡ [] → ⊥
one_found [] it none = cc none
one_found (first ∷ others) it none = cc none

-- The same of a finding in what a caller wrote.
one_there : (it : Finding) (context : Context) → (with_finding it context).findings ≡ [] → ⊥
one_there it context none = one_found context.findings (record it { caller = context.caller }) none

-- Nothing was found inside a subtree.
inside_none : (are_kept : Bool) (before inside : Context) → (context_after are_kept before inside).findings ≡ [] → inside.findings ≡ []
inside_none true before inside none = none
inside_none false before inside none = none

inside_goes : (are_kept : Bool) (before inside : Context) → inside.is_over ≡ false → (context_after are_kept before inside).is_over ≡ false
inside_goes true before inside goes = goes
inside_goes false before inside goes = goes

-- Calls are still expanded behind a call.
outside_goes : (before inside : Context) → inside.is_over ≡ false → (outside_call before inside).is_over ≡ false
outside_goes before inside goes = ap (λ over. over && is_some before.caller) goes

-- A definition in which nothing is found.
read_none : (config : Config) (position : Position) (it : Definition) (before inside : Context) → IsRead config position it before inside → inside.findings ≡ []
    → (before.findings ≡ []) × (before.is_over ≡ false → inside.is_over ≡ false)
read_none config position it before inside = by (asks_for config.only it.name.sym)
  where
    defined : (is_built_in : Bool) → IsDefinedAt is_built_in config.root position.is_open it before inside → inside.findings ≡ []
        → (before.findings ≡ []) × (before.is_over ≡ false → inside.is_over ≡ false)
    defined true is none = (sym (ap (λ context. context.findings) is) ∙ none, λ goes. ap (λ context. context.is_over) is ∙ goes)
    defined false (inl (arms, within, spells, is)) none = (sym (ap (λ context. context.findings) is) ∙ none, λ goes. ap (λ context. context.is_over) is ∙ goes)
    defined false (inr (at, fault, bad, is)) none = absurd (one_there (found_in it at fault) before (sym (ap (λ context. context.findings) is) ∙ none))

    by : (asked : Bool) → IsReadIf asked config.root position it before inside → inside.findings ≡ [] → (before.findings ≡ []) × (before.is_over ≡ false → inside.is_over ≡ false)
    by false is none = (sym (ap (λ context. context.findings) is) ∙ none, λ goes. ap (λ context. context.is_over) is ∙ goes)
    by true is none = defined position.is_built_in is none

-- A call that stays names no macro in scope, and none that is not exported.
left_none : (it : Call) (macro unexported : Option Macro) (context : Context) → (left_behind it macro unexported context).findings ≡ []
    → (macro ≡ None) × (context.findings ≡ []) × (context.is_over ≡ false → (left_behind it macro unexported context).is_over ≡ false)
left_none it (Some macro) unexported context none = absurd (one_there (found_of it macro (start_of it.name.span.range) macro.left) context none)
left_none it None (Some macro) context none = absurd (one_there (found_of it macro (start_of it.name.span.range) wrong.NotExported) context none)
left_none it None None context none = (refl, none, λ goes. goes)

behind_none : (config : Config) (it : Call) (context : Context) → (context_behind config it context).findings ≡ []
    → (called_by config context it ≡ None) × (context.findings ≡ []) × (context.is_over ≡ false → (context_behind config it context).is_over ≡ false)
behind_none config it context none = left_none it (called_by config context it) (unexported_by config context it) context none

-- Nothing is captured by an expansion.
capture_none : (defined_at : ℕ) (it : Call) (position : Position) (body : Forest) (before after : Context) → IsCaptureFound defined_at it position body before after
    → after.findings ≡ [] → (before.findings ≡ []) × (before.is_over ≡ false → after.is_over ≡ false)
capture_none defined_at it position body before after (None, is, same) none =
    (sym (ap (λ context. context.findings) same) ∙ none, λ goes. ap (λ context. context.is_over) same ∙ goes)
capture_none defined_at it position body before after (Some found, is, same) none =
    absurd (one_there (capture_found defined_at it found) before (sym (ap (λ context. context.findings) same) ∙ none))

-- Nothing was found before.
none_before : {config : Config} {in_text : Bool} {limit plain : ℕ} {position : Position} {context after : Context} {trees : Forest} {outcome : Outcome}
    → ExpandsTo config in_text limit position plain context trees after outcome → after.findings ≡ [] → context.findings ≡ []
none_before ends none = none
none_before (on_leaf plain others) none = none_before others none
none_before (on_node {position = position} {context = context} {inside = inside} {delimiter = delimiter} {children = children} plain held others) none =
    none_before held (inside_none (keeps_macros delimiter.kind children position) context inside (none_before others none))
none_before {config = config} (on_definition {position = position} {context = context} {it = it} inside going is read others) none = (read_none config position it context inside read (none_before others none)).0
none_before {config = config} (on_other_call {context = context} {it = it} going is bare unexpanded not_into others) none =
    (behind_none config it context (none_before others none)).1
none_before {config = config} (into_other_call {context = context} {it = it} going is bare unexpanded into others) none =
    (behind_none config it context (none_before others none)).1
none_before (on_inactive going is others) none = none_before others none
none_before (into_attributes going is some unexpanded others) none = none_before others none
none_before (on_faulty_call {context = context} {it = it} {macro = macro} at fault expected going is called some faulty wanted others) none =
    absurd (one_there (found_expecting it macro at fault expected) context (none_before others none))
none_before (on_call {position = position} {context = context} {noted = noted} {it = it} {macro = macro} {trees = trees} tree put going is called some expands captures held so may others) none =
    (capture_none macro.defined_at it (begun_by position it trees) (body_in position it trees tree) context noted captures (none_before held (none_before others none))).0
none_before (on_kept_call {noted = noted} {inside = inside} {it = it} {macro = macro} tree at fault going is called some expands captures held kept others) none =
    absurd (one_there (found_of it macro at fault) (outside_call noted inside) (none_before others none))

-- No call is left, and calls are still expanded.
pub none_left : {config : Config} {in_text : Bool} {limit plain : ℕ} {position : Position} {context after : Context} {trees : Forest} {outcome : Outcome}
    → (it : ExpandsTo config in_text limit position plain context trees after outcome) → context.is_over ≡ false → after.findings ≡ [] → NoneIsLeft it × (after.is_over ≡ false)
none_left ends goes none = (tt, goes)
none_left (on_leaf plain others) goes none = let it = none_left others goes none in ((goes, it.0), it.1)
none_left (on_node {position = position} {context = context} {inside = inside} {delimiter = delimiter} {children = children} plain held others) goes none =
    let are_kept = keeps_macros delimiter.kind children position in
    let within = none_left held goes (inside_none are_kept context inside (none_before others none)) in
    let it = none_left others (inside_goes are_kept context inside within.1) none in
    ((goes, within.0, it.0), it.1)
none_left {config = config} (on_definition {position = position} {context = context} {it = definition} inside going is read others) goes none =
    none_left others ((read_none config position definition context inside read (none_before others none)).1 goes) none
none_left {config = config} (on_other_call {context = context} {it = call} going is bare unexpanded not_into others) goes none =
    let quiet = behind_none config call context (none_before others none) in
    let it = none_left others (quiet.2 goes) none in
    ((quiet.0, it.0), it.1)
none_left {config = config} (into_other_call {context = context} {it = call} going is bare unexpanded into others) goes none =
    let quiet = behind_none config call context (none_before others none) in
    let it = none_left others (quiet.2 goes) none in
    ((quiet.0, it.0), it.1)
none_left (on_inactive going is others) goes none = none_left others goes none
none_left (into_attributes going is some unexpanded others) goes none = none_left others goes none
none_left (on_faulty_call {context = context} {it = call} {macro = macro} at fault expected going is called some faulty wanted others) goes none =
    absurd (one_there (found_expecting call macro at fault expected) context (none_before others none))
none_left (on_call {position = position} {context = context} {noted = noted} {inside = inside} {it = call} {macro = macro} {trees = trees} tree put going is called some expands captures held so may others) goes none =
    let known = capture_none macro.defined_at call (begun_by position call trees) (body_in position call trees tree) context noted captures (none_before held (none_before others none)) in
    let within = none_left held (known.1 goes) (none_before others none) in
    let it = none_left others (outside_goes noted inside within.1) none in
    ((within.0, it.0), it.1)
none_left (on_kept_call {noted = noted} {inside = inside} {it = call} {macro = macro} tree at fault going is called some expands captures held kept others) goes none =
    absurd (one_there (found_of call macro at fault) (outside_call noted inside) (none_before others none))
