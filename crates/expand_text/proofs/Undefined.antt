-- In trees without the word `macro_rules` nothing is expanded and nothing is found.
use Rattle.std.proofs.Common.{◌≡◌, ◌∙◌, ℕ, zero, suc, Bool, true, false, List, [], ◌++◌, Option, None, Some, codes, cond, refl, sym, ap, ap₂, subst}
use Rattle.std.proofs.Math.Seq.{take-length}
use Rattle.std.specs.Prelude.{◌&&◌}
use Rattle.tt.specs.Forest.{Forest, end, leaf, node}
use Rattle.tt.specs.Gluing.{after_trees}
use Rattle.tt.specs.Moves.{after_tree}
use Rattle.mbe_pattern.specs.Units.{is_at_punct}
use Rattle.expand_items.specs.Attributes.{item_at, item_behind, begins_attributes, attributes_len, with_attributes}
use Rattle.expand_items.specs.Cfg.{Known}
use Rattle.expand_items.specs.Definitions.{Defined, AreDefinitions, IsItemIf, Unless, defined_by}
use Rattle.expand_items.specs.Inactive.{IsItemAt}
use Rattle.expand_items.specs.Items.{Item, Definition, Call, defines, calls, inactive, other, call_in, definition_behind, definition_in, is_root, item_from, item_in}
use Rattle.expand_items.specs.declared.item.MacroPath.{MacroPath}
use Rattle.expand_items.specs.declared.item.MacroPath.TheVariants as path
use Rattle.expand_items.specs.declared.position.Siblings.TheVariants.{Items}
use Rattle.expand_items.proofs.ItemsAt.{defines_at}
use Rattle.expand_items.specs.Positions.{begun, first_in, is_statement, keeps_macros}
use Rattle.expand_items.specs.declared.position.Position.{Position}
use Rattle.expand_text.specs.Meaning.{ExpandsTo, ends, on_leaf, on_node, on_definition, on_inactive, on_other_call, into_other_call, into_attributes, on_faulty_call, on_call, on_kept_call, context_after}
use Rattle.expand_text.specs.Reading.{AreSplices, ended, passed as one_passed, entered, stayed}
use Rattle.expand_text.specs.Contexts.{Context, Config, asks_for, new_context}
use Rattle.expand_text.specs.Lacking.{Lacks}
use Rattle.expand_text.specs.Exports.{AreExported, AreRead}
use Rattle.expand_text.specs.Macros.{called_by, context_behind, left_behind, named_by, unexported_by}
use Rattle.expand_text.specs.Outcomes.{Outcome}
use Rattle.expand_text.proofs.Mentioned.{lacks_word}
use Rattle.expand_text.specs.Scopes.{Macro, last_named}
use Rattle.syntax_edit.specs.Splices.{Splice}

-- The trees after some lack it too.
lacks_behind : (word : List ℕ) (n : ℕ) (trees : Forest) → Lacks word trees → Lacks word (after_trees n trees)
lacks_behind word zero trees lacks = lacks
lacks_behind word (suc n) end lacks = lacks_behind word n end lacks
lacks_behind word (suc n) (leaf it rest) lacks = lacks_behind word n rest lacks.1
lacks_behind word (suc n) (node delimiter children rest) lacks = lacks_behind word n rest lacks.1

-- There is no definition after attributes.
item_behind_defines : (position : Position) (attributes : ℕ) (trees : Forest) (found : Item) (it : Definition) → item_behind position attributes trees found ≡ defines it → ⊥
item_behind_defines position attributes trees (defines its) it is = cc is
item_behind_defines position attributes trees (inactive len) it is = cc is
item_behind_defines position attributes trees other it is = cc is
item_behind_defines position attributes trees (calls its) it is = by (is_statement attributes its.delimiter.kind (after_trees its.len trees) position) is
  where
    by : (b : Bool) → cond b (calls (with_attributes attributes its)) other ≡ defines it → ⊥
    by true is = cc is
    by false is = cc is

-- Without the word there is no definition at all.
no_definition : (root : List ℕ) (position : Position) (trees : Forest) (it : Definition) → Lacks (codes "macro_rules") trees → item_at root position trees ≡ defines it → ⊥
no_definition root position trees it lacks is = at position.is_verbatim is
  where
    none : definition_in trees ≡ None
    none =
        ap (λ b. cond b (cond (is_at_punct (codes "!") (after_tree trees)) (definition_behind (after_tree (after_tree trees))) None) None)
        (lacks_word (codes "macro_rules") trees lacks)

    from : (found : Option Call) → item_from None found ≡ defines it → ⊥
    from None is = cc is
    from (Some call) is = cc is

    by : (b : Bool) → cond b (item_behind position (attributes_len trees) (after_trees (attributes_len trees) trees) (item_in root (after_trees (attributes_len trees) trees))) (item_in root trees) ≡ defines it → ⊥
    by true is = item_behind_defines position (attributes_len trees) (after_trees (attributes_len trees) trees) (item_in root (after_trees (attributes_len trees) trees)) it is
    by false is = from (call_in root trees) (ap (λ d. item_from d (call_in root trees)) (sym none) ∙ is)

    at : (verbatim : Bool)
        → cond verbatim other (cond (begins_attributes position trees) (item_behind position (attributes_len trees) (after_trees (attributes_len trees) trees) (item_in root (after_trees (attributes_len trees) trees))) (item_in root trees)) ≡ defines it → ⊥
    at true is = cc is
    at false is = by (begins_attributes position trees) is

-- no macro is in scope or exported
pub record IsBare (context : Context) : Type 0 where
  pub macros : context.macros ≡ []
  pub exported : context.exported ≡ []

-- Then no call names one.
named_none : (way : MacroPath) (name : List ℕ) (context : Context) → IsBare context → named_by way name context ≡ None
named_none path.Name name context bare = ap (last_named name) bare.macros
named_none path.Root name context bare = ap (last_named name) bare.exported
named_none path.Other name context bare = refl

called_none : (config : Config) (context : Context) (it : Call) → IsBare context → called_by config context it ≡ None
called_none config context it bare = by (asks_for config.only it.name.sym)
  where
    by : (a : Bool) → cond a (named_by it.path it.name.sym context) None ≡ None
    by true = named_none it.path it.name.sym context bare
    by false = refl

unexported_none : (config : Config) (context : Context) (it : Call) → IsBare context → unexported_by config context it ≡ None
unexported_none config context it bare = by (asks_for config.only it.name.sym && is_root it.path)
  where
    by : (a : Bool) → cond a (last_named it.name.sym context.macros) None ≡ None
    by true = ap (last_named it.name.sym) bare.macros
    by false = refl

behind_same : (config : Config) (context : Context) (it : Call) → IsBare context → context_behind config it context ≡ context
behind_same config context it bare = ap₂ (λ a b. left_behind it a b context) (called_none config context it bare) (unexported_none config context it bare)

-- Nothing is learned after a subtree in which nothing was learned.
context_same : (are_kept : Bool) (context : Context) → context_after are_kept context context ≡ context
context_same true context = refl
context_same false context = ap (λ m. record context { macros = m }) (take-length context.macros)

-- They are still bare if nothing was learned.
bare_same : (a b : Context) → a ≡ b → IsBare b → IsBare a
bare_same a b same bare = subst IsBare (sym same) bare

comes_quiet : {config : Config} {in_text one_line : Bool} {limit plain : ℕ} {position : Position} {context after : Context} {trees : Forest} {outcome : Outcome} {splices : List Splice}
    → ExpandsTo config in_text limit position plain context trees after outcome → AreSplices one_line outcome splices → IsBare context → Lacks (codes "macro_rules") trees → (splices ≡ []) × (after ≡ context)
comes_quiet ends ended none lacks = (refl, refl)
comes_quiet (on_leaf plain others) (one_passed are) none lacks = comes_quiet others are none lacks.1
comes_quiet (on_node {position = position} {context = context} {delimiter = delimiter} {children = children} plain held others) (entered are later) none lacks =
    let inside = comes_quiet held are none lacks.0 in
    let same = ap (context_after (keeps_macros delimiter.kind children position) context) inside.1 ∙ context_same (keeps_macros delimiter.kind children position) context in
    let behind = comes_quiet others later (bare_same _ context same none) lacks.1 in
    (ap₂ (λ a b. a ++ b) inside.0 behind.0, behind.1 ∙ same)
comes_quiet {config = config} (on_definition {position = position} {it = it} {trees = trees} inside going is read others) are none lacks =
    absurd (no_definition config.root position trees it lacks (defines_at is))
comes_quiet (on_inactive {len = len} {trees = trees} going is others) (stayed are) none lacks = comes_quiet others are none (lacks_behind (codes "macro_rules") len trees lacks)
comes_quiet {config = config} (on_other_call {context = context} {it = it} {trees = trees} going is bare unexpanded not_into others) (stayed are) none lacks =
    let same = behind_same config context it none in
    let behind = comes_quiet others are (bare_same _ context same none) (lacks_behind (codes "macro_rules") it.len trees lacks) in
    (behind.0, behind.1 ∙ same)
comes_quiet {config = config} (into_other_call {context = context} {it = it} going is bare unexpanded into others) are none lacks =
    let same = behind_same config context it none in
    let behind = comes_quiet others are (bare_same _ context same none) lacks in
    (behind.0, behind.1 ∙ same)
comes_quiet (into_attributes going is some unexpanded others) are none lacks = comes_quiet others are none lacks
comes_quiet {config = config} (on_faulty_call {context = context} {it = it} at fault expected going is called some faulty wanted others) are none lacks =
    absurd (cc (sym (called_none config context it none) ∙ called))
comes_quiet {config = config} (on_call {context = context} {it = it} tree put going is called some expands noted held so may others) are none lacks =
    absurd (cc (sym (called_none config context it none) ∙ called))
comes_quiet {config = config} (on_kept_call {context = context} {it = it} tree at fault going is called some expands noted held kept others) are none lacks =
    absurd (cc (sym (called_none config context it none) ∙ called))

-- No definition is found in such trees, so none is exported.
none_defined : (known : Known) (root : List ℕ) (position : Position) (passed : ℕ) (trees : Forest) (found : List Defined) → Lacks (codes "macro_rules") trees
    → AreDefinitions known root position passed trees found → found ≡ []
none_defined known root position passed end found lacks are = are
none_defined known root position passed (leaf it rest) found lacks (first, others, is, behind, same) =
    same ∙ ap₂ (λ a b. a ++ b) (first_none passed first is) (none_defined known root _ _ rest others lacks.1 behind)
  where
    none_by : (first : Item) → IsItemAt known root position (leaf it rest) first → defined_by position first ≡ []
    none_by (defines definition) is = absurd (no_definition root position (leaf it rest) definition lacks (defines_at is))
    none_by (calls call) is = refl
    none_by (inactive len) is = refl
    none_by other is = refl

    first_none : (passed : ℕ) (first : Item) → IsItemIf known root position passed (leaf it rest) first → defined_by position first ≡ []
    first_none zero first is = none_by first is
    first_none (suc passed) first is = ap (defined_by position) is
none_defined known root position passed (node delimiter children rest) found lacks (inside, others, held, behind, same) =
    same ∙ ap₂ (λ a b. a ++ b) (inside_none passed (none_defined known root (first_in delimiter.kind position) 0 children inside lacks.0) held) (none_defined known root _ _ rest others lacks.1 behind)
  where
    Are : List Defined → Type 0
    Are = AreDefinitions known root (first_in delimiter.kind position) 0 children

    inside_none : (passed : ℕ) → (Are inside → inside ≡ []) → Unless passed Are inside → inside ≡ []
    inside_none zero all are = all are
    inside_none (suc passed) all none = none

none_exported : (config : Config) (trees : Forest) (macros : List Macro) → Lacks (codes "macro_rules") trees → AreExported config trees macros → macros ≡ []
none_exported config trees macros lacks (found, after, are, read, same) =
    let none = none_defined config.known config.root (begun Items) 0 trees found lacks are in
    let nothing : after ≡ new_context [] = subst (λ its. AreRead config its (new_context []) after) none read in
    same ∙ ap (λ context. context.macros) nothing

-- Nothing comes of a text of such trees.
pub nothing_comes : {config : Config} {in_text one_line : Bool} {limit : ℕ} {position : Position} {exported : List Macro} {after : Context} {trees : Forest} {outcome : Outcome} {splices : List Splice}
    → AreExported config trees exported → ExpandsTo config in_text limit position 0 (new_context exported) trees after outcome → AreSplices one_line outcome splices → Lacks (codes "macro_rules") trees
    → (splices ≡ []) × (after.findings ≡ [])
nothing_comes {config = config} {exported = exported} {trees = trees} exports expands_to are lacks =
    let quiet = comes_quiet expands_to are (record { macros = refl; exported = none_exported config trees exported lacks exports }) lacks in
    (quiet.0, ap (λ context. context.findings) quiet.1)
