-- What trees expand to in which macros are defined and called.
use Rattle.std.specs.Prelude.{◌≡◌, ◌⊎◌, ◌<◌, ◌-◌, ℕ, suc, Bool, true, false, List, length, take, Option, None, Some, codes, max, ◌==◌, if◌then◌else◌}
use Rattle.tt.specs.Forest.{Forest, Root, end, leaf, node, size}
use Rattle.tt.specs.Gluing.{after_trees}
use Rattle.tt.specs.Moves.{after_tree}
use Rattle.tt.specs.Span.{start_of}
use Rattle.tt.specs.Types.Delimiter.{Delimiter}
use Rattle.tt.specs.Types.Leaf.{Leaf}
use Rattle.tt.specs.Types.Leaf.TheVariants as leaf_of
use Rattle.tt.specs.Types.Span.{Span}
use Rattle.expand_text.specs.declared.fault.MacroFault.{MacroFault}
use Rattle.syntax_edit.specs.Places.{begin_at}
use Rattle.expand_items.specs.declared.position.Position.{Position}
use Rattle.expand_items.specs.Conditions.{behind_leaf_under}
use Rattle.expand_items.specs.Inactive.{IsItemAt}
use Rattle.expand_items.specs.Items.{Definition, Call, defines, calls, inactive, other}
use Rattle.expand_text.specs.Contexts.{Config, Context, with_finding, inside_call, outside_call, tokens_left}
use Rattle.expand_text.specs.Expecting.{IsExpectedFor}
use Rattle.expand_text.specs.Macros.{IsRead, IsCallFault, MayBePut, Writes, called_by, arms_of, found_expecting, found_of, context_behind}
use Rattle.expand_text.specs.Outcomes.{Outcome, nothing, passes, enters, stays, becomes, trees_left}
use Rattle.expand_items.specs.Expressions.{without_semicolon}
use Rattle.expand_items.specs.Positions.{enclosure, first_inside, first_of_call, behind, behind_subtree, keeps_macros, is_statement, takes_semicolon}
use Rattle.expand_text.specs.Scopes.{Macro}
use Rattle.expand_text.specs.CallSites.{CallSite, PutIn, IsKept}
use Rattle.expand_text.specs.Capturing.{IsCaptureFound}
use Rattle.mbe_rules.specs.Arms.{Arm}
use Rattle.mbe_pattern.specs.Units.{front_trees, is_brace, is_at_punct}

-- the first tree is taken as it is: no call is expanded any more, or it is one of the plain
-- trees, or it begins neither a definition nor a call
abbrev pub IsPlain : Config → Context → Position → (plain : ℕ) → Forest → Type 0
IsPlain config context position plain trees = (context.is_over ≡ true) ⊎ ((0 < plain) ⊎ IsItemAt config.known config.root position trees other)

-- how many trees after a leaf begin no call: the name of a lifetime, or after a literal a `.` and the name of a field
abbrev pub named_behind : Leaf → (rest : Forest) → ℕ
named_behind (leaf_of.Punct it) rest = if it.char == 39 then 1 else 0
named_behind (leaf_of.Literal it) rest = if is_at_punct (codes ".") rest then 2 else 0
named_behind (leaf_of.Ident it) rest = 0

-- how many of the next trees are taken as they are: those after this leaf that are no call, or the plain trees left, if more
abbrev pub plain_behind : Leaf → (rest : Forest) → (plain : ℕ) → ℕ
plain_behind it rest plain = max (plain - 1) (named_behind it rest)

-- the first tree is a subtree or a `;`
abbrev pub is_closing : Forest → Bool
is_closing end = false
is_closing (leaf it rest) = is_at_punct (codes ";") (leaf it rest)
is_closing (node delimiter children rest) = true

-- how many trees after an item or a statement of so many trees are taken as they are: none if that ends with a subtree or a `;`, and
-- otherwise two, because its last token might be read together with them
abbrev pub plain_behind_part : (len : ℕ) → (trees : Forest) → ℕ
plain_behind_part len trees = if is_closing (after_trees (len - 1) trees) then 0 else 2

-- what is known after a subtree: its macros are in scope if they are kept
abbrev pub context_after : (are_kept : Bool) → (before inside : Context) → Context
context_after true before inside = inside
context_after false before inside = record inside { macros = take (length before.macros) inside.macros }

-- the trees after a call that comes first
abbrev pub behind_call : Call → (trees : Forest) → Forest
behind_call it trees = after_trees it.len trees

-- the `;` after the call, of which an arm made that tree, is a part of it
abbrev pub takes_in : Position → Call → (trees : Forest) → Root → Bool
takes_in position it trees tree = takes_semicolon it.attributes it.delimiter.kind (behind_call it trees) tree.children position

-- where the call ends then
abbrev pub end_in : Position → Call → (trees : Forest) → Root → Span
end_in position it trees tree = if takes_in position it trees tree then begin_at (behind_call it trees) it.delimiter.close else it.delimiter.close

-- how many trees the call is then
abbrev pub len_in : Position → Call → (trees : Forest) → Root → ℕ
len_in position it trees tree = if takes_in position it trees tree then suc it.len else it.len

-- the trees after the call then, and the position after the call
abbrev pub rest_in : Position → Call → (trees : Forest) → Root → Forest
rest_in position it trees tree = if takes_in position it trees tree then after_tree (behind_call it trees) else behind_call it trees

abbrev pub behind_in : Position → Call → (trees : Forest) → Root → Position
behind_in position it trees tree =
    if takes_in position it trees tree then behind true (behind (is_brace it.delimiter.kind) position) else behind (is_brace it.delimiter.kind) position

-- the position before the first of the trees that the call expands to
abbrev pub begun_by : Position → Call → (trees : Forest) → Position
begun_by position it trees = first_of_call it.attributes it.delimiter.kind (behind_call it trees) position

-- what an arm made of a call: without a `;` at the end, if that is an expression
abbrev pub body : (is_statement : Bool) → Root → Forest
body true tree = tree.children
body false tree = without_semicolon tree.children

abbrev pub body_in : Position → Call → (trees : Forest) → Root → Forest
body_in position it trees tree = body (is_statement it.attributes it.delimiter.kind (behind_call it trees) position) tree

-- all trees of the call then, and the attributes before it
abbrev pub whole_in : Position → Call → (trees : Forest) → Root → Forest
whole_in position it trees tree = front_trees (len_in position it trees tree) trees

abbrev pub attributes_in : Position → Call → (trees : Forest) → Root → Forest
attributes_in position it trees tree = front_trees it.attributes (whole_in position it trees tree)

-- the place of the call then
abbrev pub site_in : Position → Call → (trees : Forest) → Root → CallSite
site_in position it trees tree =
    record {
      attributes = attributes_in position it trees tree;
      len = it.attributes;
      enclosure = enclosure it.attributes it.delimiter.kind (behind_call it trees) (body_in position it trees tree) position;
      position = begun_by position it trees;
      delimiter = it.delimiter;
    }

-- where the call begins, after its attributes
abbrev pub begin_in : Call → (trees : Forest) → Span
begin_in it trees = begin_at (after_trees it.attributes trees) it.name.span

-- what is known inside its expansion, if an arm made that tree of it
abbrev pub entered_in : Config → Call → (trees : Forest) → Root → Context → Context
entered_in config it trees tree context = inside_call config it.name.sym (start_of (begin_in it trees).range) (size tree.children) context

-- its attributes stay, and these trees replace the call
abbrev pub becomes_in : Position → Call → (trees : Forest) → Root → (put : Forest) → Outcome → Outcome
becomes_in position it trees tree put others = stays (attributes_in position it trees tree) (becomes (begin_in it trees) (end_in position it trees tree) put others)

-- the call stays, with its attributes and the `;` that is a part of it
abbrev pub stays_in : Position → Call → (trees : Forest) → Root → Outcome → Outcome
stays_in position it trees tree others = stays (whole_in position it trees tree) others

-- what trees of the text itself, or of an expansion, expand to, with at most so many nested expansions: at a position, with so many plain
-- trees, and from what is known before; and what is known then. The expansion of a call replaces it, and is written there in the text. If
-- it does not fit there, or cannot be written, the call stays with its attributes and its `;`, and that is found. Findings and definitions
-- in the expansion are known after the call in any case
pub data ExpandsTo (config : Config) : (in_text : Bool) → (limit : ℕ) → Position → (plain : ℕ) → Context → Forest → Context → Outcome → Type 0 where
  ends : {in_text : Bool} {limit plain : ℕ} {position : Position} {context : Context} → ExpandsTo config in_text limit position plain context end context nothing
  on_leaf : {in_text : Bool} {limit plain : ℕ} {position : Position} {context after : Context} {it : Leaf} {rest : Forest} {others : Outcome}
      → IsPlain config context position plain (leaf it rest)
      → ExpandsTo config in_text limit (behind_leaf_under config.known it rest position) (plain_behind it rest plain) context rest after others
      → ExpandsTo config in_text limit position plain context (leaf it rest) after (passes it others)
  on_node : {in_text : Bool} {limit plain : ℕ} {position : Position} {context inside after : Context} {delimiter : Delimiter} {children rest : Forest} {held others : Outcome}
      → IsPlain config context position plain (node delimiter children rest)
      → ExpandsTo config in_text limit (first_inside delimiter.kind rest position) 0 context children inside held
      → ExpandsTo config in_text limit (behind_subtree delimiter.kind position) (plain - 1) (context_after (keeps_macros delimiter.kind children position) context inside) rest after others
      → ExpandsTo config in_text limit position plain context (node delimiter children rest) after (enters delimiter held others)
  on_definition : {in_text : Bool} {limit : ℕ} {position : Position} {context after : Context} {it : Definition} {trees : Forest} {others : Outcome} (inside : Context)
      → context.is_over ≡ false
      → IsItemAt config.known config.root position trees (defines it)
      → IsRead config position it context inside
      → ExpandsTo config in_text limit (behind true position) 0 inside (after_trees it.len trees) after others
      → ExpandsTo config in_text limit position 0 context trees after (stays (front_trees it.len trees) others)
  on_inactive : {in_text : Bool} {limit len : ℕ} {position : Position} {context after : Context} {trees : Forest} {others : Outcome}
      → context.is_over ≡ false
      → IsItemAt config.known config.root position trees (inactive len)
      → ExpandsTo config in_text limit (behind true position) (plain_behind_part len trees) context (after_trees len trees) after others
      → ExpandsTo config in_text limit position 0 context trees after (stays (front_trees len trees) others)
  on_other_call : {in_text : Bool} {limit : ℕ} {position : Position} {context after : Context} {it : Call} {trees : Forest} {others : Outcome}
      → context.is_over ≡ false
      → IsItemAt config.known config.root position trees (calls it)
      → it.attributes ≡ 0
      → arms_of (called_by config context it) ≡ None
      → config.everywhere ≡ false
      → ExpandsTo config in_text limit (behind (is_brace it.delimiter.kind) position) 0 (context_behind config it context) (behind_call it trees) after others
      → ExpandsTo config in_text limit position 0 context trees after (stays (front_trees it.len trees) others)
  into_other_call : {in_text : Bool} {limit : ℕ} {position : Position} {context after : Context} {it : Call} {trees : Forest} {others : Outcome}
      → context.is_over ≡ false
      → IsItemAt config.known config.root position trees (calls it)
      → it.attributes ≡ 0
      → arms_of (called_by config context it) ≡ None
      → config.everywhere ≡ true
      → ExpandsTo config in_text limit position it.len (context_behind config it context) trees after others
      → ExpandsTo config in_text limit position 0 context trees after others
  into_attributes : {in_text : Bool} {limit : ℕ} {position : Position} {context after : Context} {it : Call} {trees : Forest} {others : Outcome}
      → context.is_over ≡ false
      → IsItemAt config.known config.root position trees (calls it)
      → 0 < it.attributes
      → arms_of (called_by config context it) ≡ None
      → ExpandsTo config in_text limit position it.attributes context trees after others
      → ExpandsTo config in_text limit position 0 context trees after others
  on_faulty_call : {in_text : Bool} {limit : ℕ} {position : Position} {context after : Context} {it : Call} {macro : Macro} {arms : List Arm} {trees : Forest} {others : Outcome} (at : ℕ) (fault : MacroFault) (expected : Option (List ℕ))
      → context.is_over ≡ false
      → IsItemAt config.known config.root position trees (calls it)
      → called_by config context it ≡ Some macro
      → macro.arms ≡ Some arms
      → IsCallFault limit (tokens_left config context) arms it at fault
      → IsExpectedFor arms it fault expected
      → ExpandsTo config in_text limit (behind (is_brace it.delimiter.kind) position) 0 (with_finding (found_expecting it macro at fault expected) context) (behind_call it trees) after others
      → ExpandsTo config in_text limit position 0 context trees after (stays (front_trees it.len trees) others)
  on_call : {in_text : Bool} {limit : ℕ} {position : Position} {context noted inside after : Context} {it : Call} {macro : Macro} {arms : List Arm} {trees : Forest} {held others : Outcome} (tree : Root) (put : Forest)
      → context.is_over ≡ false
      → IsItemAt config.known config.root position trees (calls it)
      → called_by config context it ≡ Some macro
      → macro.arms ≡ Some arms
      → Writes (tokens_left config context) arms it tree
      → IsCaptureFound macro.defined_at it (begun_by position it trees) (body_in position it trees tree) context noted
      → ExpandsTo config false limit (begun_by position it trees) 0 (entered_in config it trees tree noted) (body_in position it trees tree) inside held
      → PutIn in_text (site_in position it trees tree) (trees_left held) put
      → MayBePut in_text it.delimiter put
      → ExpandsTo config in_text (suc limit) (behind_in position it trees tree) 0 (outside_call noted inside) (rest_in position it trees tree) after others
      → ExpandsTo config in_text (suc limit) position 0 context trees after (becomes_in position it trees tree put others)
  on_kept_call : {in_text : Bool} {limit : ℕ} {position : Position} {context noted inside after : Context} {it : Call} {macro : Macro} {arms : List Arm} {trees : Forest} {held others : Outcome} (tree : Root) (at : ℕ) (fault : MacroFault)
      → context.is_over ≡ false
      → IsItemAt config.known config.root position trees (calls it)
      → called_by config context it ≡ Some macro
      → macro.arms ≡ Some arms
      → Writes (tokens_left config context) arms it tree
      → IsCaptureFound macro.defined_at it (begun_by position it trees) (body_in position it trees tree) context noted
      → ExpandsTo config false limit (begun_by position it trees) 0 (entered_in config it trees tree noted) (body_in position it trees tree) inside held
      → IsKept in_text (site_in position it trees tree) (trees_left held) (start_of (begin_in it trees).range) at fault
      → ExpandsTo config in_text (suc limit) (behind_in position it trees tree) 0 (with_finding (found_of it macro at fault) (outside_call noted inside)) (rest_in position it trees tree) after others
      → ExpandsTo config in_text (suc limit) position 0 context trees after (stays_in position it trees tree others)
