-- Worked items and positions. Each holds by computation.
use Rattle.std.proofs.Common.{◌≡◌, ℕ, List, true, false, codes, refl}
use Rattle.tt.specs.Forest.{Forest, end, join}
use Rattle.tt.specs.Token.{delimiter}
use Rattle.tt.specs.Types.DelimiterKind.{DelimiterKind}
use Rattle.tt.specs.Types.DelimiterKind.TheVariants.{Parenthesis, Brace, Bracket}
use Rattle.tt.specs.Types.Ident.{Ident}
use Rattle.tt.specs.Types.IdentIsRaw.TheVariants.{No, Yes}
use Rattle.tt.specs.Types.Leaf.{Leaf}
use Rattle.tt.specs.Types.Leaf.TheVariants as leaf_of
use Rattle.tt.specs.Types.Spacing.TheVariants.{Alone, Joint}
use Rattle.tt_base.proofs.Samples.{span, punct, ident, subtree}
use Rattle.expand_items.specs.Attributes.{attributes_len, conditions_of, item_at}
use Rattle.expand_items.specs.Cfg.{unknown}
use Rattle.expand_items.specs.Conditions.{behind_leaf_under}
use Rattle.expand_items.specs.Items.{Item, calls, defines, other, item_in}
use Rattle.expand_items.specs.declared.item.MacroPath.{MacroPath}
use Rattle.expand_items.specs.declared.item.MacroPath.TheVariants as path
use Rattle.expand_items.specs.Positions.{begun, first_in, behind_leaf, behind_subtree, keeps_macros, is_statement, takes_semicolon, siblings_of_call}
use Rattle.expand_items.specs.declared.position.Position.{Position}
use Rattle.expand_items.specs.declared.position.Siblings.{Siblings}
use Rattle.expand_items.specs.declared.position.Siblings.TheVariants.{Items, Statements, Others}
use Rattle.mbe_pattern.proofs.Rows.{word, raw_word, alone, joint}

-- `!`, `::`, and brackets without contents, before others
abbrev pub bang : Forest → Forest
bang rest = alone 33 rest

abbrev pub colons : Forest → Forest
colons rest = joint 58 (alone 58 rest)

abbrev pub brackets : DelimiterKind → Forest → Forest
brackets kind rest = join (subtree kind end) rest

-- `#` and a word in brackets, before others
abbrev pub attribute : List ℕ → Forest → Forest
attribute text rest = alone 35 (join (subtree Bracket (word text end)) rest)

-- the name `m`, and a call of it with empty parentheses, after a number of trees of attributes
abbrev pub m_name : Ident
m_name = record { sym = codes "m"; span = span 0 1; is_raw = No }

abbrev pub m_call_behind : (attributes : ℕ) → MacroPath → (len : ℕ) → Item
m_call_behind attributes way len =
    calls (record {
      attributes = attributes;
      name = m_name;
      path = way;
      delimiter = delimiter Parenthesis (span 0 1) (span 1 1);
      input = end;
      len = len;
    })

abbrev pub m_call : MacroPath → (len : ℕ) → Item
m_call way len = m_call_behind 0 way len

-- a definition of it without arms
abbrev pub m_definition : DelimiterKind → (len : ℕ) → Item
m_definition kind len = defines (record { name = m_name; delimiter = delimiter kind (span 0 1) (span 1 1); arms = end; len = len })

-- `m!()`, `crate::m!()`, `k::m!()` and `::k::m!()` with the root's word `k`, and `::m!()`.
call_first : item_in (codes "crate") (word (codes "m") (bang (brackets Parenthesis end))) ≡ m_call path.Name 3
call_first = refl

call_rooted : item_in (codes "k") (word (codes "crate") (colons (word (codes "m") (bang (brackets Parenthesis end))))) ≡ m_call path.Root 6
call_rooted = refl

call_root_word : item_in (codes "k") (word (codes "k") (colons (word (codes "m") (bang (brackets Parenthesis end))))) ≡ m_call path.Root 6
call_root_word = refl

call_behind_colons_root : item_in (codes "k") (colons (word (codes "k") (colons (word (codes "m") (bang (brackets Parenthesis end)))))) ≡ m_call path.Other 8
call_behind_colons_root = refl

call_elsewhere : item_in (codes "crate") (colons (word (codes "m") (bang (brackets Parenthesis end)))) ≡ m_call path.Other 5
call_elsewhere = refl

-- `if !()`, `m!`, `m != ()` and `a::m!()` are no calls.
keyword_calls_nothing : item_in (codes "crate") (word (codes "if") (bang (brackets Parenthesis end))) ≡ other
keyword_calls_nothing = refl

bang_calls_nothing : item_in (codes "crate") (word (codes "m") (bang end)) ≡ other
bang_calls_nothing = refl

unequal_calls_nothing : item_in (codes "crate") (word (codes "m") (joint 33 (alone 61 (brackets Parenthesis end)))) ≡ other
unequal_calls_nothing = refl

path_begins_nothing : item_in (codes "crate") (word (codes "a") (colons (word (codes "m") (bang (brackets Parenthesis end))))) ≡ other
path_begins_nothing = refl

-- `macro_rules! m();` and `macro_rules! m {};`: the `;` is one of its trees only after parentheses.
definition_parentheses : item_in (codes "crate") (word (codes "macro_rules") (bang (word (codes "m") (brackets Parenthesis (alone 59 end))))) ≡ m_definition Parenthesis 5
definition_parentheses = refl

definition_braces : item_in (codes "crate") (word (codes "macro_rules") (bang (word (codes "m") (brackets Brace (alone 59 end))))) ≡ m_definition Brace 4
definition_braces = refl

raw_defines_nothing : item_in (codes "crate") (raw_word (codes "macro_rules") (bang (word (codes "m") (brackets Brace end)))) ≡ other
raw_defines_nothing = refl

-- Among statements `m!();` and `m!{} a` are statements; `m!() + ..` is none, and a call in parentheses is none.
statement_ends : is_statement 0 Parenthesis (alone 59 end) (begun Statements) ≡ true
statement_ends = refl

statement_in_braces : is_statement 0 Brace (word (codes "a") end) (begun Statements) ≡ true
statement_in_braces = refl

operand_is_none : is_statement 0 Parenthesis (alone 43 end) (begun Statements) ≡ false
operand_is_none = refl

argument_is_none : is_statement 0 Parenthesis end (begun Others) ≡ false
argument_is_none = refl

-- What `{}` after `#[macro_use] mod n` defines stays in scope, and what `{}` after `mod n` defines does not.
used : keeps_macros Brace end
    (behind_leaf false (ident (codes "n")) end
    (behind_leaf false (ident (codes "mod")) end
    (behind_subtree Bracket (behind_leaf false (punct 35 Alone) (subtree Bracket (word (codes "macro_use") end)) (begun Statements)))))
    ≡ true
used = refl

not_used : keeps_macros Brace (word (codes "a") end) (behind_leaf false (ident (codes "n")) end (behind_leaf false (ident (codes "mod")) end (begun Statements))) ≡ false
not_used = refl

-- What `{#![a] #![macro_use]}` defines does too, and what `{#[macro_use]}` defines does not.
abbrev pub inner : List ℕ → Forest → Forest
inner text rest = alone 35 (bang (join (subtree Bracket (word text end)) rest))

used_inside : keeps_macros Brace (inner (codes "a") (inner (codes "macro_use") end)) (begun Items) ≡ true
used_inside = refl

not_used_inside : keeps_macros Brace (attribute (codes "macro_use") end) (begun Items) ≡ false
not_used_inside = refl

-- after a word
abbrev pub behind_word : List ℕ → Position → Position
behind_word text it = behind_leaf false (ident text) end it

-- what the braces after it contain
abbrev held_behind : Position → Siblings
held_behind it = (first_in Brace it).siblings

-- The braces of `mod m`, `unsafe impl A for fn`, `trait T` and `extern` contain items,
module_items : held_behind (behind_word (codes "m") (behind_word (codes "mod") (begun Items))) ≡ Items
module_items = refl

implementation_items : held_behind (behind_word (codes "fn") (behind_word (codes "for") (behind_word (codes "A") (behind_word (codes "impl") (behind_word (codes "unsafe") (begun Items)))))) ≡ Items
implementation_items = refl

trait_items : held_behind (behind_word (codes "T") (behind_word (codes "trait") (begun Items))) ≡ Items
trait_items = refl

foreign_items : held_behind (behind_word (codes "extern") (begun Items)) ≡ Items
foreign_items = refl

-- those of `extern fn f`, `fn f -> impl T`, `r#mod` and nothing begun, also after `mod m;`, contain statements,
foreign_function : held_behind (behind_word (codes "f") (behind_word (codes "fn") (behind_word (codes "extern") (begun Items)))) ≡ Statements
foreign_function = refl

function_statements : held_behind (behind_word (codes "T") (behind_word (codes "impl") (behind_word (codes "f") (behind_word (codes "fn") (begun Items))))) ≡ Statements
function_statements = refl

-- `r#mod`
abbrev raw_mod : Leaf
raw_mod = leaf_of.Ident (record { sym = codes "mod"; span = span 0 1; is_raw = Yes })

raw_statements : held_behind (behind_leaf false raw_mod end (begun Statements)) ≡ Statements
raw_statements = refl

ended_statements : held_behind (behind_leaf false (punct 59 Alone) end (behind_word (codes "m") (behind_word (codes "mod") (begun Items)))) ≡ Statements
ended_statements = refl

-- Braces in the angle brackets of a header end nothing: `impl A<{}>`, `impl A<{}, {}>`, `fn f<F: A -> {}>`; behind `<>`, in an expression, or
-- behind `;` they end what has begun.
abbrev behind_sign : (char : ℕ) → Position → Position
behind_sign char it = behind_leaf false (punct char Alone) end it

abbrev in_angles : List ℕ → Siblings → Position
in_angles text its = behind_sign 60 (behind_word (codes "A") (behind_word text (begun its)))

generic_braces : held_behind (behind_sign 62 (behind_subtree Brace (in_angles (codes "impl") Items))) ≡ Items
generic_braces = refl

second_braces : held_behind (behind_sign 62 (behind_subtree Brace (behind_sign 44 (behind_subtree Brace (in_angles (codes "impl") Items))))) ≡ Items
second_braces = refl

behind_arrow : (behind_subtree Brace (behind_sign 62 (behind_leaf false (punct 45 Joint) end (in_angles (codes "fn") Items)))).is_start ≡ false
behind_arrow = refl

behind_angles : (behind_subtree Brace (behind_sign 62 (in_angles (codes "impl") Items))).is_start ≡ true
behind_angles = refl

less_than : (behind_subtree Brace (in_angles (codes "if") Statements)).is_start ≡ true
less_than = refl

behind_item : (behind_subtree Brace (behind_sign 59 (in_angles (codes "fn") Items))).is_start ≡ true
behind_item = refl

-- and parentheses contain neither.
in_parentheses : (first_in Parenthesis (behind_word (codes "mod") (begun Items))).siblings ≡ Others
in_parentheses = refl

-- Among items the `;` of `m!();` is a part of it, whatever an arm made, and that of `m!{};` is not.
item_semicolon : takes_semicolon 0 Parenthesis (alone 59 end) (word (codes "a") end) (begun Items) ≡ true
item_semicolon = refl

braces_semicolon : takes_semicolon 0 Brace (alone 59 end) (word (codes "a") end) (begun Items) ≡ false
braces_semicolon = refl

later_semicolon : takes_semicolon 0 Parenthesis (alone 59 end) (word (codes "a") end) (behind_word (codes "a") (begun Items)) ≡ false
later_semicolon = refl

item_under : takes_semicolon 2 Parenthesis (alone 59 end) (word (codes "a") end) (begun Items) ≡ true
item_under = refl

-- `a;`, `{ ; }`, and `; a`
abbrev ended : Forest
ended = word (codes "a") (alone 59 end)

abbrev ended_inside : Forest
ended_inside = join (subtree Brace (alone 59 end)) end

abbrev ended_before : Forest
ended_before = alone 59 (word (codes "a") end)

-- Among statements it is if an arm made `a;`, or made nothing and something follows; it is not if an arm made `a`, `{ ; }` or `; a`.
ended_made : takes_semicolon 0 Parenthesis (alone 59 end) ended (begun Statements) ≡ true
ended_made = refl

nothing_made : takes_semicolon 0 Parenthesis (alone 59 (word (codes "a") end)) end (begun Statements) ≡ true
nothing_made = refl

nothing_at_end : takes_semicolon 0 Parenthesis (alone 59 end) end (begun Statements) ≡ false
nothing_at_end = refl

expression_made : takes_semicolon 0 Parenthesis (alone 59 end) (word (codes "a") end) (begun Statements) ≡ false
expression_made = refl

block_made : takes_semicolon 0 Parenthesis (alone 59 end) ended_inside (begun Statements) ≡ false
block_made = refl

others_made : takes_semicolon 0 Parenthesis (alone 59 end) ended_before (begun Statements) ≡ false
others_made = refl

-- It is not after attributes or braces, if a statement has begun before, or if there is none.
statement_under : takes_semicolon 2 Parenthesis (alone 59 end) ended (begun Statements) ≡ false
statement_under = refl

statement_braces : takes_semicolon 0 Brace (alone 59 end) ended (begun Statements) ≡ false
statement_braces = refl

later_statement : takes_semicolon 0 Parenthesis (alone 59 end) ended (behind_word (codes "a") (begun Statements)) ≡ false
later_statement = refl

no_semicolon : takes_semicolon 0 Parenthesis end ended (begun Statements) ≡ false
no_semicolon = refl

-- `m!();` among items expands to items, and `m!() + ..` among statements expands to neither.
items_come : siblings_of_call 0 Parenthesis (alone 59 end) (begun Items) ≡ Items
items_come = refl

operands_come : siblings_of_call 0 Parenthesis (alone 43 end) (begun Statements) ≡ Others
operands_come = refl

-- after `#` and a word in brackets, before the trees in them, if nothing is known of conditions
abbrev pub behind_attribute : List ℕ → Position → Position
behind_attribute text it = behind_subtree Bracket (behind_leaf_under unknown (punct 35 Alone) (subtree Bracket (word text end)) it)

-- An attribute precedes what follows `#[inline]`; none precedes what follows `#![inline]`, or what follows the tree after `#[cfg]`.
attributed : (behind_attribute (codes "inline") (begun Items)).is_attributed ≡ true
attributed = refl

unattributed : (behind_subtree Bracket (behind_leaf false (punct 33 Alone) (subtree Bracket (word (codes "inline") end))
    (behind_leaf false (punct 35 Alone) (bang (subtree Bracket (word (codes "inline") end))) (begun Items)))).is_attributed ≡ false
unattributed = refl

attributes_end : (behind_word (codes "a") (behind_attribute (codes "cfg") (begun Items))).is_attributed ≡ false
attributes_end = refl

-- In `#[cfg] mod m {..}` the condition is in force before the braces, in them, and there also after a `;`; it is not after the braces. None is
-- after `#[inline]`.
abbrev module_under : Position
module_under = behind_word (codes "m") (behind_word (codes "mod") (behind_attribute (codes "cfg") (begun Items)))

open_before : module_under.is_open ≡ true
open_before = refl

open_inside : (behind_leaf false (punct 59 Alone) end (first_in Brace module_under)).is_open ≡ true
open_inside = refl

open_behind : (behind_subtree Brace module_under).is_open ≡ false
open_behind = refl

not_open : (behind_attribute (codes "inline") (begun Items)).is_open ≡ false
not_open = refl

-- After `#![a]` a statement may still begin.
inner_attribute : is_statement 0 Parenthesis (alone 59 end)
    (behind_subtree Bracket (behind_leaf false (punct 33 Alone) end (behind_leaf false (punct 35 Alone) (alone 33 end) (begun Statements))))
    ≡ true
inner_attribute = refl

-- The trees of no attribute, of one and of two; `# m`, `#![a]` and what follows another tree are none.
no_attribute : attributes_len end ≡ 0
no_attribute = refl

one_attribute : attributes_len (attribute (codes "cfg") end) ≡ 2
one_attribute = refl

two_attributes : attributes_len (attribute (codes "inline") (attribute (codes "cfg") (word (codes "m") end))) ≡ 4
two_attributes = refl

sign_alone : attributes_len (alone 35 (word (codes "m") end)) ≡ 0
sign_alone = refl

inner_is_none : attributes_len (alone 35 (bang (brackets Bracket end))) ≡ 0
inner_is_none = refl

parentheses_are_none : attributes_len (alone 35 (brackets Parenthesis end)) ≡ 0
parentheses_are_none = refl

behind_another : attributes_len (attribute (codes "cfg") (word (codes "m") (attribute (codes "cfg") end))) ≡ 2
behind_another = refl

-- The condition of `#[cfg]` is that one, and those of `#[cfg] #[inline] #[cfg]` are the first and the last.
one_condition : conditions_of (attribute (codes "cfg") end) ≡ attribute (codes "cfg") end
one_condition = refl

two_conditions : conditions_of (attribute (codes "cfg") (attribute (codes "inline") (attribute (codes "cfg") end))) ≡ attribute (codes "cfg") (attribute (codes "cfg") end)
two_conditions = refl

-- `m!();`
abbrev pub m_item : Forest
m_item = word (codes "m") (bang (brackets Parenthesis (alone 59 end)))

-- `#[cfg] m!();` is one item; so are `#[cfg] #[inline] m!();`, `#[inline] m!();`, and `#[cfg] m!()` with nothing after it.
under_condition : item_at (codes "crate") (begun Items) (attribute (codes "cfg") m_item) ≡ m_call_behind 2 path.Name 5
under_condition = refl

behind_two : item_at (codes "crate") (begun Items) (attribute (codes "cfg") (attribute (codes "inline") m_item)) ≡ m_call_behind 4 path.Name 7
behind_two = refl

last_statement : item_at (codes "crate") (begun Statements) (attribute (codes "cfg") (word (codes "m") (bang (brackets Parenthesis end)))) ≡ m_call_behind 2 path.Name 5
last_statement = refl

other_attribute : item_at (codes "crate") (begun Items) (attribute (codes "inline") m_item) ≡ m_call_behind 2 path.Name 5
other_attribute = refl

-- `#[cfg] m!() + ..` is none, and what follows the first of two attributes is none,
operand_under_condition : item_at (codes "crate") (begun Statements) (attribute (codes "cfg") (word (codes "m") (bang (brackets Parenthesis (alone 43 end))))) ≡ other
operand_under_condition = refl

second_condition : item_at (codes "crate") (behind_attribute (codes "cfg") (begun Items)) (attribute (codes "cfg") m_item) ≡ other
second_condition = refl

-- and neither is one if no statement begins there, or a definition.
later_condition : item_at (codes "crate") (behind_word (codes "a") (begun Items)) (attribute (codes "cfg") m_item) ≡ other
later_condition = refl

definition_under_condition : item_at (codes "crate") (begun Items) (attribute (codes "cfg") (word (codes "macro_rules") (bang (word (codes "m") (brackets Brace end))))) ≡ other
definition_under_condition = refl

-- Without an attribute, what comes first is that, also after one.
without_condition : item_at (codes "crate") (begun Items) m_item ≡ m_call path.Name 3
without_condition = refl

behind_condition : item_at (codes "crate") (behind_attribute (codes "cfg") (begun Items)) m_item ≡ m_call path.Name 3
behind_condition = refl
