-- What comes first among siblings: a definition of a macro, a call of one, or something else.
use Rattle.std.specs.Prelude.{ℕ, ◌+◌, ◌==◌, ◌&&◌, ◌||◌, Bool, true, false, List, Option, None, Some, codes, if◌then◌else◌}
use Rattle.tt.specs.Expectations.{first_leaf_as, as_ident_or_underscore}
use Rattle.tt.specs.Forest.{Forest, end, leaf, node}
use Rattle.tt.specs.Gluing.{after_trees}
use Rattle.tt.specs.Iters.{rest_of}
use Rattle.tt.specs.Moves.{after_tree}
use Rattle.tt.specs.Types.Delimiter.{Delimiter}
use Rattle.tt.specs.Types.DelimiterKind.{DelimiterKind}
use Rattle.tt.specs.Types.Ident.{Ident}
use Rattle.tt.specs.Types.Leaf.TheVariants as leaf_of
use Rattle.expand_items.specs.declared.item.Call as call
use Rattle.expand_items.specs.declared.item.Definition as definition
use Rattle.expand_items.specs.declared.item.Item as item
use Rattle.expand_items.specs.declared.item.Item.TheVariants as item_of
use Rattle.expand_items.specs.declared.item.MacroPath.{MacroPath}
use Rattle.expand_items.specs.declared.item.MacroPath.TheVariants as path
use Rattle.mbe_grammar.specs.declared.test.Test.TheVariants as test
use Rattle.mbe_grammar.specs.Tests.{passes}
use Rattle.mbe_grammar.specs.Units.{first_unit}
use Rattle.mbe_pattern.specs.Units.{is_at_word, is_brace, is_at_punct, unit_size}

-- a definition of a macro: its name, the trees of its arms under a delimiter, and its number of trees
pub record Definition : Type 0 where
  pub name : Ident
  pub delimiter : Delimiter
  pub arms : Forest
  pub len : ℕ

-- a call of a macro: the number of trees of attributes that are a part of it, its name and what precedes that, the input under a delimiter,
-- and its number of trees, with the attributes
pub record Call : Type 0 where
  pub attributes : ℕ
  pub name : Ident
  pub path : MacroPath
  pub delimiter : Delimiter
  pub input : Forest
  pub len : ℕ

-- a path is the root of the crate
abbrev pub is_root : MacroPath → Bool
is_root path.Name = false
is_root path.Root = true
is_root path.Other = false

-- it is neither nothing nor the root of the crate
abbrev pub is_elsewhere : MacroPath → Bool
is_elsewhere path.Name = false
is_elsewhere path.Root = false
is_elsewhere path.Other = true

-- what comes first among siblings
pub data Item : Type 0 where
  defines : Definition → Item
  calls : Call → Item
  inactive : (len : ℕ) → Item
  other : Item

-- an ident that may name a macro
abbrev pub unless_keyword : (is_name : Bool) → Option Ident → Option Ident
unless_keyword is_name None = None
unless_keyword is_name (Some it) = if is_name then Some it else None

-- the name of a macro that comes first: an ident, unless it is a keyword that is not raw
abbrev pub name_in : Forest → Option Ident
name_in trees = unless_keyword (passes test.Name (first_unit trees)) (first_leaf_as as_ident_or_underscore trees)

-- the number of trees of a definition: the `;` after parentheses or brackets is one of them
abbrev pub definition_len : DelimiterKind → (behind : Forest) → ℕ
definition_len kind behind = if is_brace kind then 4 else (if is_at_punct (codes ";") behind then 5 else 4)

-- the definition of a name, if a subtree follows the name
abbrev pub defined_as : Ident → Forest → Option Definition
defined_as name end = None
defined_as name (leaf it rest) = None
defined_as name (node delimiter children rest) =
    Some (record { name = name; delimiter = delimiter; arms = children; len = definition_len delimiter.kind rest })

-- the same, if there is a name
abbrev pub definition_from : Option Ident → Forest → Option Definition
definition_from None trees = None
definition_from (Some name) trees = defined_as name trees

-- a name and a subtree
abbrev pub definition_behind : Forest → Option Definition
definition_behind trees = definition_from (name_in trees) (after_tree trees)

-- the definition that comes first: `macro_rules`, `!`, a name and a subtree
abbrev pub definition_in : Forest → Option Definition
definition_in trees =
    if is_at_word (codes "macro_rules") trees
    then (if is_at_punct (codes "!") (after_tree trees) then definition_behind (after_tree (after_tree trees)) else None)
    else None

-- the call of a name, if a subtree follows the `!`; so many trees before the name are a part of it
abbrev pub called_as : (before : ℕ) → MacroPath → Ident → Forest → Option Call
called_as before way name end = None
called_as before way name (leaf it rest) = None
called_as before way name (node delimiter children rest) =
    Some (record { attributes = 0; name = name; path = way; delimiter = delimiter; input = children; len = before + 3 })

-- the same, if there are a name and a `!`
abbrev pub call_from : (before : ℕ) → MacroPath → Option Ident → (is_call : Bool) → Forest → Option Call
call_from before way None is_call trees = None
call_from before way (Some name) false trees = None
call_from before way (Some name) true trees = called_as before way name trees

-- a name, `!` and a subtree
abbrev pub call_behind : (before : ℕ) → MacroPath → Forest → Option Call
call_behind before way trees =
    call_from before way (name_in trees) (is_at_punct (codes "!") (after_tree trees)) (after_trees 2 trees)

-- `::` comes first, as one token
abbrev pub is_at_colons : Forest → Bool
is_at_colons trees = if unit_size trees == 2 then is_at_punct (codes ":") trees && is_at_punct (codes ":") (after_tree trees) else false

-- the root of the crate comes first: `crate`, or the root's word
abbrev pub is_at_root : (root : List ℕ) → Forest → Bool
is_at_root root trees = is_at_word (codes "crate") trees || is_at_word root trees

-- the root of the crate and `::` come first
abbrev pub is_at_root_path : (root : List ℕ) → Forest → Bool
is_at_root_path root trees = is_at_root root trees && is_at_colons (after_tree trees)

-- the call whose path begins with `::`, if these trees follow that
abbrev pub call_behind_colons : (root : List ℕ) → Forest → Option Call
call_behind_colons root trees =
    if is_at_root_path root trees then call_behind 5 path.Other (after_trees 3 trees) else call_behind 2 path.Other trees

-- the call that comes first: with `::` before its path; with the crate's root and `::`; or with nothing before its name
abbrev pub call_in : (root : List ℕ) → Forest → Option Call
call_in root trees =
    if is_at_colons trees then call_behind_colons root (after_trees 2 trees)
    else (if is_at_root_path root trees then call_behind 3 path.Root (after_trees 3 trees) else call_behind 0 path.Name trees)

-- a `!` or a `:` comes first
abbrev pub is_at_sign : Forest → Bool
is_at_sign end = false
is_at_sign (leaf (leaf_of.Literal it) rest) = false
is_at_sign (leaf (leaf_of.Punct it) rest) = (it.char == 33) || (it.char == 58)
is_at_sign (leaf (leaf_of.Ident it) rest) = false
is_at_sign (node delimiter children rest) = false

-- a definition or a call may come first: an ident and one of these signs, or a `:`
abbrev pub may_begin_item : Forest → Bool
may_begin_item end = false
may_begin_item (leaf (leaf_of.Literal it) rest) = false
may_begin_item (leaf (leaf_of.Punct it) rest) = it.char == 58
may_begin_item (leaf (leaf_of.Ident it) rest) = is_at_sign rest
may_begin_item (node delimiter children rest) = false

-- a definition, or else a call, or else something else
abbrev pub item_from : Option Definition → Option Call → Item
item_from (Some it) found = defines it
item_from None (Some it) = calls it
item_from None None = other

-- what comes first
abbrev pub item_in : (root : List ℕ) → Forest → Item
item_in root trees = item_from (definition_in trees) (call_in root trees)

-- what the values of the code mean
abbrev pub definition_of : definition.Definition → Definition
definition_of it = record { name = it.name; delimiter = it.header.delimiter; arms = rest_of it.arms; len = it.len }

abbrev pub call_of : call.Call → Call
call_of it =
    record {
      attributes = it.attributes;
      name = it.name;
      path = it.path;
      delimiter = it.header.delimiter;
      input = rest_of it.input;
      len = it.len;
    }

abbrev pub item_meant : item.Item → Item
item_meant (item_of.Definition it) = defines (definition_of it)
item_meant (item_of.Call it) = calls (call_of it)
item_meant (item_of.Inactive len) = inactive len
item_meant item_of.Other = other
