-- The position of a tree among its siblings, as far as it matters to the tree.
use Rattle.std.specs.Prelude.{ℕ, ◌+◌, ◌-◌, ◌^◌, ◌==◌, ◌&&◌, ◌||◌, min, not, nat_lt, Bool, true, false, List, codes, bytes_eq, if◌then◌else◌}
use Rattle.tt.specs.Forest.{Forest, end, leaf, node}
use Rattle.tt.specs.Gluing.{after_trees}
use Rattle.tt.specs.Moves.{after_tree}
use Rattle.tt.specs.Siblings.{is_end}
use Rattle.tt.specs.Types.DelimiterKind.{DelimiterKind}
use Rattle.tt.specs.Types.DelimiterKind.TheVariants as delimited
use Rattle.tt.specs.Types.Ident.{Ident}
use Rattle.tt.specs.Types.IdentIsRaw.{IdentIsRaw}
use Rattle.tt.specs.Types.IdentIsRaw.TheVariants as raw
use Rattle.tt.specs.Types.Leaf.{Leaf}
use Rattle.tt.specs.Types.Leaf.TheVariants as leaf_of
use Rattle.expand_items.specs.declared.expression.Enclosure.{Enclosure}
use Rattle.expand_items.specs.declared.expression.Enclosure.TheVariants as enclosed
use Rattle.expand_items.specs.declared.front.Front.TheVariants as front
use Rattle.expand_items.specs.declared.head.Head.{Head}
use Rattle.expand_items.specs.declared.head.Head.TheVariants as head
use Rattle.expand_items.specs.declared.position.Position.{Position}
use Rattle.expand_items.specs.declared.position.Siblings.{Siblings}
use Rattle.expand_items.specs.declared.position.Siblings.TheVariants as siblings
use Rattle.expand_items.specs.Expressions.{are_statements, enclosure_at_start, fits_before, goes_on, is_invisible, needs_no_semicolon}
use Rattle.expand_items.specs.Fronts.{front_behind, front_behind_ident, front_of_expansion, is_arrow, is_at_start, is_free}
use Rattle.mbe_pattern.specs.Units.{is_at_word, is_brace, is_at_punct}
use Rattle.mbe_pattern.specs.Spelling.{is_parenthesis}

-- these siblings are statements or items
abbrev pub is_block : Siblings → Bool
is_block siblings.Items = true
is_block siblings.Statements = true
is_block siblings.Others = false

-- these siblings are items
abbrev pub is_items : Siblings → Bool
is_items siblings.Items = true
is_items siblings.Statements = false
is_items siblings.Others = false

-- with one word more: the first of `mod`, `impl`, `trait` and `fn` says what the braces of
-- an item contain, and `extern` says it if none of them follows
abbrev pub head_of_word : (word : List ℕ) → Head → Head
head_of_word word it =
    if bytes_eq word (codes "mod") || (bytes_eq word (codes "impl") || bytes_eq word (codes "trait")) then head.Items
    else (if bytes_eq word (codes "fn") then head.Function else (if bytes_eq word (codes "extern") then head.Foreign else it))

abbrev pub head_behind : (word : List ℕ) → Head → Head
head_behind word head.Unknown = head_of_word word head.Unknown
head_behind word head.Foreign = head_of_word word head.Foreign
head_behind word head.Items = head.Items
head_behind word head.Function = head.Function

-- a `<` after it opens generic parameters or arguments
abbrev pub is_header : Head → Bool
is_header head.Unknown = false
is_header head.Foreign = false
is_header head.Items = true
is_header head.Function = true

-- what the braces after it contain
abbrev pub held_by : Head → Siblings
held_by head.Unknown = siblings.Statements
held_by head.Foreign = siblings.Items
held_by head.Items = siblings.Items
held_by head.Function = siblings.Statements

-- square brackets
abbrev pub is_bracket : DelimiterKind → Bool
is_bracket delimited.Parenthesis = false
is_bracket delimited.Brace = false
is_bracket delimited.Bracket = true
is_bracket delimited.Invisible = false
is_bracket delimited.InvisibleOpaque = false

-- square brackets come first
abbrev pub is_at_brackets : Forest → Bool
is_at_brackets end = false
is_at_brackets (leaf it rest) = false
is_at_brackets (node delimiter children rest) = is_bracket delimiter.kind

-- brackets that begin with a word
abbrev pub is_attribute_of : (word : List ℕ) → DelimiterKind → (inside : Forest) → Bool
is_attribute_of word kind inside = is_bracket kind && is_at_word word inside

-- such brackets come first
abbrev pub is_at_attribute_of : (word : List ℕ) → Forest → Bool
is_at_attribute_of word end = false
is_at_attribute_of word (leaf it rest) = false
is_at_attribute_of word (node delimiter children rest) = is_attribute_of word delimiter.kind children

-- before the first of such siblings
abbrev pub begun : Siblings → Position
begun its =
    record {
      siblings = its;
      is_start = is_block its;
      head = head.Unknown;
      angles = 0;
      is_used = false;
      is_attributed = false;
      is_exported = false;
      is_built_in = false;
      is_attribute = false;
      is_under = false;
      is_open = false;
      is_top = true;
      is_in_attribute = false;
      is_verbatim = false;
      front = front.Free;
    }

-- what the trees in brackets of a kind are, and the position before the first of them: all are under a condition that is in force before them
abbrev pub siblings_in : DelimiterKind → Position → Siblings
siblings_in kind it = if is_brace kind then held_by it.head else siblings.Others

abbrev pub first_in : DelimiterKind → Position → Position
first_in kind it =
    record (begun (siblings_in kind it)) {
      is_under = it.is_open;
      is_open = it.is_open;
      is_top = false;
      is_in_attribute = it.is_attribute && is_bracket kind;
      is_verbatim = it.is_verbatim || it.is_in_attribute;
    }

-- the same, with these trees behind them: what an invisible subtree contains is a statement if the subtree and a `;` are
abbrev pub first_inside : DelimiterKind → (behind : Forest) → Position → Position
first_inside kind behind it =
    if it.is_start && (is_invisible kind && is_at_punct (codes ";") behind)
    then record (first_in kind it) { siblings = it.siblings; is_start = true; is_top = true } else first_in kind it

-- the position after trees that end a statement or an item if `ends`
abbrev pub behind : (ends : Bool) → Position → Position
behind ends it =
    record {
      siblings = it.siblings;
      is_start = is_block it.siblings && ends;
      head = if ends then head.Unknown else it.head;
      angles = if ends then 0 else it.angles;
      is_used = false;
      is_attributed = false;
      is_exported = false;
      is_built_in = false;
      is_attribute = false;
      is_under = it.is_under;
      is_open = if ends then it.is_under else it.is_open;
      is_top = it.is_top;
      is_in_attribute = it.is_in_attribute;
      is_verbatim = it.is_verbatim;
      front = front.Bound;
    }

-- after `#`, before these trees: it begins an attribute, which may be a condition that is not known to be true
abbrev pub behind_attribute_sign : (is_open : Bool) → Forest → Position → Position
behind_attribute_sign is_open trees it =
    record it {
      is_used = it.is_used || is_at_attribute_of (codes "macro_use") trees;
      is_attributed = it.is_attributed || is_at_brackets trees;
      is_exported = it.is_exported || is_at_attribute_of (codes "macro_export") trees;
      is_built_in = it.is_built_in || is_at_attribute_of (codes "rustc_builtin_macro") trees;
      is_attribute = true;
      is_open = it.is_open || is_open;
    }

-- how many `<` of a header are open after a punct: `;` ends the header, and `->` closes none
abbrev pub angles_behind : (char : ℕ) → Position → ℕ
angles_behind char it =
    if char == 59 then 0
    else (if char == 60 && is_header it.head then min (it.angles + 1) (2 ^ 64 - 1)
    else (if char == 62 && not (is_arrow it.front) then it.angles - 1 else it.angles))

-- after a punct, before these trees: `!` after `#` is part of an attribute, and `;` ends a statement or an item
abbrev pub behind_punct : (is_open : Bool) → (char : ℕ) → Forest → Position → Position
behind_punct is_open char trees it =
    if char == 35 then behind_attribute_sign is_open trees it
    else (if char == 33 && it.is_attribute then it else record (behind (char == 59) it) { angles = angles_behind char it })

-- what the words say after an ident, which is a word if it is not raw
abbrev pub head_behind_ident : IdentIsRaw → (word : List ℕ) → Head → Head
head_behind_ident raw.No word it = head_behind word it
head_behind_ident raw.Yes word it = it

-- after an ident, which leaves `#[macro_use]` in force
abbrev pub behind_ident : Ident → Position → Position
behind_ident ident it =
    record it {
      is_start = false;
      head = head_behind_ident ident.is_raw ident.sym it.head;
      is_attributed = false;
      is_exported = false;
      is_built_in = false;
      is_attribute = false;
      front = front_behind_ident ident.is_raw ident.sym;
    }

-- after a leaf, before these trees; `is_open`: a condition begins with it that is not known to be true
abbrev pub behind_leaf : (is_open : Bool) → Leaf → Forest → Position → Position
behind_leaf is_open (leaf_of.Literal literal) trees it = behind false it
behind_leaf is_open (leaf_of.Punct punct) trees it = record (behind_punct is_open punct.char trees it) { front = front_behind punct it.front }
behind_leaf is_open (leaf_of.Ident ident) trees it = behind_ident ident it

-- after a subtree of a kind: an attribute changes nothing, parentheses leave
-- `#[macro_use]` in force, and braces end a statement or an item, unless a `<` of its header is open
abbrev pub behind_subtree : DelimiterKind → Position → Position
behind_subtree kind it =
    if it.is_attribute then record it { is_attribute = false }
    else record (behind (is_brace kind && (it.angles == 0)) it) { is_used = it.is_used && is_parenthesis kind }

-- an inner attribute comes first: `#`, `!` and brackets
abbrev pub is_at_inner : Forest → Bool
is_at_inner trees = is_at_punct (codes "#") trees && (is_at_punct (codes "!") (after_tree trees) && is_at_brackets (after_trees 2 trees))

-- one of the inner attributes that come first begins with a word
abbrev pub begins_with_attribute : (word : List ℕ) → Forest → Bool
begins_with_attribute word end = false
begins_with_attribute word (node delimiter children rest) = false
begins_with_attribute word (leaf it end) = false
begins_with_attribute word (leaf it (node delimiter children rest)) = false
begins_with_attribute word (leaf it (leaf next end)) = false
begins_with_attribute word (leaf it (leaf next (leaf third rest))) = false
begins_with_attribute word (leaf it (leaf next (node delimiter children rest))) =
    if is_at_inner (leaf it (leaf next (node delimiter children rest)))
    then is_attribute_of word delimiter.kind children || begins_with_attribute word rest else false

-- what a subtree of a kind defines stays in scope after it: in braces under `#[macro_use]`, or that begin with `#![macro_use]`
abbrev pub keeps_macros : DelimiterKind → (children : Forest) → Position → Bool
keeps_macros kind children it =
    is_brace kind && (not it.is_attribute && (it.is_used || begins_with_attribute (codes "macro_use") children))

-- a call with so many trees of attributes and a subtree of a kind ends a statement or an item before these trees: at the end, without
-- attributes, one in parentheses or brackets does so only among items or at the end of an expansion
abbrev pub ends_statement : (attributes : ℕ) → DelimiterKind → (behind : Forest) → Position → Bool
ends_statement attributes kind behind it =
    if is_end behind then is_brace kind || (is_items it.siblings || (it.is_top || nat_lt 0 attributes))
    else is_at_punct (codes ";") behind || (is_brace kind && not (goes_on behind))

-- a call is a statement or an item, if these trees follow it: it begins at the start of one, and ends one
abbrev pub is_statement : (attributes : ℕ) → DelimiterKind → (behind : Forest) → Position → Bool
is_statement attributes kind behind it = it.is_start && ends_statement attributes kind behind it

-- the `;` after a call, of which an arm made these trees, is a part of it: at an item, because no `;` may come alone among items; and at a
-- statement without attributes, if the trees need none
abbrev pub takes_semicolon : (attributes : ℕ) → DelimiterKind → (behind made : Forest) → Position → Bool
takes_semicolon attributes kind behind made it =
    it.is_start && (not (is_brace kind) && (is_at_punct (codes ";") behind
    && (is_items it.siblings || ((attributes == 0) && needs_no_semicolon made behind))))

-- what the trees that a call expands to are: its siblings, if it is a statement or an item
abbrev pub siblings_of_call : (attributes : ℕ) → DelimiterKind → (behind : Forest) → Position → Siblings
siblings_of_call attributes kind behind it = if is_statement attributes kind behind it then it.siblings else siblings.Others

-- the position before the first of these trees
abbrev pub first_of_call : (attributes : ℕ) → DelimiterKind → (behind : Forest) → Position → Position
first_of_call attributes kind behind it =
    record (begun (siblings_of_call attributes kind behind it)) { front = front_of_expansion it.is_start it.front }

-- how the expansion of a call is enclosed: a statement or an item is bare, and so is an expression that is whole between its neighbours;
-- statements are refused if an expression is wanted
abbrev pub enclosure : (attributes : ℕ) → DelimiterKind → (behind expansion : Forest) → Position → Enclosure
enclosure attributes kind behind expansion it =
    if is_statement attributes kind behind it then enclosed.Bare
    else (if are_statements expansion then enclosed.Refused
    else (if is_at_start it.is_start it.front then enclosure_at_start behind expansion
    else (if fits_before expansion behind && is_free it.front then enclosed.Bare else enclosed.Opaque)))
