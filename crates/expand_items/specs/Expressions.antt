-- Expansions in the place of an expression: how they begin, how they end, and what follows them.
use Rattle.std.specs.Prelude.{ℕ, ◌==◌, ◌||◌, ◌&&◌, not, Bool, true, false, List, codes, bytes_eq, if◌then◌else◌}
use Rattle.tt.specs.Forest.{Forest, end, leaf, node}
use Rattle.tt.specs.Moves.{after_tree}
use Rattle.tt.specs.Siblings.{is_end}
use Rattle.tt.specs.Types.DelimiterKind.{DelimiterKind}
use Rattle.tt.specs.Types.DelimiterKind.TheVariants as delimited
use Rattle.tt.specs.Types.IdentIsRaw.{IdentIsRaw}
use Rattle.tt.specs.Types.IdentIsRaw.TheVariants as raw
use Rattle.tt.specs.Types.Leaf.{Leaf}
use Rattle.tt.specs.Types.Leaf.TheVariants as leaf_of
use Rattle.expand_items.specs.declared.expression.Enclosure.{Enclosure}
use Rattle.expand_items.specs.declared.expression.Enclosure.TheVariants as enclosed
use Rattle.mbe_pattern.specs.Units.{is_at_word, is_brace, is_at_punct, is_word, unit_size}

-- a subtree without brackets
abbrev pub is_invisible : DelimiterKind → Bool
is_invisible delimited.Parenthesis = false
is_invisible delimited.Brace = false
is_invisible delimited.Bracket = false
is_invisible delimited.Invisible = true
is_invisible delimited.InvisibleOpaque = true

-- such a subtree comes first
abbrev pub is_at_invisible : Forest → Bool
is_at_invisible end = false
is_at_invisible (leaf it rest) = false
is_at_invisible (node delimiter children rest) = is_invisible delimiter.kind

-- braces come first
abbrev pub is_at_braces : Forest → Bool
is_at_braces end = false
is_at_braces (leaf it rest) = false
is_at_braces (node delimiter children rest) = is_brace delimiter.kind

-- `!` and braces come first
abbrev pub is_at_braced_call : Forest → Bool
is_at_braced_call trees = is_at_punct (codes "!") trees && is_at_braces (after_tree trees)

-- an expression that begins with this word begins with a block
abbrev pub begins_with_block : (word : List ℕ) → Bool
begins_with_block word =
    bytes_eq word (codes "if") || (bytes_eq word (codes "match") || (bytes_eq word (codes "loop") || (bytes_eq word (codes "while")
    || (bytes_eq word (codes "for") || (bytes_eq word (codes "unsafe") || (bytes_eq word (codes "const") || bytes_eq word (codes "async")))))))

-- so does one that begins with this ident before these trees: such a word, or the name of a macro that is called in braces
abbrev pub begins_block_as : IdentIsRaw → (word : List ℕ) → (rest : Forest) → Bool
begins_block_as raw.Yes word rest = false
begins_block_as raw.No word rest = begins_with_block word || is_at_braced_call rest

-- an expression of these trees begins with a block: with braces, with such an ident, with a label, or with an invisible subtree that does
abbrev pub begins_block : Forest → Bool
begins_block end = false
begins_block (leaf (leaf_of.Literal it) rest) = false
begins_block (leaf (leaf_of.Punct it) rest) = it.char == 39
begins_block (leaf (leaf_of.Ident it) rest) = begins_block_as it.is_raw it.sym rest
begins_block (node delimiter children rest) = is_brace delimiter.kind || (is_invisible delimiter.kind && begins_block children)

-- a subtree comes first
abbrev pub is_at_subtree : Forest → Bool
is_at_subtree end = false
is_at_subtree (leaf it rest) = false
is_at_subtree (node delimiter children rest) = true

-- a call of a macro by its name comes first
abbrev pub is_at_call : Forest → Bool
is_at_call end = false
is_at_call (leaf (leaf_of.Literal it) rest) = false
is_at_call (leaf (leaf_of.Punct it) rest) = false
is_at_call (leaf (leaf_of.Ident it) rest) = is_at_punct (codes "!") rest && is_at_subtree (after_tree rest)
is_at_call (node delimiter children rest) = false

-- something follows the first braces, or braces that come after `else`
abbrev pub block_goes_on : Forest → Bool
block_goes_on end = false
block_goes_on (leaf it rest) = block_goes_on rest
block_goes_on (node delimiter children rest) =
    if is_brace delimiter.kind && not (is_at_word (codes "else") rest) then not (is_end rest) else block_goes_on rest

-- at the beginning of a statement or an arm, an expression of these trees ends before its end, with the block that it begins with
abbrev pub is_split : Forest → Bool
is_split trees = begins_block trees && (block_goes_on trees || (is_at_invisible trees && not (is_end (after_tree trees))))

-- an expression that a call in braces begins goes on with `.` or `?`
abbrev pub goes_on : Forest → Bool
goes_on trees = (unit_size trees == 1) && (is_at_punct (codes ".") trees || is_at_punct (codes "?") trees)

-- `=>` comes first
abbrev pub is_at_arrow : Forest → Bool
is_at_arrow trees = is_at_punct (codes "=") trees && is_at_punct (codes ">") (after_tree trees)

-- an expression may end before these trees, whatever it is
abbrev pub may_end : Forest → Bool
may_end trees = is_end trees || (is_at_punct (codes ",") trees || (is_at_punct (codes ";") trees || is_at_arrow trees))

-- a leaf before these trees makes a block of them, or takes the braces behind them: the `!` of a call, or `return`
abbrev pub takes_block : Leaf → (rest : Forest) → Bool
takes_block (leaf_of.Literal it) rest = false
takes_block (leaf_of.Punct it) rest = (it.char == 33) && is_at_subtree rest
takes_block (leaf_of.Ident it) rest = is_word (codes "return") it.is_raw it.sym

-- the first tree is, may become or takes a block: braces, an invisible subtree, the `!` of a call, or `return`
abbrev pub is_at_block : Forest → Bool
is_at_block end = false
is_at_block (leaf it rest) = takes_block it rest
is_at_block (node delimiter children rest) = is_brace delimiter.kind || is_invisible delimiter.kind

-- none of these trees does
abbrev pub has_no_block : Forest → Bool
has_no_block end = true
has_no_block (leaf it rest) = not (is_at_block (leaf it rest)) && has_no_block rest
has_no_block (node delimiter children rest) = not (is_at_block (node delimiter children rest)) && has_no_block rest

-- an expression of these trees may end before others: before braces only if it has no block, as in `if a == b {}`
abbrev pub fits_before : (trees behind : Forest) → Bool
fits_before trees behind = may_end behind || (is_at_braces behind && has_no_block trees)

-- an `=` that is a token comes first
abbrev pub is_at_assignment : Forest → Bool
is_at_assignment trees = (unit_size trees == 1) && is_at_punct (codes "=") trees

-- how an expansion is enclosed at the beginning of a statement or an arm, before these trees: the block that it begins with must not end it
abbrev pub enclosure_at_start : (behind expansion : Forest) → Enclosure
enclosure_at_start behind expansion =
    if fits_before expansion behind then (if is_split expansion then enclosed.Opaque else enclosed.Bare)
    else (if begins_block expansion || is_at_call expansion then enclosed.Parentheses else enclosed.Opaque)

-- a `;` is the only tree
abbrev pub is_last_semicolon : Forest → Bool
is_last_semicolon trees = is_at_punct (codes ";") trees && is_end (after_tree trees)

-- the trees without a `;` at their end
abbrev pub without_semicolon : Forest → Forest
without_semicolon end = end
without_semicolon (leaf it rest) = if is_last_semicolon (leaf it rest) then end else leaf it (without_semicolon rest)
without_semicolon (node delimiter children rest) = node delimiter children (without_semicolon rest)

-- the last of the trees is a `;`
abbrev pub ends_with_semicolon : Forest → Bool
ends_with_semicolon end = false
ends_with_semicolon (leaf it rest) = is_last_semicolon (leaf it rest) || ends_with_semicolon rest
ends_with_semicolon (node delimiter children rest) = ends_with_semicolon rest

-- a statement of these trees needs no `;` behind them, if a `;` and others follow: the last of the trees is a `;`; or there are none, and the
-- `;` does not end a block, since it keeps an expression before it from being the value of the block
abbrev pub needs_no_semicolon : (trees behind : Forest) → Bool
needs_no_semicolon trees behind = if is_end trees then not (is_end (after_tree behind)) else ends_with_semicolon trees

-- one of the trees is a `;`
abbrev pub has_semicolon : Forest → Bool
has_semicolon end = false
has_semicolon (leaf it rest) = is_at_punct (codes ";") (leaf it rest) || has_semicolon rest
has_semicolon (node delimiter children rest) = has_semicolon rest

-- the trees are statements and no expression: they begin with `let`, or one of them is a `;`
abbrev pub are_statements : Forest → Bool
are_statements trees = is_at_word (codes "let") trees || has_semicolon trees
