-- Operands: primary and postfix expressions, and paths. They belong together whatever surrounds them, but for a few tokens behind them.
use Rattle.std.specs.Prelude.{ℕ, zero, suc, ◌==◌, ◌||◌, ◌&&◌, not, nat_lt, Bool, true, false, List, codes, bytes_eq, if◌then◌else◌}
use Rattle.tt.specs.Forest.{Forest, end, leaf, node}
use Rattle.tt.specs.Moves.{after_tree}
use Rattle.tt.specs.Siblings.{is_end}
use Rattle.tt.specs.Types.DelimiterKind.{DelimiterKind}
use Rattle.tt.specs.Types.Ident.{Ident}
use Rattle.tt.specs.Types.IdentIsRaw.{IdentIsRaw}
use Rattle.tt.specs.Types.IdentIsRaw.TheVariants as raw
use Rattle.tt.specs.Types.Leaf.{Leaf}
use Rattle.tt.specs.Types.Leaf.TheVariants as leaf_of
use Rattle.expand_items.specs.declared.operand.Angles.{Angles}
use Rattle.expand_items.specs.declared.operand.Operand.{Operand}
use Rattle.expand_items.specs.declared.operand.Operand.TheVariants as operand
use Rattle.expand_items.specs.Expressions.{goes_on}
use Rattle.expand_items.specs.Positions.{is_bracket}
use Rattle.mbe_pattern.specs.Units.{is_at_punct, unit_size}
use Rattle.mbe_pattern.specs.Spelling.{is_parenthesis}

-- an operand begins with a raw ident, or with a word that is none of these
abbrev pub begins_operand : IdentIsRaw → (word : List ℕ) → Bool
begins_operand raw.Yes word = true
begins_operand raw.No word =
    not (bytes_eq word (codes "return") || (bytes_eq word (codes "break") || (bytes_eq word (codes "yield") || (bytes_eq word (codes "become")
    || (bytes_eq word (codes "do") || (bytes_eq word (codes "dyn") || bytes_eq word (codes "impl")))))))

-- parentheses or square brackets
abbrev pub is_list : DelimiterKind → Bool
is_list kind = is_parenthesis kind || is_bracket kind

-- an expression goes on with `.` or `?`
abbrev pub goes_on_with : (char : ℕ) → Operand
goes_on_with char = if char == 46 then operand.Dot else (if char == 63 then operand.Whole else operand.Other)

-- `<`, the outermost, of a type or not
abbrev pub opened : (is_type : Bool) → Operand
opened is_type = operand.Angles (record { depth = 0; is_type = is_type; is_arrow = false })

-- in angle brackets: one more is open, at most a hundred
abbrev pub deeper : Angles → Operand
deeper it = if nat_lt it.depth 100 then operand.Angles (record it { depth = suc it.depth; is_arrow = false }) else operand.Other

-- one is closed: after the outermost ones a path is complete, and that of a type ends there
abbrev pub closed : (is_type : Bool) → Operand
closed true = operand.Generic
closed false = operand.Path

abbrev pub shallower_from : (depth : ℕ) → Angles → Operand
shallower_from zero it = closed it.is_type
shallower_from (suc depth) it = operand.Angles (record it { depth = depth; is_arrow = false })

abbrev pub shallower : Angles → Operand
shallower it = shallower_from it.depth it

-- another tree, which is `-` or `=` if `is_arrow`
abbrev pub inside : (is_arrow : Bool) → Angles → Operand
inside is_arrow it = operand.Angles (record it { is_arrow = is_arrow })

-- a punct: the `>` of `->` and `=>` closes nothing
abbrev pub angles_behind : (char : ℕ) → Angles → Operand
angles_behind char it =
    if char == 60 then deeper it else (if char == 62 && not it.is_arrow then shallower it else inside (char == 45 || char == 61) it)

-- trees with a punct more: `::` before or in a path, `<` behind `::` or in a type, `!` behind a path, `.` and `?` behind an expression
abbrev pub behind_punct : (char : ℕ) → Operand → Operand
behind_punct char operand.Nothing = if char == 58 then operand.Colon else (if char == 60 then opened false else operand.Other)
behind_punct char operand.Path =
    if char == 58 then operand.Colon else (if char == 60 then opened true else (if char == 33 then operand.Bang else goes_on_with char))
behind_punct char operand.Generic = operand.Other
behind_punct char operand.Field = if char == 58 then operand.Colon else goes_on_with char
behind_punct char operand.Whole = goes_on_with char
behind_punct char operand.Bang = operand.Other
behind_punct char operand.Dot = operand.Other
behind_punct char operand.Colon = if char == 58 then operand.Colons else operand.Other
behind_punct char operand.Colons = if char == 60 then opened false else operand.Other
behind_punct char (operand.Angles it) = angles_behind char it
behind_punct char operand.Other = operand.Other

-- with an ident more: the first of a path, or that behind `::` or `.`
abbrev pub behind_ident : Ident → Operand → Operand
behind_ident ident operand.Nothing = if begins_operand ident.is_raw ident.sym then operand.Path else operand.Other
behind_ident ident operand.Path = operand.Other
behind_ident ident operand.Generic = operand.Other
behind_ident ident operand.Field = operand.Other
behind_ident ident operand.Whole = operand.Other
behind_ident ident operand.Bang = operand.Other
behind_ident ident operand.Dot = operand.Field
behind_ident ident operand.Colon = operand.Other
behind_ident ident operand.Colons = operand.Path
behind_ident ident (operand.Angles it) = inside false it
behind_ident ident operand.Other = operand.Other

-- with a literal more: alone, or the number of a field behind `.`
abbrev pub behind_literal : Operand → Operand
behind_literal operand.Nothing = operand.Whole
behind_literal operand.Path = operand.Other
behind_literal operand.Generic = operand.Other
behind_literal operand.Field = operand.Other
behind_literal operand.Whole = operand.Other
behind_literal operand.Bang = operand.Other
behind_literal operand.Dot = operand.Whole
behind_literal operand.Colon = operand.Other
behind_literal operand.Colons = operand.Other
behind_literal (operand.Angles it) = inside false it
behind_literal operand.Other = operand.Other

abbrev pub behind_leaf : Leaf → Operand → Operand
behind_leaf (leaf_of.Literal literal) it = behind_literal it
behind_leaf (leaf_of.Punct punct) it = behind_punct punct.char it
behind_leaf (leaf_of.Ident ident) it = behind_ident ident it

-- with a subtree of a kind more: parentheses or square brackets, alone, behind an expression or behind `!`
abbrev pub behind_list : DelimiterKind → Operand
behind_list kind = if is_list kind then operand.Whole else operand.Other

abbrev pub behind_kind : DelimiterKind → Operand → Operand
behind_kind kind operand.Nothing = behind_list kind
behind_kind kind operand.Path = behind_list kind
behind_kind kind operand.Generic = operand.Other
behind_kind kind operand.Field = behind_list kind
behind_kind kind operand.Whole = behind_list kind
behind_kind kind operand.Bang = behind_list kind
behind_kind kind operand.Dot = operand.Other
behind_kind kind operand.Colon = operand.Other
behind_kind kind operand.Colons = operand.Other
behind_kind kind (operand.Angles it) = inside false it
behind_kind kind operand.Other = operand.Other

-- what trees are
abbrev pub operand_from : Operand → Forest → Operand
operand_from it end = it
operand_from it (leaf first rest) = operand_from (behind_leaf first it) rest
operand_from it (node delimiter children rest) = operand_from (behind_kind delimiter.kind it) rest

abbrev pub operand_of : Forest → Operand
operand_of trees = operand_from operand.Nothing trees

-- parentheses come first, or parentheses or square brackets do
abbrev pub is_at_parenthesis : Forest → Bool
is_at_parenthesis end = false
is_at_parenthesis (leaf it rest) = false
is_at_parenthesis (node delimiter children rest) = is_parenthesis delimiter.kind

abbrev pub is_at_list : Forest → Bool
is_at_list end = false
is_at_list (leaf it rest) = false
is_at_list (node delimiter children rest) = is_list delimiter.kind

-- a `<`, or a `!` that is a token, comes first: behind a path it begins arguments, or makes a call
abbrev pub is_at_sign : Forest → Bool
is_at_sign trees = is_at_punct (codes "<") trees || ((unit_size trees == 1) && is_at_punct (codes "!") trees)

-- `:` or parentheses come first: behind a field they begin the arguments of a method
abbrev pub is_at_arguments : Forest → Bool
is_at_arguments trees = is_at_punct (codes ":") trees || is_at_parenthesis trees

-- an operand belongs together before these trees
abbrev pub belongs_before : Operand → (behind : Forest) → Bool
belongs_before operand.Nothing behind = false
belongs_before operand.Path behind = not (is_at_sign behind)
belongs_before operand.Generic behind = not (is_at_sign behind) && not (is_at_arguments behind)
belongs_before operand.Field behind = not (is_at_arguments behind)
belongs_before operand.Whole behind = not (is_at_punct (codes ":") behind)
belongs_before operand.Bang behind = false
belongs_before operand.Dot behind = false
belongs_before operand.Colon behind = false
belongs_before operand.Colons behind = false
belongs_before (operand.Angles it) behind = false
belongs_before operand.Other behind = false

-- a literal is the only tree
abbrev pub is_literal : Forest → Bool
is_literal end = false
is_literal (leaf (leaf_of.Literal it) rest) = is_end rest
is_literal (leaf (leaf_of.Punct it) rest) = false
is_literal (leaf (leaf_of.Ident it) rest) = false
is_literal (node delimiter children rest) = false

-- a `-` and a literal are all trees
abbrev pub is_negative : Forest → Bool
is_negative trees = is_at_punct (codes "-") trees && is_literal (after_tree trees)

-- trees belong together before others, whatever precedes them: an operand, or a negative literal that no method, `?` or brackets follow
abbrev pub belong_together : (trees behind : Forest) → Bool
belong_together trees behind = belongs_before (operand_of trees) behind || (is_negative trees && not (goes_on behind || is_at_list behind))
