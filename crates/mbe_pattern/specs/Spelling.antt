-- What a `$` of a pattern begins.
use Rattle.std.specs.Prelude.{◌==◌, ◌||◌, ℕ, suc, Bool, true, false, List, [], ◌∷◌, length, Option, None, Some, option_map, codes, bytes_eq, if◌then◌else◌}
use Rattle.tt.specs.Expectations.{first_leaf_as, as_ident_or_underscore}
use Rattle.tt.specs.Forest.{Forest, end, leaf, node}
use Rattle.tt.specs.Gluing.{after_trees}
use Rattle.tt.specs.Moves.{after_tree}
use Rattle.tt.specs.Siblings.{is_end}
use Rattle.tt.specs.Types.DelimiterKind.{DelimiterKind}
use Rattle.tt.specs.Types.DelimiterKind.TheVariants as delimited
use Rattle.tt.specs.Types.Ident.{Ident}
use Rattle.tt.specs.Types.IdentIsRaw.{IdentIsRaw}
use Rattle.tt.specs.Types.IdentIsRaw.TheVariants.{No, Yes}
use Rattle.tt.specs.Types.Leaf.{Leaf}
use Rattle.tt.specs.Types.Leaf.TheVariants as leaf_of
use Rattle.mbe_pattern.specs.declared.pattern.Fragment.{Fragment}
use Rattle.mbe_pattern.specs.declared.pattern.Fragment.TheVariants as fragment
use Rattle.mbe_pattern.specs.declared.pattern.GrammarFragment.{GrammarFragment}
use Rattle.mbe_pattern.specs.declared.pattern.GrammarFragment.TheVariants as grammar
use Rattle.mbe_pattern.specs.declared.pattern.RepeatKind.{RepeatKind}
use Rattle.mbe_pattern.specs.declared.pattern.RepeatKind.TheVariants as repeat
use Rattle.mbe_pattern.specs.declared.pattern.Variable.{Variable}
use Rattle.mbe_pattern.specs.Units.{is_at_punct, first_unit}

-- the leaf is the punct `$`
abbrev pub is_dollar : Leaf → Bool
is_dollar (leaf_of.Literal it) = false
is_dollar (leaf_of.Punct it) = it.char == 36
is_dollar (leaf_of.Ident it) = false

-- the fragment of Rust's grammar that has that name
abbrev pub grammar_named : List ℕ → Option GrammarFragment
grammar_named text =
    if bytes_eq text (codes "expr") then Some grammar.Expr
    else (if bytes_eq text (codes "expr_2021") then Some grammar.Expr2021
    else (if bytes_eq text (codes "ty") then Some grammar.Ty
    else (if bytes_eq text (codes "pat") then Some grammar.Pat
    else (if bytes_eq text (codes "pat_param") then Some grammar.PatParam
    else (if bytes_eq text (codes "path") then Some grammar.Path
    else (if bytes_eq text (codes "stmt") then Some grammar.Stmt
    else (if bytes_eq text (codes "item") then Some grammar.Item else (if bytes_eq text (codes "meta") then Some grammar.Meta else None))))))))

-- the fragment of that name
abbrev pub fragment_named : List ℕ → Option Fragment
fragment_named text =
    if bytes_eq text (codes "ident") then Some fragment.Ident
    else (if bytes_eq text (codes "literal") then Some fragment.Literal
    else (if bytes_eq text (codes "lifetime") then Some fragment.Lifetime
    else (if bytes_eq text (codes "block") then Some fragment.Block
    else (if bytes_eq text (codes "vis") then Some fragment.Vis
    else (if bytes_eq text (codes "tt") then Some fragment.Tt else option_map fragment.Grammar (grammar_named text))))))

-- the name of a fragment of Rust's grammar
abbrev pub grammar_name : GrammarFragment → List ℕ
grammar_name grammar.Expr = codes "expr"
grammar_name grammar.Expr2021 = codes "expr_2021"
grammar_name grammar.Ty = codes "ty"
grammar_name grammar.Pat = codes "pat"
grammar_name grammar.PatParam = codes "pat_param"
grammar_name grammar.Path = codes "path"
grammar_name grammar.Stmt = codes "stmt"
grammar_name grammar.Item = codes "item"
grammar_name grammar.Meta = codes "meta"

-- the name of a fragment
abbrev pub fragment_name : Fragment → List ℕ
fragment_name fragment.Ident = codes "ident"
fragment_name fragment.Literal = codes "literal"
fragment_name fragment.Lifetime = codes "lifetime"
fragment_name fragment.Block = codes "block"
fragment_name fragment.Vis = codes "vis"
fragment_name fragment.Tt = codes "tt"
fragment_name (fragment.Grammar it) = grammar_name it

-- the fragment that an ident names, raw or not
abbrev pub fragment_from : Option Ident → Option Fragment
fragment_from None = None
fragment_from (Some it) = fragment_named it.sym

abbrev pub fragment_in : Forest → Option Fragment
fragment_in siblings = fragment_from (first_leaf_as as_ident_or_underscore siblings)

-- a variable has an ident, raw or not, which may be `_`, a colon and a fragment
abbrev pub variable_from : Option Ident → (colon : Bool) → Option Fragment → Option Variable
variable_from None colon kind = None
variable_from (Some it) false kind = None
variable_from (Some it) true None = None
variable_from (Some it) true (Some kind) = Some (record { name = it.sym; fragment = kind })

-- the variable whose `$` precedes these siblings
abbrev pub variable_in : Forest → Option Variable
variable_in siblings =
    variable_from (first_leaf_as as_ident_or_underscore siblings) (is_at_punct (codes ":") (after_tree siblings)) (fragment_in (after_tree (after_tree siblings)))

-- the kind of repetition that a character spells
abbrev pub repeat_kind_of : ℕ → Option RepeatKind
repeat_kind_of char =
    if char == 42 then Some repeat.ZeroOrMore
    else (if char == 43 then Some repeat.OneOrMore else (if char == 63 then Some repeat.ZeroOrOne else None))

-- the kind that a token spells, if it is one punct
abbrev pub as_repeat_kind : List Leaf → Option RepeatKind
as_repeat_kind [] = None
as_repeat_kind (leaf_of.Literal it ∷ others) = None
as_repeat_kind (leaf_of.Ident it ∷ others) = None
as_repeat_kind (leaf_of.Punct it ∷ []) = repeat_kind_of it.char
as_repeat_kind (leaf_of.Punct it ∷ second ∷ others) = None

-- what follows the inside of a repetition: a separator or none, and its kind
pub record Tail : Type 0 where
  pub separator : List Leaf
  pub kind : RepeatKind

-- the tail of that separator
abbrev pub tail_with : (separator : List Leaf) → Option RepeatKind → Option Tail
tail_with separator None = None
tail_with separator (Some it) = Some (record { separator = separator; kind = it })

-- a kind that comes first; otherwise any other token, which separates, and a kind
abbrev pub tail_from : Option RepeatKind → (token : List Leaf) → (siblings : Forest) → Option Tail
tail_from (Some it) token siblings = Some (record { separator = []; kind = it })
tail_from None [] siblings = None
tail_from None (it ∷ others) siblings = tail_with (it ∷ others) (as_repeat_kind (first_unit (after_trees (length (it ∷ others)) siblings)))

-- the tail at the front, if there is one
abbrev pub tail_in : Forest → Option Tail
tail_in siblings = tail_from (as_repeat_kind (first_unit siblings)) (first_unit siblings) siblings

-- how many trees a tail has
abbrev pub tail_length : Tail → ℕ
tail_length it = suc (length it.separator)

-- parentheses
abbrev pub is_parenthesis : DelimiterKind → Bool
is_parenthesis delimited.Parenthesis = true
is_parenthesis delimited.Brace = false
is_parenthesis delimited.Bracket = false
is_parenthesis delimited.Invisible = false
is_parenthesis delimited.InvisibleOpaque = false

-- the tail after parentheses, if both come first
abbrev pub repetition_in : Forest → Option Tail
repetition_in end = None
repetition_in (leaf it rest) = None
repetition_in (node delimiter children rest) = if is_parenthesis delimiter.kind then tail_in rest else None

-- the first tree is the plain ident `crate`
abbrev pub is_crate : IdentIsRaw → List ℕ → Bool
is_crate No text = bytes_eq text (codes "crate")
is_crate Yes text = false

abbrev pub is_crate_from : Option Ident → Bool
is_crate_from None = false
is_crate_from (Some it) = is_crate it.is_raw it.sym

abbrev pub is_crate_in : Forest → Bool
is_crate_in siblings = is_crate_from (first_leaf_as as_ident_or_underscore siblings)

-- what a `$` begins; one that is a token begins nothing, and that is no fault
pub data Dollar : Type 0 where
  variable : Variable → Dollar
  repetition : Tail → Dollar
  token : Dollar
  nothing : Dollar

-- a `$` before these siblings is a token: `crate` follows it, or nothing
abbrev pub is_token_before : Forest → Bool
is_token_before siblings = is_crate_in siblings || is_end siblings

-- a repetition; otherwise a token; otherwise a variable; otherwise nothing
abbrev pub dollar_from : Option Tail → (is_token : Bool) → Option Variable → Dollar
dollar_from (Some tail) is_token found = repetition tail
dollar_from None true found = token
dollar_from None false (Some found) = variable found
dollar_from None false None = nothing

-- what a `$` before these siblings begins
abbrev pub dollar_in : Forest → Dollar
dollar_in siblings = dollar_from (repetition_in siblings) (is_token_before siblings) (variable_in siblings)

-- how many trees belong to the sign: a name, a colon and a fragment, or parentheses and a tail
abbrev pub dollar_length : Dollar → ℕ
dollar_length (variable it) = 3
dollar_length (repetition tail) = suc (tail_length tail)
dollar_length token = 0
dollar_length nothing = 0
