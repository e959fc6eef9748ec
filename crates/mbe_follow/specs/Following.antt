-- Which variables of a pattern something may follow that the compiler refuses there: rustc 1.95, in edition 2024.
use Rattle.std.specs.Prelude.{◌+◌, ◌&&◌, ◌||◌, ℕ, Bool, true, false, List, [], ◌∷◌, ◌++◌, Option, None, Some, option_to_list, codes, if◌then◌else◌}
use Rattle.tt.specs.Types.DelimiterKind.{DelimiterKind}
use Rattle.tt.specs.Types.DelimiterKind.TheVariants as delimited
use Rattle.tt.specs.Types.Leaf.{Leaf}
use Rattle.mbe_pattern.specs.declared.pattern.Fragment.{Fragment}
use Rattle.mbe_pattern.specs.declared.pattern.Fragment.TheVariants as fragment
use Rattle.mbe_pattern.specs.declared.pattern.GrammarFragment.TheVariants as grammar
use Rattle.mbe_pattern.specs.Patterns.{Pattern, nothing, variable, token, subtree, repetition, may_be_none}
use Rattle.mbe_follow.specs.declared.judge.FollowFault.{FollowFault}
use Rattle.mbe_follow.specs.declared.next.Next.{Next}
use Rattle.mbe_follow.specs.Tokens.{is_spelled, is_plain, ends_expr, ends_pat, ends_ty, ends_vis}

-- the pattern begins with the ident `crate`
abbrev pub begins_with_crate : Pattern → Bool
begins_with_crate nothing = false
begins_with_crate (variable it others) = false
begins_with_crate (token its others) = is_plain (codes "crate") its
begins_with_crate (subtree kind inner others) = false
begins_with_crate (repetition inner separator op others) = false

-- a token with that number, which `crate` follows or not, and what it may come behind; `$crate` begins a type
abbrev pub token_next : (number : ℕ) → List Leaf → (before_crate : Bool) → Next
token_next number its before_crate =
    record {
      number = number;
      ends_expr = ends_expr its;
      ends_pat = ends_pat its;
      ends_pat_param = ends_pat its || is_spelled (codes "|") its;
      ends_ty = ends_ty its;
      ends_vis = ends_vis its || (before_crate && is_spelled (codes "$") its);
    }

-- the separator of a repetition, if it has one
abbrev pub separator_next : (number : ℕ) → List Leaf → Option Next
separator_next number [] = None
separator_next number (it ∷ others) = Some (token_next number (it ∷ others) false)

-- a part that is no token, and whether it may come behind a type and behind a visibility
abbrev pub next_with : (number : ℕ) → (ty vis : Bool) → Next
next_with number ty vis = record { number = number; ends_expr = false; ends_pat = false; ends_pat_param = false; ends_ty = ty; ends_vis = vis }

-- a subtree: braces and brackets end a type, parentheses and brackets begin one
abbrev pub subtree_next : (number : ℕ) → DelimiterKind → Next
subtree_next number delimited.Parenthesis = next_with number false true
subtree_next number delimited.Brace = next_with number true false
subtree_next number delimited.Bracket = next_with number true true
subtree_next number delimited.Invisible = next_with number false false
subtree_next number delimited.InvisibleOpaque = next_with number false false

-- a variable: a block ends a type; a visibility is followed by an ident, a type or a path
abbrev pub variable_next : (number : ℕ) → Fragment → Next
variable_next number fragment.Ident = next_with number false true
variable_next number fragment.Literal = next_with number false false
variable_next number fragment.Lifetime = next_with number false false
variable_next number fragment.Block = next_with number true false
variable_next number fragment.Vis = next_with number false false
variable_next number fragment.Tt = next_with number false false
variable_next number (fragment.Grammar grammar.Expr) = next_with number false false
variable_next number (fragment.Grammar grammar.Expr2021) = next_with number false false
variable_next number (fragment.Grammar grammar.Ty) = next_with number false true
variable_next number (fragment.Grammar grammar.Pat) = next_with number false false
variable_next number (fragment.Grammar grammar.PatParam) = next_with number false false
variable_next number (fragment.Grammar grammar.Path) = next_with number false true
variable_next number (fragment.Grammar grammar.Stmt) = next_with number false false
variable_next number (fragment.Grammar grammar.Item) = next_with number false false
variable_next number (fragment.Grammar grammar.Meta) = next_with number false false

-- it may come right behind a variable of that fragment
abbrev pub may_follow : Fragment → Next → Bool
may_follow fragment.Ident it = true
may_follow fragment.Literal it = true
may_follow fragment.Lifetime it = true
may_follow fragment.Block it = true
may_follow fragment.Vis it = it.ends_vis
may_follow fragment.Tt it = true
may_follow (fragment.Grammar grammar.Expr) it = it.ends_expr
may_follow (fragment.Grammar grammar.Expr2021) it = it.ends_expr
may_follow (fragment.Grammar grammar.Ty) it = it.ends_ty
may_follow (fragment.Grammar grammar.Pat) it = it.ends_pat
may_follow (fragment.Grammar grammar.PatParam) it = it.ends_pat_param
may_follow (fragment.Grammar grammar.Path) it = it.ends_ty
may_follow (fragment.Grammar grammar.Stmt) it = it.ends_expr
may_follow (fragment.Grammar grammar.Item) it = true
may_follow (fragment.Grammar grammar.Meta) it = true

-- the number of the next part after a separator that has this number, if there is one
abbrev pub after_separator : (number : ℕ) → List Leaf → ℕ
after_separator number [] = number
after_separator number (it ∷ others) = number + 1

-- the number of the next part after a pattern whose first part has that number
abbrev pub after_pattern : (number : ℕ) → Pattern → ℕ
after_pattern number nothing = number
after_pattern number (variable it others) = after_pattern (number + 1) others
after_pattern number (token its others) = after_pattern (number + 1) others
after_pattern number (subtree kind inner others) = after_pattern (after_pattern (number + 1) inner) others
after_pattern number (repetition inner separator op others) = after_pattern (after_separator (after_pattern (number + 1) inner) separator) others

-- the pattern has only repetitions that may have no round or hold only such; `vis` counts as something here
abbrev pub may_be_passed : Pattern → Bool
may_be_passed nothing = true
may_be_passed (variable it others) = false
may_be_passed (token its others) = false
may_be_passed (subtree kind inner others) = false
may_be_passed (repetition inner separator op others) = (may_be_none op || may_be_passed inner) && may_be_passed others

-- what may come first in a pattern whose first part has that number, before what comes behind it
abbrev pub firsts : (number : ℕ) → Pattern → (behind : List Next) → List Next
firsts number nothing behind = behind
firsts number (variable it others) behind = variable_next number it.fragment ∷ []
firsts number (token its others) behind = token_next number its (begins_with_crate others) ∷ []
firsts number (subtree kind inner others) behind = subtree_next number kind ∷ []
firsts number (repetition inner separator op others) behind =
    let after = after_pattern (number + 1) inner in
    firsts (number + 1) inner [] ++ (if may_be_passed inner then option_to_list (separator_next after separator) else [])
    ++ (if may_be_none op || may_be_passed inner then firsts (after_separator after separator) others behind else [])

-- the number of the first of them that may not come behind that fragment
abbrev pub first_refused : Fragment → List Next → Option ℕ
first_refused which [] = None
first_refused which (it ∷ others) = if may_follow which it then first_refused which others else Some it.number

-- the fault of a variable, given what is refused
abbrev pub fault_with : (number : ℕ) → Fragment → (refused : Option ℕ) → List FollowFault
fault_with number which None = []
fault_with number which (Some next) = record { variable = number; fragment = which; next = next } ∷ []

-- the faults of a pattern whose first part has that number, before what comes behind it
abbrev pub faults_before : (number : ℕ) → Pattern → (behind : List Next) → List FollowFault
faults_before number nothing behind = []
faults_before number (variable it others) behind =
    fault_with number it.fragment (first_refused it.fragment (firsts (number + 1) others behind)) ++ faults_before (number + 1) others behind
faults_before number (token its others) behind = faults_before (number + 1) others behind
faults_before number (subtree kind inner others) behind =
    faults_before (number + 1) inner [] ++ faults_before (after_pattern (number + 1) inner) others behind
faults_before number (repetition inner separator op others) behind =
    let after = after_pattern (number + 1) inner in
    let next = after_separator after separator in
    faults_before (number + 1) inner (option_to_list (separator_next after separator) ++ firsts next others behind) ++ faults_before next others behind

-- the faults of a whole pattern, in reading order
abbrev pub follow_faults_of : Pattern → List FollowFault
follow_faults_of pattern = faults_before 0 pattern []

-- how many parts a pattern has, with the separators
abbrev pub part_count : Pattern → ℕ
part_count pattern = after_pattern 0 pattern
