-- Worked patterns, and what rustc 1.95 says of each in edition 2024. Each holds by computation.
use Rattle.std.proofs.Common.{◌≡◌, ℕ, List, [], ◌∷◌, codes, refl}
use Rattle.tt.specs.Forest.{Forest, end, join}
use Rattle.tt.specs.Types.DelimiterKind.TheVariants.{Parenthesis, Brace, Bracket}
use Rattle.tt_base.proofs.Samples.{subtree}
use Rattle.mbe_pattern.specs.declared.pattern.Fragment.{Fragment}
use Rattle.mbe_pattern.specs.declared.pattern.Fragment.TheVariants as fragment
use Rattle.mbe_pattern.specs.declared.pattern.GrammarFragment.{GrammarFragment}
use Rattle.mbe_pattern.specs.declared.pattern.GrammarFragment.TheVariants as grammar
use Rattle.mbe_pattern.specs.Placed.{pattern_of}
use Rattle.mbe_pattern.proofs.Rows.{word, raw_word, alone, joint, arrow, life, comma, var, rounds}
use Rattle.mbe_follow.specs.declared.judge.FollowFault.{FollowFault}
use Rattle.mbe_follow.specs.Following.{follow_faults_of, part_count}

-- `$name:kind` before others
abbrev x : (kind : List ℕ) → Forest → Forest
x kind rest = var (codes "x") kind rest

abbrev y : (kind : List ℕ) → Forest → Forest
y kind rest = var (codes "y") kind rest

-- the faults of the pattern that trees spell
abbrev faults : Forest → List FollowFault
faults trees = follow_faults_of (pattern_of trees)

-- one fault: the variable of that number, what it takes, and the part that is refused
abbrev refused : (variable : ℕ) → Fragment → (next : ℕ) → List FollowFault
refused variable which next = record { variable = variable; fragment = which; next = next } ∷ []

-- one fault of the first part: the second is refused
abbrev refused_at_once : GrammarFragment → List FollowFault
refused_at_once which = refused 0 (fragment.Grammar which) 1

-- `+`, `;`, `=`, `|`, `{}`, `[]` and `()` before others
abbrev plus : Forest → Forest
plus rest = alone 43 rest

abbrev semicolon : Forest → Forest
semicolon rest = alone 59 rest

abbrev equals : Forest → Forest
equals rest = alone 61 rest

abbrev bar : Forest → Forest
bar rest = alone 124 rest

abbrev braces : Forest → Forest
braces rest = join (subtree Brace end) rest

abbrev brackets : Forest → Forest
brackets rest = join (subtree Bracket end) rest

abbrev parentheses : Forest → Forest
parentheses rest = join (subtree Parenthesis end) rest

-- Anything may follow `item`, `block`, `ident`, `lifetime`, `literal`, `meta` and `tt`.
item_any : faults (x (codes "item") (plus end)) ≡ []
item_any = refl

block_any : faults (x (codes "block") (plus end)) ≡ []
block_any = refl

ident_any : faults (x (codes "ident") (y (codes "expr") end)) ≡ []
ident_any = refl

lifetime_any : faults (x (codes "lifetime") (parentheses end)) ≡ []
lifetime_any = refl

literal_any : faults (x (codes "literal") (plus end)) ≡ []
literal_any = refl

meta_any : faults (x (codes "meta") (plus end)) ≡ []
meta_any = refl

tt_any : faults (x (codes "tt") (y (codes "tt") end)) ≡ []
tt_any = refl

-- `$x:expr` before `=>`, `,` and `;` and at the end; before `+`, `[]`, `$y:ident` and `= >`. So are `expr_2021` and `stmt`.
expr_arrow : faults (x (codes "expr") (arrow end)) ≡ []
expr_arrow = refl

expr_comma : faults (x (codes "expr") (comma end)) ≡ []
expr_comma = refl

expr_semicolon : faults (x (codes "expr") (semicolon end)) ≡ []
expr_semicolon = refl

expr_end : faults (x (codes "expr") end) ≡ []
expr_end = refl

expr_plus : faults (x (codes "expr") (plus end)) ≡ refused_at_once grammar.Expr
expr_plus = refl

expr_brackets : faults (x (codes "expr") (brackets end)) ≡ refused_at_once grammar.Expr
expr_brackets = refl

expr_variable : faults (x (codes "expr") (y (codes "ident") end)) ≡ refused_at_once grammar.Expr
expr_variable = refl

expr_apart : faults (x (codes "expr") (alone 61 (alone 62 end))) ≡ refused_at_once grammar.Expr
expr_apart = refl

expr_2021_comma : faults (x (codes "expr_2021") (comma end)) ≡ []
expr_2021_comma = refl

expr_2021_bar : faults (x (codes "expr_2021") (bar end)) ≡ refused_at_once grammar.Expr2021
expr_2021_bar = refl

stmt_semicolon : faults (x (codes "stmt") (semicolon end)) ≡ []
stmt_semicolon = refl

stmt_braces : faults (x (codes "stmt") (braces end)) ≡ refused_at_once grammar.Stmt
stmt_braces = refl

-- `$x:pat` before `=`, `if` and `in`; before `|`, `;` and `r#if`.
pat_equals : faults (x (codes "pat") (equals end)) ≡ []
pat_equals = refl

pat_if : faults (x (codes "pat") (word (codes "if") end)) ≡ []
pat_if = refl

pat_in : faults (x (codes "pat") (word (codes "in") end)) ≡ []
pat_in = refl

pat_bar : faults (x (codes "pat") (bar end)) ≡ refused_at_once grammar.Pat
pat_bar = refl

pat_semicolon : faults (x (codes "pat") (semicolon end)) ≡ refused_at_once grammar.Pat
pat_semicolon = refl

pat_raw_if : faults (x (codes "pat") (raw_word (codes "if") end)) ≡ refused_at_once grammar.Pat
pat_raw_if = refl

-- `$x:pat_param` before `|`; before `||`.
pat_param_bar : faults (x (codes "pat_param") (bar end)) ≡ []
pat_param_bar = refl

pat_param_bars : faults (x (codes "pat_param") (joint 124 (alone 124 end))) ≡ refused_at_once grammar.PatParam
pat_param_bars = refl

-- `$x:path` before `{}`, `where` and `$y:block`; before `()`, `::` and `$y:ident`.
path_braces : faults (x (codes "path") (braces end)) ≡ []
path_braces = refl

path_where : faults (x (codes "path") (word (codes "where") end)) ≡ []
path_where = refl

path_block : faults (x (codes "path") (y (codes "block") end)) ≡ []
path_block = refl

path_parentheses : faults (x (codes "path") (parentheses end)) ≡ refused_at_once grammar.Path
path_parentheses = refl

path_colons : faults (x (codes "path") (joint 58 (alone 58 end))) ≡ refused_at_once grammar.Path
path_colons = refl

path_ident : faults (x (codes "path") (y (codes "ident") end)) ≡ refused_at_once grammar.Path
path_ident = refl

-- `$x:ty` before `>>`, `:`, `[]`, `|` and `as`; before `>=`, `r#as` and `'a`.
ty_shift : faults (x (codes "ty") (joint 62 (alone 62 end))) ≡ []
ty_shift = refl

ty_colon : faults (x (codes "ty") (alone 58 end)) ≡ []
ty_colon = refl

ty_brackets : faults (x (codes "ty") (brackets end)) ≡ []
ty_brackets = refl

ty_bar : faults (x (codes "ty") (bar end)) ≡ []
ty_bar = refl

ty_as : faults (x (codes "ty") (word (codes "as") end)) ≡ []
ty_as = refl

ty_at_least : faults (x (codes "ty") (joint 62 (alone 61 end))) ≡ refused_at_once grammar.Ty
ty_at_least = refl

ty_raw_as : faults (x (codes "ty") (raw_word (codes "as") end)) ≡ refused_at_once grammar.Ty
ty_raw_as = refl

ty_life : faults (x (codes "ty") (life end)) ≡ refused_at_once grammar.Ty
ty_life = refl

-- `$x:vis` before `,`, idents, what begins a type, `$crate` and `$y:ty`; before `priv`, `{}`, `=>`, `<-` and `$y:tt`.
vis_comma : faults (x (codes "vis") (comma end)) ≡ []
vis_comma = refl

vis_word : faults (x (codes "vis") (word (codes "struct") end)) ≡ []
vis_word = refl

vis_raw_priv : faults (x (codes "vis") (raw_word (codes "priv") end)) ≡ []
vis_raw_priv = refl

vis_brackets : faults (x (codes "vis") (brackets end)) ≡ []
vis_brackets = refl

vis_parentheses : faults (x (codes "vis") (parentheses end)) ≡ []
vis_parentheses = refl

vis_less : faults (x (codes "vis") (alone 60 end)) ≡ []
vis_less = refl

vis_colons : faults (x (codes "vis") (joint 58 (alone 58 end))) ≡ []
vis_colons = refl

vis_life : faults (x (codes "vis") (life end)) ≡ []
vis_life = refl

vis_crate : faults (x (codes "vis") (alone 36 (word (codes "crate") end))) ≡ []
vis_crate = refl

-- A `$` that `crate` does not follow is a token like others, and so is one between rounds.
vis_dollar : faults (x (codes "vis") (alone 36 end)) ≡ refused 0 fragment.Vis 1
vis_dollar = refl

vis_before_dollar : faults (rounds (x (codes "vis") end) (alone 36 (alone 42 end))) ≡ refused 1 fragment.Vis 2
vis_before_dollar = refl

expr_before_dollar : faults (rounds (x (codes "expr") end) (alone 36 (alone 42 end))) ≡ refused 1 (fragment.Grammar grammar.Expr) 2
expr_before_dollar = refl

ident_before_dollar : faults (rounds (x (codes "ident") end) (alone 36 (alone 42 end))) ≡ []
ident_before_dollar = refl

vis_ty : faults (x (codes "vis") (y (codes "ty") end)) ≡ []
vis_ty = refl

vis_priv : faults (x (codes "vis") (word (codes "priv") end)) ≡ refused 0 fragment.Vis 1
vis_priv = refl

vis_braces : faults (x (codes "vis") (braces end)) ≡ refused 0 fragment.Vis 1
vis_braces = refl

vis_arrow : faults (x (codes "vis") (arrow end)) ≡ refused 0 fragment.Vis 1
vis_arrow = refl

vis_left_arrow : faults (x (codes "vis") (joint 60 (alone 45 end))) ≡ refused 0 fragment.Vis 1
vis_left_arrow = refl

vis_tt : faults (x (codes "vis") (y (codes "tt") end)) ≡ refused 0 fragment.Vis 1
vis_tt = refl

-- `$x:expr $(,)? +` and `$x:expr $(+)? ,`: what is behind a repetition that may have no round comes too; the repetition has number 1, and
-- what it holds number 2. `$x:expr $(,)+ +` is right.
behind_optional : faults (x (codes "expr") (rounds (comma end) (alone 63 (plus end)))) ≡ refused 0 (fragment.Grammar grammar.Expr) 3
behind_optional = refl

in_optional : faults (x (codes "expr") (rounds (plus end) (alone 63 (comma end)))) ≡ refused 0 (fragment.Grammar grammar.Expr) 2
in_optional = refl

in_required : faults (x (codes "expr") (rounds (comma end) (alone 43 (plus end)))) ≡ []
in_required = refl

at_last : faults (x (codes "expr") (rounds (comma end) (alone 63 end))) ≡ []
at_last = refl

-- `$x:expr $($(,)?);+ +` and `$x:expr $($(,)?)=+ ,`: a repetition of what may be nothing may be passed, and its separator may come first.
passed_inside : faults (x (codes "expr") (rounds (rounds (comma end) (alone 63 end)) (joint 59 (alone 43 (plus end))))) ≡ refused 0 (fragment.Grammar grammar.Expr) 5
passed_inside = refl

separator_first : faults (x (codes "expr") (rounds (rounds (comma end) (alone 63 end)) (joint 61 (alone 43 (comma end))))) ≡ refused 0 (fragment.Grammar grammar.Expr) 4
separator_first = refl

-- `$x:expr $($y:vis),+ ,`: a visibility is not passed, though it may take nothing.
vis_not_passed : faults (x (codes "expr") (rounds (y (codes "vis") end) (joint 44 (alone 43 (comma end))))) ≡ refused 0 (fragment.Grammar grammar.Expr) 2
vis_not_passed = refl

-- `$($x:expr),*`, `$($x:expr);* +`, `$($x:expr)if*` and `$($x:expr)* ,`.
separated : faults (rounds (x (codes "expr") end) (joint 44 (alone 42 end))) ≡ []
separated = refl

separated_before : faults (rounds (x (codes "expr") end) (joint 59 (alone 42 (plus end)))) ≡ refused 1 (fragment.Grammar grammar.Expr) 3
separated_before = refl

bad_separator : faults (rounds (x (codes "expr") end) (word (codes "if") (alone 42 end))) ≡ refused 1 (fragment.Grammar grammar.Expr) 2
bad_separator = refl

before_comma : faults (rounds (x (codes "expr") end) (alone 42 (comma end))) ≡ []
before_comma = refl

-- `$($x:expr)*` is right though another round follows; in `$($x:expr $y:expr),*` the second follows the first.
no_separator : faults (rounds (x (codes "expr") end) (alone 42 end)) ≡ []
no_separator = refl

two_in_a_round : faults (rounds (x (codes "expr") (y (codes "expr") end)) (joint 44 (alone 42 end))) ≡ refused 1 (fragment.Grammar grammar.Expr) 2
two_in_a_round = refl

-- `$($($x:expr),*);* +`: what is behind the outer repetition, too.
nested : faults (rounds (rounds (x (codes "expr") end) (joint 44 (alone 42 end))) (joint 59 (alone 42 (plus end)))) ≡ refused 2 (fragment.Grammar grammar.Expr) 5
nested = refl

-- `($x:expr) +` is right; `[$x:expr +]` and `{ $($x:expr)* } +`.
last_in_subtree : faults (join (subtree Parenthesis (x (codes "expr") end)) (plus end)) ≡ []
last_in_subtree = refl

in_subtree : faults (join (subtree Bracket (x (codes "expr") (plus end))) end) ≡ refused 1 (fragment.Grammar grammar.Expr) 2
in_subtree = refl

repeated_in_subtree : faults (join (subtree Brace (rounds (x (codes "expr") end) (alone 42 end))) (plus end)) ≡ []
repeated_in_subtree = refl

-- `$x:expr, $($y:expr),* +`: how many parts.
counted : part_count (pattern_of (x (codes "expr") (comma (rounds (y (codes "expr") end) (joint 44 (alone 42 (plus end))))))) ≡ 6
counted = refl
