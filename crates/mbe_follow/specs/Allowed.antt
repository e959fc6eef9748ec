-- How the compiler words what may follow a fragment.
use Rattle.std.specs.Prelude.{ℕ, List, Option, None, Some, codes}
use Rattle.mbe_pattern.specs.declared.pattern.Fragment.{Fragment}
use Rattle.mbe_pattern.specs.declared.pattern.Fragment.TheVariants as fragment
use Rattle.mbe_pattern.specs.declared.pattern.GrammarFragment.{GrammarFragment}
use Rattle.mbe_pattern.specs.declared.pattern.GrammarFragment.TheVariants as grammar

-- what may follow a fragment of Rust's grammar, unless anything may
abbrev pub allowed_behind_grammar : GrammarFragment → Option (List ℕ)
allowed_behind_grammar grammar.Expr = Some (codes "`=>`, `,` or `;`")
allowed_behind_grammar grammar.Expr2021 = Some (codes "`=>`, `,` or `;`")
allowed_behind_grammar grammar.Ty = Some (codes "`{`, `[`, `=>`, `,`, `>`, `=`, `:`, `;`, `|`, `as` or `where`")
allowed_behind_grammar grammar.Pat = Some (codes "`=>`, `,`, `=`, `if` or `in`")
allowed_behind_grammar grammar.PatParam = Some (codes "`=>`, `,`, `=`, `|`, `if` or `in`")
allowed_behind_grammar grammar.Path = Some (codes "`{`, `[`, `=>`, `,`, `>`, `=`, `:`, `;`, `|`, `as` or `where`")
allowed_behind_grammar grammar.Stmt = Some (codes "`=>`, `,` or `;`")
allowed_behind_grammar grammar.Item = None
allowed_behind_grammar grammar.Meta = None

-- what may follow a fragment, unless anything may
abbrev pub allowed_behind : Fragment → Option (List ℕ)
allowed_behind fragment.Ident = None
allowed_behind fragment.Literal = None
allowed_behind fragment.Lifetime = None
allowed_behind fragment.Block = None
allowed_behind fragment.Vis = Some (codes "`,`, an ident or a type")
allowed_behind fragment.Tt = None
allowed_behind (fragment.Grammar which) = allowed_behind_grammar which
