-- How far a fragment of Rust's grammar reaches.
use Rattle.std.specs.Prelude.{ℕ, Bool, true, false, List, Option, option_map}
use Rattle.tt.specs.Forest.{Forest}
use Rattle.mbe_grammar.specs.declared.event.Event.{Event}
use Rattle.mbe_grammar.specs.Derivations.{Derives, Refuses, Place, whole, TakesDeep}
use Rattle.mbe_grammar.specs.Expressions.{Answers}
use Rattle.mbe_grammar.specs.Names.{Name, start, expression, expression_2021_fragment, type, pattern_fragment, pattern_param_fragment, type_path, statement, item, meta, statements}
use Rattle.mbe_grammar.specs.Positions.{first_position, behind}
use Rattle.mbe_grammar.specs.Rust.{stands}
use Rattle.mbe_grammar.specs.Table.{rust_rules}
use Rattle.mbe_pattern.specs.declared.pattern.GrammarFragment.{GrammarFragment}
use Rattle.mbe_pattern.specs.declared.pattern.GrammarFragment.TheVariants as fragment

-- the name of a fragment in the grammar
abbrev pub name_of : GrammarFragment → Name
name_of fragment.Expr = expression
name_of fragment.Expr2021 = expression_2021_fragment
name_of fragment.Ty = type
name_of fragment.Pat = pattern_fragment
name_of fragment.PatParam = pattern_param_fragment
name_of fragment.Path = type_path
name_of fragment.Stmt = statement
name_of fragment.Item = item
name_of fragment.Meta = meta

-- the fragment takes `count` of these trees from the first on, or none if they do not begin with such a fragment
abbrev pub Reaches : GrammarFragment → (trees : Forest) → (count : Option ℕ) → Type 0
Reaches which trees count = Answers false stands (stands (name_of which)) (first_position trees) (option_map (λ n. behind n (first_position trees)) count)

-- the same, and the contents of each subtree that the fragment takes by a name are that name
abbrev pub ReachesDeep : GrammarFragment → (trees : Forest) → (count : Option ℕ) → Type 0
ReachesDeep which trees count = TakesDeep rust_rules (start (name_of which)) trees count

-- whether these trees are the contents of the fragment `block`: statements, also at each depth
abbrev pub IsBlock : (trees : Forest) → Bool → Type 0
IsBlock trees true = (events : List Event) × Derives rust_rules (start statements) trees events
IsBlock trees false = (at : Place) × Refuses rust_rules (whole (start statements) trees) at
