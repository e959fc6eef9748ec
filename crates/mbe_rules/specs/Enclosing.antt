-- What replaces a use. An expression, a type, a pattern or a literal of more than one token becomes one subtree, and so does a type of one
-- token before `<`, which would begin its arguments.
use Rattle.std.specs.Prelude.{◌&&◌, ◌||◌, not, Bool, true, false, Option, None, Some, option_map, if◌then◌else◌}
use Rattle.tt.specs.Building.{alone}
use Rattle.tt.specs.Forest.{Forest, end, node}
use Rattle.tt.specs.Gluing.{after_trees}
use Rattle.tt.specs.LastSpan.{last_span}
use Rattle.tt.specs.Moves.{first_token}
use Rattle.tt.specs.Siblings.{is_end}
use Rattle.tt.specs.Token.{first_span}
use Rattle.tt.specs.Types.DelimiterKind.TheVariants.{InvisibleOpaque}
use Rattle.tt.specs.Types.Span.{Span}
use Rattle.mbe_pattern.specs.declared.pattern.Fragment.{Fragment}
use Rattle.mbe_pattern.specs.declared.pattern.Fragment.TheVariants as fragment
use Rattle.mbe_pattern.specs.declared.pattern.GrammarFragment.{GrammarFragment}
use Rattle.mbe_pattern.specs.declared.pattern.GrammarFragment.TheVariants as grammar
use Rattle.mbe_pattern.specs.Units.{is_at_ident, unit_size}

-- an expression, a type or a pattern; its parts belong more closely together than to what surrounds it
abbrev pub is_one_piece : GrammarFragment → Bool
is_one_piece grammar.Expr = true
is_one_piece grammar.Expr2021 = true
is_one_piece grammar.Ty = true
is_one_piece grammar.Pat = true
is_one_piece grammar.PatParam = true
is_one_piece grammar.Path = false
is_one_piece grammar.Stmt = false
is_one_piece grammar.Item = false
is_one_piece grammar.Meta = false

-- the fragment takes an expression, a type, a pattern or a literal, which may be a number after `-`
abbrev pub is_bound_as_one : Fragment → Bool
is_bound_as_one fragment.Ident = false
is_bound_as_one fragment.Literal = true
is_bound_as_one fragment.Lifetime = false
is_bound_as_one fragment.Block = false
is_bound_as_one fragment.Vis = false
is_bound_as_one fragment.Tt = false
is_bound_as_one (fragment.Grammar which) = is_one_piece which

-- there is more than one token or subtree
abbrev pub is_more : Forest → Bool
is_more trees = not (is_end (after_trees (unit_size trees) trees))

-- the fragment takes a type
abbrev pub is_type : Fragment → Bool
is_type fragment.Ident = false
is_type fragment.Literal = false
is_type fragment.Lifetime = false
is_type fragment.Block = false
is_type fragment.Vis = false
is_type fragment.Tt = false
is_type (fragment.Grammar grammar.Expr) = false
is_type (fragment.Grammar grammar.Expr2021) = false
is_type (fragment.Grammar grammar.Ty) = true
is_type (fragment.Grammar grammar.Pat) = false
is_type (fragment.Grammar grammar.PatParam) = false
is_type (fragment.Grammar grammar.Path) = false
is_type (fragment.Grammar grammar.Stmt) = false
is_type (fragment.Grammar grammar.Item) = false
is_type (fragment.Grammar grammar.Meta) = false

-- a type of one token, which `<` behind it would join
abbrev pub is_joined : Fragment → (less_follows : Bool) → Forest → Bool
is_joined which less_follows trees = less_follows && (is_type which && is_at_ident trees)

-- what the fragment took is enclosed; without a fragment nothing was taken
abbrev pub is_enclosed : Option Fragment → (less_follows : Bool) → Forest → Bool
is_enclosed None less_follows trees = false
is_enclosed (Some which) less_follows trees = (is_bound_as_one which && is_more trees) || is_joined which less_follows trees

-- the trees in an opaque subtree of these spans
abbrev pub enclosed_between : (first last : Span) → Forest → Forest
enclosed_between first last trees = node (record { open_span = first; close = last; kind = InvisibleOpaque }) trees end

-- the same, if there are such spans
abbrev pub enclosed_if : Option Span → Option Span → Forest → Forest
enclosed_if None last trees = trees
enclosed_if (Some first) None trees = trees
enclosed_if (Some first) (Some last) trees = enclosed_between first last trees

-- the trees in an opaque subtree with the spans of their first and last token
abbrev pub enclosed : Forest → Forest
enclosed trees = enclosed_if (option_map first_span (first_token trees)) (last_span trees) (alone trees)

-- what replaces a use of what the fragment took; its last token does not form one token with what follows
abbrev pub as_piece : Option Fragment → (less_follows : Bool) → Forest → Forest
as_piece which less_follows trees = if is_enclosed which less_follows trees then enclosed trees else alone trees
