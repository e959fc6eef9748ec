-- What becomes of trees that call macros.
use Rattle.std.specs.Prelude.{Option, None, Some, option_map}
use Rattle.tt.specs.Forest.{Forest, end, leaf, node, join}
use Rattle.tt.specs.Token.{delimiter}
use Rattle.tt.specs.Types.Delimiter.{Delimiter}
use Rattle.tt.specs.Types.DelimiterKind.{DelimiterKind}
use Rattle.tt.specs.Types.DelimiterKind.TheVariants.{InvisibleOpaque, Parenthesis}
use Rattle.tt.specs.Types.Leaf.{Leaf}
use Rattle.tt.specs.Types.Span.{Span}
use Rattle.expand_items.specs.declared.expression.Enclosure.{Enclosure}
use Rattle.expand_items.specs.declared.expression.Enclosure.TheVariants as enclosed

-- what becomes of trees: leaves that stay, subtrees that are entered, trees that stay with all that they contain, and a part from a span to
-- another that is replaced by trees
pub data Outcome : Type 0 where
  nothing : Outcome
  passes : Leaf → Outcome → Outcome
  enters : Delimiter → (inside behind : Outcome) → Outcome
  stays : Forest → Outcome → Outcome
  becomes : (first last : Span) → Forest → Outcome → Outcome

-- the trees that are left
abbrev pub trees_left : Outcome → Forest
trees_left nothing = end
trees_left (passes it behind) = leaf it (trees_left behind)
trees_left (enters delimiter inside behind) = node delimiter (trees_left inside) (trees_left behind)
trees_left (stays trees behind) = join trees (trees_left behind)
trees_left (becomes first last trees behind) = join trees (trees_left behind)

-- the brackets that enclose an expansion, if there are any, unless it is refused
abbrev pub brackets_of : Enclosure → Option (Option DelimiterKind)
brackets_of enclosed.Bare = Some None
brackets_of enclosed.Opaque = Some (Some InvisibleOpaque)
brackets_of enclosed.Parentheses = Some (Some Parenthesis)
brackets_of enclosed.Refused = None

-- an expansion in them, in the place of its call
abbrev pub placed_in : Option DelimiterKind → Delimiter → Forest → Forest
placed_in None call trees = trees
placed_in (Some kind) call trees = node (delimiter kind call.open_span call.close) trees end

abbrev pub placed : Enclosure → Delimiter → Forest → Option Forest
placed enclosure call trees = option_map (λ brackets. placed_in brackets call trees) (brackets_of enclosure)
