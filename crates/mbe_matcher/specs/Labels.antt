-- What a part of a pattern requires of an input.
use Rattle.std.specs.Prelude.{List}
use Rattle.tt.specs.Types.DelimiterKind.{DelimiterKind}
use Rattle.tt.specs.Types.Leaf.{Leaf}
use Rattle.mbe_pattern.specs.declared.pattern.Variable.{Variable}

-- trees that a variable takes, a token of these leaves, a subtree of a kind, or the end of a subtree
pub data Label : Type 0 where
  take : Variable → Label
  same : List Leaf → Label
  enter : DelimiterKind → Label
  leave : Label
