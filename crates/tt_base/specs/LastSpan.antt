-- The last span of trees.
use Rattle.std.specs.Prelude.{Option, Some, None}
use Rattle.tt_base.specs.declared.span.Span.{Span}
use Rattle.tt_base.specs.Forest.{Forest, end, leaf, node}
use Rattle.tt_base.specs.Token.{leaf_span}

-- the first span if there is one, otherwise the second
abbrev pub given_or : Option Span → Span → Span
given_or None other = other
given_or (Some one) other = one

-- the last span: of the trees after the first if there are any, otherwise of what the first holds, otherwise its own span or close span
abbrev pub last_span : Forest → Option Span
last_span end = None
last_span (leaf it rest) = Some (given_or (last_span rest) (leaf_span it))
last_span (node delimiter children rest) = Some (given_or (last_span rest) (given_or (last_span children) delimiter.close))
