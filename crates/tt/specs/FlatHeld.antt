-- What a flat builder holds, and how its calls change it.
use Rattle.std.specs.Prelude.{◌≡◌, ◌⊎◌, ◌+◌, ◌<◌, refl}
use Rattle.std.specs.Coded.{Coded, code_by, coded×}
use Rattle.tt_base.specs.Building.{Stack, above, append, bottom, close_innermost, lowest, most_held, tokens_held, IsAbove}
use Rattle.tt_base.specs.BuildingCode.{stack_code}
use Rattle.tt_base.specs.Forest.{Root, end, leaf}
use Rattle.tt_base.specs.contracts.delimiter.Delimiter.{the_row as delimiter_row}
use Rattle.tt_base.specs.declared.delimiter.Delimiter.{Delimiter}
use Rattle.tt_base.specs.declared.delimiter.DelimiterKind.{DelimiterKind}
use Rattle.tt_base.specs.declared.fault.TtFault.{TtFault}
use Rattle.tt_base.specs.declared.fault.TtFault.TheVariants.{Memory, TooManyTokens}
use Rattle.tt_base.specs.declared.leaf.Leaf.{Leaf}
use Rattle.tt_base.specs.declared.span.Span.{Span}

-- the delimiter of the tree, and the levels of its open subtrees
pub record Held : Type 0 where
  pub top : Delimiter
  pub stack : Stack

-- its code as its two parts, which a model needs
abbrev pub held_code : Coded Held
held_code = code_by (Delimiter × Stack) (coded× delimiter_row.coded stack_code) (λ h. (h.top, h.stack)) (λ p. record { top = p.0; stack = p.1 }) (λ _. refl)

-- only the top
abbrev pub none_held : Delimiter → Held
none_held top = record { top = top; stack = lowest end }

-- one more leaf at the end of the innermost open subtree
abbrev pub pushed : Leaf → Held → Held
pushed it held = record held { stack = append (leaf it end) held.stack }

-- one more open subtree
abbrev pub opened : DelimiterKind → Span → Held → Held
opened kind open_span held = record held { stack = above held.stack kind open_span end }

-- the innermost open subtree closed
abbrev pub closed : Span → Held → Held
closed close_span held = record held { stack = close_innermost close_span held.stack }

-- a subtree other than the top is open
abbrev pub IsOpen : Held → Type 0
IsOpen held = IsAbove held.stack

-- the tree that the builder returns if no subtree is open
abbrev pub built : Held → Root
built held = record { delimiter = held.top; children = bottom held.stack }

-- why the builder refuses one more token: it holds as many as a tree may have, or memory runs out
abbrev pub IsGrowthFault : Held → TtFault → Type 0
IsGrowthFault held fault = (fault ≡ Memory) ⊎ ((fault ≡ TooManyTokens) × (most_held < tokens_held held.stack + 1))
