-- The first unit of trees, as a grammar sees it.
use Rattle.std.specs.Prelude.{ℕ, ◌&&◌, Bool, List, [], ◌∷◌, Option, None, Some, codes, if◌then◌else◌}
use Rattle.tt.specs.FirstKinds.{IsFirstKind}
use Rattle.tt.specs.Forest.{Forest, end, leaf, node}
use Rattle.tt.specs.Gluing.{glued}
use Rattle.tt.specs.Literal.{kind_of}
use Rattle.tt.specs.Moves.{after_tree}
use Rattle.tt.specs.Types.Leaf.{Leaf}
use Rattle.tt.specs.Types.Leaf.TheVariants as leaf_of
use Rattle.tt.specs.Types.Punct.{Punct}
use Rattle.tt.specs.Types.Spacing.{Spacing}
use Rattle.tt.specs.Types.TokenKind.TheVariants as kind
use Rattle.mbe_grammar.specs.declared.unit.Unit.{Unit}
use Rattle.mbe_grammar.specs.declared.unit.Unit.TheVariants as unit
use Rattle.mbe_grammar.specs.Words.{word_of}
use Rattle.mbe_pattern.specs.Units.{is_at_ident, is_at_punct}

-- the unit of glued puncts
abbrev pub unit_of_puncts : List Punct → Unit
unit_of_puncts [] = unit.End
unit_of_puncts (one ∷ []) = unit.Punct one.char
unit_of_puncts (one ∷ two ∷ []) = unit.TwoPuncts one.char two.char
unit_of_puncts (one ∷ two ∷ three ∷ others) = unit.ThreePuncts one.char two.char three.char

-- the unit of those puncts, if the first tree is a punct
abbrev pub unit_of_glued : Option (List Punct) → Unit
unit_of_glued None = unit.End
unit_of_glued (Some puncts) = unit_of_puncts puncts

-- a `'` and an ident come first
abbrev pub is_at_lifetime : Forest → Bool
is_at_lifetime trees = is_at_punct (codes "'") trees && is_at_ident (after_tree trees)

-- the first tree is a punct of that character and spacing
abbrev pub BeginsWith : (char : ℕ) → Spacing → Forest → Type 0
BeginsWith char spacing trees = IsFirstKind trees (Some (kind.Punct char spacing))

-- the first unit, which begins with a punct
abbrev pub punct_unit : Forest → Unit
punct_unit trees = if is_at_lifetime trees then unit.Lifetime else unit_of_glued (glued trees)

-- the first unit of these trees, which begins with a leaf
abbrev pub leaf_unit : Leaf → (trees : Forest) → Unit
leaf_unit (leaf_of.Literal it) trees = unit.Literal (kind_of it)
leaf_unit (leaf_of.Punct it) trees = punct_unit trees
leaf_unit (leaf_of.Ident it) trees = unit.Word (word_of it)

-- the first unit
abbrev pub first_unit : Forest → Unit
first_unit end = unit.End
first_unit (leaf it rest) = leaf_unit it (leaf it rest)
first_unit (node delimiter children rest) = unit.Subtree delimiter.kind

-- how many trees the unit has
abbrev pub size_of_unit : Unit → ℕ
size_of_unit unit.Lifetime = 2
size_of_unit (unit.TwoPuncts one two) = 2
size_of_unit (unit.ThreePuncts one two three) = 3
size_of_unit _ = 1
