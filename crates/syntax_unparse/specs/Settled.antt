-- How trees are read back: their leaves and brackets in order, each punct with the spacing of its reading.
use Rattle.std.specs.Prelude.{◌≡◌, ℕ, Bool, true, false, ◌==◌, List, [], ◌∷◌, None, if◌then◌else◌}
use Rattle.std.specs.Str.{chars}
use Rattle.tt_base.specs.Forest.{Forest}
use Rattle.tt_base.specs.TreeText.{is_alone}
use Rattle.tt_base.specs.declared.leaf.Leaf.{Leaf}
use Rattle.tt_base.specs.declared.leaf.Leaf.TheVariants as leaf_of
use Rattle.tt_base.specs.declared.punct.Spacing.{Spacing}
use Rattle.tt_base.specs.declared.punct.Spacing.TheVariants.{Alone, Joint}
use Rattle.tt_base.specs.declared.span.SpanPart.{SpanPart}
use Rattle.syntax_lex.specs.Reading.{AreTokensOf}
use Rattle.syntax_lex.specs.declared.token.Token.{Token}
use Rattle.syntax_parse.specs.Faults.{fault_from}
use Rattle.syntax_parse.specs.Parsed.{pieces_from}
use Rattle.syntax_parse.specs.Role.{kind_of}
use Rattle.syntax_parse.specs.Spelled.{Piece, Sort, sign, opening as opening_sort, closing as closing_sort, sort_of}
use Rattle.syntax_unparse.specs.Marks.{Mark, word, opening, closing, marks}

-- whether the first mark is a punct or the `'` of a lifetime
abbrev pub joins : List Mark → Bool
joins (word at (leaf_of.Punct punct) ∷ rest) = true
joins _ = false

-- the spacing of a punct when it is read before these marks: joint before a punct, if it was joint or joint hidden
abbrev pub settled_spacing : (char : ℕ) → Spacing → List Mark → Spacing
settled_spacing char spacing rest = if char == 39 then Joint else (if is_alone spacing then Alone else (if joins rest then Joint else Alone))

-- the reading of a leaf before these marks
abbrev pub settled_leaf : Leaf → List Mark → Sort
settled_leaf (leaf_of.Punct punct) rest = sign punct.char (settled_spacing punct.char punct.spacing rest)
settled_leaf (leaf_of.Literal literal) rest = sort_of (leaf_of.Literal literal)
settled_leaf (leaf_of.Ident ident) rest = sort_of (leaf_of.Ident ident)

-- the reading of marks
abbrev pub settled : List Mark → List Sort
settled [] = []
settled (word at it ∷ rest) = settled_leaf it rest ∷ settled rest
settled (opening pair ∷ rest) = opening_sort (kind_of pair) ∷ settled rest
settled (closing pair ∷ rest) = closing_sort (kind_of pair) ∷ settled rest

-- the sorts of pieces, without their spans
abbrev pub sorts : List Piece → List Sort
sorts [] = []
sorts (piece ∷ rest) = piece.sort ∷ sorts rest

-- the text has only valid tokens, its brackets match, and its pieces are the settled leaves and brackets of the trees
pub record ReadsBack (trees : Forest) (text : List ℕ) : Type 0 where
  pub tokens : List Token
  pub read : AreTokensOf tokens (chars text)
  pub fine : fault_from [] 0 text tokens ≡ None
  pub spells : (part : SpanPart) → sorts (pieces_from part 0 text tokens) ≡ settled (marks 0 trees)
