-- Trees in the order of a text.
use Rattle.std.specs.Prelude.{◌≤◌, ◌==◌, ℕ, List, if◌then◌else◌}
use Rattle.tt.specs.Forest.{Forest, end, leaf, node}
use Rattle.tt.specs.Span.{start_of, end_of}
use Rattle.tt.specs.Token.{leaf_span}
use Rattle.tt.specs.Types.Delimiter.{Delimiter}
use Rattle.tt.specs.Types.Leaf.{Leaf}
use Rattle.tt.specs.Types.Leaf.TheVariants as leaf_of
use Rattle.syntax_edit.specs.Texts.{IsRange}

-- the bytes from a place to another are a range of a text that begins at byte `from` or after it
pub record Lies (text : List ℕ) (from start end : ℕ) : Type 0 where
  pub after : from ≤ start
  pub range : IsRange text start end

-- the first byte at which a leaf's successor may begin: the leaf's start, as for tokens of a doc comment; after `;` its end
abbrev pub byte_behind : Leaf → ℕ
byte_behind (leaf_of.Literal it) = start_of it.span.range
byte_behind (leaf_of.Punct it) = if it.char == 59 then end_of it.span.range else start_of it.span.range
byte_behind (leaf_of.Ident it) = start_of it.span.range

-- Trees lie in a text, from a byte to another: each token begins at the start of the one before it, as those of a doc comment do, or after
-- it. The children of a subtree begin before its closing bracket. What follows the subtree begins at the end of that bracket or after it.
pub data Laid (text : List ℕ) : (from : ℕ) → Forest → (to : ℕ) → Type 0 where
  lies_end : {from to : ℕ} → from ≤ to → Laid text from end to
  lies_leaf : {from to : ℕ} {it : Leaf} {rest : Forest}
      → Lies text from (start_of (leaf_span it).range) (end_of (leaf_span it).range)
      → Laid text (byte_behind it) rest to
      → Laid text from (leaf it rest) to
  lies_node : {from to : ℕ} {delimiter : Delimiter} {children rest : Forest}
      → Lies text from (start_of delimiter.open_span.range) (end_of delimiter.open_span.range)
      → Laid text (start_of delimiter.open_span.range) children (start_of delimiter.close.range)
      → IsRange text (start_of delimiter.close.range) (end_of delimiter.close.range)
      → Laid text (end_of delimiter.close.range) rest to
      → Laid text from (node delimiter children rest) to
