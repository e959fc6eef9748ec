-- Small tokens and trees for the worked rows.
use Rattle.std.proofs.Common.{ℕ, ◌+◌, ◌-◌, ◌*◌, ◌≤◌, List, [], ◌∷◌, length, le-add_right, IsCharBoundary, nat_lt, if◌then◌else◌}
use Rattle.tt_base.specs.declared.delimiter.DelimiterKind.{DelimiterKind}
use Rattle.tt_base.specs.declared.ident.IdentIsRaw.TheVariants.{No}
use Rattle.tt_base.specs.declared.leaf.Leaf.{Leaf}
use Rattle.tt_base.specs.declared.leaf.Leaf.TheVariants as leaf
use Rattle.tt_base.specs.declared.literal.LitKind.{LitKind}
use Rattle.tt_base.specs.declared.punct.Spacing.{Spacing}
use Rattle.tt_base.specs.declared.span.Span.{Span}
use Rattle.tt_base.specs.Token.{delimiter}
use Rattle.tt_base.specs.Forest.{Forest, end, node}

-- a span of the part 0:0#0, from a start, with a length
abbrev pub span : (start len : ℕ) → Span
span start len =
    record {
      range = record { start = record { raw = start }; end = record { raw = start + len }; ordered = le-add_right start len };
      anchor = record { file_id = record { 0 = 0 }; ast_id = record { 0 = 0 } };
      ctx = record { 0 = 0 };
    }

-- a punct at 0..1
abbrev pub punct : ℕ → Spacing → Leaf
punct c spacing = leaf.Punct (record { char = c; spacing = spacing; span = span 0 1 })

-- an ident at 0..1
abbrev pub ident : List ℕ → Leaf
ident text = leaf.Ident (record { sym = text; span = span 0 1; is_raw = No })

-- a literal at 0..1, with no suffix
abbrev pub literal : (text : List ℕ) → LitKind → 0 ≤ length text → IsCharBoundary text (length text - 0) → Leaf
literal text kind fits cuts = leaf.Literal (record { symbol = text; span = span 0 1; kind = kind; suffix_len = 0; fits = fits; cuts = cuts })

-- a node of a kind, without siblings
abbrev pub subtree : DelimiterKind → Forest → Forest
subtree kind children = node (delimiter kind (span 0 1) (span 1 1)) children end

-- the value of a hexadecimal digit
abbrev pub hex_digit : ℕ → ℕ
hex_digit c = if nat_lt c 58 then c - 48 else c - 87

-- the bytes with these pairs of hexadecimal digits, which have a space between them
abbrev pub hex : List ℕ → List ℕ
hex [] = []
hex (a ∷ []) = []
hex (a ∷ b ∷ []) = (hex_digit a * 16 + hex_digit b) ∷ []
hex (a ∷ b ∷ c ∷ rest) = (hex_digit a * 16 + hex_digit b) ∷ hex rest
