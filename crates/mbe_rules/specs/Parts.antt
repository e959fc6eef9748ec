-- A template as a flat list of parts.
use Rattle.std.specs.Prelude.{ℕ, Bool, List, [], ◌∷◌}
use Rattle.tt.specs.Types.Delimiter.{Delimiter}
use Rattle.tt.specs.Types.Leaf.{Leaf}
use Rattle.mbe_pattern.specs.declared.pattern.RepeatKind.{RepeatKind}
use Rattle.mbe_rules.specs.declared.parts.Part.{Part}
use Rattle.mbe_rules.specs.declared.parts.Part.TheVariants as part
use Rattle.mbe_rules.specs.Templates.{Template, nothing, use_of, token, subtree, repetition}

-- a use of a variable, a token, and the beginnings and ends of subtrees and repetitions
pub data Bit : Type 0 where
  uses : (at variable : ℕ) → (less_follows : Bool) → Bit
  same : Leaf → Bit
  enter : Delimiter → Bit
  leave : Bit
  begin : (at : ℕ) → Bit
  close : (separator : List Leaf) → RepeatKind → Bit

-- a part as a bit
abbrev pub bit_of : Part → Bit
bit_of (part.Use at variable less_follows) = uses at variable less_follows
bit_of (part.Token it) = same it
bit_of (part.Enter delimiter) = enter delimiter
bit_of part.Leave = leave
bit_of (part.Begin at) = begin at
bit_of (part.Close tail) = close tail.separator.items tail.kind

-- the parts of a template, before others
abbrev pub bits_of : Template → (behind : List Bit) → List Bit
bits_of nothing behind = behind
bits_of (use_of at variable less_follows others) behind = uses at variable less_follows ∷ bits_of others behind
bits_of (token it others) behind = same it ∷ bits_of others behind
bits_of (subtree delimiter inner others) behind = enter delimiter ∷ bits_of inner (leave ∷ bits_of others behind)
bits_of (repetition at inner separator kind others) behind = begin at ∷ bits_of inner (close separator kind ∷ bits_of others behind)

-- the parts of a whole template
abbrev pub all_bits : Template → List Bit
all_bits template = bits_of template (leave ∷ [])
