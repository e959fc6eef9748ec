-- A tree as one piece of bytes.
use Rattle.std.specs.Int.{w32, to_le_bytes}
use Rattle.std.specs.List.{AllByRecursion}
use Rattle.std.specs.Prelude.{◌≡◌, ◌⊎◌, ℕ, ◌<◌, ◌^◌, List, [], ◌∷◌, ◌++◌, length, IsUtf8}
use Rattle.tt_base.specs.declared.fault.TtFault.{TtFault}
use Rattle.tt_base.specs.declared.fault.TtFault.TheVariants.{Memory, TooManyBytes}
use Rattle.tt_base.specs.declared.span.SpanPart.{SpanPart}
use Rattle.tt_base.specs.Forest.{Root}
use Rattle.tt_tables.specs.Stored.{packed, IsInRange, IsWithinLimits}

-- a number in four bytes, lowest first
unfoldable pub number_bytes : ℕ → List ℕ
number_bytes n = to_le_bytes w32 n

-- the bytes of a part: its file, its item and its context
unfoldable pub part_bytes : SpanPart → List ℕ
part_bytes part = number_bytes part.anchor.file_id.0 ++ number_bytes part.anchor.ast_id.0 ++ number_bytes part.ctx.0

-- the bytes of a symbol: the number of bytes of its text, and its text
abbrev pub symbol_bytes : List ℕ → List ℕ
symbol_bytes text = number_bytes (length text) ++ text

-- the bytes of parts, one after the other
abbrev pub parts_bytes : List SpanPart → List ℕ
parts_bytes [] = []
parts_bytes (part ∷ parts) = part_bytes part ++ parts_bytes parts

-- the bytes of symbols, one after the other
abbrev pub symbols_bytes : List (List ℕ) → List ℕ
symbols_bytes [] = []
symbols_bytes (text ∷ symbols) = symbol_bytes text ++ symbols_bytes symbols

-- the first bytes of each piece: the format and its version
abbrev pub mark : List ℕ
mark = 116 ∷ 116 ∷ 1 ∷ 0 ∷ []

-- a piece: the mark, three counts, parts, symbols, and the packed bytes
unfoldable pub piece : (parts : List SpanPart) (symbols : List (List ℕ)) (below : List ℕ) → List ℕ
piece parts symbols below =
    mark ++ number_bytes (length parts) ++ number_bytes (length symbols) ++ number_bytes (length below)
    ++ parts_bytes parts ++ symbols_bytes symbols ++ below

-- the piece of a tree
abbrev pub tree_bytes : Root → List ℕ
tree_bytes root = piece (packed root).parts (packed root).symbols (packed root).bytes

-- the three numbers of a part are below 2^32
pub record PartFits (part : SpanPart) : Type 0 where
  pub file : part.anchor.file_id.0 < 2 ^ 32
  pub ast : part.anchor.ast_id.0 < 2 ^ 32
  pub ctx : part.ctx.0 < 2 ^ 32

-- a text is UTF-8, and its number of bytes is below 2^32
pub record TextFits (text : List ℕ) : Type 0 where
  pub utf8 : IsUtf8 text
  pub short : length text < 2 ^ 32

-- each number of a piece fits in four bytes
pub record PieceFits (parts : List SpanPart) (symbols : List (List ℕ)) (below : List ℕ) : Type 0 where
  pub part_count : length parts < 2 ^ 32
  pub symbol_count : length symbols < 2 ^ 32
  pub byte_count : length below < 2 ^ 32
  pub each_part : AllByRecursion PartFits parts
  pub each_text : AllByRecursion TextFits symbols

-- the tree has bytes: it can be stored, and each number of its piece fits in four bytes
pub record HasBytes (root : Root) : Type 0 where
  pub range : IsInRange root
  pub limits : IsWithinLimits root
  pub fits : PieceFits (packed root).parts (packed root).symbols (packed root).bytes

-- these are the bytes of that tree
pub record AreBytesOf (root : Root) (all : List ℕ) : Type 0 where
  pub has : HasBytes root
  pub is : all ≡ tree_bytes root

-- these are the bytes of no tree
abbrev pub AreBytesOfNone : List ℕ → Type 0
AreBytesOfNone all = (root : Root) → AreBytesOf root all → ⊥

-- why a tree has no bytes: memory runs out, or a count does not fit in four bytes
abbrev pub IsRefusal : Root → TtFault → Type 0
IsRefusal root fault =
    (fault ≡ Memory)
    ⊎ ((fault ≡ TooManyBytes) × (PieceFits (packed root).parts (packed root).symbols (packed root).bytes → ⊥))
