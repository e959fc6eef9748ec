-- The tree that is stored, and the trees ahead of an offset in its bytes.
use Rattle.std.specs.Prelude.{◌≡◌, ℕ, zero, suc, ◌≤◌, List, [], drop, length}
use Rattle.std.specs.List.{AllByRecursion}
use Rattle.tt_base.specs.Fits.{TokenInRange}
use Rattle.tt_base.specs.Forest.{Forest, end, node, Root, size, flat}
use Rattle.tt_tables.specs.Stored.{most_parts, most_symbols, most_bytes, Stored, bytes, packed, IsInRange, IsWithinLimits}
use Rattle.tt_tables.specs.Tables.{Tables, Knows}

-- this is what is stored for the tree
abbrev pub IsStored : Stored → Root → Type 0
IsStored stored root = IsInRange root × IsWithinLimits root × (stored ≡ packed root)

-- it is stored for some tree
abbrev pub HasMeaning : Stored → Type 0
HasMeaning stored = (root : Root) × IsStored stored root

-- the tables have all parts and symbols that the trees use, and their indices can be written
abbrev pub CanName : Tables → Forest → Type 0
CanName tables trees =
    (length tables.parts ≤ most_parts) × (length tables.symbols ≤ most_symbols) × AllByRecursion (Knows tables) (flat trees)
    × AllByRecursion TokenInRange (flat trees)

-- there are no bytes and no trees, or one root is ahead and these are its bytes and tables
abbrev pub IsAtStart : Tables → (all : List ℕ) → Forest → Type 0
IsAtStart tables all end = all ≡ []
IsAtStart tables all (node delimiter children end) =
    IsStored (record { bytes = all; parts = tables.parts; symbols = tables.symbols; len = suc (size children) })
    (record { delimiter = delimiter; children = children })
IsAtStart tables all trees = ⊥

-- the number of bytes of the top's header
abbrev pub top_bytes : ℕ
top_bytes = 33

-- the top's header is before the offset, and the bytes of the trees are after it
pub record IsBehindTop (tables : Tables) (all : List ℕ) (offset : ℕ) (trees : Forest) : Type 0 where
  pub top : top_bytes ≤ offset
  pub inside : offset ≤ length all
  pub left : drop offset all ≡ bytes tables trees
  pub named : CanName tables trees
  pub few : length (bytes tables trees) ≤ most_bytes

-- the trees ahead of the offset: at the start the whole tree, or none; otherwise those whose bytes are after the offset
abbrev pub IsAhead : Tables → (all : List ℕ) → (offset : ℕ) → Forest → Type 0
IsAhead tables all zero trees = IsAtStart tables all trees
IsAhead tables all (suc offset) trees = IsBehindTop tables all (suc offset) trees

-- some trees are ahead
abbrev pub HasAhead : Tables → (all : List ℕ) → (offset : ℕ) → Type 0
HasAhead tables all offset = (trees : Forest) × IsAhead tables all offset trees
