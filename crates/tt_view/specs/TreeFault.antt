-- Why a call returns no tree: the first limit that the tree exceeds, or memory runs out.
use Rattle.std.specs.Prelude.{ℕ, ◌<◌, ◌≤◌, length}
use Rattle.tt_base.specs.declared.delimiter.Delimiter.{Delimiter}
use Rattle.tt_base.specs.declared.fault.TtFault.{TtFault}
use Rattle.tt_base.specs.declared.fault.TtFault.TheVariants.{Memory, NotOneSubtree, NoSuchPlace, NotALeaf, SuffixTooLong, BadScan, TooManyTokens, TooManySpanParts, TooManySymbols, TooManyBytes, PointsSpent}
use Rattle.tt_base.specs.declared.leaf.Leaf.{Leaf}
use Rattle.tt_base.specs.Edits.{HasLeafAt, HasHeaderAt, leaf_set}
use Rattle.tt_base.specs.Forest.{Forest, Root, size, flat_root}
use Rattle.tt_tables.specs.Stored.{most_tokens}
use Rattle.tt_tables.specs.PackFault.{HasManyParts, HasManySymbols, HasManyBytes}

-- trees under a delimiter
abbrev pub under : Delimiter → Forest → Root
under delimiter children = record { delimiter = delimiter; children = children }

-- the tree is refused for that reason; memory may run out for any tree
abbrev pub IsTreeFault : Root → TtFault → Type 0
IsTreeFault root Memory = Unit {0}
IsTreeFault root NotOneSubtree = ⊥
IsTreeFault root NoSuchPlace = ⊥
IsTreeFault root NotALeaf = ⊥
IsTreeFault root SuffixTooLong = ⊥
IsTreeFault root BadScan = ⊥
IsTreeFault root TooManyTokens = most_tokens < size root.children
IsTreeFault root TooManySpanParts = (size root.children ≤ most_tokens) × HasManyParts root
IsTreeFault root TooManySymbols = (size root.children ≤ most_tokens) × HasManySymbols root
IsTreeFault root TooManyBytes = (size root.children ≤ most_tokens) × HasManyBytes root
IsTreeFault root PointsSpent = ⊥

-- why a call sets no leaf at a place: there is no such place, or a header is there, or the tree with the leaf is refused
abbrev pub IsSetFault : Root → (place : ℕ) → Leaf → TtFault → Type 0
IsSetFault root place it NoSuchPlace = length (flat_root root) ≤ place
IsSetFault root place it NotALeaf = HasHeaderAt (flat_root root) place
IsSetFault root place it fault = HasLeafAt (flat_root root) place × IsTreeFault (leaf_set place it root) fault
