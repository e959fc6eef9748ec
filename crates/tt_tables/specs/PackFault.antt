-- Why a flat list is not packed: the first of these faults, or memory runs out.
use Rattle.std.specs.Prelude.{◌≡◌, ◌<◌, ◌≤◌, List, length}
use Rattle.tt_base.specs.declared.fault.TtFault.{TtFault}
use Rattle.tt_base.specs.declared.fault.TtFault.TheVariants.{Memory, NotOneSubtree, NoSuchPlace, NotALeaf, SuffixTooLong, BadScan, TooManyTokens, TooManySpanParts, TooManySymbols, TooManyBytes, PointsSpent}
use Rattle.tt_base.specs.declared.token_tree.TokenTree.{TokenTree}
use Rattle.tt_base.specs.Forest.{Root, size, flat, flat_root, IsOneSubtree}
use Rattle.tt_tables.specs.Stored.{most_tokens, most_parts, most_symbols, most_bytes, root_parts, bytes_below}
use Rattle.tt_tables.specs.Tables.{tables_for}

-- the list is that of one subtree, for which this holds
abbrev pub IsTreeWith : (Root → Type 0) → List TokenTree → Type 0
IsTreeWith P tokens = (root : Root) × (tokens ≡ flat_root root) × (size root.children ≤ most_tokens) × P root

-- too many span parts, with the top's two
abbrev pub HasManyParts : Root → Type 0
HasManyParts root = most_parts < length (root_parts root)

-- few parts, and too many symbols
abbrev pub HasManySymbols : Root → Type 0
HasManySymbols root = (length (root_parts root) ≤ most_parts) × (most_symbols < length (tables_for (flat root.children)).symbols)

-- few parts and symbols, and too many bytes below the top
abbrev pub HasManyBytes : Root → Type 0
HasManyBytes root =
    (length (root_parts root) ≤ most_parts) × (length (tables_for (flat root.children)).symbols ≤ most_symbols)
    × (most_bytes < length (bytes_below root.children))

-- the list is refused for that reason; memory may run out for any list
abbrev pub IsPackFault : List TokenTree → TtFault → Type 0
IsPackFault tokens Memory = Unit {0}
IsPackFault tokens NotOneSubtree = IsOneSubtree tokens → ⊥
IsPackFault tokens NoSuchPlace = ⊥
IsPackFault tokens NotALeaf = ⊥
IsPackFault tokens SuffixTooLong = ⊥
IsPackFault tokens BadScan = ⊥
IsPackFault tokens TooManyTokens = ⊥
IsPackFault tokens TooManySpanParts = IsTreeWith HasManyParts tokens
IsPackFault tokens TooManySymbols = IsTreeWith HasManySymbols tokens
IsPackFault tokens TooManyBytes = IsTreeWith HasManyBytes tokens
IsPackFault tokens PointsSpent = ⊥
