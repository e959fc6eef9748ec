-- The shortest bytes of a header, and the bytes of trees whose headers all are as short as possible.
use Rattle.std.specs.Prelude.{◌≡◌, ℕ, ◌≤◌, ◌⊎◌, true, false, List, [], ◌++◌, length}
use Rattle.tt_base.specs.declared.token_tree.TokenTree.TheVariants as token
use Rattle.tt_codec.specs.declared.entry.Entry.{Entry}
use Rattle.tt_codec.specs.declared.entry.Entry.TheVariants.{Leaf as of_leaf, Header as of_header}
use Rattle.tt_base.specs.Forest.{Forest, end, leaf, node, size, header}
use Rattle.tt_codec.specs.declared.entry.HeaderEntry.{HeaderEntry}
use Rattle.tt_codec.specs.Header.{has_format_1, has_format_2, has_format_3, format_1, format_2, format_3, format_4}
use Rattle.tt_tables.specs.Tables.{Tables, entry_of, token_bytes}

-- the header's bytes in a format that can hold it; the fourth can hold every header
abbrev pub CanHold : HeaderEntry → List ℕ → Type 0
CanHold it bytes =
    ((has_format_1 it ≡ true) × (bytes ≡ format_1 it))
    ⊎ ((has_format_2 it ≡ true) × (bytes ≡ format_2 it))
    ⊎ ((has_format_3 it ≡ true) × (bytes ≡ format_3 it))
    ⊎ (bytes ≡ format_4 false it)

-- the bytes can hold the header, and no shorter ones can
abbrev pub IsShortest : HeaderEntry → List ℕ → Type 0
IsShortest it bytes = CanHold it bytes × ((other : List ℕ) → CanHold it other → length bytes ≤ length other)

-- the bytes are the shortest ones if the token is a header
abbrev pub IsShortestToken : Entry → List ℕ → Type 0
IsShortestToken (of_leaf it) bytes = Unit {0}
IsShortestToken (of_header it) bytes = IsShortest it bytes

-- bytes of trees in which each header has its shortest bytes for these tables and the bytes below it
abbrev pub HasShortestHeaders : Tables → Forest → List ℕ → Type 0
HasShortestHeaders tables end bytes = bytes ≡ []
HasShortestHeaders tables (leaf it rest) bytes =
    (behind : List ℕ) × (bytes ≡ token_bytes tables (token.Leaf it) 0 ++ behind) × HasShortestHeaders tables rest behind
HasShortestHeaders tables (node delimiter children rest) bytes =
    (own : List ℕ) × (inner : List ℕ) × (behind : List ℕ) × (bytes ≡ own ++ inner ++ behind)
    × IsShortestToken (entry_of tables (header delimiter (size children)) (length inner)) own
    × HasShortestHeaders tables children inner
    × HasShortestHeaders tables rest behind
