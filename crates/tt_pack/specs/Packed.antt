-- What is stored, from its parts, and the tree of a list.
use Rattle.std.specs.Prelude.{◌≡◌, ◌⊎◌, ◌+◌, ◌<◌, ◌≤◌, ℕ, List, length, [], ◌∷◌, ◌++◌}
use Rattle.tt_base.specs.declared.delimiter.Delimiter.{Delimiter}
use Rattle.tt_base.specs.declared.delimiter.Subtree.{Subtree}
use Rattle.tt_base.specs.declared.fault.TtFault.{TtFault}
use Rattle.tt_base.specs.declared.fault.TtFault.TheVariants.{Memory, NotOneSubtree, TooManySpanParts, TooManySymbols, TooManyBytes}
use Rattle.tt_base.specs.declared.span.SpanPart.{SpanPart}
use Rattle.tt_base.specs.declared.token_tree.TokenTree.{TokenTree}
use Rattle.tt_base.specs.Forest.{Root, IsWhole}
use Rattle.tt_tables.specs.Stored.{most_parts, most_symbols, most_bytes, Stored, packed}
use Rattle.tt_tables.specs.Tables.{tables_for, part_table, symbol_table}
use Rattle.tt_base.specs.Unflat.{unflat}
use Rattle.tt_pack.specs.Writing.{byte_count}
use Rattle.std.specs.Hash as fed
use Rattle.tt_base.specs.contracts.span.SpanPartHash.TheImpl as part_impl

-- what is stored, from its parts
abbrev pub stored_of : (bytes : List ℕ) → List SpanPart → (symbols : List (List ℕ)) → (len : ℕ) → Stored
stored_of bytes parts symbols len = record { bytes = bytes; parts = parts; symbols = symbols; len = len }

-- the same tree with that delimiter at the top
abbrev pub with_top : Delimiter → Root → Root
with_top delimiter root = record { delimiter = delimiter; children = root.children }

-- the tree of a header and the tokens below it
abbrev pub root_of : Subtree → List TokenTree → Root
root_of top below = record { delimiter = top.delimiter; children = unflat below }

-- the parts of the tokens, with the top's two, have indices that can be written
abbrev pub HasFewParts : List TokenTree → Type 0
HasFewParts below = length (part_table below) + 2 ≤ most_parts

-- the symbols of the tokens have indices that can be written
abbrev pub HasFewSymbols : List TokenTree → Type 0
HasFewSymbols below = length (symbol_table below) ≤ most_symbols

-- why the code cannot count the uses of the tokens
abbrev pub IsCountFault : List TokenTree → TtFault → Type 0
IsCountFault below fault = (fault ≡ Memory) ⊎ ((fault ≡ NotOneSubtree) × (IsWhole below → ⊥))

-- why the code cannot make the tables
abbrev pub IsTableFault : List TokenTree → TtFault → Type 0
IsTableFault below fault =
    IsCountFault below fault
    ⊎ ((fault ≡ TooManySpanParts) × IsWhole below × (most_parts < length (part_table below) + 2))
    ⊎ ((fault ≡ TooManySymbols) × IsWhole below × HasFewParts below × (most_symbols < length (symbol_table below)))

-- why the code cannot store the tokens
abbrev pub IsStoreFault : List TokenTree → TtFault → Type 0
IsStoreFault below fault =
    IsTableFault below fault
    ⊎ ((fault ≡ TooManyBytes) × IsWhole below × HasFewParts below × HasFewSymbols below × (most_bytes < byte_count (tables_for below) below))

-- what a part gives to a hash
abbrev pub fed_part : SpanPart → List (List ℕ)
fed_part = (part_impl.ghosts).hash_input

-- all bytes in one write, after their number
abbrev pub fed_bytes : List ℕ → List (List ℕ)
fed_bytes bytes = fed.usize (length bytes) ++ bytes ∷ []

-- what a tree gives to a hash: the bytes, and then the two tables
abbrev pub fed_tree : Root → List (List ℕ)
fed_tree root = fed_bytes (packed root).bytes ++ fed.slice fed_part (packed root).parts ++ fed.slice fed.str (packed root).symbols
