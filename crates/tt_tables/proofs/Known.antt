-- The tables of trees have all values that their tokens use.
use Rattle.std.proofs.Common.{bytes_eq, List, [], ◌∷◌, ◌++◌}
use Rattle.std.specs.List.{AllByRecursion}
use Rattle.tt_base.specs.declared.token_tree.TokenTree.{TokenTree}
use Rattle.tt_base.specs.Forest.{Forest, flat}
use Rattle.tt_tables.specs.TableOrder.{IsIn}
use Rattle.tt_tables.specs.Tables.{Tables, Knows, tables_for}
use Rattle.tt_tables.specs.Uses.{same_part, token_parts, token_symbols, part_uses, symbol_uses}
use Rattle.tt_tables.proofs.TokenTables.{part_table_is, symbol_table_is}

-- What holds for all items of two lists holds for all of each.
pub all_split : {X : Type 0} (P : X → Type 0) (xs ys : List X) → AllByRecursion P (xs ++ ys) → AllByRecursion P xs × AllByRecursion P ys
all_split P [] ys all = (tt, all)
all_split P (x ∷ xs) ys all = let (front, behind) = all_split P xs ys all.1 in ((all.0, front), behind)

-- What holds for all items of each holds for all of both.
pub all_join : {X : Type 0} (P : X → Type 0) (xs ys : List X) → AllByRecursion P xs → AllByRecursion P ys → AllByRecursion P (xs ++ ys)
all_join P [] ys front behind = behind
all_join P (x ∷ xs) ys front behind = (front.0, all_join P xs ys front.1 behind)

-- Tables that have all uses have all values of the tokens.
pub all_known : (tables : Tables) (tokens : List TokenTree) → AllByRecursion (IsIn same_part tables.parts) (part_uses tokens)
    → AllByRecursion (IsIn bytes_eq tables.symbols) (symbol_uses tokens) → AllByRecursion (Knows tables) tokens
all_known tables [] parts symbols = tt
all_known tables (it ∷ tokens) parts symbols =
    let (part, parts_behind) = all_split (IsIn same_part tables.parts) (token_parts it) (part_uses tokens) parts in
    let (symbol, symbols_behind) = all_split (IsIn bytes_eq tables.symbols) (token_symbols it) (symbol_uses tokens) symbols in
    (record { parts = part; symbols = symbol }, all_known tables tokens parts_behind symbols_behind)

-- The tables of trees have all values that their tokens use.
pub tables_for_know_trees : (trees : Forest) → AllByRecursion (Knows (tables_for (flat trees))) (flat trees)
tables_for_know_trees trees =
    all_known (tables_for (flat trees)) (flat trees) (part_table_is (flat trees)).has_all (symbol_table_is (flat trees)).has_all
