-- The tables that are stored for a tree have the right order.
use Rattle.std.proofs.Common.{◌≡◌, ◌-◌, bytes_eq, List, [], ◌∷◌, ◌++◌, length, length-append, take, ap, sym, subst, ◌∙◌, arith}
use Rattle.std.proofs.Math.Seq.{take-append_seam}
use Rattle.tt_base.specs.Forest.{Root, flat}
use Rattle.tt_tables.specs.Stored.{packed}
use Rattle.tt_tables.specs.TableOrder.{IsTable}
use Rattle.tt_tables.specs.Tables.{part_table, short_parts, short_symbols}
use Rattle.tt_tables.specs.Uses.{same_part, part_uses, symbol_uses}
use Rattle.tt_tables.proofs.TokenTables.{part_table_is, symbol_table_is}

-- All but the last two of a list.
but_two : {X : Type 0} (xs : List X) (a b : X) → take (length (xs ++ a ∷ b ∷ []) - 2) (xs ++ a ∷ b ∷ []) ≡ xs
but_two xs a b = ap (λ n. take n (xs ++ a ∷ b ∷ [])) count ∙ take-append_seam xs (a ∷ b ∷ [])
  where
    count : length (xs ++ a ∷ b ∷ []) - 2 ≡ length xs
    count = omega (arith, length-append xs (a ∷ b ∷ []))

-- All parts except the last two are the table of the used ones.
pub stored_part_table : (root : Root) → IsTable same_part short_parts (part_uses (flat root.children)) (take (length (packed root).parts - 2) (packed root).parts)
unfolding packed
stored_part_table root =
    subst (IsTable same_part short_parts (part_uses (flat root.children))) (sym (but_two (part_table (flat root.children)) _ _)) (part_table_is (flat root.children))

-- The symbols are the table of the used ones.
pub stored_symbol_table : (root : Root) → IsTable bytes_eq short_symbols (symbol_uses (flat root.children)) (packed root).symbols
unfolding packed
stored_symbol_table root = symbol_table_is (flat root.children)
