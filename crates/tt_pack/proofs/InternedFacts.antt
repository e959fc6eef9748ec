-- Interned tokens under their tables.
use Rattle.std.proofs.Common.{◌≡◌, ℕ, ◌<◌, ◌≤◌, Some, All, List, [], map, length, count_by, nat_lt, nat_eq, bytes_eq, slice_get, ap, sym, subst, ◌∙◌, arith}
use Rattle.std.proofs.lemmas.List.{length-map}
use Rattle.std.proofs.lemmas.Option.{slice_get-map, get_or_from_slice_get}
use Rattle.std.specs.Option.{option_map}
use Rattle.std.specs.List.{AllZip, range_with_len}
use Rattle.tt_base.specs.contracts.span.SpanPartEq.TheImpl.Laws as part_eq
use Rattle.tt_base.specs.contracts.symbol.SymbolEq.TheImpl.Laws as symbol_eq
use Rattle.tt_base.specs.declared.span.SpanPart.{SpanPart}
use Rattle.tt_base.specs.declared.token_tree.TokenTree.{TokenTree}
use Rattle.tt_tables.specs.declared.token.InternedToken.{InternedToken}
use Rattle.tt_tables.specs.Counted.{AreOf}
use Rattle.tt_tables.specs.Stored.{most_parts, most_symbols}
use Rattle.tt_tables.specs.TableOrder.{different, uses_of, IsIn, IsTable}
use Rattle.tt_tables.specs.Tables.{tables_from, short_parts, short_symbols, part_table, symbol_table}
use Rattle.tt_tables.specs.Uses.{same_part, part_uses, symbol_uses}
use Rattle.tt_tables.proofs.TokenTables.{part_sound, part_table_is, part_table_only, text_sound, symbol_table_only}
use Rattle.tt_pack.specs.declared.table.Table.{Table}
use Rattle.tt_pack.specs.Counted.{new_index, LeadsTo}
use Rattle.tt_pack.specs.Leading.{LeadsByPlace}
use Rattle.tt_pack.specs.Places.{part_places, AreRanked, IsAt}
use Rattle.tt_pack.specs.TablesOf.{StandsAt, HasNewIndexAt}
use Rattle.tt_pack.proofs.InOrder.{all_in_order}
use Rattle.tt_pack.proofs.Paired.{length-paired}
use Rattle.tt_pack.proofs.PlacesNamed.{values_alike, places_within, mapped_at, member_at_place, different_at, places_named, partner_at}
use Rattle.tt_pack.proofs.TableFacts.{index_in-distinct, length-table_of, new_index_noted}
use Rattle.tt_pack.proofs.UsedParts.{used_different, stands_by_first_use}

module _ (tokens : List InternedToken) (parts : List SpanPart) (part_numbers : List ℕ) (symbols : List (List ℕ)) (symbol_numbers : List ℕ) (list : List TokenTree)
    (are : AreOf tokens parts part_numbers symbols symbol_numbers list) where
  places_at : AllZip (IsAt parts) (part_places tokens) (part_uses list)
  places_at = places_named (tables_from parts symbols) tokens list are.named

  -- The different parts are at the different places.
  order_at : AllZip (IsAt parts) (different nat_eq (part_places tokens)) (different same_part (part_uses list))
  order_at = different_at parts same_part part_eq.lawful.laws part_sound are.distinct (part_places tokens) (part_uses list) places_at

  pub order_length : length (different nat_eq (part_places tokens)) ≡ length (different same_part (part_uses list))
  order_length = length-paired (IsAt parts) _ _ order_at

  -- As many numbers are above 0 as there are used parts.
  pub used_parts : count_by (nat_lt 0) part_numbers ≡ length (different same_part (part_uses list))
  used_parts =
      ap (count_by (nat_lt 0)) are.parts_counted
      ∙ used_different same_part part_eq.lawful.laws part_sound (part_uses list) parts are.distinct (member_at_place parts (part_places tokens) (part_uses list) places_at)

  -- The table has as many parts as there are used ones.
  pub length-part_table : length (part_table list) ≡ count_by (nat_lt 0) part_numbers
  length-part_table = length-table_of same_part part_sound part_eq.lawful.laws short_parts (part_uses list) ∙ sym used_parts

  pub length-symbol_table : length (symbol_table list) ≡ length symbols
  length-symbol_table = length-table_of bytes_eq text_sound symbol_eq.lawful.laws short_symbols (symbol_uses list) ∙ sym (ap length are.in_order)

  -- There is a number for each part.
  as_many : length part_numbers ≡ length parts
  as_many = ap length are.parts_counted ∙ length-map parts (uses_of same_part (part_uses list))

  -- The symbols in the order of first uses, and their table.
  module _ (values : List (List ℕ)) (numbers : List ℕ) (values_are : values ≡ symbols) (numbers_are : numbers ≡ symbol_numbers) (table : Table (List ℕ))
      (is : (uses : List (List ℕ)) → values ≡ different bytes_eq uses → numbers ≡ map (uses_of bytes_eq uses) values → IsTable bytes_eq short_symbols uses table.values.items) where
    symbols_are : IsTable bytes_eq short_symbols (symbol_uses list) table.values.items
    symbols_are = is (symbol_uses list) (values_are ∙ are.in_order) (numbers_are ∙ are.symbols_counted ∙ ap (map (uses_of bytes_eq (symbol_uses list))) (sym values_are))

    pub symbols_made : table.values.items ≡ symbol_table list
    symbols_made = symbol_table_only list table.values.items symbols_are

    -- The new index of each symbol is its index in the table.
    pub symbols_lead : length values ≤ most_symbols → ((index : ℕ) → index < length values → LeadsTo values table.values.items table.new_indices.items index)
        → (place : ℕ) (x : List ℕ) → StandsAt symbols place x → HasNewIndexAt bytes_eq table.values.items table.new_indices.items place x
    symbols_lead few leads place x stands =
        new_index_noted bytes_eq text_sound symbol_eq.lawful.laws short_symbols (symbol_uses list) values table.values.items table.new_indices.items place x symbols_are (omega (arith, few)) leads
        (subst (λ l. StandsAt l place x) (sym values_are) stands)

  -- The different parts are at the different places, in the order of first uses.
  module _ (order : List ℕ) (is : order ≡ different nat_eq (part_places tokens)) where
    used_at : AllZip (IsAt parts) order (different same_part (part_uses list))
    used_at = subst (λ l. AllZip (IsAt parts) l (different same_part (part_uses list))) (sym is) order_at

    -- Each of these places has a part.
    pub within_parts : All (λ place. place < length parts) order
    within_parts = places_within parts order _ used_at

    pub within_numbers : All (λ place. place < length part_numbers) order
    within_numbers = subst (λ n. All (λ place. place < n) order) (sym as_many) within_parts

    -- The values at these places are these parts.
    pub parts_found : (found : List SpanPart) → AllZip (IsAt parts) order found → found ≡ different same_part (part_uses list)
    parts_found found at = values_alike parts order found _ at used_at

    -- The numbers at these places are their numbers of uses.
    pub numbers_found : (found : List SpanPart) (numbers : List ℕ) → AllZip (IsAt parts) order found → AllZip (IsAt part_numbers) order numbers
        → numbers ≡ map (uses_of same_part (part_uses list)) found
    numbers_found found numbers at beside =
        values_alike part_numbers order numbers (map (uses_of same_part (part_uses list)) found) beside
        (subst (λ l. AllZip (IsAt l) order (map (uses_of same_part (part_uses list)) found)) (sym are.parts_counted) (mapped_at parts (uses_of same_part (part_uses list)) order found at))

    -- By the rank of its place, each part has its index in the table as its new index.
    pub parts_lead : (ranks new_indices part_indices : List ℕ) (table : List SpanPart) → length order ≤ most_parts → AreRanked order ranks → part_indices ≡ map (new_index new_indices) ranks
        → table ≡ part_table list → ((index : ℕ) → index < length order → LeadsTo (different same_part (part_uses list)) table new_indices index)
        → (place : ℕ) (x : SpanPart) → IsAt parts place x → IsIn same_part table x → HasNewIndexAt same_part table part_indices place x
    parts_lead ranks new_indices part_indices table few ranked indices made leads place x here known =
        let used : List SpanPart = different same_part (part_uses list) in
        let as_long : length order ≡ length used = length-paired (IsAt parts) _ _ used_at in
        let is_table : IsTable same_part short_parts (part_uses list) table = subst (IsTable same_part short_parts (part_uses list)) (sym made) (part_table_is list) in
        let (j, stands) = stands_by_first_use same_part part_eq.lawful.laws part_sound (part_uses list) table x is_table.has_no_other known in
        let (p, at_rank, value) = partner_at (IsAt parts) order used j x used_at stands in
        let same_place : p ≡ place = sym (index_in-distinct same_part part_eq.lawful.laws parts p x are.distinct value) ∙ index_in-distinct same_part part_eq.lawful.laws parts place x are.distinct here in
        let rank : slice_get ranks place ≡ Some j = ap (slice_get ranks) (sym same_place) ∙ ranked j p at_rank in
        let noted : slice_get part_indices place ≡ Some (new_index new_indices j) = ap (λ l. slice_get l place) indices ∙ slice_get-map (new_index new_indices) ranks place ∙ ap (option_map (new_index new_indices)) rank in
        get_or_from_slice_get part_indices place (new_index new_indices j) place noted
        ∙ new_index_noted same_part part_sound part_eq.lawful.laws short_parts (part_uses list) used table new_indices j x is_table (omega (arith, as_long, few))
        (λ index l. leads index (omega (arith, as_long, l))) (λ wide. stands)

  -- If the parts are in the order of first uses, all of them are used.
  module _ (in_order : different nat_eq (part_places tokens) ≡ range_with_len 0 (length parts)) where
    pub used_in_order : parts ≡ different same_part (part_uses list)
    used_in_order = parts_found (range_with_len 0 (length parts)) (sym in_order) parts (all_in_order [] parts)

    -- The table made from them.
    module _ (values : List SpanPart) (numbers : List ℕ) (values_are : values ≡ parts) (numbers_are : numbers ≡ part_numbers) (table : Table SpanPart)
        (is : (uses : List SpanPart) → values ≡ different same_part uses → numbers ≡ map (uses_of same_part uses) values → IsTable same_part short_parts uses table.values.items) where
      parts_are : IsTable same_part short_parts (part_uses list) table.values.items
      parts_are = is (part_uses list) (values_are ∙ used_in_order) (numbers_are ∙ are.parts_counted ∙ ap (map (uses_of same_part (part_uses list))) (sym values_are))

      pub parts_made : table.values.items ≡ part_table list
      parts_made = part_table_only list table.values.items parts_are

      -- The new index of each part is its index in the table.
      pub parts_lead_on : length values ≤ most_parts → ((index : ℕ) → index < length values → LeadsTo values table.values.items table.new_indices.items index)
          → LeadsByPlace parts table.values.items table.new_indices.items
      parts_lead_on few leads place x here known =
          new_index_noted same_part part_sound part_eq.lawful.laws short_parts (part_uses list) values table.values.items table.new_indices.items place x parts_are (omega (arith, few)) leads
          (λ wide. subst (λ l. IsAt l place x) (sym values_are) here)
