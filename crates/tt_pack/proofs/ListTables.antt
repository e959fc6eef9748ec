-- The tables of a list of tokens, from the uses of its values.
use Rattle.std.proofs.Common.{◌≡◌, ℕ, ◌+◌, ◌<◌, ◌≤◌, ◌^◌, Bool, true, List, [], map, bytes_eq, length, get_or, drop, ap, sym, subst, ◌∙◌, refl, arith}
use Rattle.std.proofs.lemmas.Map.Entries.{length-keys_of}
use Rattle.std.specs.Cmp.{IsEquivalence}
use Rattle.std.specs.List.{AllZip}
use Rattle.std.specs.Map.{keys_of, values_of}
use Rattle.tt_base.specs.contracts.span.SpanPartEq.TheImpl.Laws as part_eq
use Rattle.tt_base.specs.contracts.symbol.SymbolEq.TheImpl.Laws as symbol_eq
use Rattle.tt_base.specs.declared.delimiter.Subtree.{Subtree}
use Rattle.tt_base.specs.declared.leaf.Leaf.{Leaf}
use Rattle.tt_base.specs.declared.span.SpanPart.{SpanPart}
use Rattle.tt_base.specs.declared.token_tree.TokenTree.{TokenTree}
use Rattle.tt_base.specs.declared.token_tree.TokenTree.TheVariants as token
use Rattle.tt_codec.specs.declared.entry.Entry.TheVariants.{Leaf as of_leaf, Header as of_header}
use Rattle.tt_codec.specs.declared.entry.HeaderEntry.{HeaderEntry}
use Rattle.tt_codec.specs.declared.entry.LeafEntry.{LeafEntry}
use Rattle.tt_tables.specs.Searches.{IsNamedLeaf, IsNamedHeader}
use Rattle.tt_tables.specs.Stored.{most_parts, most_symbols}
use Rattle.tt_tables.specs.TableOrder.{different, uses_of, IsTable}
use Rattle.tt_tables.specs.Tables.{Tables, part_table, symbol_table, header_entry}
use Rattle.tt_tables.specs.Uses.{same_part, part_uses, symbol_uses}
use Rattle.tt_tables.proofs.TokenTables.{part_sound, text_sound, part_table_only, symbol_table_only}
use Rattle.tt_pack.specs.declared.counted.CountedValues.{CountedValues}
use Rattle.tt_pack.specs.declared.few.FewValues.{FewValues}
use Rattle.tt_pack.specs.declared.table.Table.{Table}
use Rattle.tt_pack.specs.declared.tables.ListTables.{ListTables}
use Rattle.tt_pack.specs.declared.uses.ListUses.{ListUses}
use Rattle.tt_pack.specs.Counted.{counted, LeadsTo}
use Rattle.tt_pack.specs.CountedValues.{HasCounted}
use Rattle.tt_pack.specs.Few.{HasNoted}
use Rattle.tt_pack.specs.Meeting.{AreListUses}
use Rattle.tt_pack.specs.Room.{HasRoomForAll}
use Rattle.tt_pack.specs.TablesOf.{IsTableFor, HasUses, AreTables, AreTablesOf, AreNumbers, LeadsList, tokens_in, tables_of}
use Rattle.tt_pack.specs.Writing.{first_child_bytes, IsEntryAt}
use Rattle.tt_pack.proofs.CountedValues.{counted_values, beside_numbers}
use Rattle.tt_pack.proofs.Meeting.{uses_map}
use Rattle.tt_pack.proofs.Paired.{paired_map}
use Rattle.tt_pack.proofs.Sorted.{few_are_table}
use Rattle.tt_pack.proofs.Storing.{tables_made}
use Rattle.tt_pack.proofs.TableFacts.{length-table_of, new_index_noted, stays_there}

-- ---- one table

module _ {X : Type 0} (same : X → X → Bool) (sound : (x y : X) → same x y ≡ true → x ≡ y) (laws : IsEquivalence same) (short : ℕ) (uses : List X) (table : Table X) where
  -- A table with the new indices of the values by first use has the new index of each value among them.
  pub table_leads : length (different same uses) ≤ 2 ^ 32 → IsTable same short uses table.values.items
      → ((index : ℕ) → index < length (different same uses) → LeadsTo (different same uses) table.values.items table.new_indices.items index) → IsTableFor same short uses table
  table_leads few is leads = record {
    is = is;
    leads = λ i x. new_index_noted same sound laws short uses (different same uses) table.values.items table.new_indices.items i x is few leads;
  }

  -- Few values are their table without a change.
  pub few_stand : length (different same uses) ≤ short → short ≤ 2 ^ 32 → table.values.items ≡ different same uses → table.new_indices.items ≡ [] → IsTableFor same short uses table
  few_stand few short_is stay no_moves =
      table_leads (omega (arith, few, short_is))
      (subst (IsTable same short uses) (sym stay) (few_are_table same sound laws.refl short uses (different same uses) refl few))
      (λ index within. stays_there (different same uses) _ _ index stay no_moves)

  -- Counted values have new indices in their table.
  pub counted_leads : (values : List X) (numbers : List ℕ) (counts : List (X × ℕ)) → values ≡ keys_of counts → numbers ≡ values_of counts → length (keys_of counts) ≤ 2 ^ 32
      → counts ≡ counted same uses → (values ≡ different same uses → numbers ≡ map (uses_of same uses) values → IsTable same short uses table.values.items)
      → ((index : ℕ) → index < length values → LeadsTo values table.values.items table.new_indices.items index) → IsTableFor same short uses table
  counted_leads values numbers counts are_keys are_numbers few are is leads =
      let by_use : values ≡ different same uses = are_keys ∙ ap keys_of are ∙ counted_values same uses in
      let right : numbers ≡ map (uses_of same uses) values = are_numbers ∙ ap values_of are ∙ beside_numbers (uses_of same uses) (different same uses) ∙ ap (map (uses_of same uses)) (sym by_use) in
      table_leads (omega (arith, few, ap length are_keys, ap length by_use)) (is by_use right) (subst (λ l. (index : ℕ) → index < length l → LeadsTo l table.values.items table.new_indices.items index) by_use leads)

-- ---- both

module _ (tokens : List TokenTree) where
  -- There are as many different parts as the table has.
  pub many_parts : length (part_table tokens) ≡ length (different same_part (part_uses tokens))
  many_parts = length-table_of same_part part_sound part_eq.lawful.laws 15 (part_uses tokens)

  -- There are as many different symbols as the table has.
  pub many_symbols : length (symbol_table tokens) ≡ length (different bytes_eq (symbol_uses tokens))
  many_symbols = length-table_of bytes_eq text_sound symbol_eq.lawful.laws 63 (symbol_uses tokens)

  module _ (values : CountedValues) (has : HasCounted values (part_uses tokens) (symbol_uses tokens)) where
    -- As many parts were used as the table has.
    pub many_parts_met : length values.parts.entries ≡ length (part_table tokens)
    many_parts_met = sym (length-keys_of values.parts.entries) ∙ ap (λ l. length (keys_of l)) has.all_parts ∙ ap length (counted_values same_part (part_uses tokens)) ∙ sym many_parts

    -- As many symbols were used as the table has.
    pub many_symbols_met : length values.symbols.entries ≡ length (symbol_table tokens)
    many_symbols_met = sym (length-keys_of values.symbols.entries) ∙ ap (λ l. length (keys_of l)) has.all_symbols ∙ ap length (counted_values bytes_eq (symbol_uses tokens)) ∙ sym many_symbols

  -- If there are few used values, they are the tables.
  pub few_tables : (values : FewValues) (parts : Table SpanPart) (symbols : Table (List ℕ)) → HasNoted values (part_uses tokens) (symbol_uses tokens)
      → parts.values ≡ values.parts → parts.new_indices.items ≡ [] → symbols.values ≡ values.symbols → symbols.new_indices.items ≡ [] → AreTables tokens parts symbols
  few_tables values parts symbols has parts_stay no_part_moves symbols_stay no_symbol_moves =
      let few_parts : length (different same_part (part_uses tokens)) ≤ 15 = omega (arith, has.few_parts, ap length has.all_parts) in
      let few_symbols : length (different bytes_eq (symbol_uses tokens)) ≤ 24 = omega (arith, has.few_symbols, ap length has.all_symbols) in
      record {
        all_parts = few_stand same_part part_sound part_eq.lawful.laws 15 (part_uses tokens) parts few_parts (omega arith) (ap (λ l. l.items) parts_stay ∙ has.all_parts) no_part_moves;
        few_parts = omega (arith, many_parts, few_parts);
        all_symbols = few_stand bytes_eq text_sound symbol_eq.lawful.laws 63 (symbol_uses tokens) symbols (omega (arith, few_symbols)) (omega arith) (ap (λ l. l.items) symbols_stay ∙ has.all_symbols) no_symbol_moves;
        few_symbols = omega (arith, many_symbols, few_symbols);
      }

  module _ (parts : Table SpanPart) (symbols : Table (List ℕ)) (are : AreTables tokens parts symbols) where
    -- The indices in these tables can be written.
    pub few_in_tables : (length parts.values.items + 2 ≤ most_parts) × (length symbols.values.items ≤ most_symbols)
    few_in_tables = (
      omega (arith, are.few_parts, ap length (part_table_only tokens parts.values.items are.all_parts.is)),
      omega (arith, are.few_symbols, ap length (symbol_table_only tokens symbols.values.items are.all_symbols.is)),
    )

  -- The tables have the new index of each value that a token uses.
  pub list_tables : (tables : ListTables) (uses : ListUses) → tokens_in tables ≡ tokens → AreTables tokens tables.parts tables.symbols → AreListUses tokens uses → tables.uses ≡ uses.tokens
      → tables.room ≡ uses.room → AreNumbers tokens_in tables_of LeadsList tokens tables
  list_tables tables uses same are is kept room = record {
    same = same;
    are = subst (λ l. AreTablesOf l (tables_of tables)) (sym same) (record {
      whole = is.whole;
      are = tables_made _ _ tokens (part_table_only tokens tables.parts.values.items are.all_parts.is) (symbol_table_only tokens tables.symbols.values.items are.all_symbols.is);
      few_parts = are.few_parts;
      few_symbols = are.few_symbols;
    });
    led = record {
      uses =
          subst (λ l. AllZip (HasUses tables) l tables.uses.items) (sym same)
          (subst (λ l. AllZip (HasUses tables) tokens l.items) (sym kept)
          (paired_map _ _ tokens uses.tokens.items (λ it found. uses_map _ _ _ _ it found (λ i x. are.all_parts.leads i x) (λ i x. are.all_symbols.leads i x)) is.stand));
      room = subst (λ l. HasRoomForAll l tables.room) (sym same) (subst (HasRoomForAll tokens) (sym room) is.room);
    };
  }

-- ---- a token in numbers

module _ (tables : Tables) (tokens : List TokenTree) (index : ℕ) where
  -- A leaf in numbers is the entry at its index.
  pub leaf_named : (it : Leaf) (entry : LeafEntry) → token.Leaf it ≡ get_or tokens index (token.Leaf it) → IsNamedLeaf tables it entry → IsEntryAt tables tokens index (of_leaf entry)
  leaf_named it entry read named =
      record { it = token.Leaf it; read = read; named = record { known = named.known; is = ap of_leaf named.is; fits = named.fits; range = named.range } }

  -- A header in numbers is, if `child_bytes` is the number of bytes below it.
  pub header_named : (it : Subtree) (entry : HeaderEntry) (child_bytes : ℕ) → token.Subtree it ≡ get_or tokens index (token.Subtree it)
      → child_bytes ≡ first_child_bytes tables (drop index tokens) → IsNamedHeader tables it child_bytes entry → IsEntryAt tables tokens index (of_header entry)
  header_named it entry child_bytes read held named =
      record { it = token.Subtree it; read = read; named = record { known = named.known; is = ap of_header (named.is ∙ ap (header_entry tables it) held); fits = named.fits; range = named.range } }
