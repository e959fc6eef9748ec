-- The bytes written for a header and the tokens below it are stored for their tree.
use Rattle.std.proofs.Common.{◌≡◌, inl, inr, ℕ, suc, ◌+◌, ◌<◌, ◌≤◌, ◌^◌, true, List, [], ◌∷◌, ◌++◌, length, ap, ap₂, sym, subst, ◌∙◌, arith}
use Rattle.std.specs.List.{AllByRecursion}
use Rattle.tt_base.specs.declared.delimiter.Subtree.{Subtree}
use Rattle.tt_base.specs.declared.fault.TtFault.{TtFault}
use Rattle.tt_base.specs.declared.fault.TtFault.TheVariants.{Memory, NotOneSubtree, TooManySpanParts, TooManySymbols, TooManyBytes}
use Rattle.tt_base.specs.declared.span.SpanPart.{SpanPart}
use Rattle.tt_base.specs.declared.token_tree.TokenTree.{TokenTree}
use Rattle.tt_base.specs.declared.token_tree.TokenTree.TheVariants as token
use Rattle.tt_base.specs.Fits.{TokenInRange}
use Rattle.tt_base.specs.Forest.{Forest, Root, size, header, flat, flat_root, IsWhole, IsOneSubtree}
use Rattle.tt_base.specs.Unflat.{whole_iff, length-flat, unflat}
use Rattle.tt_codec.specs.declared.entry.HeaderEntry.{HeaderEntry}
use Rattle.tt_codec.specs.Header.{format_4, top_entry}
use Rattle.tt_tables.specs.Meaning.{IsStored}
use Rattle.tt_tables.specs.PackFault.{IsTreeWith, HasManyParts, HasManySymbols, HasManyBytes, IsPackFault}
use Rattle.tt_base.specs.Span.{part_of}
use Rattle.tt_tables.specs.Stored.{bytes, bytes_below, root_parts, packed}
use Rattle.tt_tables.specs.Tables.{Tables, Knows, tables_for, tables_from, part_table, symbol_table}
use Rattle.tt_base.proofs.CutLists.{one_subtree_iff}
use Rattle.tt_tables.proofs.Known.{all_known}
use Rattle.tt_tables.proofs.StoredAlike.{length-root_parts}
use Rattle.tt_tables.proofs.TokenTables.{part_table_is, symbol_table_is}
use Rattle.tt_pack.specs.Packed.{stored_of, root_of, HasFewParts, HasFewSymbols, IsStoreFault}
use Rattle.tt_pack.specs.Writing.{byte_count, IsWritten}
use Rattle.tt_pack.proofs.Writing.{IsWriteFault}

-- The two tables of tokens are their tables.
pub tables_made : (parts : List SpanPart) (symbols : List (List ℕ)) (below : List TokenTree) → parts ≡ part_table below → symbols ≡ symbol_table below
    → tables_from parts symbols ≡ tables_for below
tables_made parts symbols below e f = λ i. record { parts = e i; symbols = f i }

-- The tables of tokens have all their values.
pub tables_for_know : (below : List TokenTree) → AllByRecursion (Knows (tables_for below)) below
tables_for_know below = all_known (tables_for below) below (part_table_is below).has_all (symbol_table_is below).has_all

-- Tokens that cannot be written cannot be stored.
pub write_fault_is : (tables : Tables) (below : List TokenTree) (fault : TtFault) → tables ≡ tables_for below → IsWhole below → HasFewParts below → HasFewSymbols below
    → IsWriteFault (byte_count tables below) fault → IsStoreFault below fault
write_fault_is tables below fault same whole few_parts few_symbols (inl e) = inl (inl (inl e))
write_fault_is tables below fault same whole few_parts few_symbols (inr (e, over)) =
    inr (e, whole, few_parts, few_symbols, subst (λ t. 4294967295 < byte_count t below) same over)

module _ (top : Subtree) (below : List TokenTree) (w : IsWhole below) (counted : top.len ≡ length below) where
  trees : Forest
  trees = unflat below

  whole : flat (unflat below) ≡ below
  whole = (whole_iff below).0 w

  -- The trees have as many tokens as the header counts.
  pub sized : size (unflat below) ≡ top.len
  sized = sym (length-flat (unflat below)) ∙ ap length whole ∙ sym counted

  same_tables : tables_for (flat (unflat below)) ≡ tables_for below
  same_tables = ap tables_for whole

  -- All that is written is what is stored.
  pub is_stored : (tables : Tables) (entry : HeaderEntry) (written counts all : List ℕ) (parts : List SpanPart) (symbols : List (List ℕ)) (len : ℕ)
      → top.len < 2 ^ 32 → tables ≡ tables_for below → HasFewParts below → HasFewSymbols below → IsWritten tables below written counts
      → TokenInRange (token.Subtree top) → entry ≡ top_entry (length (part_table below)) top.delimiter top.len (length written)
      → all ≡ format_4 true entry ++ written
      → parts ≡ part_table below ++ part_of top.delimiter.open_span ∷ part_of top.delimiter.close ∷ []
      → symbols ≡ symbol_table below → len ≡ suc (length below)
      → IsStored (stored_of all parts symbols len) (root_of top below)
  unfolding packed
  is_stored tables entry written counts all parts symbols len bound same few_parts few_symbols done range e₁ e₂ e₃ e₄ e₅ = (
    (range, subst (AllByRecursion TokenInRange) (sym whole) done.range),
    record {
      tokens = omega (arith, sized, bound);
      parts = omega (arith, length-root_parts (root_of top below), ap (λ t. length t.parts) same_tables, few_parts);
      symbols = omega (arith, ap (λ t. length t.symbols) same_tables, few_symbols);
      bytes = omega (arith, ap length below_are, done.few);
    },
    λ i. record { bytes = bytes_are i; parts = parts_are i; symbols = (e₄ ∙ sym (ap (λ t. t.symbols) same_tables)) i; len = (e₅ ∙ ap suc (sym counted ∙ sym sized)) i },
  )
    where
      below_are : written ≡ bytes_below (unflat below)
      below_are = done.bytes ∙ ap (λ t. bytes t (unflat below)) (same ∙ sym same_tables)

      entry_is : entry ≡ top_entry (length (tables_for (flat (unflat below))).parts) top.delimiter (size (unflat below)) (length (bytes_below (unflat below)))
      entry_is = e₁ ∙ λ i. top_entry (length (sym same_tables i).parts) top.delimiter (sym sized i) (length (below_are i))

      bytes_are : all ≡ format_4 true (top_entry (length (tables_for (flat (unflat below))).parts) top.delimiter (size (unflat below)) (length (bytes_below (unflat below)))) ++ bytes_below (unflat below)
      bytes_are = e₂ ∙ ap₂ (λ e l. format_4 true e ++ l) entry_is below_are

      parts_are : parts ≡ (tables_for (flat (unflat below))).parts ++ part_of top.delimiter.open_span ∷ part_of top.delimiter.close ∷ []
      parts_are = e₃ ∙ ap (λ t. t.parts ++ part_of top.delimiter.open_span ∷ part_of top.delimiter.close ∷ []) (sym same_tables)

  -- The flat list of the tree.
  pub list_is : token.Subtree top ∷ below ≡ flat_root (root_of top below)
  list_is =
      ap (λ n. token.Subtree (record { delimiter = top.delimiter; len = n }) ∷ below) (sym sized)
      ∙ ap (λ l. header top.delimiter (size (unflat below)) ∷ l) (sym whole)

  many_parts : 268435456 < length (part_table below) + 2 → HasManyParts (root_of top below)
  many_parts h = omega (arith, h, length-root_parts (root_of top below), ap (λ t. length t.parts) same_tables)

  few_parts_is : HasFewParts below → length (root_parts (root_of top below)) ≤ 268435456
  few_parts_is h = omega (arith, h, length-root_parts (root_of top below), ap (λ t. length t.parts) same_tables)

  few_symbols_is : HasFewSymbols below → length (tables_for (flat (unflat below))).symbols ≤ 536870912
  few_symbols_is h = omega (arith, h, ap (λ t. length t.symbols) same_tables)

  many_symbols : HasFewParts below → 536870912 < length (symbol_table below) → HasManySymbols (root_of top below)
  many_symbols few over = (few_parts_is few, omega (arith, over, ap (λ t. length t.symbols) same_tables))

  many_bytes : HasFewParts below → HasFewSymbols below → 4294967295 < byte_count (tables_for below) below → HasManyBytes (root_of top below)
  many_bytes few_parts few_symbols over = (few_parts_is few_parts, few_symbols_is few_symbols, subst (λ t. 4294967295 < byte_count t below) (sym same_tables) over)

-- A header and tokens are no subtree, if it does not count exactly the tokens below it, or these are no whole list.
pub no_subtree : (top : Subtree) (below : List TokenTree) → top.len < 2 ^ 32 → ((top.len ≡ length below) × IsWhole below → ⊥) → IsOneSubtree (token.Subtree top ∷ below) → ⊥
no_subtree top below fits neither one = neither ((one_subtree_iff top below fits).0 one)

-- A header counts the tokens below it.
module _ (top : Subtree) (below : List TokenTree) (counted : top.len ≡ length below) (few : top.len < 2 ^ 32) where
  -- If they are whole, the tree of the header and these tokens is the one that is stored.
  pub stored_list : (root : Root) → IsWhole below → root ≡ root_of top below → (token.Subtree top ∷ below ≡ flat_root root) × (size root.children ≤ 4294967295)
  stored_list root whole e =
      subst (λ r. (token.Subtree top ∷ below ≡ flat_root r) × (size r.children ≤ 4294967295)) (sym e)
      (list_is top below whole counted, omega (arith, sized top below whole counted, few))

  -- If they cannot be stored, the list is refused for that reason.
  pub refused_list : (fault : TtFault) → IsStoreFault below fault → IsPackFault (token.Subtree top ∷ below) fault
  refused_list fault = refused
    where
      tree_with : (P : Root → Type 0) → IsWhole below → (IsWhole below → P (root_of top below)) → IsTreeWith P (token.Subtree top ∷ below)
      tree_with P whole has = (root_of top below, list_is top below whole counted, omega (arith, sized top below whole counted, few), has whole)

      is : (cause : TtFault) → fault ≡ cause → IsPackFault (token.Subtree top ∷ below) cause → IsPackFault (token.Subtree top ∷ below) fault
      is cause e holds = subst (IsPackFault (token.Subtree top ∷ below)) (sym e) holds

      refused : IsStoreFault below fault → IsPackFault (token.Subtree top ∷ below) fault
      refused (inl (inl (inl e))) = is Memory e tt
      refused (inl (inl (inr (e, broken)))) = is NotOneSubtree e (no_subtree top below few (λ parts. broken parts.1))
      refused (inl (inr (inl (e, whole, over)))) = is TooManySpanParts e (tree_with HasManyParts whole (λ w. many_parts top below w counted over))
      refused (inl (inr (inr (e, whole, fits, over)))) = is TooManySymbols e (tree_with HasManySymbols whole (λ w. many_symbols top below w counted fits over))
      refused (inr (e, whole, few_parts, few_symbols, over)) =
          is TooManyBytes e (tree_with HasManyBytes whole (λ w. many_bytes top below w counted few_parts few_symbols over))
