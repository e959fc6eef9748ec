-- If the entries below the top stay different with new ids, the ids change only the table of span parts of what is stored.
use Rattle.std.proofs.Common.{◌≡◌, ℕ, suc, ◌+◌, ◌-◌, ◌≤◌, Bool, true, false, cond, bytes_eq, List, [], ◌∷◌, ◌++◌, map, length, take, get_or, refl, ap, ap₂, sym, subst, ◌∙◌, arith}
use Rattle.std.proofs.lemmas.Bool.{true≢false}
use Rattle.std.proofs.Math.Seq.{take-append_seam}
use Rattle.std.specs.List.{AllByRecursion, IsDistinct}
use Rattle.tt_base.specs.declared.leaf.Leaf.{Leaf}
use Rattle.tt_base.specs.declared.leaf.Leaf.TheVariants as leaf_of
use Rattle.tt_base.specs.declared.span.ErasedFileAstId.{ErasedFileAstId}
use Rattle.tt_base.specs.declared.span.Span.{Span}
use Rattle.tt_base.specs.declared.span.SpanPart.{SpanPart}
use Rattle.tt_base.specs.declared.token_tree.TokenTree.{TokenTree}
use Rattle.tt_base.specs.declared.token_tree.TokenTree.TheVariants as token
use Rattle.tt_base.specs.Edits.{respanned_leaf, respanned}
use Rattle.tt_base.specs.Fits.{TokenInRange}
use Rattle.tt_base.specs.Forest.{Forest, Root, end, leaf, node, size, flat}
use Rattle.tt_base.specs.Literal.{symbol_of, kind_of, suffix_len_of}
use Rattle.tt_base.specs.Span.{part_of, start_of}
use Rattle.tt_codec.specs.declared.entry.Entry.TheVariants.{Leaf as of_leaf, Header as of_header}
use Rattle.tt_codec.specs.declared.entry.LeafEntry.TheVariants.{Punct as punct, Ident as ident, Literal as literal}
use Rattle.tt_codec.specs.Entry.{entry_bytes}
use Rattle.tt_codec.specs.Header.{format_4, top_entry}
use Rattle.tt_tables.specs.AstIds.{part_with_id, parts_with_ids, respanned_token, ids_changed, under_parts, KeepApart}
use Rattle.tt_tables.specs.Meaning.{IsStored}
use Rattle.tt_tables.specs.Stored.{Stored, bytes, bytes_below, root_parts, packed, most_tokens, IsInRange, IsWithinLimits}
use Rattle.tt_tables.specs.TableOrder.{index_in, IsIn, table}
use Rattle.tt_tables.specs.Tables.{Tables, Knows, numbers_of_span, index_of_symbol, leaf_entry, part_table, symbol_table, short_parts, short_symbols, tables_from}
use Rattle.tt_tables.specs.Uses.{same_part, part_uses, symbol_uses}
use Rattle.tt_tables.proofs.Cheapest.{distinct_order, not_before}
use Rattle.tt_tables.proofs.Known.{all_split, tables_for_know_trees}
use Rattle.tt_tables.proofs.Members.{all_found}
use Rattle.tt_tables.proofs.Renaming.{names_apart, index-renamed, table-renamed}
use Rattle.tt_tables.proofs.Respanned.{size-respanned, flat-respanned, part_by, span_by, part_uses-respanned, symbol_uses-respanned}
use Rattle.tt_tables.proofs.StoredAlike.{length-root_parts}
use Rattle.tt_tables.proofs.TokenTables.{part_sound, part_complete, part_table_is}

-- ---- the entries

-- There are as many entries as before.
pub length-parts_with_ids : (ids : List ErasedFileAstId) (parts : List SpanPart) → length (parts_with_ids ids parts) ≡ length parts
length-parts_with_ids ids [] = refl
length-parts_with_ids [] (part ∷ parts) = refl
length-parts_with_ids (id ∷ ids) (part ∷ parts) = ap suc (length-parts_with_ids ids parts)

-- The last two entries have ids of their own.
with_last : (parts : List SpanPart) (ids : List ErasedFileAstId) (opens closes : SpanPart)
    → parts_with_ids ids (parts ++ opens ∷ closes ∷ [])
    ≡ parts_with_ids ids parts
    ++ part_with_id (get_or ids (length parts) opens.anchor.ast_id) opens ∷ part_with_id (get_or ids (length parts + 1) closes.anchor.ast_id) closes ∷ []
with_last [] [] opens closes = refl
with_last [] (first ∷ []) opens closes = refl
with_last [] (first ∷ second ∷ ids) opens closes = refl
with_last (part ∷ parts) [] opens closes = refl
with_last (part ∷ parts) (id ∷ ids) opens closes =
    ap (λ l. part_with_id id part ∷ l)
    (with_last parts ids opens closes
    ∙ ap (λ n. parts_with_ids ids parts ++ part_with_id (get_or ids (length parts) opens.anchor.ast_id) opens ∷ part_with_id (get_or (id ∷ ids) n closes.anchor.ast_id) closes ∷ []) further)
  where
    further : suc (length parts + 1) ≡ suc (length parts) + 1
    further = omega arith

-- The id of a part after an entry that is another part comes from the rest.
by_rest : (id : ErasedFileAstId) (ids : List ErasedFileAstId) (entry : SpanPart) (parts others : List SpanPart) → AllByRecursion (λ part. same_part entry part ≡ false) others
    → map (part_by (id ∷ ids) (entry ∷ parts)) others ≡ map (part_by ids parts) others
by_rest id ids entry parts [] all = refl
by_rest id ids entry parts (part ∷ others) all = ap₂ ◌∷◌ (by_test (same_part part entry) refl) (by_rest id ids entry parts others all.1)
  where
    index : ℕ
    index = index_in (same_part part) parts

    by_test : (t : Bool) → same_part part entry ≡ t
        → part_with_id (get_or (id ∷ ids) (cond t 0 (suc index)) part.anchor.ast_id) part ≡ part_by ids parts part
    by_test true e = absurd (true≢false (sym (part_complete entry) ∙ ap (same_part entry) (sym (part_sound part entry e)) ∙ all.0))
    by_test false e = refl

-- The ids by part and by place are the same, if no part comes twice.
by_entry : (ids : List ErasedFileAstId) (parts : List SpanPart) → IsDistinct same_part parts → map (part_by ids parts) parts ≡ parts_with_ids ids parts
unfolding IsDistinct
by_entry ids [] once = refl
by_entry [] (part ∷ parts) once = ap (λ l. part ∷ l) (stays parts)
  where
    stays : (others : List SpanPart) → map (part_by [] (part ∷ parts)) others ≡ others
    stays [] = refl
    stays (other ∷ others) = ap (λ l. other ∷ l) (stays others)
by_entry (id ∷ ids) (part ∷ parts) once =
    ap₂ ◌∷◌ (ap (λ t. part_with_id (get_or (id ∷ ids) (cond t 0 (suc (index_in (same_part part) parts))) part.anchor.ast_id) part) (part_complete part))
    (by_rest id ids part parts parts once.0 ∙ by_entry ids parts once.1)

-- ---- the tree

module _ (ids : List ErasedFileAstId) (root : Root) (apart : KeepApart ids root) where
  -- the entries below the top
  abbrev old : List SpanPart
  old = part_table (flat root.children)

  -- the symbols
  abbrev texts : List (List ℕ)
  texts = symbol_table (flat root.children)

  -- no part comes twice in the table
  once : IsDistinct same_part old
  once =
      distinct_order same_part part_sound part_complete _ (not_before same_part part_sound part_complete short_parts (length old) (part_uses (flat root.children))) old
      (part_table_is (flat root.children)).in_order

  new_entries : map (part_by ids old) old ≡ parts_with_ids ids old
  new_entries = by_entry ids old once

  -- parts of the table stay different
  kept : (a b : SpanPart) → IsIn same_part old a → IsIn same_part old b → same_part (part_by ids old a) (part_by ids old b) ≡ same_part a b
  kept = names_apart same_part part_sound part_complete (part_by ids old) old (subst (IsDistinct same_part) (sym new_entries) apart)

  parts_now : part_table (flat (respanned (span_by ids old) root.children)) ≡ parts_with_ids ids old
  parts_now =
      ap (λ tokens. table same_part short_parts (part_uses tokens)) (flat-respanned (span_by ids old) root.children)
      ∙ ap (table same_part short_parts) (part_uses-respanned ids old (flat root.children))
      ∙ table-renamed same_part part_sound part_complete (part_by ids old) (IsIn same_part old) kept short_parts (part_uses (flat root.children)) (part_table_is (flat root.children)).has_all
      ∙ new_entries

  symbols_now : symbol_table (flat (respanned (span_by ids old) root.children)) ≡ texts
  symbols_now =
      ap (λ tokens. table bytes_eq short_symbols (symbol_uses tokens)) (flat-respanned (span_by ids old) root.children)
      ∙ ap (table bytes_eq short_symbols) (symbol_uses-respanned ids old (flat root.children))

  -- ---- bytes

  abbrev before : Tables
  before = tables_from old texts

  abbrev after : Tables
  after = tables_from (parts_with_ids ids old) texts

  same_index : (span : Span) → IsIn same_part old (part_of span)
      → index_in (same_part (part_by ids old (part_of span))) (parts_with_ids ids old) ≡ index_in (same_part (part_of span)) old
  same_index span there =
      ap (index_in (same_part (part_by ids old (part_of span)))) (sym new_entries)
      ∙ index-renamed same_part part_sound part_complete (part_by ids old) (IsIn same_part old) kept (part_of span) old there
      (all_found same_part part_sound part_complete old old (λ x m. m))

  same_numbers : (span : Span) → IsIn same_part old (part_of span) → numbers_of_span after (span_by ids old span) ≡ numbers_of_span before span
  same_numbers span there i =
      record { part = same_index span there i; start = start_of span.range; length = (numbers_of_span before span).length }

  same_entry : (it : Leaf) → Knows before (token.Leaf it) → leaf_entry after (respanned_leaf (span_by ids old) it) ≡ leaf_entry before it
  same_entry (leaf_of.Literal it) knows =
      ap (literal (index_of_symbol before (symbol_of it)) (kind_of it) (suffix_len_of it)) (same_numbers it.span knows.parts.0)
  same_entry (leaf_of.Punct it) knows = ap (punct it.char it.spacing) (same_numbers it.span knows.parts.0)
  same_entry (leaf_of.Ident it) knows = ap (ident (index_of_symbol before it.sym) it.is_raw) (same_numbers it.span knows.parts.0)

  -- Trees whose parts are in the table take the same bytes.
  same_bytes : (trees : Forest) → AllByRecursion (Knows before) (flat trees) → bytes after (respanned (span_by ids old) trees) ≡ bytes before trees
  unfolding bytes
  same_bytes end knows = refl
  same_bytes (leaf it rest) knows = ap₂ (λ entry behind. entry_bytes (of_leaf entry) ++ behind) (same_entry it knows.0) (same_bytes rest knows.1)
  same_bytes (node d children rest) knows =
      let (inside, behind) = all_split (Knows before) (flat children) (flat rest) knows.1 in
      let opens = same_numbers d.open_span knows.0.parts.0 in
      let closes = same_numbers d.close knows.0.parts.1.0 in
      let sized = size-respanned (span_by ids old) children in
      let within = same_bytes children inside in
      let beyond = same_bytes rest behind in
      λ i. entry_bytes (of_header (record { opening = opens i; closing = closes i; kind = d.kind; len = sized i; child_bytes = length (within i) }))
      ++ within i ++ beyond i

  -- ---- what is stored

  sized : size (respanned (span_by ids old) root.children) ≡ size root.children
  sized = size-respanned (span_by ids old) root.children

  below : bytes_below (respanned (span_by ids old) root.children) ≡ bytes_below root.children
  below =
      ap₂ (λ ps ss. bytes (tables_from ps ss) (respanned (span_by ids old) root.children)) parts_now symbols_now
      ∙ same_bytes root.children (tables_for_know_trees root.children)

  counted : length (part_table (flat (respanned (span_by ids old) root.children))) ≡ length old
  counted = ap length parts_now ∙ length-parts_with_ids ids old

  -- The table of span parts is the old one with the new ids.
  pub root_parts-ids_changed : root_parts (ids_changed ids root) ≡ parts_with_ids ids (root_parts root)
  root_parts-ids_changed =
      ap (λ ps. ps ++ part_of (ids_changed ids root).delimiter.open_span ∷ part_of (ids_changed ids root).delimiter.close ∷ []) parts_now
      ∙ sym (with_last old ids (part_of root.delimiter.open_span) (part_of root.delimiter.close))

  -- What is stored is the same as before, with the entries with their new ids.
  pub packed-ids_changed : packed (ids_changed ids root) ≡ under_parts (parts_with_ids ids (root_parts root)) (packed root)
  unfolding packed
  packed-ids_changed i =
      record {
        bytes = format_4 true (top_entry (counted i) root.delimiter (sized i) (length (below i))) ++ below i;
        parts = root_parts-ids_changed i;
        symbols = symbols_now i;
        len = suc (sized i);
      }

  -- Its counts are the same as before.
  limits_stay : IsWithinLimits root → IsWithinLimits (ids_changed ids root)
  limits_stay limits =
      record {
        tokens = subst (λ n. n ≤ most_tokens) (sym sized) limits.tokens;
        parts = omega (arith, ap length root_parts-ids_changed, length-parts_with_ids ids (root_parts root), limits.parts);
        symbols = omega (arith, ap length symbols_now, limits.symbols);
        bytes = omega (arith, ap length below, limits.bytes);
      }

-- A token in range is in range with other ids.
token_in_range : (ids : List ErasedFileAstId) (parts : List SpanPart) (it : TokenTree) → TokenInRange it → TokenInRange (respanned_token (span_by ids parts) it)
token_in_range ids parts (token.Leaf (leaf_of.Literal it)) range = range
token_in_range ids parts (token.Leaf (leaf_of.Punct it)) range = range
token_in_range ids parts (token.Leaf (leaf_of.Ident it)) range = range
token_in_range ids parts (token.Subtree it) range = range

all_in_range : (ids : List ErasedFileAstId) (parts : List SpanPart) (tokens : List TokenTree)
    → AllByRecursion TokenInRange tokens → AllByRecursion TokenInRange (map (respanned_token (span_by ids parts)) tokens)
all_in_range ids parts [] range = tt
all_in_range ids parts (it ∷ tokens) range = (token_in_range ids parts it range.0, all_in_range ids parts tokens range.1)

-- A tree in range is in range with other ids.
range_stays : (ids : List ErasedFileAstId) (root : Root) → IsInRange root → IsInRange (ids_changed ids root)
range_stays ids root range = (
  range.0,
  subst (AllByRecursion TokenInRange) (sym (flat-respanned (span_by ids (part_table (flat root.children))) root.children))
      (all_in_range ids (part_table (flat root.children)) (flat root.children) range.1),
)

-- The parts that are stored are those of the tree.
parts_of : (root : Root) → (packed root).parts ≡ root_parts root
unfolding packed
parts_of root = refl

-- A tree's parts are those below the top, and two more.
pub parts_below : (root : Root) → take (length (root_parts root) - 2) (root_parts root) ≡ part_table (flat root.children)
parts_below root =
    ap (λ n. take n (root_parts root)) count ∙ take-append_seam (part_table (flat root.children)) (part_of root.delimiter.open_span ∷ part_of root.delimiter.close ∷ [])
  where
    count : length (root_parts root) - 2 ≡ length (part_table (flat root.children))
    count = omega (arith, length-root_parts root)

-- The same for the stored parts.
pub stored_below : (stored : Stored) (root : Root) → IsStored stored root → take (length stored.parts - 2) stored.parts ≡ part_table (flat root.children)
stored_below stored root is = ap (λ parts. take (length parts - 2) parts) (ap (λ s. s.parts) is.2 ∙ parts_of root) ∙ parts_below root

-- If a tree is stored, the tree with new ids is stored as its bytes and symbols, and the entries with these ids.
pub ids_stored : (stored : Stored) (root : Root) (ids : List ErasedFileAstId) (parts : List SpanPart) → IsStored stored root → KeepApart ids root
    → parts ≡ parts_with_ids ids stored.parts → IsStored (under_parts parts stored) (ids_changed ids root)
ids_stored stored root ids parts is apart new = (
  range_stays ids root is.0,
  limits_stay ids root apart is.1,
  ap₂ under_parts (new ∙ ap (parts_with_ids ids) (ap (λ s. s.parts) is.2 ∙ parts_of root)) is.2 ∙ sym (packed-ids_changed ids root apart),
)
