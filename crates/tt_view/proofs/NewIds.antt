-- The flat list of a tree with new ids in its spans.
use Rattle.std.proofs.Common.{◌≡◌, ℕ, suc, ◌+◌, ◌-◌, ◌<◌, ◌≤◌, Bool, true, false, cond, List, [], ◌∷◌, ◌++◌, map, length, take, get_or, Option, Some, unwrap_or, refl, ap, ap₂, sym, ◌∙◌, subst, arith}
use Rattle.std.proofs.lemmas.List.{map-append, length-map, get_or-append-add}
use Rattle.std.specs.List.{AllByRecursion}
use Rattle.tt_base.specs.declared.delimiter.Delimiter.{Delimiter}
use Rattle.tt_base.specs.declared.leaf.Leaf.{Leaf}
use Rattle.tt_base.specs.declared.leaf.Leaf.TheVariants as leaf_of
use Rattle.tt_base.specs.declared.literal.Literal.{Literal}
use Rattle.tt_base.specs.declared.span.ErasedFileAstId.{ErasedFileAstId}
use Rattle.tt_base.specs.declared.span.Span.{Span}
use Rattle.tt_base.specs.declared.span.SpanPart.{SpanPart}
use Rattle.tt_base.specs.declared.token_tree.TokenTree.TheVariants as token
use Rattle.tt_base.specs.Asked.{AsksAll}
use Rattle.tt_base.specs.Edits.{with_id, respanned_leaf, respanned}
use Rattle.tt_base.specs.Forest.{Forest, Root, end, leaf, node, size, header, flat, flat_root}
use Rattle.tt_base.specs.Literal.{IsLiteral, symbol_of, span_of, kind_of, suffix_len_of}
use Rattle.tt_base.specs.Span.{part_of}
use Rattle.tt_base.specs.Token.{delimiter}
use Rattle.tt_base.proofs.Equality.{same_literal}
use Rattle.tt_tables.specs.AstIds.{stored_ids, with_id_at, ids_changed, respanned_token}
use Rattle.tt_tables.specs.Stored.{root_parts}
use Rattle.tt_tables.specs.TableOrder.{index_in, IsIn}
use Rattle.tt_tables.specs.Tables.{Tables, Knows, part_table, tables_for}
use Rattle.tt_tables.specs.Uses.{same_part}
use Rattle.tt_tables.proofs.IdsStored.{parts_below}
use Rattle.tt_tables.proofs.Known.{all_split, tables_for_know_trees}
use Rattle.tt_tables.proofs.Respanned.{size-respanned, flat-respanned}
use Rattle.tt_tables.proofs.StoredAlike.{length-root_parts}
use Rattle.tt_tables.proofs.TokenTables.{part_sound}
use Rattle.tt_view.specs.NewIds.{AnswersIds, id_for, span_with}

module _ (tables : Tables) (f g : Span → Span) (same : (span : Span) → IsIn same_part tables.parts (part_of span) → f span ≡ g span) where
  leaf_alike : (it : Leaf) → Knows tables (token.Leaf it) → respanned_leaf f it ≡ respanned_leaf g it
  leaf_alike (leaf_of.Literal it) knows =
      ap (λ span. leaf_of.Literal (record { symbol = it.symbol; span = span; kind = it.kind; suffix_len = it.suffix_len; fits = it.fits; cuts = it.cuts })) (same it.span knows.parts.0)
  leaf_alike (leaf_of.Punct it) knows = ap (λ span. leaf_of.Punct (record { char = it.char; spacing = it.spacing; span = span })) (same it.span knows.parts.0)
  leaf_alike (leaf_of.Ident it) knows = ap (λ span. leaf_of.Ident (record { sym = it.sym; span = span; is_raw = it.is_raw })) (same it.span knows.parts.0)

  -- The new spans depend only on the spans whose parts are in the tables.
  respanned_alike : (trees : Forest) → AllByRecursion (Knows tables) (flat trees) → respanned f trees ≡ respanned g trees
  respanned_alike end knows = refl
  respanned_alike (leaf it rest) knows = ap₂ leaf (leaf_alike it knows.0) (respanned_alike rest knows.1)
  respanned_alike (node d children rest) knows =
      let (inside, behind) = all_split (Knows tables) (flat children) (flat rest) knows.1 in
      let opens = same d.open_span knows.0.parts.0 in
      let closes = same d.close knows.0.parts.1.0 in
      let below = respanned_alike children inside in
      let after = respanned_alike rest behind in
      λ i. node (delimiter d.kind (opens i) (closes i)) (below i) (after i)

-- The id of a part in the list is the one at its index.
id_found : (parts : List SpanPart) (ids : List ErasedFileAstId) (part : SpanPart) (d : ErasedFileAstId) → length parts ≤ length ids → IsIn same_part parts part
    → unwrap_or (id_for parts ids part) d ≡ get_or ids (index_in (same_part part) parts) d
id_found [] ids part d long found = absurd (none found)
  where
    none : 0 < 0 → ⊥
    none h = omega arith
id_found (entry ∷ parts) [] part d long found = absurd (omega (arith, long))
id_found (entry ∷ parts) (id ∷ ids) part d long found = by_test (same_part part entry) found (id_found parts ids part d (omega (arith, long)))
  where
    by_test : (t : Bool) → cond t 0 (suc (index_in (same_part part) parts)) < suc (length parts)
        → (IsIn same_part parts part → unwrap_or (id_for parts ids part) d ≡ get_or ids (index_in (same_part part) parts) d)
        → unwrap_or (cond t (Some id) (id_for parts ids part)) d ≡ get_or (id ∷ ids) (cond t 0 (suc (index_in (same_part part) parts))) d
    by_test true found later = refl
    by_test false found later = later (omega arith)

-- the new span of a span below the top
abbrev respanned_by : (ids : List ErasedFileAstId) → Root → Span → Span
respanned_by ids root span = with_id_at ids (index_in (same_part (part_of span)) (part_table (flat root.children))) span

-- The list that the code makes is that of the tree with the new ids.
pub ids_list : (root : Root) (ids : List ErasedFileAstId) (found : SpanPart → Option ErasedFileAstId) (below : List SpanPart) (trees : Forest) (opens closes : Span) (len n : ℕ)
    → length ids ≡ length (root_parts root) → n ≡ length (root_parts root) - 2 → below ≡ take n (root_parts root) → ((part : SpanPart) → found part ≡ id_for below ids part)
    → opens ≡ with_id_at ids n root.delimiter.open_span → closes ≡ with_id_at ids (n + 1) root.delimiter.close → trees ≡ root.children → len ≡ size root.children
    → header (delimiter root.delimiter.kind opens closes) len ∷ map (respanned_token (span_with found)) (flat trees) ≡ flat_root (ids_changed ids root)
ids_list root ids found below trees opens closes len n all count front finds at_open at_close is counted =
    λ i. header (delimiter root.delimiter.kind (at_open' i) (at_close' i)) (sized i) ∷ tokens i
  where
    table : List SpanPart
    table = part_table (flat root.children)

    at : n ≡ length table
    at = omega (arith, count, length-root_parts root)

    below_is : below ≡ table
    below_is = front ∙ ap (λ k. take k (root_parts root)) count ∙ parts_below root

    g : Span → Span
    g = respanned_by ids root

    same : (span : Span) → IsIn same_part table (part_of span) → span_with found span ≡ g span
    same span there =
        ap (λ id. with_id id span)
        (ap (λ o. unwrap_or o span.anchor.ast_id) (finds (part_of span) ∙ ap (λ parts. id_for parts ids (part_of span)) below_is)
        ∙ id_found table ids (part_of span) span.anchor.ast_id (omega (arith, all, length-root_parts root)) there)

    at_open' : opens ≡ with_id_at ids (length table) root.delimiter.open_span
    at_open' = at_open ∙ ap (λ k. with_id_at ids k root.delimiter.open_span) at

    at_close' : closes ≡ with_id_at ids (length table + 1) root.delimiter.close
    at_close' = at_close ∙ ap (λ k. with_id_at ids (k + 1) root.delimiter.close) at

    sized : len ≡ size (respanned g root.children)
    sized = counted ∙ sym (size-respanned g root.children)

    tokens : map (respanned_token (span_with found)) (flat trees) ≡ flat (respanned g root.children)
    tokens =
        ap (λ f. map (respanned_token (span_with found)) (flat f)) is
        ∙ sym (flat-respanned (span_with found) root.children)
        ∙ ap flat (respanned_alike (tables_for (flat root.children)) (span_with found) g same root.children (tables_for_know_trees root.children))

-- There are as many tokens as before.
pub size-ids_changed : (ids : List ErasedFileAstId) (root : Root) → size (ids_changed ids root).children ≡ size root.children
size-ids_changed ids root = size-respanned (respanned_by ids root) root.children

-- A literal with another span.
pub literal_respanned : (f : Span → Span) (it made : Literal) (span : Span) → IsLiteral made (symbol_of it) span (kind_of it) (suffix_len_of it) → span ≡ f (span_of it)
    → leaf_of.Literal made ≡ respanned_leaf f (leaf_of.Literal it)
literal_respanned f it made span is at =
    let there : Literal =
    record { symbol = it.symbol; span = f it.span; kind = it.kind; suffix_len = it.suffix_len; fits = it.fits; cuts = it.cuts } in
    ap leaf_of.Literal (same_literal made there (record { symbol = is.symbol; span = is.span ∙ at; kind = is.kind; suffix_len = is.suffix_len }))

-- A list of length 0 has no parts.
pub no_parts : (parts : List SpanPart) → length parts ≡ 0 → parts ≡ []
no_parts [] e = refl
no_parts (part ∷ parts) e = absurd (omega arith)

-- There are as many answers as calls.
pub length-asked : {F A B : Type 0} (call : F → A → B → F → Type 0) (p : F) (asked : List A) (answers : List B) (q : F) → AsksAll call p asked answers q → length answers ≡ length asked
length-asked call p [] [] q done = refl
length-asked call p [] (answer ∷ answers) q done = absurd done
length-asked call p (it ∷ others) [] q done = absurd done
length-asked call p (it ∷ others) (answer ∷ answers) q (between, called, done) = ap suc (length-asked call between others answers q done)

-- The callback was called for the ids of these parts, which are those of the tree.
pub answers_ids : {F : Type 0} (call : F → ErasedFileAstId → ErasedFileAstId → F → Type 0) (first : F) (root : Root) (parts : List SpanPart) (ids items : List ErasedFileAstId)
    → parts ≡ root_parts root → ids ≡ items → (last : F) × AsksAll call first (map (λ part. part.anchor.ast_id) parts) items last
    → AnswersIds call first root ids × (length ids ≡ length (root_parts root))
answers_ids call first root parts ids items is same (last, asked) =
    let all = subst (λ l. AsksAll call first (map (λ part. part.anchor.ast_id) l) items last) is asked in (
      record { last = last; asked = subst (λ l. AsksAll call first (stored_ids root) l last) (sym same) all },
      ap length same ∙ length-asked call first (stored_ids root) items last all ∙ length-map (root_parts root) (λ (part : SpanPart). part.anchor.ast_id),
    )

-- The part at the index of a part that is found is that part.
part_there : (parts more : List SpanPart) (part : SpanPart) (d : ErasedFileAstId) → IsIn same_part parts part
    → get_or (map (λ it. it.anchor.ast_id) (parts ++ more)) (index_in (same_part part) parts) d ≡ part.anchor.ast_id
part_there [] more part d found = absurd (none found)
  where
    none : 0 < 0 → ⊥
    none h = omega arith
part_there (entry ∷ parts) more part d found = by_test (same_part part entry) refl found (part_there parts more part d)
  where
    by_test : (t : Bool) → same_part part entry ≡ t → cond t 0 (suc (index_in (same_part part) parts)) < suc (length parts)
        → (IsIn same_part parts part → get_or (map (λ it. it.anchor.ast_id) (parts ++ more)) (index_in (same_part part) parts) d ≡ part.anchor.ast_id)
        → get_or (map (λ it. it.anchor.ast_id) (entry ∷ parts ++ more)) (cond t 0 (suc (index_in (same_part part) parts))) d ≡ part.anchor.ast_id
    by_test true same found later = ap (λ (it : SpanPart). it.anchor.ast_id) (sym (part_sound part entry same))
    by_test false same found later = later (omega arith)

-- the part at an index after a list
part_behind : (parts more : List SpanPart) (k : ℕ) (d : ErasedFileAstId)
    → get_or (map (λ it. it.anchor.ast_id) (parts ++ more)) (length parts + k) d ≡ get_or (map (λ it. it.anchor.ast_id) more) k d
part_behind parts more k d =
    ap (λ l. get_or l (length parts + k) d) (map-append (λ (it : SpanPart). it.anchor.ast_id) parts more)
    ∙ ap (λ n. get_or (map (λ it. it.anchor.ast_id) parts ++ map (λ it. it.anchor.ast_id) more) (n + k) d) (sym (length-map parts (λ (it : SpanPart). it.anchor.ast_id)))
    ∙ get_or-append-add (map (λ it. it.anchor.ast_id) parts) (map (λ it. it.anchor.ast_id) more) k d

-- Ids that differ only for entries that keep their own id change a tree in the same way.
pub ids_alike : (root : Root) (ids others : List ErasedFileAstId)
    → ((k : ℕ) (d : ErasedFileAstId) → k < length (stored_ids root) → get_or (stored_ids root) k d ≡ d → get_or ids k d ≡ get_or others k d)
    → ids_changed ids root ≡ ids_changed others root
ids_alike root ids others alike =
    λ i. record { delimiter = delimiter top.kind (opens i) (closes i); children = below i }
  where
    top : Delimiter
    top = root.delimiter

    table : List SpanPart
    table = part_table (flat root.children)

    two : List SpanPart
    two = part_of root.delimiter.open_span ∷ part_of root.delimiter.close ∷ []

    count : length (stored_ids root) ≡ length table + 2
    count = length-map (root_parts root) (λ (it : SpanPart). it.anchor.ast_id) ∙ length-root_parts root

    opens : with_id_at ids (length table) root.delimiter.open_span ≡ with_id_at others (length table) root.delimiter.open_span
    opens =
        let own = root.delimiter.open_span.anchor.ast_id in
        let first : length table ≡ length table + 0 = omega arith in
        ap (λ id. with_id id root.delimiter.open_span)
        (alike (length table) own (omega (arith, count)) (ap (λ n. get_or (stored_ids root) n own) first ∙ part_behind table two 0 own))

    closes : with_id_at ids (length table + 1) root.delimiter.close ≡ with_id_at others (length table + 1) root.delimiter.close
    closes =
        let own = root.delimiter.close.anchor.ast_id in
        ap (λ id. with_id id root.delimiter.close) (alike (length table + 1) own (omega (arith, count)) (part_behind table two 1 own))

    same : (span : Span) → IsIn same_part table (part_of span) → respanned_by ids root span ≡ respanned_by others root span
    same span there =
        ap (λ id. with_id id span)
        (alike (index_in (same_part (part_of span)) table) span.anchor.ast_id (omega (arith, count, there)) (part_there table two (part_of span) span.anchor.ast_id there))

    below : respanned (respanned_by ids root) root.children ≡ respanned (respanned_by others root) root.children
    below = respanned_alike (tables_for (flat root.children)) (respanned_by ids root) (respanned_by others root) same root.children (tables_for_know_trees root.children)
