-- An interned token with new indices is the token that it means, in numbers under the new tables.
use Rattle.std.proofs.Common.{◌≡◌, ℕ, inl, inr, ◌+◌, ◌<◌, ◌≤◌, ◌^◌, List, ◌∷◌, drop, get_or, length, bytes_eq, slice_get, Some, ap, sym, subst, ◌∙◌, arith}
use Rattle.std.specs.List.{AllByRecursion}
use Rattle.std.proofs.lemmas.List.{length-drop}
use Rattle.std.proofs.lemmas.Option.{slice_get_cases}
use Rattle.tt_base.specs.declared.leaf.Leaf.{Leaf}
use Rattle.tt_base.specs.declared.leaf.Leaf.TheVariants as leaf
use Rattle.tt_base.specs.declared.span.Span.{Span}
use Rattle.tt_base.specs.declared.span.SpanPart.{SpanPart}
use Rattle.tt_base.specs.declared.token_tree.TokenTree.{TokenTree}
use Rattle.tt_base.specs.declared.token_tree.TokenTree.TheVariants as token
use Rattle.tt_base.specs.Forest.{IsWhole}
use Rattle.tt_base.specs.Span.{part_of}
use Rattle.tt_base.proofs.EndPieces.{header_within}
use Rattle.tt_codec.specs.declared.entry.Entry.TheVariants.{Leaf as of_leaf, Header as of_header}
use Rattle.tt_codec.specs.declared.entry.HeaderEntry.{HeaderEntry}
use Rattle.tt_codec.specs.declared.entry.LeafEntry.{LeafEntry}
use Rattle.tt_codec.specs.declared.entry.LeafEntry.TheVariants.{Punct as punct, Ident as ident, Literal as literal}
use Rattle.tt_codec.specs.declared.span.SpanNumbers.{SpanNumbers}
use Rattle.tt_codec.specs.Entry.{EntryFits}
use Rattle.tt_tables.specs.declared.token.InternedToken.{InternedToken}
use Rattle.tt_tables.specs.declared.token.InternedToken.TheVariants as interned
use Rattle.tt_tables.specs.Held.{whole}
use Rattle.tt_tables.specs.declared.counted.CountedTokens.{CountedTokens}
use Rattle.tt_tables.specs.ListOf.{list_of, tokens_of, parts_of, symbols_of, counted_are}
use Rattle.tt_tables.specs.Names.{Names}
use Rattle.tt_tables.specs.Searches.{FindsSpan, FindsLeaf, FindsSubtree}
use Rattle.tt_tables.specs.TableOrder.{IsIn}
use Rattle.tt_tables.specs.Tables.{Tables, tables_from, Knows, numbers_of_span, leaf_entry, entry_of}
use Rattle.tt_tables.specs.Uses.{same_part}
use Rattle.tt_tables.proofs.Naming.{leaf_fits, header_fits}
use Rattle.tt_pack.specs.InternedTables.{new_span, new_leaf, new_header}
use Rattle.tt_pack.specs.Places.{IsAt}
use Rattle.tt_pack.specs.TablesOf.{StandsAt, HasNewIndexAt}
use Rattle.tt_pack.specs.Writing.{byte_sums, first_child_bytes, CanHold, held_bytes, IsEntryAt}
use Rattle.tt_pack.proofs.PlacesNamed.{named_at}
use Rattle.tt_pack.proofs.Writing.{piece_at, header_holds}

-- the token that is meant at an index: the tables have its values, and it is the first of the tokens from there on
pub record MeantAt (old new : Tables) (list : List TokenTree) (index : ℕ) (it : InternedToken) (meant : TokenTree) : Type 0 where
  pub named : Names old it (whole meant)
  pub read : meant ≡ get_or list index meant
  pub knows : Knows new meant
  pub first : IsWhole (meant ∷ drop (index + 1) list)

pub meant_at : (below : CountedTokens) (new : Tables) (index : ℕ) (tokens : List InternedToken) (d it : InternedToken) → index < length (list_of below) → tokens ≡ tokens_of below → get_or tokens index d ≡ it
    → AllByRecursion (Knows new) (drop index (list_of below)) → IsWhole (drop index (list_of below))
    → (meant : TokenTree) × MeantAt (tables_from (parts_of below) (symbols_of below)) new (list_of below) index it meant
meant_at below new index tokens d it within same is known all_whole =
    let (meant, stands, read) = stands_there (list_of below) index within in
    let here : drop index (list_of below) ≡ meant ∷ drop (index + 1) (list_of below) = piece_at (list_of below) index meant within read in (
      meant,
      record {
        named = subst (λ t. Names (tables_from (parts_of below) (symbols_of below)) t (whole meant)) (sym (ap (λ l. get_or l index d) same) ∙ is) (named_at _ (tokens_of below) (list_of below) index d meant (counted_are below).named stands);
        read = read;
        knows = (subst (AllByRecursion (Knows new)) here known).0;
        first = subst IsWhole here all_whole;
      },
    )
  where
    stands_there : {X : Type 0} (xs : List X) (i : ℕ) → i < length xs → (x : X) × (slice_get xs i ≡ Some x) × (x ≡ get_or xs i x)
    stands_there xs i within = elim (slice_get_cases xs i).1 [
      | inl (x, _, at, read) ↦ (x, at, sym read)
      | inr (past, _) ↦ absurd (omega (arith, past, within))
    ]

module _ (old new : Tables) (part_indices symbol_indices : List ℕ)
    (parts : (place : ℕ) (x : SpanPart) → IsAt old.parts place x → IsIn same_part new.parts x → HasNewIndexAt same_part new.parts part_indices place x)
    (symbols : (place : ℕ) (x : List ℕ) → StandsAt old.symbols place x → HasNewIndexAt bytes_eq new.symbols symbol_indices place x) where
  span_renumbered : (numbers : SpanNumbers) (span : Span) → FindsSpan old numbers span → IsIn same_part new.parts (part_of span) → new_span part_indices numbers ≡ numbers_of_span new span
  span_renumbered numbers span finds known =
      λ i. record { part = parts numbers.part (part_of span) finds.part known i; start = finds.start i; length = finds.length i }

  leaf_renumbered : (entry : LeafEntry) (it : Leaf) → FindsLeaf old entry it → Knows new (token.Leaf it) → new_leaf part_indices symbol_indices entry ≡ leaf_entry new it
  leaf_renumbered (punct char spacing numbers) (leaf.Punct it) finds knows =
      λ i. punct (finds.1 i) (finds.2 i) (span_renumbered numbers it.span finds.0 knows.parts.0 i)
  leaf_renumbered (punct char spacing numbers) (leaf.Ident it) finds knows = absurd finds
  leaf_renumbered (punct char spacing numbers) (leaf.Literal it) finds knows = absurd finds
  leaf_renumbered (ident symbol raw numbers) (leaf.Punct it) finds knows = absurd finds
  leaf_renumbered (ident symbol raw numbers) (leaf.Ident it) finds knows =
      λ i. ident (symbols symbol it.sym (λ few. finds.1) i) (finds.2 i) (span_renumbered numbers it.span finds.0 knows.parts.0 i)
  leaf_renumbered (ident symbol raw numbers) (leaf.Literal it) finds knows = absurd finds
  leaf_renumbered (literal symbol kind suffix_len numbers) (leaf.Punct it) finds knows = absurd finds
  leaf_renumbered (literal symbol kind suffix_len numbers) (leaf.Ident it) finds knows = absurd finds
  leaf_renumbered (literal symbol kind suffix_len numbers) (leaf.Literal it) finds knows =
      λ i. literal (symbols symbol it.symbol (λ few. finds.1) i) (finds.2 i) (finds.3 i) (span_renumbered numbers it.span finds.0 knows.parts.0 i)

  module _ (few_parts : length new.parts ≤ 2 ^ 28) (list : List TokenTree) (index : ℕ) (within : index < length list) where
    -- The new numbers of a leaf are those of the leaf that is meant, and can be written.
    pub leaf_entry_at : (entry : LeafEntry) (meant : TokenTree) → length new.symbols ≤ 2 ^ 29 → MeantAt old new list index (interned.Leaf entry) meant
        → IsEntryAt new list index (of_leaf (new_leaf part_indices symbol_indices entry))
    leaf_entry_at entry (token.Leaf it) few_symbols is =
        let same = ap of_leaf (leaf_renumbered entry it is.named.0 is.knows) in
        let fits = leaf_fits new it few_parts few_symbols is.knows is.named.1 in
        record { it = token.Leaf it; read = is.read; named = record { known = is.knows; is = same; fits = subst EntryFits (sym same) fits; range = is.named.1 } }
    leaf_entry_at entry (token.Subtree it) few_symbols is = absurd is.named

    -- All tokens below a header are written, and with their bytes its new numbers are those of the header that is meant.
    pub header_entry_at : (entry : HeaderEntry) (meant : TokenTree) (counts : List ℕ) → length list < 2 ^ 32 → IsWhole (drop index list) → counts ≡ byte_sums new (drop (index + 1) list)
        → MeantAt old new list index (interned.Header entry) meant
        → CanHold counts entry.len × ((child_bytes : ℕ) → child_bytes < 2 ^ 32 → child_bytes ≡ held_bytes counts entry.len → IsEntryAt new list index (of_header (new_header part_indices entry child_bytes)))
    header_entry_at entry (token.Leaf it) counts few all_whole sums is = absurd is.named
    header_entry_at entry (token.Subtree it) counts few all_whole sums is = (subst (CanHold counts) (sym found.len) holds.0, made)
      where
        found : FindsSubtree old entry it
        found = is.named.0

        holds : CanHold counts it.len × (held_bytes counts it.len ≡ first_child_bytes new (drop index list))
        holds = header_holds new list index it counts within all_whole is.read sums

        made : (child_bytes : ℕ) → child_bytes < 2 ^ 32 → child_bytes ≡ held_bytes counts entry.len → IsEntryAt new list index (of_header (new_header part_indices entry child_bytes))
        made child_bytes small held =
            let count : child_bytes ≡ first_child_bytes new (drop index list) = held ∙ ap (held_bytes counts) found.len ∙ holds.1 in
            let opening = span_renumbered entry.opening it.delimiter.open_span found.opening is.knows.parts.0 in
            let closing = span_renumbered entry.closing it.delimiter.close found.closing is.knows.parts.1.0 in
            let same : of_header (new_header part_indices entry child_bytes) ≡ entry_of new (token.Subtree it) (first_child_bytes new (drop index list)) =
            λ i. of_header (record { opening = opening i; closing = closing i; kind = found.kind i; len = found.len i; child_bytes = count i }) in
            let len : it.len < 2 ^ 32 = omega (arith, few, length-drop (index + 1) list, header_within it (drop (index + 1) list) is.first) in
            let fits = header_fits new it (first_child_bytes new (drop index list)) few_parts is.knows is.named.1 len (omega (arith, small, count)) in
            record { it = token.Subtree it; read = is.read; named = record { known = is.knows; is = same; fits = subst EntryFits (sym same) fits; range = is.named.1 } }
