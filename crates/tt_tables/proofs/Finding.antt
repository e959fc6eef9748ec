-- The numbers of a token find that token.
use Rattle.std.proofs.Common.{◌≡◌, ℕ, zero, suc, Some, ◌<◌, Bool, true, false, cond, bytes_eq, List, [], ◌∷◌, ◌++◌, length, get_or, length-append, append_assoc, refl, ap, sym, ◌∙◌, arith}
use Rattle.std.specs.List.{slice_get}
use Rattle.std.proofs.Math.Seq.{get_or-append_seam}
use Rattle.tt_base.specs.declared.delimiter.Subtree.{Subtree}
use Rattle.tt_base.specs.declared.leaf.Leaf.{Leaf}
use Rattle.tt_base.specs.declared.leaf.Leaf.TheVariants as leaf
use Rattle.tt_base.specs.declared.span.Span.{Span}
use Rattle.tt_base.specs.declared.span.SpanPart.{SpanPart}
use Rattle.tt_base.specs.declared.token_tree.TokenTree.TheVariants as token
use Rattle.tt_tables.specs.Searches.{FindsSpan, FindsLeaf, FindsSubtree}
use Rattle.tt_base.specs.Span.{part_of}
use Rattle.tt_codec.specs.SpanNumbers.{span_numbers}
use Rattle.tt_tables.specs.TableOrder.{index_in, IsIn}
use Rattle.tt_tables.specs.Tables.{Tables, Knows, numbers_of_span, index_of_symbol, leaf_entry, header_entry}
use Rattle.tt_tables.specs.Uses.{same_part}
use Rattle.tt_tables.proofs.TokenTables.{part_sound, text_sound}

-- The value at the index that was found passes the test.
pub found_there : {X : Type 0} (test : X → Bool) (xs : List X) (other : X) → index_in test xs < length xs → test (get_or xs (index_in test xs) other) ≡ true
found_there test [] other found = absurd (none found)
  where
    none : 0 < 0 → ⊥
    none h = omega arith
found_there test (x ∷ xs) other found = by_test (test x) refl found (found_there test xs other)
  where
    by_test : (t : Bool) → test x ≡ t → cond t 0 (suc (index_in test xs)) < suc (length xs)
        → (index_in test xs < length xs → test (get_or xs (index_in test xs) other) ≡ true)
        → test (get_or (x ∷ xs) (cond t 0 (suc (index_in test xs))) other) ≡ true
    by_test true e found later = e
    by_test false e found later = later (omega arith)

-- A value at an index is found.
get_found : {X : Type 0} (xs : List X) (i : ℕ) (x : X) → i < length xs → ((other : X) → get_or xs i other ≡ x) → slice_get xs i ≡ Some x
get_found [] i x h e = absurd (none h)
  where
    none : i < 0 → ⊥
    none h = omega arith
get_found (y ∷ xs) zero x h e = ap Some (e y)
get_found (y ∷ xs) (suc i) x h e = get_found xs i x (omega arith) e

-- The numbers of a span whose part is in the table find that span.
span_numbers_find : (tables : Tables) (span : Span) → IsIn same_part tables.parts (part_of span) → FindsSpan tables (numbers_of_span tables span) span
span_numbers_find tables span found =
    record {
      part = get_found tables.parts _ _ found (λ other. sym (part_sound _ _ (found_there (same_part (part_of span)) tables.parts other found)));
      start = refl;
      length = refl;
    }

-- The index of a symbol in the table finds its text.
symbol_index_finds : (tables : Tables) (text : List ℕ) → IsIn bytes_eq tables.symbols text → slice_get tables.symbols (index_of_symbol tables text) ≡ Some text
symbol_index_finds tables text found =
    get_found tables.symbols _ _ found (λ other. sym (text_sound _ _ (found_there (bytes_eq text) tables.symbols other found)))

-- The numbers of a known leaf find that leaf.
pub leaf_entry_finds : (tables : Tables) (it : Leaf) → Knows tables (token.Leaf it) → FindsLeaf tables (leaf_entry tables it) it
leaf_entry_finds tables (leaf.Literal it) knows =
    (span_numbers_find tables it.span knows.parts.0, symbol_index_finds tables it.symbol knows.symbols.0, refl, refl)
leaf_entry_finds tables (leaf.Punct it) knows = (span_numbers_find tables it.span knows.parts.0, refl, refl)
leaf_entry_finds tables (leaf.Ident it) knows =
    (span_numbers_find tables it.span knows.parts.0, symbol_index_finds tables it.sym knows.symbols.0, refl)

-- The numbers of a known header find that header.
pub header_entry_finds : (tables : Tables) (it : Subtree) (child_bytes : ℕ) → Knows tables (token.Subtree it) → FindsSubtree tables (header_entry tables it child_bytes) it
header_entry_finds tables it child_bytes knows =
    record {
      opening = span_numbers_find tables it.delimiter.open_span knows.parts.0;
      closing = span_numbers_find tables it.delimiter.close knows.parts.1.0;
      kind = refl;
      len = refl;
    }

-- Numbers with an index of a span's part find that span.
pub numbers_find : (tables : Tables) (part : ℕ) (span : Span) → part < length tables.parts → ((other : SpanPart) → get_or tables.parts part other ≡ part_of span)
    → FindsSpan tables (span_numbers part span) span
numbers_find tables part span listed there = record { part = get_found tables.parts part _ listed there; start = refl; length = refl }

-- The last but one item of a list.
pub last_but_one : {X : Type 0} (xs : List X) (a b other : X) → get_or (xs ++ a ∷ b ∷ []) (length xs) other ≡ a
last_but_one xs a b other = get_or-append_seam xs a (b ∷ []) other

-- The last item of a list.
pub last_of : {X : Type 0} (xs : List X) (a b other : X) → get_or (xs ++ a ∷ b ∷ []) (suc (length xs)) other ≡ b
last_of xs a b other =
    ap (λ list. get_or list (suc (length xs)) other) (sym (append_assoc xs (a ∷ []) (b ∷ [])))
    ∙ ap (λ n. get_or ((xs ++ a ∷ []) ++ b ∷ []) n other) (omega (arith, length-append xs (a ∷ [])))
    ∙ get_or-append_seam (xs ++ a ∷ []) b [] other
