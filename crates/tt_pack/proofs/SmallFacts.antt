-- Tokens in little memory under their tables.
use Rattle.std.proofs.Common.{◌≡◌, ℕ, zero, suc, Bool, false, ◌+◌, ◌<◌, ◌≤◌, List, [], ◌∷◌, inl, inr, Some, bytes_eq, length, get_or, drop, map, slice_get, refl, ap, ap₂, sym, subst, ◌∙◌, cond, true, arith}
use Rattle.std.proofs.lemmas.Option.{slice_get_cases}
use Rattle.std.specs.List.{AllByRecursion}
use Rattle.tt_base.specs.contracts.span.SpanPartEq.TheImpl.Laws as part_eq
use Rattle.tt_base.specs.contracts.symbol.SymbolEq.TheImpl.Laws as symbol_eq
use Rattle.tt_base.specs.declared.span.SpanPart.{SpanPart}
use Rattle.tt_base.specs.declared.token_tree.TokenTree.{TokenTree}
use Rattle.tt_base.specs.declared.token_tree.TokenTree.TheVariants as token
use Rattle.tt_base.specs.Forest.{IsWhole}
use Rattle.tt_tables.specs.declared.token.InternedToken.{InternedToken}
use Rattle.tt_tables.specs.OnePart.{HasOnePart, NamesAt}
use Rattle.tt_tables.specs.Stored.{most_symbols}
use Rattle.tt_tables.specs.TableOrder.{different, index_in, uses_of, IsIn, IsTable}
use Rattle.tt_tables.specs.Tables.{Tables, Knows, tables_from, part_table, short_parts, short_symbols, symbol_table}
use Rattle.tt_tables.specs.Uses.{same_part, part_uses, symbol_uses}
use Rattle.tt_tables.proofs.TokenTables.{part_complete, part_sound, part_table_only, text_sound}
use Rattle.tt_pack.specs.Places.{IsAt}
use Rattle.tt_pack.specs.Counted.{LeadsTo}
use Rattle.tt_pack.specs.TablesOf.{HasNewIndexAt, StandsAt}
use Rattle.tt_pack.proofs.TableFacts.{length-table_of, new_index_noted}
use Rattle.tt_pack.proofs.Renumbered.{MeantAt}
use Rattle.tt_pack.proofs.Sorted.{few_are_table}
use Rattle.tt_pack.proofs.Writing.{piece_at}
use Rattle.std.specs.Prelude.{not, filter}

all_filter : (part : SpanPart) (test : SpanPart → Bool) (values : List SpanPart) → AllByRecursion (λ other. other ≡ part) values → AllByRecursion (λ other. other ≡ part) (filter test values)
all_filter part test [] all = tt
all_filter part test (x ∷ values) all = by_test (test x) (all_filter part test values all.1)
  where
    by_test : (t : Bool) → AllByRecursion (λ other. other ≡ part) (filter test values) → AllByRecursion (λ other. other ≡ part) (cond t (x ∷ filter test values) (filter test values))
    by_test true later = (all.0, later)
    by_test false later = later

all_different : (part : SpanPart) (uses : List SpanPart) → AllByRecursion (λ other. other ≡ part) uses → AllByRecursion (λ other. other ≡ part) (different same_part uses)
all_different part [] all = tt
all_different part (x ∷ uses) all = (all.0, all_filter part (λ y. not (same_part x y)) (different same_part uses) (all_different part uses all.1))

-- No value is left if all are the same as one.
none_left : (part x : SpanPart) → x ≡ part → (values : List SpanPart) → AllByRecursion (λ other. other ≡ part) values → filter (λ y. not (same_part x y)) values ≡ []
none_left part x is [] all = refl
none_left part x is (y ∷ values) all =
    let same : same_part x y ≡ true = subst (λ z. same_part x z ≡ true) (is ∙ sym all.0) (part_complete x) in
    ap (λ t. cond (not t) (y ∷ filter (λ y. not (same_part x y)) values) (filter (λ y. not (same_part x y)) values)) same ∙ none_left part x is values all.1

-- Values that are all the same are one value.
one_different : (part : SpanPart) (uses : List SpanPart) → AllByRecursion (λ other. other ≡ part) uses → 0 < length uses → different same_part uses ≡ part ∷ []
one_different part [] all some = absurd (omega (arith, some))
one_different part (x ∷ uses) all some = ap₂ ◌∷◌ all.0 (none_left part x all.0 (different same_part uses) (all_different part uses all.1))

-- Each token has a part.
pub some_part : (list : List TokenTree) → 0 < length list → 0 < length (part_uses list)
some_part [] some = absurd (omega (arith, some))
some_part (token.Leaf it ∷ list) some = omega arith
some_part (token.Subtree it ∷ list) some = omega arith

-- The table of parts is the one part.
pub one_part_table : (part : SpanPart) (list : List TokenTree) → HasOnePart part list → 0 < length list → part ∷ [] ≡ part_table list
one_part_table part list one some =
    part_table_only list (part ∷ []) (few_are_table same_part part_sound part_eq.lawful.laws.refl short_parts (part_uses list) (part ∷ []) (sym (one_different part (part_uses list) one (some_part list some))) (omega arith))

-- The one part is at the place 0, and has this index in the table.
pub one_part_leads : (part : SpanPart) (table : List SpanPart) → table ≡ part ∷ [] → (place : ℕ) (x : SpanPart) → IsAt (part ∷ []) place x → IsIn same_part table x → HasNewIndexAt same_part table [] place x
one_part_leads part table is place x at known = subst (λ l. place ≡ index_in (same_part x) l) (sym is) (by_place place at)
  where
    by_place : (place : ℕ) → IsAt (part ∷ []) place x → place ≡ index_in (same_part x) (part ∷ [])
    by_place zero at =
        let one : part ≡ x = cc at in
        let same : same_part x part ≡ true = subst (λ z. same_part x z ≡ true) (sym one) (part_complete x) in
        sym (ap (λ t. cond {A = ℕ} t 0 1) same)
    by_place (suc place) at = absurd (cc at)

-- The token that is meant at an index.
pub small_meant : (part : SpanPart) (new : Tables) (list : List TokenTree) (index : ℕ) (t : InternedToken) → index < length list → HasOnePart part list → NamesAt list index t
    → AllByRecursion (Knows new) (drop index list) → IsWhole (drop index list) → (meant : TokenTree) × MeantAt (tables_from (part ∷ []) (different bytes_eq (symbol_uses list))) new list index t meant
small_meant part new list index t within one names known all_whole =
    let (meant, stands, read) = stands_there list index within in
    let here : drop index list ≡ meant ∷ drop (index + 1) list = piece_at list index meant within read in (
      meant,
      record { named = names part one meant stands; read = read; knows = (subst (AllByRecursion (Knows new)) here known).0; first = subst IsWhole here all_whole },
    )
  where
    stands_there : {X : Type 0} (xs : List X) (i : ℕ) → i < length xs → (x : X) × (slice_get xs i ≡ Some x) × (x ≡ get_or xs i x)
    stands_there xs i within = elim (slice_get_cases xs i).1 [
      | inl (x, _, at, read) ↦ (x, at, sym read)
      | inr (past, _) ↦ absurd (omega (arith, past, within))
    ]

-- The symbols of some tokens are their table.
pub small_symbols : (list : List TokenTree) (values : List (List ℕ)) (numbers : List ℕ) (table : List (List ℕ)) → values ≡ different bytes_eq (symbol_uses list)
    → numbers ≡ map (uses_of bytes_eq (symbol_uses list)) (different bytes_eq (symbol_uses list))
    → ((uses : List (List ℕ)) → values ≡ different bytes_eq uses → numbers ≡ map (uses_of bytes_eq uses) values → IsTable bytes_eq short_symbols uses table) → IsTable bytes_eq short_symbols (symbol_uses list) table
small_symbols list values numbers table values_are numbers_are is =
    is (symbol_uses list) values_are (numbers_are ∙ ap (map (uses_of bytes_eq (symbol_uses list))) (sym values_are))

-- The new index of each symbol is its index in the table.
pub small_symbols_lead : (list : List TokenTree) (values : List (List ℕ)) (table : List (List ℕ)) (new_indices : List ℕ) → values ≡ different bytes_eq (symbol_uses list) → IsTable bytes_eq short_symbols (symbol_uses list) table
    → length values ≤ most_symbols → ((index : ℕ) → index < length values → LeadsTo values table new_indices index)
    → (place : ℕ) (x : List ℕ) → StandsAt (different bytes_eq (symbol_uses list)) place x → HasNewIndexAt bytes_eq table new_indices place x
small_symbols_lead list values table new_indices values_are is few leads place x stands =
    new_index_noted bytes_eq text_sound symbol_eq.lawful.laws short_symbols (symbol_uses list) values table new_indices place x is (omega (arith, few)) leads
    (subst (λ l. StandsAt l place x) (sym values_are) stands)

-- The table has as many symbols as there are different ones.
pub length-small_symbols : (list : List TokenTree) → length (symbol_table list) ≡ length (different bytes_eq (symbol_uses list))
length-small_symbols list = length-table_of bytes_eq text_sound symbol_eq.lawful.laws short_symbols (symbol_uses list)
