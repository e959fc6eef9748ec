-- What small tokens mean after a change.
use Rattle.std.proofs.Common.{◌≡◌, ℕ, suc, ◌+◌, ◌^◌, ◌<◌, ◌≤◌, bytes_eq, List, [], ◌∷◌, ◌++◌, Some, length, slice_get, refl, ap, sym, subst, ◌∙◌, arith, length-append, append-nil}
use Rattle.std.specs.List.{AllZip}
use Rattle.std.specs.Map.{keys_of}
use Rattle.tt_base.specs.contracts.symbol.SymbolEq.TheImpl.Laws as symbol_eq
use Rattle.tt_base.specs.declared.delimiter.Subtree.{Subtree}
use Rattle.tt_base.specs.declared.leaf.Leaf.{Leaf}
use Rattle.tt_base.specs.declared.leaf.Leaf.TheVariants as leaf
use Rattle.tt_base.specs.declared.span.SpanPart.{SpanPart}
use Rattle.tt_base.specs.declared.token_tree.TokenTree.{TokenTree}
use Rattle.tt_base.specs.declared.token_tree.TokenTree.TheVariants as token
use Rattle.tt_tables.specs.declared.small.Form.{Form}
use Rattle.tt_tables.specs.declared.small.Form.TheVariants as form
use Rattle.tt_tables.specs.declared.small.Small.{Small}
use Rattle.tt_tables.specs.Counts.{number_in, CountsMore}
use Rattle.tt_tables.specs.Entries.{with_entry}
use Rattle.tt_tables.specs.Held.{whole}
use Rattle.tt_tables.specs.SmallHeld.{AreSmall, CountsSymbols, small_tables}
use Rattle.tt_tables.specs.SmallMeaning.{Means, MeansBy, NamesSymbol, AreRanked, RankedBy, IsHeaderless, small_punct, small_ident, small_literal}
use Rattle.tt_tables.specs.TableOrder.{different, uses_of}
use Rattle.tt_tables.specs.Tables.{Tables}
use Rattle.tt_tables.specs.Uses.{leaf_symbols, token_symbols, symbol_uses}
use Rattle.tt_tables.proofs.Changing.{counted_once, number_with}
use Rattle.tt_tables.proofs.Ordering.{in_order_more}
use Rattle.tt_tables.proofs.PlacesKept.{keeps_front, name_stays}
use Rattle.tt_tables.proofs.TokenTables.{text_sound}
use Rattle.tt_tables.proofs.UseCounts.{uses-le}
use Rattle.tt_tables.proofs.Used.{uses-append}
use Rattle.tt_tables.proofs.Using.{uses_pushed}

-- ---- symbols

-- A symbol that gets an entry, and then one use, is counted once.
pub counts_symbol : (old mid now : List (List ℕ × ℕ)) (x : List ℕ) → mid ≡ with_entry bytes_eq old x → CountsMore bytes_eq (x ∷ []) mid now → keys_of now ≡ keys_of mid → CountsSymbols old now (x ∷ [])
counts_symbol old mid now x entry more keys =
    let (stay, counted) = counted_once bytes_eq symbol_eq.lawful.laws text_sound old mid now x entry more keys in
    record {
      stay = stay;
      more = counted;
      in_order = λ uses order. keys ∙ ap keys_of entry ∙ in_order_more bytes_eq symbol_eq.lawful.laws text_sound uses old x order;
    }

-- Numbers have room after a symbol got an entry.
pub symbol_has_room : (old mid : List (List ℕ × ℕ)) (x y : List ℕ) → mid ≡ with_entry bytes_eq old x → number_in bytes_eq old y + 1 < 2 ^ 64 → number_in bytes_eq mid y + 1 < 2 ^ 64
symbol_has_room old mid x y entry room =
    omega (arith, ap (λ entries. number_in bytes_eq entries y) entry, number_with bytes_eq symbol_eq.lawful.laws text_sound old x y, room)

-- No symbol is counted.
pub counts_none : (old : List (List ℕ × ℕ)) → CountsSymbols old old []
counts_none old =
    record {
      stay = λ i x at. at;
      more = λ x. omega (arith, none x);
      in_order = λ uses order. order ∙ ap (different bytes_eq) (sym (append-nil uses));
    }
  where
    none : (x : List ℕ) → uses_of bytes_eq [] x ≡ 0
    none x = refl

-- ---- one token

-- A leaf's symbol keeps its place.
symbol_stays : (symbols now : List (List ℕ)) (place : ℕ) (it : Leaf) → ((i : ℕ) (x : List ℕ) → slice_get symbols i ≡ Some x → slice_get now i ≡ Some x) → NamesSymbol symbols place it → NamesSymbol now place it
symbol_stays symbols now place (leaf.Literal it) stay at = stay place _ at
symbol_stays symbols now place (leaf.Punct it) stay at = tt
symbol_stays symbols now place (leaf.Ident it) stay at = stay place _ at

module _ (tables now : Tables) (headers headers_now : List Subtree) (leaves leaves_now : List Leaf)
    (parts_stay : (i : ℕ) (x : SpanPart) → slice_get tables.parts i ≡ Some x → slice_get now.parts i ≡ Some x)
    (symbols_stay : (i : ℕ) (x : List ℕ) → slice_get tables.symbols i ≡ Some x → slice_get now.symbols i ≡ Some x)
    (headers_stay : (i : ℕ) (x : Subtree) → slice_get headers i ≡ Some x → slice_get headers_now i ≡ Some x)
    (leaves_stay : (i : ℕ) (x : Leaf) → slice_get leaves i ≡ Some x → slice_get leaves_now i ≡ Some x) where
  -- A token keeps its meaning if all that it names keeps its place.
  mean_stays : (f : Form) (small : Small) (it : TokenTree) → MeansBy f tables headers leaves small it → MeansBy f now headers_now leaves_now small it
  mean_stays (form.Punct spacing) small it means = name_stays tables now (small_punct spacing small) (whole it) (λ i x m. parts_stay i x) (λ i x m. symbols_stay i x) means
  mean_stays (form.Ident raw) small it means = name_stays tables now (small_ident raw small) (whole it) (λ i x m. parts_stay i x) (λ i x m. symbols_stay i x) means
  mean_stays (form.Literal kind) small it means = name_stays tables now (small_literal kind small) (whole it) (λ i x m. parts_stay i x) (λ i x m. symbols_stay i x) means
  mean_stays form.Header small (token.Leaf it) means = absurd means
  mean_stays form.Header small (token.Subtree it) means = headers_stay small.value it means
  mean_stays form.Odd small (token.Leaf it) means = (leaves_stay small.value it means.0, symbol_stays tables.symbols now.symbols small.start it symbols_stay means.1)
  mean_stays form.Odd small (token.Subtree it) means = absurd means

  -- All tokens do, and one more may follow.
  all_mean : (tokens : List Small) (list : List TokenTree) → AllZip (Means tables headers leaves) tokens list → AllZip (Means now headers_now leaves_now) tokens list
  all_mean [] [] means = tt
  all_mean [] (h ∷ list) means = absurd means
  all_mean (t ∷ tokens) [] means = absurd means
  all_mean (t ∷ tokens) (h ∷ list) means = (mean_stays t.form t h means.0, all_mean tokens list means.1)

mean_pushed : (tables : Tables) (headers : List Subtree) (leaves : List Leaf) (tokens : List Small) (list : List TokenTree) (t : Small) (h : TokenTree)
    → AllZip (Means tables headers leaves) tokens list → Means tables headers leaves t h → AllZip (Means tables headers leaves) (tokens ++ t ∷ []) (list ++ h ∷ [])
mean_pushed tables headers leaves [] [] t h means one = (one, tt)
mean_pushed tables headers leaves [] (g ∷ list) t h means one = absurd means
mean_pushed tables headers leaves (s ∷ tokens) [] t h means one = absurd means
mean_pushed tables headers leaves (s ∷ tokens) (g ∷ list) t h means one = (means.0, mean_pushed tables headers leaves tokens list t h means.1 one)

-- ---- ranks

-- No header comes last.
ranked_leaf_by : (f : Form) (value next : ℕ) (others others_now : ℕ → Type 0) → ((n : ℕ) → others n → others_now n) → RankedBy f value next others → RankedBy f value next others_now
ranked_leaf_by form.Header value next others others_now more ranked = (ranked.0, more (suc next) ranked.1)
ranked_leaf_by (form.Punct spacing) value next others others_now more ranked = more next ranked
ranked_leaf_by (form.Ident raw) value next others others_now more ranked = more next ranked
ranked_leaf_by (form.Literal kind) value next others others_now more ranked = more next ranked
ranked_leaf_by form.Odd value next others others_now more ranked = more next ranked

last_leaf : (f : Form) (value headers next : ℕ) → IsHeaderless f → next ≡ headers → RankedBy f value next (AreRanked headers [])
last_leaf form.Header value headers next none is = absurd none
last_leaf (form.Punct spacing) value headers next none is = is
last_leaf (form.Ident raw) value headers next none is = is
last_leaf (form.Literal kind) value headers next none is = is
last_leaf form.Odd value headers next none is = is

ranked_leaf : (headers : ℕ) (tokens : List Small) (t : Small) → IsHeaderless t.form → (next : ℕ) → AreRanked headers tokens next → AreRanked headers (tokens ++ t ∷ []) next
ranked_leaf headers [] t none next is = last_leaf t.form t.value headers next none is
ranked_leaf headers (s ∷ tokens) t none next ranked =
    ranked_leaf_by s.form s.value next (AreRanked headers tokens) (AreRanked headers (tokens ++ t ∷ [])) (ranked_leaf headers tokens t none) ranked

-- A header comes last.
ranked_header : (headers : ℕ) (tokens : List Small) (t : Small) → t.form ≡ form.Header → t.value ≡ headers → (next : ℕ) → AreRanked headers tokens next → AreRanked (suc headers) (tokens ++ t ∷ []) next
ranked_header headers [] t is at next ranked = subst (λ f. RankedBy f t.value next (AreRanked (suc headers) [])) (sym is) (at ∙ sym ranked, ap suc ranked)
ranked_header headers (s ∷ tokens) t is at next ranked =
    ranked_leaf_by s.form s.value next (AreRanked headers tokens) (AreRanked (suc headers) (tokens ++ t ∷ [])) (ranked_header headers tokens t is at) ranked

-- ---- lists

-- The same lists hold the same.
pub same_small : (part : SpanPart) (tokens now : List Small) (headers headers_now : List Subtree) (leaves leaves_now : List Leaf) (symbols symbols_now : List (List ℕ × ℕ)) (list : List TokenTree)
    → AreSmall part tokens headers leaves symbols list → now ≡ tokens → headers_now ≡ headers → leaves_now ≡ leaves → symbols_now ≡ symbols → AreSmall part now headers_now leaves_now symbols_now list
same_small part tokens now headers headers_now leaves leaves_now symbols symbols_now list is e₁ e₂ e₃ e₄ =
    subst (λ t. AreSmall part t headers_now leaves_now symbols_now list) (sym e₁)
    (subst (λ h. AreSmall part tokens h leaves_now symbols_now list) (sym e₂)
    (subst (λ l. AreSmall part tokens headers l symbols_now list) (sym e₃) (subst (λ s. AreSmall part tokens headers leaves s list) (sym e₄) is)))

-- Nothing is held at first.
pub nothing_small : (part : SpanPart) (tokens : List Small) (headers : List Subtree) (leaves : List Leaf) (symbols : List (List ℕ × ℕ)) → tokens ≡ [] → headers ≡ [] → leaves ≡ [] → symbols ≡ []
    → AreSmall part tokens headers leaves symbols []
nothing_small part tokens headers leaves symbols e₁ e₂ e₃ e₄ =
    same_small part [] tokens [] headers [] leaves [] symbols []
    (record { means = tt; ranked = refl; counted = λ x. refl; in_order = refl; few = omega arith; few_headers = omega arith; few_leaves = omega arith }) e₁ e₂ e₃ e₄

-- The list has few symbols, so numbers of uses have room.
few_used : (list : List TokenTree) → length (symbol_uses list) ≤ length list
few_used [] = omega arith
few_used (token.Leaf (leaf.Literal it) ∷ list) = omega (arith, few_used list)
few_used (token.Leaf (leaf.Punct it) ∷ list) = omega (arith, few_used list)
few_used (token.Leaf (leaf.Ident it) ∷ list) = omega (arith, few_used list)
few_used (token.Subtree it ∷ list) = omega (arith, few_used list)

pub small_room : (part : SpanPart) (tokens : List Small) (headers : List Subtree) (leaves : List Leaf) (symbols : List (List ℕ × ℕ)) (list : List TokenTree) (x : List ℕ)
    → AreSmall part tokens headers leaves symbols list → number_in bytes_eq symbols x + 1 < 2 ^ 64
small_room part tokens headers leaves symbols list x is = omega (arith, is.counted x, uses-le bytes_eq (symbol_uses list) x, few_used list, is.few)

-- One more token with its symbols.
pushed_by : (part : SpanPart) (tokens : List Small) (headers headers_now : List Subtree) (leaves leaves_now : List Leaf) (symbols symbols_now : List (List ℕ × ℕ)) (list : List TokenTree) (t : Small) (h : TokenTree)
    → AreSmall part tokens headers leaves symbols list → length list < 4294967296 → CountsSymbols symbols symbols_now (token_symbols h)
    → ((i : ℕ) (x : Subtree) → slice_get headers i ≡ Some x → slice_get headers_now i ≡ Some x) → ((i : ℕ) (x : Leaf) → slice_get leaves i ≡ Some x → slice_get leaves_now i ≡ Some x)
    → Means (small_tables part symbols_now) headers_now leaves_now t h → AreRanked (length headers_now) (tokens ++ t ∷ []) 0
    → length headers_now ≤ suc (length headers) → length leaves_now ≤ suc (length leaves)
    → AreSmall part (tokens ++ t ∷ []) headers_now leaves_now symbols_now (list ++ h ∷ [])
pushed_by part tokens headers headers_now leaves leaves_now symbols symbols_now list t h is few counts headers_stay leaves_stay means ranked few_headers few_leaves =
    record {
      means = mean_pushed (small_tables part symbols_now) headers_now leaves_now tokens list t h
          (all_mean (small_tables part symbols) (small_tables part symbols_now) headers headers_now leaves leaves_now (λ i x at. at) counts.stay headers_stay leaves_stay tokens list is.means) means;
      ranked = ranked;
      counted = λ x. omega (arith, counts.more x, is.counted x, ap (λ l. uses_of bytes_eq l x) (uses_pushed token_symbols list h), uses-append bytes_eq (symbol_uses list) (token_symbols h) x);
      in_order = counts.in_order (symbol_uses list) is.in_order ∙ ap (different bytes_eq) (sym (uses_pushed token_symbols list h));
      few = omega (arith, few, length-append list (h ∷ []));
      few_headers = omega (arith, few_headers, is.few_headers, length-append list (h ∷ []));
      few_leaves = omega (arith, few_leaves, is.few_leaves, length-append list (h ∷ []));
    }

-- A leaf in twelve bytes.
pub leaf_pushed : (part : SpanPart) (tokens now : List Small) (headers : List Subtree) (leaves : List Leaf) (symbols symbols_now : List (List ℕ × ℕ)) (list : List TokenTree) (t : Small) (it : Leaf)
    → AreSmall part tokens headers leaves symbols list → length list < 4294967296 → CountsSymbols symbols symbols_now (leaf_symbols it)
    → Means (small_tables part symbols_now) headers leaves t (token.Leaf it) → IsHeaderless t.form → now ≡ tokens ++ t ∷ []
    → AreSmall part now headers leaves symbols_now (list ++ token.Leaf it ∷ [])
leaf_pushed part tokens now headers leaves symbols symbols_now list t it is few counts means none grown =
    subst (λ l. AreSmall part l headers leaves symbols_now (list ++ token.Leaf it ∷ [])) (sym grown)
    (pushed_by part tokens headers headers leaves leaves symbols symbols_now list t (token.Leaf it) is few counts (λ i x at. at) (λ i x at. at) means
    (ranked_leaf (length headers) tokens t none 0 is.ranked) (omega arith) (omega arith))

-- The item after all others is at the place of their number.
at_end : {X : Type 0} (xs : List X) (x : X) → slice_get (xs ++ x ∷ []) (length xs) ≡ Some x
at_end [] x = refl
at_end (y ∷ xs) x = at_end xs x

-- A leaf that does not fit twelve bytes.
pub odd_pushed : (part : SpanPart) (tokens now : List Small) (headers : List Subtree) (leaves leaves_now : List Leaf) (symbols symbols_now : List (List ℕ × ℕ)) (list : List TokenTree) (value place : ℕ) (it : Leaf)
    → AreSmall part tokens headers leaves symbols list → length list < 4294967296 → CountsSymbols symbols symbols_now (leaf_symbols it)
    → NamesSymbol (keys_of symbols_now) place it → value ≡ length leaves → now ≡ tokens ++ record { value = value; start = place; length = 0; form = form.Odd } ∷ [] → leaves_now ≡ leaves ++ it ∷ []
    → AreSmall part now headers leaves_now symbols_now (list ++ token.Leaf it ∷ [])
odd_pushed part tokens now headers leaves leaves_now symbols symbols_now list value place it is few counts named at grown leaves_grown =
    subst (λ l. AreSmall part l headers leaves_now symbols_now (list ++ token.Leaf it ∷ [])) (sym grown)
    (subst (λ l. AreSmall part (tokens ++ t ∷ []) headers l symbols_now (list ++ token.Leaf it ∷ [])) (sym leaves_grown)
    (pushed_by part tokens headers headers leaves (leaves ++ it ∷ []) symbols symbols_now list t (token.Leaf it) is few counts (λ i x at. at) (keeps_front leaves (it ∷ []))
    (subst (λ v. slice_get (leaves ++ it ∷ []) v ≡ Some it) (sym at) (at_end leaves it), named)
    (ranked_leaf (length headers) tokens t tt 0 is.ranked) (omega arith) (omega (arith, length-append leaves (it ∷ [])))))
  where
    t : Small
    t = record { value = value; start = place; length = 0; form = form.Odd }

-- A header.
pub header_pushed : (part : SpanPart) (tokens now : List Small) (headers headers_now : List Subtree) (leaves : List Leaf) (symbols : List (List ℕ × ℕ)) (list : List TokenTree) (value : ℕ) (it : Subtree)
    → AreSmall part tokens headers leaves symbols list → length list < 4294967296
    → value ≡ length headers → now ≡ tokens ++ record { value = value; start = 0; length = 0; form = form.Header } ∷ [] → headers_now ≡ headers ++ it ∷ []
    → AreSmall part now headers_now leaves symbols (list ++ token.Subtree it ∷ [])
header_pushed part tokens now headers headers_now leaves symbols list value it is few at grown headers_grown =
    subst (λ l. AreSmall part l headers_now leaves symbols (list ++ token.Subtree it ∷ [])) (sym grown)
    (subst (λ l. AreSmall part (tokens ++ t ∷ []) l leaves symbols (list ++ token.Subtree it ∷ [])) (sym headers_grown)
    (pushed_by part tokens headers (headers ++ it ∷ []) leaves leaves symbols symbols list t (token.Subtree it) is few (counts_none symbols) (keeps_front headers (it ∷ [])) (λ i x at. at)
    (subst (λ v. slice_get (headers ++ it ∷ []) v ≡ Some it) (sym at) (at_end headers it))
    (subst (λ n. AreRanked n (tokens ++ t ∷ []) 0) (sym more) (ranked_header (length headers) tokens t refl at 0 is.ranked)) (omega (arith, more)) (omega arith)))
  where
    t : Small
    t = record { value = value; start = 0; length = 0; form = form.Header }

    more : length (headers ++ it ∷ []) ≡ suc (length headers)
    more = omega (arith, length-append headers (it ∷ []))
