-- The values of a token, at its places, and the removal of their uses.
use Rattle.std.proofs.Common.{◌≡◌, ℕ, ◌+◌, ◌<◌, ◌≤◌, Bool, bytes_eq, List, [], ◌∷◌, ◌++◌, Some, length, take, drop, slice_get, get_or, refl, ap, ap₂, sym, subst, ◌∙◌, arith}
use Rattle.std.proofs.lemmas.List.{take_more, take_all}
use Rattle.std.proofs.lemmas.Option.{slice_get_within, slice_get-get_or, get_or_from_slice_get}
use Rattle.std.specs.Cmp.{IsEquivalence}
use Rattle.std.specs.List.{flat_map}
use Rattle.std.specs.Map.{keys_of}
use Rattle.tt_base.specs.declared.leaf.Leaf.TheVariants as leaf
use Rattle.tt_base.specs.declared.span.SpanPart.{SpanPart}
use Rattle.tt_base.specs.declared.token_tree.TokenTree.TheVariants as token
use Rattle.tt_base.specs.Literal.{span_of, symbol_of}
use Rattle.tt_base.specs.Span.{part_of}
use Rattle.tt_codec.specs.declared.entry.HeaderEntry.{HeaderEntry}
use Rattle.tt_codec.specs.declared.entry.LeafEntry.TheVariants.{Punct as punct, Ident as ident, Literal as literal}
use Rattle.tt_codec.specs.declared.span.SpanNumbers.{SpanNumbers}
use Rattle.tt_base.specs.declared.delimiter.DelimiterKind.{DelimiterKind}
use Rattle.tt_base.specs.declared.ident.IdentIsRaw.{IdentIsRaw}
use Rattle.tt_base.specs.declared.literal.LitKind.{LitKind}
use Rattle.tt_base.specs.declared.punct.Spacing.{Spacing}
use Rattle.tt_tables.proofs.Used.{one_if, uses-append, uses-cons, uses-one}
use Rattle.tt_tables.proofs.PlacesKept.{length-named, named_at}
use Rattle.tt_tables.proofs.Using.{uses_cut, uses_pushed}
use Rattle.tt_tables.specs.declared.token.InternedToken.TheVariants as interned
use Rattle.tt_tables.specs.declared.token.InternedToken.{InternedToken}
use Rattle.tt_tables.specs.Held.{HeldToken, whole, opened, counted_parts, counted_symbols, parts_in, symbols_in}
use Rattle.tt_tables.specs.Interned.{CanTake, CanTakeAll, tables_of}
use Rattle.tt_tables.specs.Names.{Names, AllName}
use Rattle.tt_tables.specs.Counts.{number_in, CountsMore}
use Rattle.tt_tables.specs.TableOrder.{uses_of}
use Rattle.tt_tables.specs.Tables.{Tables, tables_from}
use Rattle.tt_tables.specs.Uses.{same_part}

-- ---- the values at a token's places

-- one part is at the place, and it is the only part that counts
pub record UsesPart (tables : Tables) (place : ℕ) (it : HeldToken) : Type 0 where
  pub part : SpanPart
  pub there : slice_get tables.parts place ≡ Some part
  pub counted : counted_parts it ≡ part ∷ []

-- one symbol is at the place, and it is the only symbol that counts
pub record UsesSymbol (tables : Tables) (place : ℕ) (it : HeldToken) : Type 0 where
  pub symbol : List ℕ
  pub there : slice_get tables.symbols place ≡ Some symbol
  pub counted : counted_symbols it ≡ symbol ∷ []

-- two parts are at the places, and they are the only parts that count
pub record UsesParts (tables : Tables) (first second : ℕ) (it : HeldToken) : Type 0 where
  pub opening : SpanPart
  pub closing : SpanPart
  pub first_there : slice_get tables.parts first ≡ Some opening
  pub second_there : slice_get tables.parts second ≡ Some closing
  pub counted : counted_parts it ≡ opening ∷ closing ∷ []

-- A punct.
pub punct_uses : (tables : Tables) (char : ℕ) (spacing : Spacing) (numbers : SpanNumbers) (it : HeldToken) → Names tables (interned.Leaf (punct char spacing numbers)) it
    → UsesPart tables numbers.part it × (counted_symbols it ≡ [])
punct_uses tables char spacing numbers (whole (token.Leaf (leaf.Punct it))) named = (record { part = part_of it.span; there = named.0.0.part; counted = refl }, refl)
punct_uses tables char spacing numbers (whole (token.Leaf (leaf.Ident it))) named = absurd named.0
punct_uses tables char spacing numbers (whole (token.Leaf (leaf.Literal it))) named = absurd named.0
punct_uses tables char spacing numbers (whole (token.Subtree it)) named = absurd named
punct_uses tables char spacing numbers (opened kind open_span) named = absurd named

-- An ident.
pub ident_uses : (tables : Tables) (symbol : ℕ) (raw : IdentIsRaw) (numbers : SpanNumbers) (it : HeldToken) → Names tables (interned.Leaf (ident symbol raw numbers)) it
    → UsesPart tables numbers.part it × UsesSymbol tables symbol it
ident_uses tables symbol raw numbers (whole (token.Leaf (leaf.Ident it))) named = (
  record { part = part_of it.span; there = named.0.0.part; counted = refl },
  record { symbol = it.sym; there = named.0.1; counted = refl },
)
ident_uses tables symbol raw numbers (whole (token.Leaf (leaf.Punct it))) named = absurd named.0
ident_uses tables symbol raw numbers (whole (token.Leaf (leaf.Literal it))) named = absurd named.0
ident_uses tables symbol raw numbers (whole (token.Subtree it)) named = absurd named
ident_uses tables symbol raw numbers (opened kind open_span) named = absurd named

-- A literal.
pub literal_uses : (tables : Tables) (symbol : ℕ) (kind : LitKind) (suffix_len : ℕ) (numbers : SpanNumbers) (it : HeldToken)
    → Names tables (interned.Leaf (literal symbol kind suffix_len numbers)) it → UsesPart tables numbers.part it × UsesSymbol tables symbol it
literal_uses tables symbol kind suffix_len numbers (whole (token.Leaf (leaf.Literal it))) named = (
  record { part = part_of (span_of it); there = named.0.0.part; counted = refl },
  record { symbol = symbol_of it; there = named.0.1; counted = refl },
)
literal_uses tables symbol kind suffix_len numbers (whole (token.Leaf (leaf.Punct it))) named = absurd named.0
literal_uses tables symbol kind suffix_len numbers (whole (token.Leaf (leaf.Ident it))) named = absurd named.0
literal_uses tables symbol kind suffix_len numbers (whole (token.Subtree it)) named = absurd named
literal_uses tables symbol kind suffix_len numbers (opened kind_ open_span) named = absurd named

-- An open header.
pub open_uses : (tables : Tables) (kind : DelimiterKind) (numbers : SpanNumbers) (it : HeldToken) → Names tables (interned.Open kind numbers) it
    → UsesPart tables numbers.part it × (counted_symbols it ≡ [])
open_uses tables kind numbers (opened other open_span) named = (record { part = part_of open_span; there = named.1.part; counted = refl }, refl)
open_uses tables kind numbers (whole it) named = absurd named

-- A header.
pub header_uses : (tables : Tables) (entry : HeaderEntry) (it : HeldToken) → Names tables (interned.Header entry) it
    → UsesParts tables entry.opening.part entry.closing.part it × (counted_symbols it ≡ [])
header_uses tables entry (whole (token.Subtree it)) named = (
  record {
    opening = part_of it.delimiter.open_span;
    closing = part_of it.delimiter.close;
    first_there = named.0.opening.part;
    second_there = named.0.closing.part;
    counted = refl;
  },
  refl,
)
header_uses tables entry (whole (token.Leaf it)) named = absurd named
header_uses tables entry (opened kind open_span) named = absurd named

-- ---- smaller numbers

-- `same` is whether two values are equal
module _ {X : Type 0} (same : X → X → Bool) (laws : IsEquivalence same) where
  -- The value at a place has a use.
  pub has_one : (keys : List X) (place : ℕ) (entries : List (X × ℕ)) (value : X) (uses : List X) (x : X) → slice_get keys place ≡ Some value → uses ≡ value ∷ []
      → ((y : X) → uses_of same uses y ≤ number_in same entries y) → slice_get keys place ≡ Some x → 0 < number_in same entries x
  has_one keys place entries value uses x at is used here =
      let both : Some value ≡ Some x = sym at ∙ here in
      let one : value ≡ x = cc both in
      omega (arith, used x, ap (λ l. uses_of same l x) is, uses-one same value x, ap one_if (ap (same x) one ∙ laws.refl x))

  -- The first of two values has one.
  pub has_first : (keys : List X) (place : ℕ) (entries : List (X × ℕ)) (value other : X) (uses : List X) (x : X) → slice_get keys place ≡ Some value → uses ≡ value ∷ other ∷ []
      → ((y : X) → uses_of same uses y ≤ number_in same entries y) → slice_get keys place ≡ Some x → 0 < number_in same entries x
  has_first keys place entries value other uses x at is used here =
      let both : Some value ≡ Some x = sym at ∙ here in
      let one : value ≡ x = cc both in
      omega (arith, used x, ap (λ l. uses_of same l x) is, uses-cons same value (other ∷ []) x, ap one_if (ap (same x) one ∙ laws.refl x))

  -- The second value still has a use after one use of the first is removed.
  pub has_second : (keys : List X) (place : ℕ) (old entries : List (X × ℕ)) (first value : X) (uses : List X) (x : X) → slice_get keys place ≡ Some value → uses ≡ first ∷ value ∷ []
      → ((y : X) → uses_of same uses y ≤ number_in same old y) → CountsMore same (first ∷ []) entries old → slice_get keys place ≡ Some x → 0 < number_in same entries x
  has_second keys place old entries first value uses x at is used fewer here =
      let both : Some value ≡ Some x = sym at ∙ here in
      let one : value ≡ x = cc both in
      omega (
        arith,
        used x,
        fewer x,
        ap (λ l. uses_of same l x) is,
        uses-cons same first (value ∷ []) x,
        uses-one same first x,
        uses-one same value x,
        ap one_if (ap (same x) one ∙ laws.refl x),
      )

  -- Two uses are removed, one after the other.
  pub both_gone : (first second : X) (uses : List X) (old mid now : List (X × ℕ)) → uses ≡ first ∷ second ∷ [] → CountsMore same (first ∷ []) mid old → CountsMore same (second ∷ []) now mid
      → CountsMore same uses now old
  both_gone first second uses old mid now is one two x =
      omega (arith, one x, two x, ap (λ l. uses_of same l x) is, uses-cons same first (second ∷ []) x, uses-one same first x, uses-one same second x)

-- `same` is whether two values are equal
module _ {X : Type 0} (same : X → X → Bool) where
  -- One use is removed.
  pub one_gone : (value : X) (uses : List X) (old now : List (X × ℕ)) → uses ≡ value ∷ [] → CountsMore same (value ∷ []) now old → CountsMore same uses now old
  one_gone value uses old now is gone = subst (λ u. CountsMore same u now old) (sym is) gone

  -- No use is removed.
  pub none_gone : (uses : List X) (counts : List (X × ℕ)) → uses ≡ [] → CountsMore same uses counts counts
  none_gone uses counts is = subst (λ u. CountsMore same u counts counts) (sym is) (λ x. omega (arith, none x))
    where
      none : (x : X) → uses_of same [] x ≡ 0
      none x = refl

-- ---- lists

-- `f` is the list of values that an item uses
module _ {X A : Type 0} (same : A → A → Bool) (f : X → List A) where
  -- One item more.
  uses_next : (xs : List X) (i : ℕ) (it : X) (a : A) → slice_get xs i ≡ Some it
      → uses_of same (flat_map f (take (i + 1) xs)) a ≡ uses_of same (flat_map f (take i xs)) a + uses_of same (f it) a
  uses_next xs i it a at =
      ap (λ l. uses_of same l a)
      (ap (flat_map f) (take_more xs i it (slice_get_within xs i it at) ∙ ap (λ y. take i xs ++ y ∷ []) (get_or_from_slice_get xs i it it at)) ∙ uses_pushed f (take i xs) it)
      ∙ uses-append same (flat_map f (take i xs)) (f it) a

  -- The uses of the next item can be removed.
  pub next_there : (xs : List X) (i : ℕ) (it : X) (old now : List (A × ℕ)) → slice_get xs i ≡ Some it → ((a : A) → uses_of same (flat_map f xs) a ≤ number_in same old a)
      → CountsMore same (flat_map f (take i xs)) now old → (a : A) → uses_of same (f it) a ≤ number_in same now a
  next_there xs i it old now at used gone a =
      omega (
        arith,
        used a,
        gone a,
        uses_next xs i it a at,
        ap (λ l. uses_of same l a) (uses_cut f xs (i + 1)),
        uses-append same (flat_map f (take (i + 1) xs)) (flat_map f (drop (i + 1) xs)) a,
      )

  -- The uses of one more item are removed.
  pub one_more_gone : (xs : List X) (i : ℕ) (it : X) (old mid now : List (A × ℕ)) → slice_get xs i ≡ Some it → CountsMore same (flat_map f (take i xs)) mid old → CountsMore same (f it) now mid
      → CountsMore same (flat_map f (take (i + 1) xs)) now old
  one_more_gone xs i it old mid now at gone one a = omega (arith, gone a, one a, uses_next xs i it a at)

-- ---- tokens whose uses are removed from the front

-- Tables with equal values are equal.
pub same_tables : (parts parts_now : List (SpanPart × ℕ)) (symbols symbols_now : List (List ℕ × ℕ)) → keys_of parts_now ≡ keys_of parts → keys_of symbols_now ≡ keys_of symbols → tables_of parts_now symbols_now ≡ tables_of parts symbols
same_tables parts parts_now symbols symbols_now e f = ap₂ tables_from e f

-- The next token means one that is held.
pub next_named : (tables : Tables) (tokens : List InternedToken) (held : List HeldToken) (i : ℕ) (d : InternedToken) → i < length tokens → AllName tables tokens held
    → (h : HeldToken) × (slice_get held i ≡ Some h) × Names tables (get_or tokens i d) h
next_named tables tokens held i d within named = named_at tables tokens held i (get_or tokens i d) named (slice_get-get_or tokens i d within)

-- Its uses can be removed.
pub can_take_next : (parts parts_now : List (SpanPart × ℕ)) (symbols symbols_now : List (List ℕ × ℕ)) (tokens : List InternedToken) (i : ℕ) (d : InternedToken) → i < length tokens
    → CanTakeAll parts symbols tokens
    → ((held : List HeldToken) → AllName (tables_of parts symbols) tokens held → CountsMore same_part (parts_in (take i held)) parts_now parts)
    → ((held : List HeldToken) → AllName (tables_of parts symbols) tokens held → CountsMore bytes_eq (symbols_in (take i held)) symbols_now symbols)
    → keys_of parts_now ≡ keys_of parts → keys_of symbols_now ≡ keys_of symbols → CanTake parts_now symbols_now (get_or tokens i d)
can_take_next parts parts_now symbols symbols_now tokens i d within can gone symbols_gone keys symbol_keys =
    let (h, here, named) = next_named (tables_of parts symbols) tokens can.held i d within can.named in
    record {
      it = h;
      named = subst (λ t. Names t (get_or tokens i d) h) (sym (same_tables parts parts_now symbols symbols_now keys symbol_keys)) named;
      parts_used = next_there same_part counted_parts can.held i h parts parts_now here can.parts_used (gone can.held can.named);
      symbols_used = next_there bytes_eq counted_symbols can.held i h symbols symbols_now here can.symbols_used (symbols_gone can.held can.named);
    }

-- Its uses of parts are removed too.
pub next_parts_gone : (parts mid now : List (SpanPart × ℕ)) (symbols symbols_mid : List (List ℕ × ℕ)) (tokens : List InternedToken) (i : ℕ) (d : InternedToken) → i < length tokens
    → ((held : List HeldToken) → AllName (tables_of parts symbols) tokens held → CountsMore same_part (parts_in (take i held)) mid parts)
    → keys_of mid ≡ keys_of parts → keys_of symbols_mid ≡ keys_of symbols
    → ((h : HeldToken) → Names (tables_of mid symbols_mid) (get_or tokens i d) h → CountsMore same_part (counted_parts h) now mid)
    → (held : List HeldToken) → AllName (tables_of parts symbols) tokens held → CountsMore same_part (parts_in (take (i + 1) held)) now parts
next_parts_gone parts mid now symbols symbols_mid tokens i d within gone keys symbol_keys one held named =
    let (h, here, there) = next_named (tables_of parts symbols) tokens held i d within named in
    one_more_gone same_part counted_parts held i h parts mid now here (gone held named)
    (one h (subst (λ t. Names t (get_or tokens i d) h) (sym (same_tables parts mid symbols symbols_mid keys symbol_keys)) there))

-- Its uses of symbols are removed too.
pub next_symbols_gone : (parts parts_mid : List (SpanPart × ℕ)) (symbols mid now : List (List ℕ × ℕ)) (tokens : List InternedToken) (i : ℕ) (d : InternedToken) → i < length tokens
    → ((held : List HeldToken) → AllName (tables_of parts symbols) tokens held → CountsMore bytes_eq (symbols_in (take i held)) mid symbols)
    → keys_of parts_mid ≡ keys_of parts → keys_of mid ≡ keys_of symbols
    → ((h : HeldToken) → Names (tables_of parts_mid mid) (get_or tokens i d) h → CountsMore bytes_eq (counted_symbols h) now mid)
    → (held : List HeldToken) → AllName (tables_of parts symbols) tokens held → CountsMore bytes_eq (symbols_in (take (i + 1) held)) now symbols
next_symbols_gone parts parts_mid symbols mid now tokens i d within gone part_keys keys one held named =
    let (h, here, there) = next_named (tables_of parts symbols) tokens held i d within named in
    one_more_gone bytes_eq counted_symbols held i h symbols mid now here (gone held named)
    (one h (subst (λ t. Names t (get_or tokens i d) h) (sym (same_tables parts parts_mid symbols mid part_keys keys)) there))

-- All tokens held have a meaning.
pub all_taken : (tables : Tables) (tokens : List InternedToken) (held : List HeldToken) (n : ℕ) → length tokens ≤ n → AllName tables tokens held → take n held ≡ held
all_taken tables tokens held n past named = take_all n held (omega (arith, past, length-named tables tokens held named))
