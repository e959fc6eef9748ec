-- What is held after the code appends, closes or changes a token.
use Rattle.std.proofs.Common.{◌≡◌, ℕ, ◌+◌, ◌^◌, ◌<◌, Bool, bytes_eq, List, [], ◌∷◌, ◌++◌, Some, length, set, slice_get, refl, ap, sym, subst, ◌∙◌, arith, append-nil}
use Rattle.std.proofs.lemmas.List.{set-get_or}
use Rattle.std.proofs.lemmas.Option.{get_or_from_slice_get}
use Rattle.std.specs.Map.{keys_of}
use Rattle.tt_base.specs.contracts.span.SpanPartEq.TheImpl.Laws as part_eq
use Rattle.tt_base.specs.contracts.symbol.SymbolEq.TheImpl.Laws as symbol_eq
use Rattle.tt_base.specs.declared.delimiter.DelimiterKind.{DelimiterKind}
use Rattle.tt_base.specs.declared.delimiter.Subtree.{Subtree}
use Rattle.tt_base.specs.declared.leaf.Leaf.TheVariants as leaf
use Rattle.tt_base.specs.declared.span.Span.{Span}
use Rattle.tt_base.specs.declared.span.SpanPart.{SpanPart}
use Rattle.tt_base.specs.declared.token_tree.TokenTree.{TokenTree}
use Rattle.tt_base.specs.declared.token_tree.TokenTree.TheVariants as token
use Rattle.tt_base.specs.declared.ident.Ident.{Ident}
use Rattle.tt_base.specs.declared.literal.Literal.{Literal}
use Rattle.tt_base.specs.declared.punct.Punct.{Punct}
use Rattle.tt_base.specs.Fits.{SpanInRange, LeafInRange}
use Rattle.tt_base.specs.Forest.{header}
use Rattle.tt_base.specs.Literal.{symbol_of, span_of, kind_of, suffix_len_of}
use Rattle.tt_base.specs.Span.{part_of}
use Rattle.tt_base.specs.Token.{delimiter}
use Rattle.tt_codec.specs.declared.entry.HeaderEntry.{HeaderEntry}
use Rattle.tt_codec.specs.declared.entry.LeafEntry.TheVariants.{Punct as punct, Ident as ident, Literal as literal}
use Rattle.tt_codec.specs.declared.span.SpanNumbers.{SpanNumbers}
use Rattle.tt_codec.specs.SpanNumbers.{span_numbers}
use Rattle.tt_tables.proofs.Changing.{Grows, counted_once, grows_with, more_with, number_with, held_still, held_pushed, held_set}
use Rattle.tt_tables.proofs.Ordering.{in_order_more}
use Rattle.tt_tables.proofs.Standing.{held_at}
use Rattle.tt_tables.proofs.Using.{few_parts, few_symbols}
use Rattle.tt_tables.specs.Alone.{interned_alone}
use Rattle.tt_tables.specs.declared.token.InternedToken.{InternedToken}
use Rattle.tt_tables.specs.declared.token.InternedToken.TheVariants as interned
use Rattle.tt_tables.specs.Held.{HeldToken, whole, opened, counted_parts, counted_symbols, parts_in, symbols_in, token_alone}
use Rattle.tt_tables.specs.Interned.{AreHeld, HasHeld, tables_of}
use Rattle.tt_tables.specs.Missing.{NoWholeAt}
use Rattle.tt_tables.specs.Names.{Names}
use Rattle.tt_tables.specs.Entries.{with_entry}
use Rattle.tt_tables.proofs.UseCounts.{uses-le}
use Rattle.tt_tables.proofs.Used.{uses-cons, uses-one}
use Rattle.tt_tables.proofs.TokenTables.{part_sound, text_sound}
use Rattle.tt_tables.specs.Counts.{number_in, CountsMore}
use Rattle.tt_tables.specs.Searches.{FindsSpan}
use Rattle.tt_tables.specs.TableOrder.{different, uses_of}
use Rattle.tt_tables.specs.Tables.{Tables}
use Rattle.tt_tables.specs.Uses.{same_part}

-- What the model shows is what is held.
pub seen : (tokens : List InternedToken) (parts : List (SpanPart × ℕ)) (symbols : List (List ℕ × ℕ)) (has : HasHeld tokens parts symbols) (held : List HeldToken) → has.0 ≡ held → AreHeld tokens parts symbols held
seen tokens parts symbols has held e = subst (AreHeld tokens parts symbols) e has.1

-- Nothing is held at first.
pub nothing_held : (tokens : List InternedToken) (parts : List (SpanPart × ℕ)) (symbols : List (List ℕ × ℕ)) → tokens ≡ [] → parts ≡ [] → symbols ≡ [] → AreHeld tokens parts symbols []
nothing_held tokens parts symbols e₁ e₂ e₃ =
    subst (λ t. AreHeld t parts symbols []) (sym e₁) (subst (λ p. AreHeld [] p symbols []) (sym e₂) (subst (λ s. AreHeld [] [] s []) (sym e₃) none))
  where
    none : AreHeld [] [] [] []
    none = record { named = tt; parts_counted = λ x. refl; symbols_counted = λ x. refl; in_order = refl; few = omega arith }

-- The same tokens, values and numbers.
pub same_held : (tokens now : List InternedToken) (parts parts_now : List (SpanPart × ℕ)) (symbols symbols_now : List (List ℕ × ℕ)) (held : List HeldToken) → AreHeld tokens parts symbols held
    → now ≡ tokens → parts_now ≡ parts → symbols_now ≡ symbols → AreHeld now parts_now symbols_now held
same_held tokens now parts parts_now symbols symbols_now held is e₁ e₂ e₃ =
    subst (λ t. AreHeld t parts_now symbols_now held) (sym e₁) (subst (λ p. AreHeld tokens p symbols_now held) (sym e₂) (subst (λ s. AreHeld tokens parts s held) (sym e₃) is))

-- A part gets an entry without uses before its token.
pub part_noted : (tokens now : List InternedToken) (parts parts_now : List (SpanPart × ℕ)) (symbols symbols_now : List (List ℕ × ℕ)) (held : List HeldToken) (part : SpanPart)
    → AreHeld tokens parts symbols held → now ≡ tokens → parts_now ≡ with_entry same_part parts part → symbols_now ≡ symbols → AreHeld now parts_now symbols_now held
part_noted tokens now parts parts_now symbols symbols_now held part is e₁ e₂ e₃ =
    same_held tokens now (with_entry same_part parts part) parts_now symbols symbols_now held
    (held_still tokens parts (with_entry same_part parts part) symbols held is (grows_with same_part part_eq.lawful.laws part_sound parts part) (more_with same_part part_eq.lawful.laws part_sound parts part))
    e₁ e₂ e₃

-- ---- room to count

-- Numbers of uses have room for one more, and for one more again.
pub part_room : (tokens : List InternedToken) (parts now : List (SpanPart × ℕ)) (symbols : List (List ℕ × ℕ)) (held : List HeldToken) (part x : SpanPart) → AreHeld tokens parts symbols held
    → now ≡ with_entry same_part parts part → number_in same_part now x + 2 < 2 ^ 64
part_room tokens parts now symbols held part x is e =
    omega (
      arith,
      ap (λ entries. number_in same_part entries x) e,
      number_with same_part part_eq.lawful.laws part_sound parts part x,
      is.parts_counted x,
      uses-le same_part (parts_in held) x,
      few_parts held,
      is.few,
    )

pub part_room_twice : (tokens : List InternedToken) (parts mid now : List (SpanPart × ℕ)) (symbols : List (List ℕ × ℕ)) (held : List HeldToken) (part other x : SpanPart) → AreHeld tokens parts symbols held
    → mid ≡ with_entry same_part parts part → now ≡ with_entry same_part mid other → number_in same_part now x + 2 < 2 ^ 64
part_room_twice tokens parts mid now symbols held part other x is e f =
    omega (
      arith,
      ap (λ entries. number_in same_part entries x) f,
      number_with same_part part_eq.lawful.laws part_sound mid other x,
      part_room tokens parts mid symbols held part x is e,
    )

pub symbol_room : (tokens : List InternedToken) (parts : List (SpanPart × ℕ)) (symbols now : List (List ℕ × ℕ)) (held : List HeldToken) (symbol x : List ℕ) → AreHeld tokens parts symbols held
    → now ≡ with_entry bytes_eq symbols symbol → number_in bytes_eq now x + 1 < 2 ^ 64
symbol_room tokens parts symbols now held symbol x is e =
    omega (
      arith,
      ap (λ entries. number_in bytes_eq entries x) e,
      number_with bytes_eq symbol_eq.lawful.laws text_sound symbols symbol x,
      is.symbols_counted x,
      uses-le bytes_eq (symbols_in held) x,
      few_symbols held,
      is.few,
    )

-- ---- values and their uses

-- the numbers are those of the span, and name its part among these
pub record IsPlaced (parts : List (SpanPart × ℕ)) (numbers : SpanNumbers) (span : Span) : Type 0 where
  pub place : slice_get (keys_of parts) numbers.part ≡ Some (part_of span)
  pub is : numbers ≡ span_numbers numbers.part span
  pub range : SpanInRange span

-- They name the span, if its part keeps its place.
finds : (tables : Tables) (parts : List (SpanPart × ℕ)) (numbers : SpanNumbers) (span : Span) → IsPlaced parts numbers span
    → ((i : ℕ) (x : SpanPart) → slice_get (keys_of parts) i ≡ Some x → slice_get tables.parts i ≡ Some x) → FindsSpan tables numbers span
finds tables parts numbers span placed keeps =
    record { part = keeps numbers.part (part_of span) placed.place; start = ap (λ n. n.start) placed.is; length = ap (λ n. n.length) placed.is }

-- a value gets an entry, and then one use
pub record IsUsed {X : Type 0} (same : X → X → Bool) (old mid now : List (X × ℕ)) (x : X) : Type 0 where
  pub entry : mid ≡ with_entry same old x
  pub more : CountsMore same (x ∷ []) mid now
  pub keys : keys_of now ≡ keys_of mid

stays_at : {X : Type 0} (mid now : List (X × ℕ)) → keys_of now ≡ keys_of mid → (i : ℕ) (x : X) → slice_get (keys_of mid) i ≡ Some x → slice_get (keys_of now) i ≡ Some x
stays_at mid now keys i x at = ap (λ l. slice_get l i) keys ∙ at

part_used : (old mid now : List (SpanPart × ℕ)) (x : SpanPart) → IsUsed same_part old mid now x → Grows old now × CountsMore same_part (x ∷ []) old now
part_used old mid now x used = counted_once same_part part_eq.lawful.laws part_sound old mid now x used.entry used.more used.keys

symbol_used : (old mid now : List (List ℕ × ℕ)) (x : List ℕ) → IsUsed bytes_eq old mid now x → Grows old now × CountsMore bytes_eq (x ∷ []) old now
symbol_used old mid now x used = counted_once bytes_eq symbol_eq.lawful.laws text_sound old mid now x used.entry used.more used.keys

none_more : {X : Type 0} (same : X → X → Bool) (counts : List (X × ℕ)) → CountsMore same [] counts counts
none_more same counts x = omega (arith, none)
  where
    none : uses_of same [] x ≡ 0
    none = refl

-- A part with an entry keeps its place when another part gets an entry.
pub place_later : (mid now : List (SpanPart × ℕ)) (other part : SpanPart) (i : ℕ) → now ≡ with_entry same_part mid other → slice_get (keys_of mid) i ≡ Some part → slice_get (keys_of now) i ≡ Some part
place_later mid now other part i e at = ap (λ entries. slice_get (keys_of entries) i) e ∙ grows_with same_part part_eq.lawful.laws part_sound mid other i part at

-- ---- tokens

-- A token of one part and no symbol.
one_part : (tokens now : List InternedToken) (parts mid parts_now : List (SpanPart × ℕ)) (symbols : List (List ℕ × ℕ)) (held : List HeldToken) (part : SpanPart) (t : InternedToken) (h : HeldToken)
    → AreHeld tokens parts symbols held → length held < 4294967296 → IsUsed same_part parts mid parts_now part → now ≡ tokens ++ t ∷ []
    → counted_parts h ≡ part ∷ [] → counted_symbols h ≡ [] → Names (tables_of parts_now symbols) t h → AreHeld now parts_now symbols (held ++ h ∷ [])
one_part tokens now parts mid parts_now symbols held part t h is few used grown uses none named =
    let (grows, more) = part_used parts mid parts_now part used in
    subst (λ l. AreHeld l parts_now symbols (held ++ h ∷ [])) (sym grown)
    (held_pushed tokens parts parts_now symbols symbols held t h is few grows (subst (λ u. CountsMore same_part u parts parts_now) (sym uses) more) (λ i x at. at)
    (subst (λ u. CountsMore bytes_eq u symbols symbols) (sym none) (none_more bytes_eq symbols))
    (is.in_order ∙ ap (different bytes_eq) (sym (ap (λ u. symbols_in held ++ u) none ∙ append-nil (symbols_in held)))) named)

-- A punct.
pub punct_held : (tokens now : List InternedToken) (parts mid parts_now : List (SpanPart × ℕ)) (symbols : List (List ℕ × ℕ)) (held : List HeldToken) (it : Punct) (numbers : SpanNumbers)
    → AreHeld tokens parts symbols held → length held < 4294967296 → IsUsed same_part parts mid parts_now (part_of it.span) → IsPlaced mid numbers it.span → LeafInRange (leaf.Punct it)
    → now ≡ tokens ++ interned.Leaf (punct it.char it.spacing numbers) ∷ [] → AreHeld now parts_now symbols (held ++ whole (token.Leaf (leaf.Punct it)) ∷ [])
punct_held tokens now parts mid parts_now symbols held it numbers is few used placed range grown =
    one_part tokens now parts mid parts_now symbols held (part_of it.span) _ (whole (token.Leaf (leaf.Punct it))) is few used grown refl refl
    ((finds (tables_of parts_now symbols) mid numbers it.span placed (stays_at mid parts_now used.keys), refl, refl), range)

-- The header of an open subtree.
pub opened_held : (tokens now : List InternedToken) (parts mid parts_now : List (SpanPart × ℕ)) (symbols : List (List ℕ × ℕ)) (held : List HeldToken) (kind : DelimiterKind) (open_span : Span) (numbers : SpanNumbers)
    → AreHeld tokens parts symbols held → length held < 4294967296 → IsUsed same_part parts mid parts_now (part_of open_span) → IsPlaced mid numbers open_span
    → now ≡ tokens ++ interned.Open kind numbers ∷ [] → AreHeld now parts_now symbols (held ++ opened kind open_span ∷ [])
opened_held tokens now parts mid parts_now symbols held kind open_span numbers is few used placed grown =
    one_part tokens now parts mid parts_now symbols held (part_of open_span) _ (opened kind open_span) is few used grown refl refl
    (refl, finds (tables_of parts_now symbols) mid numbers open_span placed (stays_at mid parts_now used.keys), placed.range)

-- A token of one part and one symbol.
one_of_each : (tokens now : List InternedToken) (parts mid parts_now : List (SpanPart × ℕ)) (symbols symbols_mid symbols_now : List (List ℕ × ℕ)) (held : List HeldToken) (part : SpanPart) (symbol : List ℕ)
    (t : InternedToken) (h : HeldToken) → AreHeld tokens parts symbols held → length held < 4294967296 → IsUsed same_part parts mid parts_now part
    → IsUsed bytes_eq symbols symbols_mid symbols_now symbol → now ≡ tokens ++ t ∷ [] → counted_parts h ≡ part ∷ [] → counted_symbols h ≡ symbol ∷ []
    → Names (tables_of parts_now symbols_now) t h → AreHeld now parts_now symbols_now (held ++ h ∷ [])
one_of_each tokens now parts mid parts_now symbols symbols_mid symbols_now held part symbol t h is few used symbol_use grown uses symbol_uses named =
    let (grows, more) = part_used parts mid parts_now part used in
    let (symbol_grows, symbol_more) = symbol_used symbols symbols_mid symbols_now symbol symbol_use in
    subst (λ l. AreHeld l parts_now symbols_now (held ++ h ∷ [])) (sym grown)
    (held_pushed tokens parts parts_now symbols symbols_now held t h is few grows (subst (λ u. CountsMore same_part u parts parts_now) (sym uses) more) symbol_grows
    (subst (λ u. CountsMore bytes_eq u symbols symbols_now) (sym symbol_uses) symbol_more)
    (symbol_use.keys ∙ ap keys_of symbol_use.entry ∙ in_order_more bytes_eq symbol_eq.lawful.laws text_sound (symbols_in held) symbols symbol is.in_order
    ∙ ap (λ u. different bytes_eq (symbols_in held ++ u)) (sym symbol_uses)) named)

-- An ident.
pub ident_held : (tokens now : List InternedToken) (parts mid parts_now : List (SpanPart × ℕ)) (symbols symbols_mid symbols_now : List (List ℕ × ℕ)) (held : List HeldToken) (it : Ident) (numbers : SpanNumbers) (place : ℕ)
    → AreHeld tokens parts symbols held → length held < 4294967296 → IsUsed same_part parts mid parts_now (part_of it.span) → IsUsed bytes_eq symbols symbols_mid symbols_now it.sym
    → IsPlaced mid numbers it.span → slice_get (keys_of symbols_mid) place ≡ Some it.sym
    → now ≡ tokens ++ interned.Leaf (ident place it.is_raw numbers) ∷ [] → AreHeld now parts_now symbols_now (held ++ whole (token.Leaf (leaf.Ident it)) ∷ [])
ident_held tokens now parts mid parts_now symbols symbols_mid symbols_now held it numbers place is few used symbol_use placed there grown =
    one_of_each tokens now parts mid parts_now symbols symbols_mid symbols_now held (part_of it.span) it.sym _ (whole (token.Leaf (leaf.Ident it))) is few used symbol_use grown refl refl (
      (
        finds (tables_of parts_now symbols_now) mid numbers it.span placed (stays_at mid parts_now used.keys),
        stays_at symbols_mid symbols_now symbol_use.keys place it.sym there,
        refl,
      ),
      placed.range,
    )

-- A literal.
pub literal_held : (tokens now : List InternedToken) (parts mid parts_now : List (SpanPart × ℕ)) (symbols symbols_mid symbols_now : List (List ℕ × ℕ)) (held : List HeldToken) (it : Literal) (numbers : SpanNumbers) (place : ℕ)
    → AreHeld tokens parts symbols held → length held < 4294967296 → IsUsed same_part parts mid parts_now (part_of (span_of it)) → IsUsed bytes_eq symbols symbols_mid symbols_now (symbol_of it)
    → IsPlaced mid numbers (span_of it) → slice_get (keys_of symbols_mid) place ≡ Some (symbol_of it)
    → now ≡ tokens ++ interned.Leaf (literal place (kind_of it) (suffix_len_of it) numbers) ∷ [] → AreHeld now parts_now symbols_now (held ++ whole (token.Leaf (leaf.Literal it)) ∷ [])
literal_held tokens now parts mid parts_now symbols symbols_mid symbols_now held it numbers place is few used symbol_use placed there grown =
    one_of_each tokens now parts mid parts_now symbols symbols_mid symbols_now held (part_of (span_of it)) (symbol_of it) _ (whole (token.Leaf (leaf.Literal it))) is few used symbol_use grown refl refl (
      (
        finds (tables_of parts_now symbols_now) mid numbers (span_of it) placed (stays_at mid parts_now used.keys),
        stays_at symbols_mid symbols_now symbol_use.keys place (symbol_of it) there,
        refl,
        refl,
      ),
      placed.range,
    )

-- A header with its close span and its count.
pub header_held : (tokens now : List InternedToken) (parts first second third parts_now : List (SpanPart × ℕ)) (symbols : List (List ℕ × ℕ)) (held : List HeldToken) (it : Subtree) (entry : HeaderEntry)
    → AreHeld tokens parts symbols held → length held < 4294967296
    → first ≡ with_entry same_part parts (part_of it.delimiter.open_span) → IsPlaced first entry.opening it.delimiter.open_span
    → second ≡ with_entry same_part first (part_of it.delimiter.close) → IsPlaced second entry.closing it.delimiter.close
    → CountsMore same_part (part_of it.delimiter.open_span ∷ []) second third → keys_of third ≡ keys_of second
    → CountsMore same_part (part_of it.delimiter.close ∷ []) third parts_now → keys_of parts_now ≡ keys_of third
    → entry.kind ≡ it.delimiter.kind → entry.len ≡ it.len → now ≡ tokens ++ interned.Header entry ∷ []
    → AreHeld now parts_now symbols (held ++ whole (token.Subtree it) ∷ [])
header_held tokens now parts first second third parts_now symbols held it entry is few e₁ opening e₂ closing more₁ keys₁ more₂ keys₂ kind len grown =
    subst (λ l. AreHeld l parts_now symbols (held ++ whole (token.Subtree it) ∷ [])) (sym grown)
    (held_pushed tokens parts parts_now symbols symbols held _ (whole (token.Subtree it)) is few
    (λ i x at. from_second i x (from_first i x (ap (λ entries. slice_get (keys_of entries) i) e₁ ∙ grows_with same_part part_eq.lawful.laws part_sound parts o i x at)))
    counted (λ i x at. at) (none_more bytes_eq symbols)
    (is.in_order ∙ ap (different bytes_eq) (sym (append-nil (symbols_in held)))) (
      record {
        opening = finds (tables_of parts_now symbols) first entry.opening it.delimiter.open_span opening (λ i x at. from_second i x (from_first i x at));
        closing = finds (tables_of parts_now symbols) second entry.closing it.delimiter.close closing from_second;
        kind = kind;
        len = len;
      },
      (opening.range, closing.range),
    ))
  where
    o : SpanPart
    o = part_of it.delimiter.open_span

    c : SpanPart
    c = part_of it.delimiter.close

    from_first : (i : ℕ) (x : SpanPart) → slice_get (keys_of first) i ≡ Some x → slice_get (keys_of second) i ≡ Some x
    from_first i x at = ap (λ entries. slice_get (keys_of entries) i) e₂ ∙ grows_with same_part part_eq.lawful.laws part_sound first c i x at

    from_second : (i : ℕ) (x : SpanPart) → slice_get (keys_of second) i ≡ Some x → slice_get (keys_of parts_now) i ≡ Some x
    from_second i x at = ap (λ l. slice_get l i) (keys₂ ∙ keys₁) ∙ at

    counted : CountsMore same_part (o ∷ c ∷ []) parts parts_now
    counted x =
        omega (
          arith,
          more₁ x,
          more₂ x,
          ap (λ entries. number_in same_part entries x) e₂,
          number_with same_part part_eq.lawful.laws part_sound first c x,
          ap (λ entries. number_in same_part entries x) e₁,
          number_with same_part part_eq.lawful.laws part_sound parts o x,
          uses-cons same_part o (c ∷ []) x,
          uses-one same_part o x,
        )

-- An open header gets its close span and its count.
pub closed_held : (tokens now : List InternedToken) (parts mid parts_now : List (SpanPart × ℕ)) (symbols : List (List ℕ × ℕ)) (held : List HeldToken) (place : ℕ) (kind : DelimiterKind) (open_span close_span : Span)
    (len : ℕ) (entry : HeaderEntry) → AreHeld tokens parts symbols held → slice_get held place ≡ Some (opened kind open_span)
    → IsUsed same_part parts mid parts_now (part_of close_span) → IsPlaced mid entry.closing close_span
    → Names (tables_of parts symbols) (interned.Open entry.kind entry.opening) (opened kind open_span) → entry.len ≡ len → now ≡ set tokens place (interned.Header entry)
    → AreHeld now parts_now symbols (set held place (whole (header (delimiter kind open_span close_span) len)))
closed_held tokens now parts mid parts_now symbols held place kind open_span close_span len entry is at used closing named count changed =
    let (grows, more) = part_used parts mid parts_now (part_of close_span) used in
    subst (λ l. AreHeld l parts_now symbols (set held place (whole (header (delimiter kind open_span close_span) len)))) (sym changed)
    (held_set tokens parts parts_now symbols held place (interned.Header entry) (opened kind open_span) (whole (header (delimiter kind open_span close_span) len)) (part_of close_span ∷ [])
    is at grows more (λ x. omega (arith, uses-cons same_part (part_of open_span) (part_of close_span ∷ []) x, uses-one same_part (part_of open_span) x)) refl (
      record {
        opening = record { part = grows entry.opening.part (part_of open_span) named.1.part; start = named.1.start; length = named.1.length };
        closing = finds (tables_of parts_now symbols) mid entry.closing close_span closing (stays_at mid parts_now used.keys);
        kind = named.0;
        len = count;
      },
      (named.2, closing.range),
    ))

-- ---- the last token

-- A token that becomes alone means its old token, alone.
pub alone_named : (tables : Tables) (t : InternedToken) (it : TokenTree) → Names tables t (whole it) → Names tables (interned_alone t) (whole (token_alone it))
alone_named tables (interned.Leaf (punct char spacing numbers)) (token.Leaf (leaf.Punct it)) named = ((named.0.0, named.0.1, refl), named.1)
alone_named tables (interned.Leaf (punct char spacing numbers)) (token.Leaf (leaf.Ident it)) named = absurd named.0
alone_named tables (interned.Leaf (punct char spacing numbers)) (token.Leaf (leaf.Literal it)) named = absurd named.0
alone_named tables (interned.Leaf (ident symbol raw numbers)) (token.Leaf (leaf.Ident it)) named = named
alone_named tables (interned.Leaf (ident symbol raw numbers)) (token.Leaf (leaf.Punct it)) named = absurd named.0
alone_named tables (interned.Leaf (ident symbol raw numbers)) (token.Leaf (leaf.Literal it)) named = absurd named.0
alone_named tables (interned.Leaf (literal symbol kind suffix_len numbers)) (token.Leaf (leaf.Literal it)) named = named
alone_named tables (interned.Leaf (literal symbol kind suffix_len numbers)) (token.Leaf (leaf.Punct it)) named = absurd named.0
alone_named tables (interned.Leaf (literal symbol kind suffix_len numbers)) (token.Leaf (leaf.Ident it)) named = absurd named.0
alone_named tables (interned.Leaf entry) (token.Subtree it) named = absurd named
alone_named tables (interned.Open kind numbers) it named = absurd named
alone_named tables (interned.Header entry) (token.Leaf it) named = absurd named
alone_named tables (interned.Header entry) (token.Subtree it) named = named

-- An open header stays open.
alone_open : (tables : Tables) (t : InternedToken) (kind : DelimiterKind) (open_span : Span) → Names tables t (opened kind open_span) → Names tables (interned_alone t) (opened kind open_span)
alone_open tables (interned.Leaf (punct char spacing numbers)) kind open_span named = absurd named
alone_open tables (interned.Leaf (ident symbol raw numbers)) kind open_span named = absurd named
alone_open tables (interned.Leaf (literal symbol k suffix_len numbers)) kind open_span named = absurd named
alone_open tables (interned.Open k numbers) kind open_span named = named
alone_open tables (interned.Header entry) kind open_span named = absurd named

-- the token, alone if it is a punct; an open header stays
abbrev pub held_alone : HeldToken → HeldToken
held_alone (whole it) = whole (token_alone it)
held_alone (opened kind open_span) = opened kind open_span

alone_parts : (h : HeldToken) → counted_parts (held_alone h) ≡ counted_parts h
alone_parts (whole (token.Leaf (leaf.Punct it))) = refl
alone_parts (whole (token.Leaf (leaf.Ident it))) = refl
alone_parts (whole (token.Leaf (leaf.Literal it))) = refl
alone_parts (whole (token.Subtree it)) = refl
alone_parts (opened kind open_span) = refl

alone_symbols : (h : HeldToken) → counted_symbols (held_alone h) ≡ counted_symbols h
alone_symbols (whole (token.Leaf (leaf.Punct it))) = refl
alone_symbols (whole (token.Leaf (leaf.Ident it))) = refl
alone_symbols (whole (token.Leaf (leaf.Literal it))) = refl
alone_symbols (whole (token.Subtree it)) = refl
alone_symbols (opened kind open_span) = refl

named_alone : (tables : Tables) (t : InternedToken) (h : HeldToken) → Names tables t h → Names tables (interned_alone t) (held_alone h)
named_alone tables t (whole it) named = alone_named tables t it named
named_alone tables t (opened kind open_span) named = alone_open tables t kind open_span named

-- A token at a place becomes alone, if it is a punct.
pub alone_held : (tokens now : List InternedToken) (parts : List (SpanPart × ℕ)) (symbols : List (List ℕ × ℕ)) (held : List HeldToken) (place : ℕ) (t : InternedToken)
    → AreHeld tokens parts symbols held → slice_get tokens place ≡ Some t → now ≡ set tokens place (interned_alone t)
    → (h : HeldToken) × (slice_get held place ≡ Some h) × AreHeld now parts symbols (set held place (held_alone h))
alone_held tokens now parts symbols held place t is at changed =
    let (h, here, named) = held_at tokens parts symbols held place t is at in (
      h,
      here,
      subst (λ l. AreHeld l parts symbols (set held place (held_alone h))) (sym changed)
          (held_set tokens parts parts symbols held place (interned_alone t) h (held_alone h) [] is here (λ i x at. at) (none_more same_part parts)
          (λ x. omega (arith, ap (λ u. uses_of same_part u x) (alone_parts h), none x)) (alone_symbols h) (named_alone (tables_of parts symbols) t h named)),
    )
  where
    none : (x : SpanPart) → uses_of same_part [] x ≡ 0
    none x = refl

-- Nothing changes if no whole token is at the place.
pub none_alone : (held : List HeldToken) (place : ℕ) (h : HeldToken) → slice_get held place ≡ Some h → NoWholeAt held place → set held place (held_alone h) ≡ held
none_alone held place (whole it) at none = absurd (none it at)
none_alone held place (opened kind open_span) at none =
    ap (set held place) (sym (get_or_from_slice_get held place (opened kind open_span) (opened kind open_span) at)) ∙ set-get_or held place (opened kind open_span)
