-- The list that interned tokens mean, with one more token.
use Rattle.std.proofs.Common.{◌≡◌, ℕ, bytes_eq, List, [], ◌∷◌, ◌++◌, Some, length, map, slice_get, append_assoc, append-nil, refl, ap, sym, subst, ◌∙◌}
use Rattle.std.proofs.lemmas.List.{map-append}
use Rattle.std.specs.Char.{IsScalar}
use Rattle.std.specs.List.{IsDistinct}
use Rattle.tt_base.specs.declared.delimiter.Subtree.{Subtree}
use Rattle.tt_base.specs.declared.ident.Ident.{Ident}
use Rattle.tt_base.specs.declared.ident.IdentIsRaw.{IdentIsRaw}
use Rattle.tt_base.specs.declared.leaf.Leaf.TheVariants as leaf
use Rattle.tt_base.specs.declared.literal.LitKind.{LitKind}
use Rattle.tt_base.specs.declared.literal.Literal.{Literal}
use Rattle.tt_base.specs.declared.punct.Punct.{Punct}
use Rattle.tt_base.specs.declared.punct.Spacing.{Spacing}
use Rattle.tt_base.specs.declared.span.SpanPart.{SpanPart}
use Rattle.tt_base.specs.declared.token_tree.TokenTree.{TokenTree}
use Rattle.tt_base.specs.declared.token_tree.TokenTree.TheVariants as token
use Rattle.tt_base.specs.Literal.{CutsText}
use Rattle.tt_base.specs.Span.{part_of}
use Rattle.tt_bytes.specs.declared.uses.SymbolUses.{SymbolUses}
use Rattle.tt_bytes.specs.Uses.{ArePlaced, AreUsed, UsesSpan, HaveUses, UsesSymbol, Stay}
use Rattle.tt_codec.specs.declared.entry.HeaderEntry.{HeaderEntry}
use Rattle.tt_codec.specs.declared.entry.LeafEntry.TheVariants.{Punct as punct, Ident as ident, Literal as literal}
use Rattle.tt_codec.specs.declared.span.SpanNumbers.{SpanNumbers}
use Rattle.tt_tables.specs.Counted.{AreOf, IsListOf}
use Rattle.tt_tables.specs.declared.token.InternedToken.{InternedToken}
use Rattle.tt_tables.specs.declared.token.InternedToken.TheVariants as interned
use Rattle.tt_tables.specs.Held.{whole}
use Rattle.tt_tables.specs.Names.{Names, AllName}
use Rattle.tt_tables.proofs.PlacesKept.{all_stay, keep_all, named-push}
use Rattle.tt_tables.proofs.Using.{uses_pushed}
use Rattle.tt_tables.specs.TableOrder.{different, uses_of}
use Rattle.tt_tables.specs.Tables.{tables_from}
use Rattle.tt_tables.specs.Uses.{same_part, token_parts, token_symbols, part_uses, symbol_uses}

-- There is only one value at a place.
one_there : {X : Type 0} (xs : List X) (i : ℕ) (x y : X) → slice_get xs i ≡ Some x → slice_get xs i ≡ Some y → x ≡ y
one_there xs i x y a b =
    let both : Some x ≡ Some y = sym a ∙ b in
    cc both

-- A token that uses these parts and symbols comes last.
taken : (tokens more : List InternedToken) (parts : List SpanPart) (counts counts_now : List ℕ) (order order_now : List (List ℕ)) (numbers numbers_now : List ℕ) (list : List TokenTree)
    (t : InternedToken) (it : TokenTree) → AreOf tokens parts counts order numbers list → more ≡ tokens ++ t ∷ [] → AreUsed parts counts_now (part_uses list ++ token_parts it)
    → order_now ≡ different bytes_eq (symbol_uses list ++ token_symbols it) → numbers_now ≡ map (uses_of bytes_eq (symbol_uses list ++ token_symbols it)) order_now
    → Stay order order_now → Names (tables_from parts order_now) t (whole it) → IsListOf more parts counts_now order_now numbers_now
taken tokens more parts counts counts_now order order_now numbers numbers_now list t it are grown used in_order counted stay named = (
  list ++ it ∷ [],
  record {
    named = subst (λ l. AllName (tables_from parts order_now) l (map whole (list ++ it ∷ []))) (sym grown)
        (subst (λ l. AllName (tables_from parts order_now) (tokens ++ t ∷ []) l) (sym (map-append whole list (it ∷ [])))
        (named-push (tables_from parts order_now) tokens (map whole list) t (whole it)
        (all_stay (tables_from parts order) (tables_from parts order_now) tokens (map whole list) (keep_all (tables_from parts order) (tables_from parts order_now) (λ i x at. at) stay (map whole list)) are.named) named));
    distinct = are.distinct;
    parts_counted = used.counted ∙ ap (λ u. map (uses_of same_part u) parts) (sym (uses_pushed token_parts list it));
    in_order = in_order ∙ ap (different bytes_eq) (sym (uses_pushed token_symbols list it));
    symbols_counted = counted ∙ ap (λ u. map (uses_of bytes_eq u) order_now) (sym (uses_pushed token_symbols list it));
  },
)

-- A token without a symbol leaves the symbols as they are.
taken_plain : (tokens more : List InternedToken) (parts : List SpanPart) (counts counts_now : List ℕ) (order : List (List ℕ)) (numbers : List ℕ) (list : List TokenTree)
    (t : InternedToken) (it : TokenTree) → AreOf tokens parts counts order numbers list → more ≡ tokens ++ t ∷ [] → AreUsed parts counts_now (part_uses list ++ token_parts it)
    → token_symbols it ≡ [] → Names (tables_from parts order) t (whole it) → IsListOf more parts counts_now order numbers
taken_plain tokens more parts counts counts_now order numbers list t it are grown used none named =
    taken tokens more parts counts counts_now order order numbers numbers list t it are grown used (are.in_order ∙ ap (different bytes_eq) same)
    (are.symbols_counted ∙ ap (λ u. map (uses_of bytes_eq u) order) same) (λ i x at. at) named
  where
    same : symbol_uses list ≡ symbol_uses list ++ token_symbols it
    same = sym (ap (λ l. symbol_uses list ++ l) none ∙ append-nil (symbol_uses list))

-- The uses of parts.
pub parts_used : (tokens : List InternedToken) (parts : List SpanPart) (counts : List ℕ) (order : List (List ℕ)) (numbers : List ℕ) (list : List TokenTree)
    → AreOf tokens parts counts order numbers list → AreUsed parts counts (part_uses list)
parts_used tokens parts counts order numbers list are = record { distinct = are.distinct; counted = are.parts_counted }

-- A punct.
pub taken_punct : (tokens more : List InternedToken) (parts : List SpanPart) (counts counts_now : List ℕ) (order : List (List ℕ)) (numbers : List ℕ) (char : ℕ) (spacing : Spacing) (span : SpanNumbers)
    → IsListOf tokens parts counts order numbers → ((before : List SpanPart) → AreUsed parts counts before → UsesSpan parts span counts_now before) → IsScalar char
    → more ≡ tokens ++ interned.Leaf (punct char spacing span) ∷ [] → IsListOf more parts counts_now order numbers
taken_punct tokens more parts counts counts_now order numbers char spacing span (list, are) uses scalar grown =
    let part = uses (part_uses list) (parts_used tokens parts counts order numbers list are) in
    let it : Punct = record { char = char; spacing = spacing; span = part.span } in
    taken_plain tokens more parts counts counts_now order numbers list _ (token.Leaf (leaf.Punct it)) are grown part.used refl ((part.found order, refl, refl), (part.range, scalar))

-- A header.
pub taken_header : (tokens more : List InternedToken) (parts : List SpanPart) (counts counts_mid counts_now : List ℕ) (order : List (List ℕ)) (numbers : List ℕ) (entry : HeaderEntry)
    → IsListOf tokens parts counts order numbers → ((before : List SpanPart) → AreUsed parts counts before → UsesSpan parts entry.opening counts_mid before)
    → ((before : List SpanPart) → AreUsed parts counts_mid before → UsesSpan parts entry.closing counts_now before)
    → more ≡ tokens ++ interned.Header entry ∷ [] → IsListOf more parts counts_now order numbers
taken_header tokens more parts counts counts_mid counts_now order numbers entry (list, are) opens closes grown =
    let opening = opens (part_uses list) (parts_used tokens parts counts order numbers list are) in
    let closing = closes (part_uses list ++ part_of opening.span ∷ []) opening.used in
    let it : Subtree = record { delimiter = record { open_span = opening.span; close = closing.span; kind = entry.kind }; len = entry.len } in
    let used = subst (AreUsed parts counts_now) (append_assoc (part_uses list) (part_of opening.span ∷ []) (part_of closing.span ∷ [])) closing.used in
    taken_plain tokens more parts counts counts_now order numbers list _ (token.Subtree it) are grown used refl
    (record { opening = opening.found order; closing = closing.found order; kind = refl; len = refl }, (opening.range, closing.range))

-- The uses of symbols.
symbols_used : (table : List (List ℕ)) (old : SymbolUses) (tokens : List InternedToken) (parts : List SpanPart) (counts : List ℕ) (list : List TokenTree) → IsDistinct bytes_eq table → length old.places.items ≡ length table
    → ArePlaced table old.places.items old.order.items → AreOf tokens parts counts old.order.items old.numbers.items list → HaveUses table old (symbol_uses list)
symbols_used table old tokens parts counts list distinct long placed are = record { distinct = distinct; long = long; placed = placed; in_order = are.in_order; counted = are.symbols_counted }

-- the tokens mean a list now, and each used symbol is at its place
abbrev pub IsTaken : (more : List InternedToken) (parts : List SpanPart) (counts : List ℕ) (table : List (List ℕ)) (new : SymbolUses) → Type 0
IsTaken more parts counts table new =
    IsListOf more parts counts new.order.items new.numbers.items × (length new.places.items ≡ length table) × ArePlaced table new.places.items new.order.items

-- An ident.
pub taken_ident : (tokens more : List InternedToken) (parts : List SpanPart) (counts counts_now : List ℕ) (table : List (List ℕ)) (old new : SymbolUses) (symbol place : ℕ) (raw : IdentIsRaw) (span : SpanNumbers)
    → IsDistinct bytes_eq table → length old.places.items ≡ length table → ArePlaced table old.places.items old.order.items → IsListOf tokens parts counts old.order.items old.numbers.items
    → ((before : List SpanPart) → AreUsed parts counts before → UsesSpan parts span counts_now before)
    → ((before : List (List ℕ)) → HaveUses table old before → UsesSymbol table symbol place old new before)
    → more ≡ tokens ++ interned.Leaf (ident place raw span) ∷ [] → IsTaken more parts counts_now table new
taken_ident tokens more parts counts counts_now table old new symbol place raw span distinct long placed (list, are) uses names grown =
    let part = uses (part_uses list) (parts_used tokens parts counts old.order.items old.numbers.items list are) in
    let one = names (symbol_uses list) (symbols_used table old tokens parts counts list distinct long placed are) in
    let it : Ident = record { sym = one.text; span = part.span; is_raw = raw } in (
      taken tokens more parts counts counts_now old.order.items new.order.items old.numbers.items new.numbers.items list _ (token.Leaf (leaf.Ident it)) are grown part.used
          one.used.in_order one.used.counted one.stay ((part.found new.order.items, one.stands, refl), part.range),
      one.used.long,
      one.used.placed,
    )

-- A literal.
pub taken_literal : (tokens more : List InternedToken) (parts : List SpanPart) (counts counts_now : List ℕ) (table : List (List ℕ)) (old new : SymbolUses) (symbol place : ℕ) (kind : LitKind) (suffix_len : ℕ) (span : SpanNumbers)
    → ((text : List ℕ) → slice_get table symbol ≡ Some text → CutsText text suffix_len)
    → IsDistinct bytes_eq table → length old.places.items ≡ length table → ArePlaced table old.places.items old.order.items → IsListOf tokens parts counts old.order.items old.numbers.items
    → ((before : List SpanPart) → AreUsed parts counts before → UsesSpan parts span counts_now before)
    → ((before : List (List ℕ)) → HaveUses table old before → UsesSymbol table symbol place old new before)
    → more ≡ tokens ++ interned.Leaf (literal place kind suffix_len span) ∷ [] → IsTaken more parts counts_now table new
taken_literal tokens more parts counts counts_now table old new symbol place kind suffix_len span cuts distinct long placed (list, are) uses names grown =
    let part = uses (part_uses list) (parts_used tokens parts counts old.order.items old.numbers.items list are) in
    let one = names (symbol_uses list) (symbols_used table old tokens parts counts list distinct long placed are) in
    let cut = cuts one.text one.there in
    let it : Literal = record { symbol = one.text; span = part.span; kind = kind; suffix_len = suffix_len; fits = cut.0; cuts = cut.1 } in (
      taken tokens more parts counts counts_now old.order.items new.order.items old.numbers.items new.numbers.items list _ (token.Leaf (leaf.Literal it)) are grown part.used
          one.used.in_order one.used.counted one.stay ((part.found new.order.items, one.stands, refl, refl), part.range),
      one.used.long,
      one.used.placed,
    )

-- No token is taken.
pub none_taken : (tokens : List InternedToken) (parts : List SpanPart) (counts : List ℕ) (table : List (List ℕ)) (it : SymbolUses) → tokens ≡ [] → AreUsed parts counts [] → HaveUses table it []
    → IsListOf tokens parts counts it.order.items it.numbers.items
none_taken tokens parts counts table it none used have = (
  [],
  record {
    named = subst (λ l. AllName (tables_from parts it.order.items) l []) (sym none) tt;
    distinct = used.distinct;
    parts_counted = used.counted;
    in_order = have.in_order;
    symbols_counted = have.counted;
  },
)
