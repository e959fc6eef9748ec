-- Tokens keep their meaning if the values that they name keep their places.
use Rattle.std.proofs.Common.{◌≡◌, ℕ, zero, suc, List, [], ◌∷◌, ◌++◌, inl, inr, Some, length, take, set, slice_get, refl, subst, arith}
use Rattle.tt_base.specs.declared.leaf.Leaf.{Leaf}
use Rattle.tt_base.specs.declared.leaf.Leaf.TheVariants as leaf
use Rattle.tt_base.specs.declared.span.Span.{Span}
use Rattle.tt_base.specs.declared.span.SpanPart.{SpanPart}
use Rattle.tt_base.specs.declared.token_tree.TokenTree.TheVariants as token
use Rattle.tt_base.specs.Literal.{span_of, symbol_of}
use Rattle.tt_base.specs.Span.{part_of}
use Rattle.tt_base.specs.Token.{leaf_span}
use Rattle.tt_codec.specs.declared.entry.LeafEntry.{LeafEntry}
use Rattle.tt_codec.specs.declared.entry.LeafEntry.TheVariants.{Punct as punct, Ident as ident, Literal as literal}
use Rattle.tt_codec.specs.declared.span.SpanNumbers.{SpanNumbers}
use Rattle.tt_tables.specs.declared.token.InternedToken.{InternedToken}
use Rattle.tt_tables.specs.declared.token.InternedToken.TheVariants as interned
use Rattle.tt_tables.specs.Held.{HeldToken, whole, opened, counted_parts, counted_symbols}
use Rattle.tt_tables.specs.Names.{Names, AllName}
use Rattle.tt_tables.proofs.Members.{Member}
use Rattle.tt_tables.specs.Searches.{FindsSpan, FindsLeaf}
use Rattle.tt_tables.specs.Tables.{Tables}
use Rattle.tt_tables.specs.Uses.{leaf_symbols, token_parts}

-- these values keep their places
abbrev pub Keep : {X : Type 0} → (old now used : List X) → Type 0
Keep {X} old now used = (i : ℕ) (x : X) → Member x used → slice_get old i ≡ Some x → slice_get now i ≡ Some x

-- A list that grows at its end keeps all its values at their places.
pub keeps_front : {X : Type 0} (old more : List X) (i : ℕ) (x : X) → slice_get old i ≡ Some x → slice_get (old ++ more) i ≡ Some x
keeps_front [] more i x at = absurd (cc at)
keeps_front (y ∷ old) more zero x at = at
keeps_front (y ∷ old) more (suc i) x at = keeps_front old more i x at

span_stays : (tables now : Tables) (numbers : SpanNumbers) (span : Span) (used : List SpanPart) → Member (part_of span) used → Keep tables.parts now.parts used
    → FindsSpan tables numbers span → FindsSpan now numbers span
span_stays tables now numbers span used member keep found =
    record { part = keep numbers.part (part_of span) member found.part; start = found.start; length = found.length }

-- A leaf whose values keep their places keeps its meaning.
pub leaf_stays : (tables now : Tables) (entry : LeafEntry) (it : Leaf) → Keep tables.parts now.parts (part_of (leaf_span it) ∷ []) → Keep tables.symbols now.symbols (leaf_symbols it)
    → FindsLeaf tables entry it → FindsLeaf now entry it
leaf_stays tables now (punct char spacing numbers) (leaf.Punct it) parts symbols found =
    (span_stays tables now numbers it.span (part_of it.span ∷ []) (inl refl) parts found.0, found.1, found.2)
leaf_stays tables now (ident symbol raw numbers) (leaf.Ident it) parts symbols found =
    (span_stays tables now numbers it.span (part_of it.span ∷ []) (inl refl) parts found.0, symbols symbol it.sym (inl refl) found.1, found.2)
leaf_stays tables now (literal symbol kind suffix_len numbers) (leaf.Literal it) parts symbols found =
    (span_stays tables now numbers (span_of it) (part_of (span_of it) ∷ []) (inl refl) parts found.0, symbols symbol (symbol_of it) (inl refl) found.1, found.2, found.3)
leaf_stays tables now (punct char spacing numbers) (leaf.Ident it) parts symbols found = absurd found
leaf_stays tables now (punct char spacing numbers) (leaf.Literal it) parts symbols found = absurd found
leaf_stays tables now (ident symbol raw numbers) (leaf.Punct it) parts symbols found = absurd found
leaf_stays tables now (ident symbol raw numbers) (leaf.Literal it) parts symbols found = absurd found
leaf_stays tables now (literal symbol kind suffix_len numbers) (leaf.Punct it) parts symbols found = absurd found
leaf_stays tables now (literal symbol kind suffix_len numbers) (leaf.Ident it) parts symbols found = absurd found

-- A token whose values keep their places keeps its meaning.
pub name_stays : (tables now : Tables) (it : InternedToken) (held : HeldToken) → Keep tables.parts now.parts (counted_parts held) → Keep tables.symbols now.symbols (counted_symbols held)
    → Names tables it held → Names now it held
name_stays tables now (interned.Leaf entry) (whole (token.Leaf it)) parts symbols named = (leaf_stays tables now entry it parts symbols named.0, named.1)
name_stays tables now (interned.Leaf entry) (whole (token.Subtree it)) parts symbols named = absurd named
name_stays tables now (interned.Leaf entry) (opened kind open_span) parts symbols named = absurd named
name_stays tables now (interned.Open kind numbers) (whole it) parts symbols named = absurd named
name_stays tables now (interned.Open kind numbers) (opened other open_span) parts symbols named =
    (named.0, span_stays tables now numbers open_span (part_of open_span ∷ []) (inl refl) parts named.1, named.2)
name_stays tables now (interned.Header entry) (whole (token.Leaf it)) parts symbols named = absurd named
name_stays tables now (interned.Header entry) (whole (token.Subtree it)) parts symbols named = (
  record {
    opening = span_stays tables now entry.opening it.delimiter.open_span (token_parts (token.Subtree it)) (inl refl) parts named.0.opening;
    closing = span_stays tables now entry.closing it.delimiter.close (token_parts (token.Subtree it)) (inr (inl refl)) parts named.0.closing;
    kind = named.0.kind;
    len = named.0.len;
  },
  named.1,
)
name_stays tables now (interned.Header entry) (opened kind open_span) parts symbols named = absurd named

-- ---- lists

-- the values of all tokens keep their places
abbrev pub KeepAll : (tables now : Tables) → List HeldToken → Type 0
KeepAll tables now [] = Unit {0}
KeepAll tables now (h ∷ held) = Keep tables.parts now.parts (counted_parts h) × Keep tables.symbols now.symbols (counted_symbols h) × KeepAll tables now held

pub all_stay : (tables now : Tables) (tokens : List InternedToken) (held : List HeldToken) → KeepAll tables now held → AllName tables tokens held → AllName now tokens held
all_stay tables now [] [] keep named = tt
all_stay tables now [] (h ∷ held) keep named = absurd named
all_stay tables now (t ∷ tokens) [] keep named = absurd named
all_stay tables now (t ∷ tokens) (h ∷ held) keep named = (name_stays tables now t h keep.0 keep.1 named.0, all_stay tables now tokens held keep.2 named.1)

-- If all values keep their places, the values of these tokens do.
pub keep_all : (tables now : Tables) → ((i : ℕ) (x : SpanPart) → slice_get tables.parts i ≡ Some x → slice_get now.parts i ≡ Some x)
    → ((i : ℕ) (x : List ℕ) → slice_get tables.symbols i ≡ Some x → slice_get now.symbols i ≡ Some x) → (held : List HeldToken) → KeepAll tables now held
keep_all tables now parts symbols [] = tt
keep_all tables now parts symbols (h ∷ held) = (λ i x member at. parts i x at, λ i x member at. symbols i x at, keep_all tables now parts symbols held)

-- There are as many tokens as tokens held.
pub length-named : (tables : Tables) (tokens : List InternedToken) (held : List HeldToken) → AllName tables tokens held → length tokens ≡ length held
length-named tables [] [] named = refl
length-named tables [] (h ∷ held) named = absurd named
length-named tables (t ∷ tokens) [] named = absurd named
length-named tables (t ∷ tokens) (h ∷ held) named = omega (arith, length-named tables tokens held named.1)

-- The same with one more token.
pub named-push : (tables : Tables) (tokens : List InternedToken) (held : List HeldToken) (t : InternedToken) (h : HeldToken) → AllName tables tokens held → Names tables t h
    → AllName tables (tokens ++ t ∷ []) (held ++ h ∷ [])
named-push tables [] [] t h named one = (one, tt)
named-push tables [] (g ∷ held) t h named one = absurd named
named-push tables (s ∷ tokens) [] t h named one = absurd named
named-push tables (s ∷ tokens) (g ∷ held) t h named one = (named.0, named-push tables tokens held t h named.1 one)

-- The same with another token at a place.
pub named-set : (tables : Tables) (tokens : List InternedToken) (held : List HeldToken) (i : ℕ) (t : InternedToken) (h : HeldToken) → AllName tables tokens held → Names tables t h
    → AllName tables (set tokens i t) (set held i h)
named-set tables [] [] i t h named one = named
named-set tables [] (g ∷ held) i t h named one = absurd named
named-set tables (s ∷ tokens) [] i t h named one = absurd named
named-set tables (s ∷ tokens) (g ∷ held) zero t h named one = (one, named.1)
named-set tables (s ∷ tokens) (g ∷ held) (suc i) t h named one = (named.0, named-set tables tokens held i t h named.1 one)

-- The same for the first n tokens.
pub named-take : (tables : Tables) (tokens : List InternedToken) (held : List HeldToken) (n : ℕ) → AllName tables tokens held → AllName tables (take n tokens) (take n held)
named-take tables tokens held zero named = tt
named-take tables [] [] (suc n) named = tt
named-take tables [] (h ∷ held) (suc n) named = absurd named
named-take tables (t ∷ tokens) [] (suc n) named = absurd named
named-take tables (t ∷ tokens) (h ∷ held) (suc n) named = (named.0, named-take tables tokens held n named.1)

-- The token at a place means the one held there.
pub named_at : (tables : Tables) (tokens : List InternedToken) (held : List HeldToken) (i : ℕ) (t : InternedToken) → AllName tables tokens held → slice_get tokens i ≡ Some t
    → (h : HeldToken) × (slice_get held i ≡ Some h) × Names tables t h
named_at tables [] held i t named at = absurd (cc at)
named_at tables (s ∷ tokens) [] i t named at = absurd named
named_at tables (s ∷ tokens) (h ∷ held) zero t named at =
    let is : s ≡ t = cc at in
    (h, refl, subst (λ x. Names tables x h) is named.0)
named_at tables (s ∷ tokens) (h ∷ held) (suc i) t named at = named_at tables tokens held i t named.1 at
