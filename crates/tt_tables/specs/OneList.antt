-- Interned tokens mean at most one list.
use Rattle.std.proofs.Common.{◌≡◌, ℕ, List, [], ◌∷◌, map, Option, Some, slice_get, refl, ap, ap₂, sym, ◌∙◌}
use Rattle.std.proofs.Props.{props}
use Rattle.std.proofs.lemmas.Map.Keys.{IsDistinct-prop}
use Rattle.std.specs.Coded.{Coded-set, coded_list, coded_ℕ, le_prop, ×_prop}
use mathlib.Core.HLevel.{Σ_prop_path}
use Rattle.tt_base.specs.declared.delimiter.Subtree.{Subtree}
use Rattle.tt_base.specs.declared.leaf.Leaf.{Leaf}
use Rattle.tt_base.specs.declared.leaf.Leaf.TheVariants as leaf
use Rattle.tt_base.specs.declared.span.Span.{Span}
use Rattle.tt_base.specs.declared.span.SpanPart.{SpanPart}
use Rattle.tt_base.specs.declared.token_tree.TokenTree.{TokenTree}
use Rattle.tt_base.specs.declared.token_tree.TokenTree.TheVariants as token
use Rattle.tt_base.specs.Fits.{LeafInRange}
use Rattle.tt_codec.specs.declared.entry.HeaderEntry.{HeaderEntry}
use Rattle.tt_codec.specs.declared.entry.LeafEntry.{LeafEntry}
use Rattle.tt_codec.specs.declared.entry.LeafEntry.TheVariants.{Punct as punct, Ident as ident, Literal as literal}
use Rattle.tt_codec.specs.declared.span.SpanNumbers.{SpanNumbers}
use Rattle.tt_tables.specs.declared.token.InternedToken.{InternedToken}
use Rattle.tt_tables.specs.declared.token.InternedToken.TheVariants as interned
use Rattle.tt_tables.specs.Counted.{AreOf, IsListOf}
use Rattle.tt_tables.specs.Held.{HeldToken, whole, opened}
use Rattle.tt_tables.specs.Interned.{AreHeld, HasHeld, tables_of}
use Rattle.tt_tables.specs.Names.{Names, AllName}
use Rattle.tt_tables.specs.Searches.{FindsSpan, FindsLeaf, FindsSubtree}
use Rattle.tt_tables.specs.Tables.{Tables, tables_from}
use Rattle.tt_tables.specs.Uses.{same_part}
use Rattle.tt_tables.specs.OneToken.{literal_is, span_from}

-- ---- each name is a proposition

finds_span-prop : (tables : Tables) (numbers : SpanNumbers) (span : Span) → IsProp (FindsSpan tables numbers span)
finds_span-prop tables numbers span = hlevel props

finds_leaf-prop : (tables : Tables) (entry : LeafEntry) (it : Leaf) → IsProp (FindsLeaf tables entry it)
finds_leaf-prop tables (punct char spacing numbers) (leaf.Punct it) = hlevel props
finds_leaf-prop tables (punct char spacing numbers) (leaf.Ident it) = λ x y. absurd x
finds_leaf-prop tables (punct char spacing numbers) (leaf.Literal it) = λ x y. absurd x
finds_leaf-prop tables (ident symbol raw numbers) (leaf.Punct it) = λ x y. absurd x
finds_leaf-prop tables (ident symbol raw numbers) (leaf.Ident it) = hlevel props
finds_leaf-prop tables (ident symbol raw numbers) (leaf.Literal it) = λ x y. absurd x
finds_leaf-prop tables (literal symbol kind suffix_len numbers) (leaf.Punct it) = λ x y. absurd x
finds_leaf-prop tables (literal symbol kind suffix_len numbers) (leaf.Ident it) = λ x y. absurd x
finds_leaf-prop tables (literal symbol kind suffix_len numbers) (leaf.Literal it) = hlevel props

leaf_range-prop : (it : Leaf) → IsProp (LeafInRange it)
leaf_range-prop (leaf.Literal it) = hlevel props
leaf_range-prop (leaf.Punct it) = hlevel props
leaf_range-prop (leaf.Ident it) = hlevel props

finds_subtree-prop : (tables : Tables) (entry : HeaderEntry) (it : Subtree) → IsProp (FindsSubtree tables entry it)
finds_subtree-prop tables entry it = hlevel props

pub names-prop : (tables : Tables) (it : InternedToken) (held : HeldToken) → IsProp (Names tables it held)
names-prop tables (interned.Leaf entry) (whole (token.Leaf it)) = ×_prop (finds_leaf-prop tables entry it) (leaf_range-prop it)
names-prop tables (interned.Leaf entry) (whole (token.Subtree it)) = λ x y. absurd x
names-prop tables (interned.Leaf entry) (opened kind open_span) = λ x y. absurd x
names-prop tables (interned.Open kind numbers) (whole it) = λ x y. absurd x
names-prop tables (interned.Open kind numbers) (opened other open_span) = hlevel props
names-prop tables (interned.Header entry) (whole (token.Leaf it)) = λ x y. absurd x
names-prop tables (interned.Header entry) (whole (token.Subtree it)) = hlevel props
names-prop tables (interned.Header entry) (opened kind open_span) = λ x y. absurd x

-- All names together are a proposition.
pub all_name-prop : (tables : Tables) (tokens : List InternedToken) (held : List HeldToken) → IsProp (AllName tables tokens held)
all_name-prop tables [] [] = λ x y. refl
all_name-prop tables [] (h ∷ held) = λ x y. absurd x
all_name-prop tables (t ∷ tokens) [] = λ x y. absurd x
all_name-prop tables (t ∷ tokens) (h ∷ held) = ×_prop (names-prop tables t h) (all_name-prop tables tokens held)

-- ---- one token

some_alike : {X : Type 0} (a b : X) (it : Option X) → it ≡ Some a → it ≡ Some b → a ≡ b
some_alike a b it x y =
    let both : Some a ≡ Some b = sym x ∙ y in
    cc both

span_alike : (tables : Tables) (numbers : SpanNumbers) (a b : Span) → FindsSpan tables numbers a → FindsSpan tables numbers b → a ≡ b
span_alike tables numbers a b x y =
    span_from a b (some_alike _ _ (slice_get tables.parts numbers.part) x.part y.part) (sym x.start ∙ y.start) (sym x.length ∙ y.length)

pub leaf_alike : (tables : Tables) (entry : LeafEntry) (a b : Leaf) → FindsLeaf tables entry a → FindsLeaf tables entry b → a ≡ b
leaf_alike tables (punct char spacing numbers) (leaf.Punct a) (leaf.Punct b) x y =
    let span : a.span ≡ b.span = span_alike tables numbers a.span b.span x.0 y.0 in
    let chars : a.char ≡ b.char = sym x.1 ∙ y.1 in
    let spacings : a.spacing ≡ b.spacing = sym x.2 ∙ y.2 in
    λ i. leaf.Punct (record { char = chars i; spacing = spacings i; span = span i })
leaf_alike tables (ident symbol raw numbers) (leaf.Ident a) (leaf.Ident b) x y =
    let span : a.span ≡ b.span = span_alike tables numbers a.span b.span x.0 y.0 in
    let symbols : a.sym ≡ b.sym = some_alike _ _ (slice_get tables.symbols symbol) x.1 y.1 in
    let raws : a.is_raw ≡ b.is_raw = sym x.2 ∙ y.2 in
    λ i. leaf.Ident (record { sym = symbols i; span = span i; is_raw = raws i })
leaf_alike tables (literal symbol kind suffix_len numbers) (leaf.Literal a) (leaf.Literal b) x y =
    ap leaf.Literal
    (literal_is a b (some_alike _ _ (slice_get tables.symbols symbol) x.1 y.1) (span_alike tables numbers _ _ x.0 y.0) (sym x.2 ∙ y.2) (sym x.3 ∙ y.3))
leaf_alike tables (punct char spacing numbers) (leaf.Punct a) (leaf.Ident b) x y = absurd y
leaf_alike tables (punct char spacing numbers) (leaf.Punct a) (leaf.Literal b) x y = absurd y
leaf_alike tables (punct char spacing numbers) (leaf.Ident a) b x y = absurd x
leaf_alike tables (punct char spacing numbers) (leaf.Literal a) b x y = absurd x
leaf_alike tables (ident symbol raw numbers) (leaf.Ident a) (leaf.Punct b) x y = absurd y
leaf_alike tables (ident symbol raw numbers) (leaf.Ident a) (leaf.Literal b) x y = absurd y
leaf_alike tables (ident symbol raw numbers) (leaf.Punct a) b x y = absurd x
leaf_alike tables (ident symbol raw numbers) (leaf.Literal a) b x y = absurd x
leaf_alike tables (literal symbol kind suffix_len numbers) (leaf.Literal a) (leaf.Punct b) x y = absurd y
leaf_alike tables (literal symbol kind suffix_len numbers) (leaf.Literal a) (leaf.Ident b) x y = absurd y
leaf_alike tables (literal symbol kind suffix_len numbers) (leaf.Punct a) b x y = absurd x
leaf_alike tables (literal symbol kind suffix_len numbers) (leaf.Ident a) b x y = absurd x

subtree_alike : (tables : Tables) (entry : HeaderEntry) (a b : Subtree) → FindsSubtree tables entry a → FindsSubtree tables entry b → a ≡ b
subtree_alike tables entry a b x y =
    let opening : a.delimiter.open_span ≡ b.delimiter.open_span = span_alike tables entry.opening _ _ x.opening y.opening in
    let closing : a.delimiter.close ≡ b.delimiter.close = span_alike tables entry.closing _ _ x.closing y.closing in
    let kinds : a.delimiter.kind ≡ b.delimiter.kind = sym x.kind ∙ y.kind in
    let lens : a.len ≡ b.len = sym x.len ∙ y.len in
    λ i. record { delimiter = record { open_span = opening i; close = closing i; kind = kinds i }; len = lens i }

-- An interned token means only one token.
pub names_alike : (tables : Tables) (it : InternedToken) (a b : HeldToken) → Names tables it a → Names tables it b → a ≡ b
names_alike tables (interned.Leaf entry) (whole (token.Leaf a)) (whole (token.Leaf b)) x y = ap (λ it. whole (token.Leaf it)) (leaf_alike tables entry a b x.0 y.0)
names_alike tables (interned.Leaf entry) (whole (token.Leaf a)) (whole (token.Subtree b)) x y = absurd y
names_alike tables (interned.Leaf entry) (whole (token.Leaf a)) (opened kind open_span) x y = absurd y
names_alike tables (interned.Leaf entry) (whole (token.Subtree a)) b x y = absurd x
names_alike tables (interned.Leaf entry) (opened kind open_span) b x y = absurd x
names_alike tables (interned.Open kind numbers) (whole a) b x y = absurd x
names_alike tables (interned.Open kind numbers) (opened k s) (whole b) x y = absurd y
names_alike tables (interned.Open kind numbers) (opened k s) (opened l t) x y =
    let kinds : k ≡ l = sym x.0 ∙ y.0 in
    let spans : s ≡ t = span_alike tables numbers s t x.1 y.1 in
    λ i. opened (kinds i) (spans i)
names_alike tables (interned.Header entry) (whole (token.Leaf a)) b x y = absurd x
names_alike tables (interned.Header entry) (whole (token.Subtree a)) (whole (token.Leaf b)) x y = absurd y
names_alike tables (interned.Header entry) (whole (token.Subtree a)) (whole (token.Subtree b)) x y = ap (λ it. whole (token.Subtree it)) (subtree_alike tables entry a b x.0 y.0)
names_alike tables (interned.Header entry) (whole (token.Subtree a)) (opened kind open_span) x y = absurd y
names_alike tables (interned.Header entry) (opened kind open_span) b x y = absurd x

-- Interned tokens mean only one list.
pub lists_alike : (tables : Tables) (tokens : List InternedToken) (a b : List HeldToken) → AllName tables tokens a → AllName tables tokens b → a ≡ b
lists_alike tables [] [] [] x y = refl
lists_alike tables [] [] (h ∷ b) x y = absurd y
lists_alike tables [] (g ∷ a) b x y = absurd x
lists_alike tables (t ∷ tokens) [] b x y = absurd x
lists_alike tables (t ∷ tokens) (g ∷ a) [] x y = absurd y
lists_alike tables (t ∷ tokens) (g ∷ a) (h ∷ b) x y = ap₂ ◌∷◌ (names_alike tables t g h x.0 y.0) (lists_alike tables tokens a b x.1 y.1)

-- ---- whole tokens

-- Lists that are equal as whole tokens are equal.
whole_alike : (a b : List TokenTree) → map whole a ≡ map whole b → a ≡ b
whole_alike [] [] e = refl
whole_alike [] (y ∷ b) e = absurd (cc e)
whole_alike (x ∷ a) [] e = absurd (cc e)
whole_alike (x ∷ a) (y ∷ b) e =
    let first : whole x ≡ whole y = cc e in
    let same : x ≡ y = cc first in
    ap₂ ◌∷◌ same (whole_alike a b (cc e))

are_of-prop : (tokens : List InternedToken) (parts : List SpanPart) (part_numbers : List ℕ) (symbols : List (List ℕ)) (symbol_numbers : List ℕ) (list : List TokenTree)
    → IsProp (AreOf tokens parts part_numbers symbols symbol_numbers list)
are_of-prop tokens parts part_numbers symbols symbol_numbers list =
    λ x y i. record {
      named = all_name-prop (tables_from parts symbols) tokens (map whole list) x.named y.named i;
      distinct = IsDistinct-prop same_part parts x.distinct y.distinct i;
      parts_counted = Coded-set (coded_list coded_ℕ) _ _ x.parts_counted y.parts_counted i;
      in_order = Coded-set (coded_list (coded_list coded_ℕ)) _ _ x.in_order y.in_order i;
      symbols_counted = Coded-set (coded_list coded_ℕ) _ _ x.symbols_counted y.symbols_counted i;
    }

-- This is a proposition, as a ghost field must be.
pub IsListOf-prop : (tokens : List InternedToken) (parts : List SpanPart) (part_numbers : List ℕ) (symbols : List (List ℕ)) (symbol_numbers : List ℕ)
    → IsProp (IsListOf tokens parts part_numbers symbols symbol_numbers)
IsListOf-prop tokens parts part_numbers symbols symbol_numbers a b =
    Σ_prop_path (λ list. are_of-prop tokens parts part_numbers symbols symbol_numbers list)
    (whole_alike a.0 b.0 (lists_alike (tables_from parts symbols) tokens _ _ a.1.named b.1.named))

-- ---- tokens held

are_held-prop : (tokens : List InternedToken) (parts : List (SpanPart × ℕ)) (symbols : List (List ℕ × ℕ)) (held : List HeldToken) → IsProp (AreHeld tokens parts symbols held)
are_held-prop tokens parts symbols held =
    λ x y i. record {
      named = all_name-prop (tables_of parts symbols) tokens held x.named y.named i;
      parts_counted = λ p. Coded-set coded_ℕ _ _ (x.parts_counted p) (y.parts_counted p) i;
      symbols_counted = λ p. Coded-set coded_ℕ _ _ (x.symbols_counted p) (y.symbols_counted p) i;
      in_order = Coded-set (coded_list (coded_list coded_ℕ)) _ _ x.in_order y.in_order i;
      few = le_prop x.few y.few i;
    }

-- This is a proposition, as a ghost field must be.
pub HasHeld-prop : (tokens : List InternedToken) (parts : List (SpanPart × ℕ)) (symbols : List (List ℕ × ℕ)) → IsProp (HasHeld tokens parts symbols)
HasHeld-prop tokens parts symbols a b =
    Σ_prop_path (λ held. are_held-prop tokens parts symbols held) (lists_alike (tables_of parts symbols) tokens a.0 b.0 a.1.named b.1.named)

-- The tokens held are the ones that are shown to be held.
pub held_is : (tokens : List InternedToken) (parts : List (SpanPart × ℕ)) (symbols : List (List ℕ × ℕ)) (has : HasHeld tokens parts symbols) (held : List HeldToken)
    → AreHeld tokens parts symbols held → has.0 ≡ held
held_is tokens parts symbols has held are = lists_alike (tables_of parts symbols) tokens has.0 held has.1.named are.named

-- The list that the tokens mean is the one that they are shown to mean.
pub list_is : (tokens : List InternedToken) (parts : List SpanPart) (part_numbers : List ℕ) (symbols : List (List ℕ)) (symbol_numbers : List ℕ) (has : IsListOf tokens parts part_numbers symbols symbol_numbers)
    (list : List TokenTree) → AreOf tokens parts part_numbers symbols symbol_numbers list → has.0 ≡ list
list_is tokens parts part_numbers symbols symbol_numbers has list are =
    whole_alike has.0 list (lists_alike (tables_from parts symbols) tokens _ _ has.1.named are.named)
