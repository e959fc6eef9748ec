-- Small tokens mean at most one list.
use Rattle.std.proofs.Common.{◌≡◌, ℕ, suc, List, [], ◌∷◌, Option, Some, length, refl, ap, ap₂, sym, ◌∙◌, subst}
use Rattle.std.specs.Coded.{Coded-set, coded_list, coded_ℕ, coded_option, le_prop, ×_prop}
use Rattle.std.specs.List.{AllZip}
use mathlib.Core.HLevel.{Σ_prop_path}
use Rattle.tt_base.specs.contracts.delimiter.Subtree.{the_row as header_row}
use Rattle.tt_base.specs.contracts.leaf.Leaf.{the_row as leaf_row}
use Rattle.tt_base.specs.declared.delimiter.Subtree.{Subtree}
use Rattle.tt_base.specs.declared.leaf.Leaf.{Leaf}
use Rattle.tt_base.specs.declared.leaf.Leaf.TheVariants as leaf
use Rattle.tt_base.specs.declared.span.SpanPart.{SpanPart}
use Rattle.tt_base.specs.declared.token_tree.TokenTree.{TokenTree}
use Rattle.tt_base.specs.declared.token_tree.TokenTree.TheVariants as token
use Rattle.tt_tables.specs.declared.small.Form.{Form}
use Rattle.tt_tables.specs.declared.small.Form.TheVariants as form
use Rattle.tt_tables.specs.declared.small.Small.{Small}
use Rattle.tt_tables.specs.Held.{whole}
use Rattle.tt_tables.specs.OneList.{names-prop, names_alike}
use Rattle.tt_tables.specs.SmallHeld.{AreSmall, HasSmall, small_tables}
use Rattle.tt_tables.specs.SmallMeaning.{Means, MeansBy, NamesSymbol, AreRanked, RankedBy, small_punct, small_ident, small_literal}
use Rattle.tt_tables.specs.Tables.{Tables}

header_set : (a b : Option Subtree) → IsProp (a ≡ b)
header_set = Coded-set (coded_option header_row.coded)

leaf_set : (a b : Option Leaf) → IsProp (a ≡ b)
leaf_set = Coded-set (coded_option leaf_row.coded)

symbol_set : (a b : Option (List ℕ)) → IsProp (a ≡ b)
symbol_set = Coded-set (coded_option (coded_list coded_ℕ))

names_symbol-prop : (symbols : List (List ℕ)) (place : ℕ) (it : Leaf) → IsProp (NamesSymbol symbols place it)
names_symbol-prop symbols place (leaf.Literal it) = symbol_set _ _
names_symbol-prop symbols place (leaf.Punct it) = λ x y. refl
names_symbol-prop symbols place (leaf.Ident it) = symbol_set _ _

module _ (tables : Tables) (headers : List Subtree) (leaves : List Leaf) where
  means_by-prop : (f : Form) (small : Small) (it : TokenTree) → IsProp (MeansBy f tables headers leaves small it)
  means_by-prop (form.Punct spacing) small it = names-prop tables (small_punct spacing small) (whole it)
  means_by-prop (form.Ident raw) small it = names-prop tables (small_ident raw small) (whole it)
  means_by-prop (form.Literal kind) small it = names-prop tables (small_literal kind small) (whole it)
  means_by-prop form.Header small (token.Leaf it) = λ x y. absurd x
  means_by-prop form.Header small (token.Subtree it) = header_set _ _
  means_by-prop form.Odd small (token.Leaf it) = ×_prop (leaf_set _ _) (names_symbol-prop tables.symbols small.start it)
  means_by-prop form.Odd small (token.Subtree it) = λ x y. absurd x

  all_mean-prop : (tokens : List Small) (list : List TokenTree) → IsProp (AllZip (Means tables headers leaves) tokens list)
  all_mean-prop [] [] = λ x y. refl
  all_mean-prop [] (h ∷ list) = λ x y. absurd x
  all_mean-prop (t ∷ tokens) [] = λ x y. absurd x
  all_mean-prop (t ∷ tokens) (h ∷ list) = ×_prop (means_by-prop t.form t h) (all_mean-prop tokens list)

  whole_one : (a b : TokenTree) → whole a ≡ whole b → a ≡ b
  whole_one a b e = cc e

  -- A small token means only one token.
  pub means_alike : (f : Form) (small : Small) (a b : TokenTree) → MeansBy f tables headers leaves small a → MeansBy f tables headers leaves small b → a ≡ b
  means_alike (form.Punct spacing) small a b x y = whole_one a b (names_alike tables (small_punct spacing small) (whole a) (whole b) x y)
  means_alike (form.Ident raw) small a b x y = whole_one a b (names_alike tables (small_ident raw small) (whole a) (whole b) x y)
  means_alike (form.Literal kind) small a b x y = whole_one a b (names_alike tables (small_literal kind small) (whole a) (whole b) x y)
  means_alike form.Header small (token.Leaf a) b x y = absurd x
  means_alike form.Header small (token.Subtree a) (token.Leaf b) x y = absurd y
  means_alike form.Header small (token.Subtree a) (token.Subtree b) x y =
      let both : Some a ≡ Some b = sym x ∙ y in
      let one : a ≡ b = cc both in
      ap token.Subtree one
  means_alike form.Odd small (token.Subtree a) b x y = absurd x
  means_alike form.Odd small (token.Leaf a) (token.Subtree b) x y = absurd y
  means_alike form.Odd small (token.Leaf a) (token.Leaf b) x y =
      let both : Some a ≡ Some b = sym x.0 ∙ y.0 in
      let one : a ≡ b = cc both in
      ap token.Leaf one

  -- Small tokens mean only one list.
  pub lists_mean_alike : (tokens : List Small) (a b : List TokenTree) → AllZip (Means tables headers leaves) tokens a → AllZip (Means tables headers leaves) tokens b → a ≡ b
  lists_mean_alike [] [] [] x y = refl
  lists_mean_alike [] [] (h ∷ b) x y = absurd y
  lists_mean_alike [] (g ∷ a) b x y = absurd x
  lists_mean_alike (t ∷ tokens) [] b x y = absurd x
  lists_mean_alike (t ∷ tokens) (g ∷ a) [] x y = absurd y
  lists_mean_alike (t ∷ tokens) (g ∷ a) (h ∷ b) x y = ap₂ ◌∷◌ (means_alike t.form t g h x.0 y.0) (lists_mean_alike tokens a b x.1 y.1)

ranked_by-prop : (f : Form) (value next : ℕ) (others : ℕ → Type 0) → ((n : ℕ) → IsProp (others n)) → IsProp (RankedBy f value next others)
ranked_by-prop form.Header value next others prop = ×_prop (Coded-set coded_ℕ _ _) (prop (suc next))
ranked_by-prop (form.Punct spacing) value next others prop = prop next
ranked_by-prop (form.Ident raw) value next others prop = prop next
ranked_by-prop (form.Literal kind) value next others prop = prop next
ranked_by-prop form.Odd value next others prop = prop next

are_ranked-prop : (headers : ℕ) (tokens : List Small) (next : ℕ) → IsProp (AreRanked headers tokens next)
are_ranked-prop headers [] next = Coded-set coded_ℕ _ _
are_ranked-prop headers (t ∷ tokens) next = ranked_by-prop t.form t.value next (AreRanked headers tokens) (are_ranked-prop headers tokens)

are_small-prop : (part : SpanPart) (tokens : List Small) (headers : List Subtree) (leaves : List Leaf) (symbols : List (List ℕ × ℕ)) (list : List TokenTree)
    → IsProp (AreSmall part tokens headers leaves symbols list)
are_small-prop part tokens headers leaves symbols list =
    λ x y i. record {
      means = all_mean-prop (small_tables part symbols) headers leaves tokens list x.means y.means i;
      ranked = are_ranked-prop (length headers) tokens 0 x.ranked y.ranked i;
      counted = λ p. Coded-set coded_ℕ _ _ (x.counted p) (y.counted p) i;
      in_order = Coded-set (coded_list (coded_list coded_ℕ)) _ _ x.in_order y.in_order i;
      few = le_prop x.few y.few i;
      few_headers = le_prop x.few_headers y.few_headers i;
      few_leaves = le_prop x.few_leaves y.few_leaves i;
    }

-- This is a proposition, as a ghost field must be.
pub HasSmall-prop : (part : SpanPart) (tokens : List Small) (headers : List Subtree) (leaves : List Leaf) (symbols : List (List ℕ × ℕ)) → IsProp (HasSmall part tokens headers leaves symbols)
HasSmall-prop part tokens headers leaves symbols a b =
    Σ_prop_path (λ list. are_small-prop part tokens headers leaves symbols list)
    (lists_mean_alike (small_tables part symbols) headers leaves tokens a.0 b.0 a.1.means b.1.means)

-- The list that the tokens mean is the one that they are shown to mean.
pub small_is : (part : SpanPart) (tokens : List Small) (headers : List Subtree) (leaves : List Leaf) (symbols : List (List ℕ × ℕ)) (has : HasSmall part tokens headers leaves symbols) (list : List TokenTree)
    → AreSmall part tokens headers leaves symbols list → has.0 ≡ list
small_is part tokens headers leaves symbols has list are =
    lists_mean_alike (small_tables part symbols) headers leaves tokens has.0 list has.1.means are.means

-- What the model shows is what the tokens mean.
pub small_seen : (part : SpanPart) (tokens : List Small) (headers : List Subtree) (leaves : List Leaf) (symbols : List (List ℕ × ℕ)) (has : HasSmall part tokens headers leaves symbols) (list : List TokenTree)
    → has.0 ≡ list → AreSmall part tokens headers leaves symbols list
small_seen part tokens headers leaves symbols has list e = subst (AreSmall part tokens headers leaves symbols) e has.1
