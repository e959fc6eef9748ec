-- What is stored determines the tree, and the bytes from an offset on determine the trees ahead.
use Rattle.std.proofs.Common.{◌≡◌, ℕ, zero, suc, ◌+◌, ◌^◌, ◌<◌, true, List, [], ◌∷◌, length, drop, length-append, refl, ap, subst, sym, ◌∙◌, arith}
use Rattle.std.proofs.Props.{props}
use Rattle.std.specs.Coded.{Coded, Coded-set, code_by, coded×, coded_list, coded_ℕ, le_prop, ×_prop}
use Rattle.std.specs.List.{AllByRecursion-prop}
use mathlib.Core.HLevel.{Σ_prop_path}
use Rattle.tt_base.specs.contracts.span.SpanPart.{the_row as part_row}
use Rattle.tt_base.specs.declared.leaf.Leaf.TheVariants as one
use Rattle.tt_base.specs.declared.span.Span.{Span}
use Rattle.tt_base.specs.declared.span.SpanPart.{SpanPart}
use Rattle.tt_base.specs.declared.token_tree.TokenTree.{TokenTree}
use Rattle.tt_base.specs.declared.token_tree.TokenTree.TheVariants as token
use Rattle.tt_codec.specs.declared.entry.Entry.TheVariants.{Header as of_header}
use Rattle.tt_base.specs.Fits.{SpanInRange, TokenInRange}
use Rattle.tt_base.specs.Forest.{Forest, end, leaf, node, Root, size, flat_root, flat}
use Rattle.tt_codec.specs.Entry.{entry_at}
use Rattle.tt_codec.specs.declared.entry.HeaderEntry.{HeaderEntry}
use Rattle.tt_codec.specs.Header.{HeaderFits, format_4, top_entry}
use Rattle.tt_tables.specs.Meaning.{IsStored, HasMeaning, CanName, IsAtStart, IsAhead, HasAhead}
use Rattle.tt_base.specs.Span.{part_of}
use Rattle.tt_codec.specs.SpanNumbers.{SpanFits, span_numbers}
use Rattle.tt_tables.specs.Stored.{Stored, bytes, bytes_below, root_bytes, root_parts, packed, IsInRange, IsWithinLimits}
use Rattle.tt_tables.specs.Tables.{Tables, tables_for}
use Rattle.tt_codec.proofs.HeaderReading.{token_read, format_4_again}
use Rattle.tt_tables.proofs.Known.{tables_for_know_trees}
use Rattle.tt_tables.proofs.Lengths.{heavy_length}
use Rattle.tt_tables.specs.OneToken.{span_from}
use Rattle.tt_tables.proofs.TreesAlike.{reads_alike, seam, trees_alike}

-- ---- the top

-- the top's header of a tree in numbers
abbrev pub top_of : Root → HeaderEntry
top_of root = top_entry (length (tables_for (flat root.children)).parts) root.delimiter (size root.children) (length (bytes_below root.children))

-- A tree's parts are those below the top and two more.
pub length-root_parts : (root : Root) → length (root_parts root) ≡ length (tables_for (flat root.children)).parts + 2
length-root_parts root =
    length-append (tables_for (flat root.children)).parts (part_of root.delimiter.open_span ∷ part_of root.delimiter.close ∷ [])

top_numbers_fit : (part : ℕ) (span : Span) → part < 2 ^ 28 → SpanInRange span → SpanFits (span_numbers part span)
top_numbers_fit part span few range = record { part = few; start = range.0; length = omega (arith, range.1) }

-- The top's header has numbers that can be written.
pub top_fits : (root : Root) → IsInRange root → IsWithinLimits root → HeaderFits (top_of root)
top_fits root range limits =
    record {
      opening = top_numbers_fit _ root.delimiter.open_span (omega (arith, limits.parts, length-root_parts root)) range.0.0;
      closing = top_numbers_fit _ root.delimiter.close (omega (arith, limits.parts, length-root_parts root)) range.0.1;
      len = omega (arith, limits.tokens);
      child_bytes = omega (arith, limits.bytes);
    }

-- The tables of a tree can name all trees below its top.
pub can_name_below : (root : Root) → IsInRange root → IsWithinLimits root → CanName (tables_for (flat root.children)) root.children
can_name_below root range limits = (
  omega (arith, limits.parts, length-root_parts root),
  omega (arith, limits.symbols),
  tables_for_know_trees root.children,
  range.1,
)

-- The top's header is read again.
pub top_again : (root : Root) → IsInRange root → IsWithinLimits root → entry_at (root_bytes root) ≡ token_read (of_header (top_of root)) (bytes_below root.children)
top_again root range limits = format_4_again true (top_of root) (bytes_below root.children) (top_fits root range limits)

-- ---- whole trees

top_span_is : (m n : ℕ) (a b : Span) → part_of a ≡ part_of b → span_numbers m a ≡ span_numbers n b → a ≡ b
top_span_is m n a b part e = span_from a b part (ap (λ p. p.start) e) (ap (λ p. p.length) e)

two_parts : (a b c d : SpanPart) → a ∷ b ∷ [] ≡ c ∷ d ∷ [] → (a ≡ c) × (b ≡ d)
two_parts a b c d e = (cc e, cc e)

-- Trees with the same bytes and tables are equal.
pub roots_alike : (a b : Root) → IsInRange a → IsWithinLimits a → IsInRange b → IsWithinLimits b
    → root_bytes a ≡ root_bytes b → root_parts a ≡ root_parts b → (tables_for (flat a.children)).symbols ≡ (tables_for (flat b.children)).symbols → a ≡ b
roots_alike a b range_a limits_a range_b limits_b same_bytes same_parts same_symbols =
    λ i. record { delimiter = record { open_span = opens i; close = closes i; kind = (tops i).kind }; children = children i }
  where
    firsts : (of_header (top_of a) ≡ of_header (top_of b)) × (bytes_below a.children ≡ bytes_below b.children)
    firsts =
        reads_alike (of_header (top_of a)) (of_header (top_of b)) (bytes_below a.children) (bytes_below b.children)
        (sym (top_again a range_a limits_a) ∙ ap entry_at same_bytes ∙ top_again b range_b limits_b)

    tops : top_of a ≡ top_of b
    tops = cc firsts.0

    parts : ((tables_for (flat a.children)).parts ≡ (tables_for (flat b.children)).parts)
        × (part_of a.delimiter.open_span ∷ part_of a.delimiter.close ∷ [] ≡ part_of b.delimiter.open_span ∷ part_of b.delimiter.close ∷ [])
    parts =
        seam (tables_for (flat a.children)).parts _ (tables_for (flat b.children)).parts _
        (omega (arith, ap length same_parts, length-root_parts a, length-root_parts b)) same_parts

    ends : (part_of a.delimiter.open_span ≡ part_of b.delimiter.open_span) × (part_of a.delimiter.close ≡ part_of b.delimiter.close)
    ends = two_parts _ _ _ _ parts.1

    opens : a.delimiter.open_span ≡ b.delimiter.open_span
    opens = top_span_is _ _ a.delimiter.open_span b.delimiter.open_span ends.0 (ap (λ it. it.opening) tops)

    closes : a.delimiter.close ≡ b.delimiter.close
    closes = top_span_is _ _ a.delimiter.close b.delimiter.close ends.1 (ap (λ it. it.closing) tops)

    tables : tables_for (flat a.children) ≡ tables_for (flat b.children)
    tables = λ i. record { parts = parts.0 i; symbols = same_symbols i }

    children : a.children ≡ b.children
    children =
        trees_alike (tables_for (flat a.children)) a.children b.children (can_name_below a range_a limits_a)
        (subst (λ t. CanName t b.children) (sym tables) (can_name_below b range_b limits_b))
        (omega (arith, limits_a.bytes))
        (firsts.1 ∙ ap (λ t. bytes t b.children) (sym tables))

-- What is stored determines the tree.
pub stored_alike : (stored : Stored) (a b : Root) → IsStored stored a → IsStored stored b → a ≡ b
unfolding packed
stored_alike stored a b is_a is_b =
    let same : packed a ≡ packed b = sym is_a.2 ∙ is_b.2 in
    roots_alike a b is_a.0 is_a.1 is_b.0 is_b.1 (ap (λ s. s.bytes) same) (ap (λ s. s.parts) same) (ap (λ s. s.symbols) same)

-- ---- at most one tree

-- what is stored, as a tuple
abbrev pub stored_code : Coded Stored
stored_code =
    code_by (List ℕ × (List SpanPart × (List (List ℕ) × ℕ))) (coded× (coded_list coded_ℕ) (coded× (coded_list part_row.coded) (coded× (coded_list (coded_list coded_ℕ)) coded_ℕ)))
    (λ s. (s.bytes, (s.parts, (s.symbols, s.len)))) (λ t. record { bytes = t.0; parts = t.1.0; symbols = t.1.1.0; len = t.1.1.1 }) (λ _. refl)

list_set : (xs ys : List ℕ) → IsProp (xs ≡ ys)
list_set = Coded-set (coded_list coded_ℕ)

span_in_range-prop : (span : Span) → IsProp (SpanInRange span)
span_in_range-prop span = ×_prop le_prop le_prop

token_in_range-prop : (it : TokenTree) → IsProp (TokenInRange it)
token_in_range-prop (token.Leaf (one.Literal it)) = span_in_range-prop it.span
token_in_range-prop (token.Leaf (one.Punct it)) = hlevel props
token_in_range-prop (token.Leaf (one.Ident it)) = span_in_range-prop it.span
token_in_range-prop (token.Subtree it) = ×_prop (span_in_range-prop it.delimiter.open_span) (span_in_range-prop it.delimiter.close)

limits-prop : (root : Root) → IsProp (IsWithinLimits root)
limits-prop root x y =
    λ i. record {
      tokens = le_prop x.tokens y.tokens i;
      parts = le_prop x.parts y.parts i;
      symbols = le_prop x.symbols y.symbols i;
      bytes = le_prop x.bytes y.bytes i;
    }

is_stored-prop : (stored : Stored) (root : Root) → IsProp (IsStored stored root)
is_stored-prop stored root x y =
    λ i. (
      AllByRecursion-prop TokenInRange token_in_range-prop (flat_root root) x.0 y.0 i,
      limits-prop root x.1 y.1 i,
      Coded-set stored_code stored (packed root) x.2 y.2 i,
    )

-- At most one tree is stored, so this is a proposition, as a ghost field must be.
pub HasMeaning-prop : (stored : Stored) → IsProp (HasMeaning stored)
HasMeaning-prop stored a b = Σ_prop_path (λ root. is_stored-prop stored root) (stored_alike stored a.0 b.0 a.1 b.1)

-- This tree is the one that is stored.
pub meaning_is : (stored : Stored) (meaning : HasMeaning stored) (root : Root) → IsStored stored root → meaning.0 ≡ root
meaning_is stored meaning root is = stored_alike stored meaning.0 root meaning.1 is

-- ---- the trees ahead

nothing_stored : (root : Root) → [] ≡ root_bytes root → ⊥
nothing_stored root e =
    omega (arith, ap length e, length-append (format_4 true (top_of root)) (bytes_below root.children), heavy_length (top_of root))

-- At the start one tree is ahead, or none.
pub start_alike : (tables : Tables) (all : List ℕ) (f g : Forest) → IsAtStart tables all f → IsAtStart tables all g → f ≡ g
unfolding packed
start_alike tables all end end x y = refl
start_alike tables all end (leaf it rest) x y = absurd y
start_alike tables all end (node other inner end) x y = absurd (nothing_stored (record { delimiter = other; children = inner }) (sym x ∙ ap (λ s. s.bytes) y.2))
start_alike tables all end (node other inner (leaf it rest)) x y = absurd y
start_alike tables all end (node other inner (node third below rest)) x y = absurd y
start_alike tables all (leaf it rest) g x y = absurd x
start_alike tables all (node delimiter children (leaf it rest)) g x y = absurd x
start_alike tables all (node delimiter children (node third below rest)) g x y = absurd x
start_alike tables all (node delimiter children end) end x y = absurd (nothing_stored (record { delimiter = delimiter; children = children }) (sym y ∙ ap (λ s. s.bytes) x.2))
start_alike tables all (node delimiter children end) (leaf it rest) x y = absurd y
start_alike tables all (node delimiter children end) (node other inner (leaf it rest)) x y = absurd y
start_alike tables all (node delimiter children end) (node other inner (node third below rest)) x y = absurd y
start_alike tables all (node delimiter children end) (node other inner end) x y =
    let a : Root = record { delimiter = delimiter; children = children } in
    let b : Root = record { delimiter = other; children = inner } in
    let same : a ≡ b =
    roots_alike a b x.0 x.1 y.0 y.1 (sym (ap (λ s. s.bytes) x.2) ∙ ap (λ s. s.bytes) y.2) (sym (ap (λ s. s.parts) x.2) ∙ ap (λ s. s.parts) y.2)
    (sym (ap (λ s. s.symbols) x.2) ∙ ap (λ s. s.symbols) y.2) in
    λ i. node (same i).delimiter (same i).children end

-- Only one list of trees is ahead of an offset.
pub ahead_alike : (tables : Tables) (all : List ℕ) (offset : ℕ) (f g : Forest) → IsAhead tables all offset f → IsAhead tables all offset g → f ≡ g
ahead_alike tables all zero f g x y = start_alike tables all f g x y
ahead_alike tables all (suc offset) f g x y = trees_alike tables f g x.named y.named (omega (arith, x.few)) (sym x.left ∙ y.left)

can_name-prop : (tables : Tables) (trees : Forest) → IsProp (CanName tables trees)
can_name-prop tables trees = hlevel (props, token_in_range-prop)

at_start-prop : (tables : Tables) (all : List ℕ) (trees : Forest) → IsProp (IsAtStart tables all trees)
at_start-prop tables all end = list_set all []
at_start-prop tables all (leaf it rest) = λ x y. absurd x
at_start-prop tables all (node delimiter children end) =
    is_stored-prop (record { bytes = all; parts = tables.parts; symbols = tables.symbols; len = suc (size children) })
    (record { delimiter = delimiter; children = children })
at_start-prop tables all (node delimiter children (leaf it rest)) = λ x y. absurd x
at_start-prop tables all (node delimiter children (node other inner rest)) = λ x y. absurd x

is_ahead-prop : (tables : Tables) (all : List ℕ) (offset : ℕ) (trees : Forest) → IsProp (IsAhead tables all offset trees)
is_ahead-prop tables all zero trees = at_start-prop tables all trees
is_ahead-prop tables all (suc offset) trees =
    λ x y i. record {
      top = le_prop x.top y.top i;
      inside = le_prop x.inside y.inside i;
      left = list_set (drop (suc offset) all) (bytes tables trees) x.left y.left i;
      named = can_name-prop tables trees x.named y.named i;
      few = le_prop x.few y.few i;
    }

-- At most one list of trees is ahead, so this is a proposition, as a ghost field must be.
pub HasAhead-prop : (tables : Tables) (all : List ℕ) (offset : ℕ) → IsProp (HasAhead tables all offset)
HasAhead-prop tables all offset a b = Σ_prop_path (λ trees. is_ahead-prop tables all offset trees) (ahead_alike tables all offset a.0 b.0 a.1 b.1)

-- The trees ahead are the ones that are shown to be ahead.
pub ahead_is : (tables : Tables) (all : List ℕ) (offset : ℕ) (ahead : HasAhead tables all offset) (trees : Forest) → IsAhead tables all offset trees → ahead.0 ≡ trees
ahead_is tables all offset ahead trees is = ahead_alike tables all offset ahead.0 trees ahead.1 is
