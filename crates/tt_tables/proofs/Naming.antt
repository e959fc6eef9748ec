-- Tables that can name trees can name their parts, and give each of their tokens numbers that can be written.
use Rattle.std.proofs.Common.{◌≡◌, ℕ, ◌-◌, ◌^◌, ◌<◌, ◌≤◌, bytes_eq, List, [], ◌++◌, length, append_assoc, refl, ap, ap₂, subst, sym, ◌∙◌, arith}
use Rattle.std.specs.List.{AllByRecursion}
use Rattle.tt_base.specs.declared.delimiter.Delimiter.{Delimiter}
use Rattle.tt_base.specs.declared.delimiter.Subtree.{Subtree}
use Rattle.tt_base.specs.declared.leaf.Leaf.{Leaf}
use Rattle.tt_base.specs.declared.leaf.Leaf.TheVariants as one
use Rattle.tt_base.specs.declared.span.Span.{Span}
use Rattle.tt_base.specs.declared.span.SpanPart.{SpanPart}
use Rattle.tt_base.specs.declared.token_tree.TokenTree.{TokenTree}
use Rattle.tt_base.specs.declared.token_tree.TokenTree.TheVariants as token
use Rattle.tt_codec.specs.declared.entry.Entry.TheVariants.{Leaf as of_leaf, Header as of_header}
use Rattle.tt_codec.specs.Entry.{EntryFits, entry_bytes}
use Rattle.tt_base.specs.Fits.{SpanInRange, LeafInRange, TokenInRange}
use Rattle.tt_base.specs.Forest.{Forest, end, leaf, node, size, header, flat, join}
use Rattle.tt_base.specs.Unflat.{flat-join}
use Rattle.tt_codec.specs.Header.{HeaderFits}
use Rattle.tt_codec.specs.declared.entry.LeafEntry.TheVariants.{Punct as punct, Ident as ident, Literal as literal}
use Rattle.tt_codec.specs.Leaf.{LeafEntryFits}
use Rattle.tt_tables.specs.Meaning.{CanName}
use Rattle.tt_base.specs.Moves.{after_token, after_tree}
use Rattle.tt_base.specs.Span.{start_of, end_of, part_of}
use Rattle.tt_codec.specs.SpanNumbers.{SpanFits}
use Rattle.tt_tables.specs.Stored.{bytes}
use Rattle.tt_tables.specs.TableOrder.{IsIn}
use Rattle.tt_tables.specs.Tables.{Tables, Knows, numbers_of_span, leaf_entry, header_entry, entry_of, token_bytes}
use Rattle.tt_tables.specs.Uses.{same_part}
use Rattle.tt_tables.proofs.Known.{all_split, all_join}
use Rattle.tt_tables.proofs.Lengths.{bytes_length}
use Rattle.tt_tables.proofs.Lookups.{index_in-more}

-- ---- numbers that can be written

numbers_fit : (tables : Tables) (span : Span) → length tables.parts ≤ 2 ^ 28 → IsIn same_part tables.parts (part_of span) → SpanInRange span → SpanFits (numbers_of_span tables span)
numbers_fit tables span few found range = record { part = omega arith; start = range.0; length = omega (arith, range.1) }

-- A leaf's numbers can be written.
pub leaf_fits : (tables : Tables) (it : Leaf) → length tables.parts ≤ 2 ^ 28 → length tables.symbols ≤ 2 ^ 29
    → Knows tables (token.Leaf it) → LeafInRange it → LeafEntryFits (leaf_entry tables it)
leaf_fits tables (one.Literal it) few few_symbols knows range =
    (omega (arith, knows.symbols.0), numbers_fit tables it.span few knows.parts.0 range)
leaf_fits tables (one.Punct it) few few_symbols knows range = (range.1, numbers_fit tables it.span few knows.parts.0 range.0)
leaf_fits tables (one.Ident it) few few_symbols knows range =
    (omega (arith, knows.symbols.0), numbers_fit tables it.span few knows.parts.0 range)

-- A header's numbers can be written, if it has few tokens and bytes below it.
pub header_fits : (tables : Tables) (it : Subtree) (child_bytes : ℕ) → length tables.parts ≤ 2 ^ 28 → Knows tables (token.Subtree it)
    → TokenInRange (token.Subtree it) → it.len < 2 ^ 32 → child_bytes < 2 ^ 32 → HeaderFits (header_entry tables it child_bytes)
header_fits tables it child_bytes few knows range tokens small =
    record {
      opening = numbers_fit tables it.delimiter.open_span few knows.parts.0 range.0;
      closing = numbers_fit tables it.delimiter.close few knows.parts.1.0 range.1;
      len = tokens;
      child_bytes = small;
    }

-- A leaf that comes first has numbers that can be written.
pub first_leaf_fits : (tables : Tables) (it : Leaf) (rest : Forest) → CanName tables (leaf it rest) → EntryFits (entry_of tables (token.Leaf it) 0)
first_leaf_fits tables it rest named = leaf_fits tables it named.0 named.1 named.2.0 named.3.0

-- A header that comes first has numbers that can be written.
pub first_header_fits : (tables : Tables) (delimiter : Delimiter) (children rest : Forest) → CanName tables (node delimiter children rest)
    → length (bytes tables children) < 2 ^ 32 → EntryFits (entry_of tables (header delimiter (size children)) (length (bytes tables children)))
first_header_fits tables delimiter children rest named small =
    header_fits tables (record { delimiter = delimiter; len = size children }) (length (bytes tables children)) named.0 named.2.0 named.3.0
    (omega (arith, (bytes_length tables children).0)) small

-- ---- parts of trees

-- Two lists of trees that tables can name are a list that they can name.
pub can_name_join : (tables : Tables) (f g : Forest) → CanName tables f → CanName tables g → CanName tables (join f g)
can_name_join tables f g named others = (
  named.0,
  named.1,
  subst (AllByRecursion (Knows tables)) (sym (flat-join f g)) (all_join (Knows tables) (flat f) (flat g) named.2 others.2),
  subst (AllByRecursion TokenInRange) (sym (flat-join f g)) (all_join TokenInRange (flat f) (flat g) named.3 others.3),
)

-- The trees after a leaf.
pub can_name_behind : (tables : Tables) (it : Leaf) (rest : Forest) → CanName tables (leaf it rest) → CanName tables rest
can_name_behind tables it rest named = (named.0, named.1, named.2.1, named.3.1)

-- The trees in a node.
pub can_name_children : (tables : Tables) (delimiter : Delimiter) (children rest : Forest) → CanName tables (node delimiter children rest) → CanName tables children
can_name_children tables delimiter children rest named = (
  named.0,
  named.1,
  (all_split (Knows tables) (flat children) (flat rest) named.2.1).0,
  (all_split TokenInRange (flat children) (flat rest) named.3.1).0,
)

-- The trees after a node.
pub can_name_rest : (tables : Tables) (delimiter : Delimiter) (children rest : Forest) → CanName tables (node delimiter children rest) → CanName tables rest
can_name_rest tables delimiter children rest named = (
  named.0,
  named.1,
  (all_split (Knows tables) (flat children) (flat rest) named.2.1).1,
  (all_split TokenInRange (flat children) (flat rest) named.3.1).1,
)

-- The trees after the first token.
pub can_name_after_token : (tables : Tables) (trees : Forest) → CanName tables trees → CanName tables (after_token trees)
can_name_after_token tables end named = named
can_name_after_token tables (leaf it rest) named = can_name_behind tables it rest named
can_name_after_token tables (node delimiter children rest) named =
    can_name_join tables children rest (can_name_children tables delimiter children rest named) (can_name_rest tables delimiter children rest named)

-- The trees after the first tree.
pub can_name_after_tree : (tables : Tables) (trees : Forest) → CanName tables trees → CanName tables (after_tree trees)
can_name_after_tree tables end named = named
can_name_after_tree tables (leaf it rest) named = can_name_behind tables it rest named
can_name_after_tree tables (node delimiter children rest) named = can_name_rest tables delimiter children rest named

-- ---- the bytes of trees

-- No trees have no bytes.
pub bytes-end : (tables : Tables) → bytes tables end ≡ []
unfolding bytes
bytes-end tables = refl

-- The bytes of a leaf and of the trees after it.
pub bytes-leaf : (tables : Tables) (it : Leaf) (rest : Forest) → bytes tables (leaf it rest) ≡ token_bytes tables (token.Leaf it) 0 ++ bytes tables rest
unfolding bytes
bytes-leaf tables it rest = refl

-- The bytes of a node and of the trees after it: its header, and then its children.
pub bytes-node : (tables : Tables) (delimiter : Delimiter) (children rest : Forest)
    → bytes tables (node delimiter children rest)
    ≡ token_bytes tables (header delimiter (size children)) (length (bytes tables children)) ++ (bytes tables children ++ bytes tables rest)
unfolding bytes
bytes-node tables delimiter children rest =
    append_assoc (token_bytes tables (header delimiter (size children)) (length (bytes tables children))) (bytes tables children) (bytes tables rest)

-- The bytes of two lists of trees.
pub bytes-join : (tables : Tables) (f g : Forest) → bytes tables (join f g) ≡ bytes tables f ++ bytes tables g
unfolding bytes
bytes-join tables end g = refl
bytes-join tables (leaf it rest) g =
    ap (λ list. token_bytes tables (token.Leaf it) 0 ++ list) (bytes-join tables rest g)
    ∙ sym (append_assoc (token_bytes tables (token.Leaf it) 0) (bytes tables rest) (bytes tables g))
bytes-join tables (node delimiter children rest) g =
    ap (λ list. first ++ list) (bytes-join tables rest g) ∙ sym (append_assoc first (bytes tables rest) (bytes tables g))
  where
    first : List ℕ
    first = token_bytes tables (header delimiter (size children)) (length (bytes tables children)) ++ bytes tables children

-- ---- more entries after those of the tables

-- the tables with more entries at the end
abbrev pub with_more : Tables → List SpanPart → List (List ℕ) → Tables
with_more tables parts symbols = record { parts = tables.parts ++ parts; symbols = tables.symbols ++ symbols }

module _ (tables : Tables) (parts : List SpanPart) (symbols : List (List ℕ)) where
  abbrev larger : Tables
  larger = with_more tables parts symbols

  numbers-more : (span : Span) → IsIn same_part tables.parts (part_of span) → numbers_of_span larger span ≡ numbers_of_span tables span
  numbers-more span found =
      λ i. record {
        part = index_in-more (same_part (part_of span)) tables.parts parts found i;
        start = start_of span.range;
        length = end_of span.range - start_of span.range;
      }

  -- A token of these tables has the same numbers.
  pub entry_of-more : (it : TokenTree) (child_bytes : ℕ) → Knows tables it → entry_of larger it child_bytes ≡ entry_of tables it child_bytes
  entry_of-more (token.Leaf (one.Literal it)) child_bytes knows =
      ap₂ (λ symbol numbers. of_leaf (literal symbol it.kind it.suffix_len numbers))
      (index_in-more (bytes_eq it.symbol) tables.symbols symbols knows.symbols.0) (numbers-more it.span knows.parts.0)
  entry_of-more (token.Leaf (one.Punct it)) child_bytes knows = ap (λ numbers. of_leaf (punct it.char it.spacing numbers)) (numbers-more it.span knows.parts.0)
  entry_of-more (token.Leaf (one.Ident it)) child_bytes knows =
      ap₂ (λ symbol numbers. of_leaf (ident symbol it.is_raw numbers))
      (index_in-more (bytes_eq it.sym) tables.symbols symbols knows.symbols.0) (numbers-more it.span knows.parts.0)
  entry_of-more (token.Subtree it) child_bytes knows =
      ap₂ (λ opening closing. of_header (record { opening = opening; closing = closing; kind = it.delimiter.kind; len = it.len; child_bytes = child_bytes }))
      (numbers-more it.delimiter.open_span knows.parts.0) (numbers-more it.delimiter.close knows.parts.1.0)

  -- Trees of these tables have the same bytes.
  pub bytes-more : (trees : Forest) → AllByRecursion (Knows tables) (flat trees) → bytes larger trees ≡ bytes tables trees
  unfolding bytes
  bytes-more end knows = refl
  bytes-more (leaf it rest) knows = ap₂ (λ first behind. entry_bytes first ++ behind) (entry_of-more (token.Leaf it) 0 knows.0) (bytes-more rest knows.1)
  bytes-more (node delimiter children rest) knows =
      ap₂ (λ inner behind. token_bytes larger (header delimiter (size children)) (length inner) ++ inner ++ behind)
      (bytes-more children (all_split (Knows tables) (flat children) (flat rest) knows.1).0)
      (bytes-more rest (all_split (Knows tables) (flat children) (flat rest) knows.1).1)
      ∙ ap (λ first. entry_bytes first ++ bytes tables children ++ bytes tables rest)
      (entry_of-more (header delimiter (size children)) (length (bytes tables children)) knows.0)
