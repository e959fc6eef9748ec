-- The token that is read at an offset, and the trees ahead of the offset.
use Rattle.std.proofs.Common.{◌≡◌, ℕ, zero, suc, ◌+◌, ◌<◌, ◌≤◌, Bool, true, bytes_eq, List, [], ◌∷◌, ◌++◌, length, drop, get_or, None, length-append, length-drop, append-nil, append_assoc, refl, ap, subst, sym, ◌∙◌, arith}
use Rattle.std.specs.List.{AllByRecursion}
use Rattle.std.proofs.Math.Seq.{drop-append_seam, drop-length}
use Rattle.std.proofs.lemmas.List.{drop-drop, drop_all}
use Rattle.tt_base.specs.declared.delimiter.Delimiter.{Delimiter}
use Rattle.tt_base.specs.declared.delimiter.Subtree.{Subtree}
use Rattle.tt_base.specs.declared.leaf.Leaf.{Leaf}
use Rattle.tt_base.specs.declared.span.SpanPart.{SpanPart}
use Rattle.tt_base.specs.declared.token_tree.TokenTree.{TokenTree}
use Rattle.tt_base.specs.declared.token_tree.TokenTree.TheVariants as token
use Rattle.tt_tables.specs.Searches.{FindsSubtree}
use Rattle.tt_codec.specs.declared.entry.Entry.TheVariants.{Leaf as of_leaf, Header as of_header}
use Rattle.tt_codec.specs.Entry.{entry_at}
use Rattle.tt_base.specs.Forest.{Forest, end, leaf, node, Root, size, header, flat, join}
use Rattle.tt_base.specs.Unflat.{join-end}
use Rattle.tt_codec.specs.declared.entry.HeaderEntry.{HeaderEntry}
use Rattle.tt_codec.specs.Header.{format_4}
use Rattle.tt_codec.specs.declared.entry.LeafEntry.{LeafEntry}
use Rattle.tt_tables.specs.Meaning.{IsStored, CanName, IsAhead}
use Rattle.tt_tables.specs.NextToken.{LeafAhead, NodeAhead, TokenAhead}
use Rattle.tt_codec.specs.SpanNumbers.{span_at}
use Rattle.tt_base.specs.Span.{part_of}
use Rattle.tt_tables.specs.Stored.{bytes, bytes_below, root_bytes, packed}
use Rattle.tt_tables.specs.TableOrder.{IsIn}
use Rattle.tt_tables.specs.Tables.{Tables, Knows, leaf_entry, header_entry, entry_of, token_bytes, tables_for}
use Rattle.tt_tables.specs.Uses.{same_part}
use Rattle.tt_tables.proofs.Finding.{leaf_entry_finds, header_entry_finds, numbers_find, last_but_one, last_of}
use Rattle.tt_codec.proofs.EntryReading.{entry_again}
use Rattle.tt_codec.proofs.HeaderReading.{token_read}
use Rattle.tt_tables.proofs.Lengths.{heavy_length, entry_length}
use Rattle.tt_tables.proofs.Lookups.{index_in-more}
use Rattle.tt_tables.proofs.Naming.{first_leaf_fits, first_header_fits, can_name_behind, can_name_children, can_name_rest, can_name_join, bytes-end, bytes-leaf, bytes-node, bytes-join, with_more, bytes-more}
use Rattle.tt_tables.proofs.StoredAlike.{top_of, length-root_parts, can_name_below, top_again}
use Rattle.tt_tables.proofs.TreesAlike.{reads_alike, fewer_in_node, fewer_behind_leaf}

-- ---- moving on in the bytes

-- The bytes from an offset on are the first of them, and then the others.
drop_first : (all : List ℕ) (offset : ℕ) (first rest : List ℕ) (next : ℕ) → offset ≤ length all → drop offset all ≡ first ++ rest → next + length rest ≡ length all → drop next all ≡ rest
drop_first all offset first rest next inside e moved =
    ap (λ n. drop n all) there ∙ sym (drop-drop (length first) offset all) ∙ ap (drop (length first)) e ∙ drop-append_seam first rest
  where
    there : next ≡ offset + length first
    there = omega (arith, moved, inside, ap length e, length-drop offset all, length-append first rest)

-- Trees whose bytes come after the top's header are ahead.
pub ahead_at : (tables : Tables) (all : List ℕ) (next : ℕ) (trees : Forest) → 33 ≤ next → next ≤ length all → drop next all ≡ bytes tables trees → CanName tables trees
    → length (bytes tables trees) ≤ 4294967295 → IsAhead tables all next trees
ahead_at tables all zero trees top inside e named few = absurd (omega arith)
ahead_at tables all (suc next) trees top inside e named few = record { top = top; inside = inside; left = e; named = named; few = few }

-- ---- the start

known_more : (tables : Tables) (parts : List SpanPart) (symbols : List (List ℕ)) (tokens : List TokenTree) → AllByRecursion (Knows tables) tokens
    → AllByRecursion (Knows (with_more tables parts symbols)) tokens
known_more tables parts symbols [] known = tt
known_more tables parts symbols (it ∷ tokens) known = (
  record {
    parts = all_more (λ x. same_part x) tables.parts parts _ known.0.parts;
    symbols = all_more (λ x. bytes_eq x) tables.symbols symbols _ known.0.symbols;
  },
  known_more tables parts symbols tokens known.1,
)
  where
    all_more : {X : Type 0} (same : X → X → Bool) (xs ys values : List X) → AllByRecursion (IsIn same xs) values → AllByRecursion (IsIn same (xs ++ ys)) values
    all_more same xs ys [] all = tt
    all_more same xs ys (x ∷ values) all =
        (omega (arith, all.0, index_in-more (same x) xs ys all.0, length-append xs ys), all_more same xs ys values all.1)

-- a tree is stored in these bytes, parts and symbols
module _ (tables : Tables) (all : List ℕ) (root : Root)
    (stored : IsStored (record { bytes = all; parts = tables.parts; symbols = tables.symbols; len = suc (size root.children) }) root) where
  abbrev below : Tables
  below = tables_for (flat root.children)

  abbrev top_parts : List SpanPart
  top_parts = part_of root.delimiter.open_span ∷ part_of root.delimiter.close ∷ []

  stored_bytes : all ≡ root_bytes root
  unfolding packed
  stored_bytes = ap (λ s. s.bytes) stored.2

  stored_parts : tables.parts ≡ below.parts ++ top_parts
  unfolding packed
  stored_parts = ap (λ s. s.parts) stored.2

  stored_symbols : tables.symbols ≡ below.symbols
  unfolding packed
  stored_symbols = ap (λ s. s.symbols) stored.2

  -- The tables are those of the trees below the top, with the top's two parts at the end.
  stored_tables : with_more below top_parts [] ≡ tables
  stored_tables = λ i. record { parts = sym stored_parts i; symbols = (append-nil below.symbols ∙ sym stored_symbols) i }

  -- All the tables give the trees below the top the same bytes.
  pub below_bytes : bytes tables root.children ≡ bytes_below root.children
  below_bytes =
      ap (λ t. bytes t root.children) (sym stored_tables) ∙ bytes-more below top_parts [] root.children (can_name_below root stored.0 stored.1).2

  -- All the tables can name the trees below the top.
  pub below_named : CanName tables root.children
  below_named = (
    omega (arith, stored.1.parts, ap length stored_parts),
    omega (arith, stored.1.symbols, ap length stored_symbols),
    subst (λ t. AllByRecursion (Knows t) (flat root.children)) stored_tables
        (known_more below top_parts [] (flat root.children) (can_name_below root stored.0 stored.1).2),
    stored.0.1,
  )

  -- The top's header is read first, and the bytes below the top follow it.
  pub top_read : entry_at all ≡ token_read (of_header (top_of root)) (bytes tables root.children)
  top_read = ap entry_at stored_bytes ∙ top_again root stored.0 stored.1 ∙ ap (token_read (of_header (top_of root))) (sym below_bytes)

  -- The top's two parts are the last two of the table.
  pub top_parts_last : ((top_of root).opening.part + 2 ≡ length tables.parts) × ((top_of root).closing.part + 1 ≡ length tables.parts)
  top_parts_last = (omega (arith, ap length stored_parts, length-root_parts root), omega (arith, ap length stored_parts, length-root_parts root))

  -- There are 33 bytes before those below the top.
  pub top_length : 33 + length (bytes tables root.children) ≡ length all
  top_length =
      omega (arith, ap length stored_bytes, ap length below_bytes, length-append (format_4 true (top_of root)) (bytes_below root.children), heavy_length (top_of root))

  -- The numbers of the top's header find that header: its two parts are the last ones of the table.
  top_finds : FindsSubtree tables (top_of root) (record { delimiter = root.delimiter; len = size root.children })
  top_finds =
      record {
        opening =
            numbers_find tables (length below.parts) root.delimiter.open_span (omega (arith, ap length stored_parts, length-root_parts root))
            (λ other. ap (λ list. get_or list (length below.parts) other) stored_parts ∙ last_but_one below.parts _ _ other);
        closing =
            numbers_find tables (suc (length below.parts)) root.delimiter.close (omega (arith, ap length stored_parts, length-root_parts root))
            (λ other. ap (λ list. get_or list (suc (length below.parts)) other) stored_parts ∙ last_of below.parts _ _ other);
        kind = refl;
        len = refl;
      }

  top_drop : drop 33 all ≡ bytes tables root.children
  top_drop =
      drop_first all 0 (format_4 true (top_of root)) (bytes tables root.children) 33 (omega arith)
      (stored_bytes ∙ ap (λ list. format_4 true (top_of root) ++ list) (sym below_bytes)) top_length

  -- The trees below the top are ahead of offset 33.
  pub below_ahead : IsAhead tables all 33 root.children
  below_ahead =
      ahead_at tables all 33 root.children (omega arith) (omega (arith, top_length)) top_drop below_named (omega (arith, stored.1.bytes, ap length below_bytes))

  top_ahead : NodeAhead tables all 0 (node root.delimiter root.children end) (top_of root) (bytes tables root.children)
  top_ahead =
      record {
        delimiter = root.delimiter;
        children = root.children;
        behind = end;
        is = refl;
        finds = top_finds;
        passed = omega (arith, top_length);
        room = omega (arith, ap length below_bytes);
        inside = λ next moved.
            let there : 33 ≡ next = omega (arith, moved, top_length) in
            subst (λ n. IsAhead tables all n (join root.children end)) there (subst (λ trees. IsAhead tables all 33 trees) (sym (join-end root.children)) below_ahead);
        after = λ next moved.
            let there : length all ≡ next = omega (arith, moved, top_length, ap length below_bytes) in
            subst (λ n. IsAhead tables all n end) there nothing_ahead;
      }
    where
      nothing_ahead : IsAhead tables all (length all) end
      nothing_ahead =
          ahead_at tables all (length all) end (omega (arith, top_length)) (omega arith) (drop-length all ∙ sym (bytes-end tables))
          (below_named.0, below_named.1, tt, tt) (omega (arith, ap length (bytes-end tables)))

-- ---- after the top

module _ (tables : Tables) (all : List ℕ) (offset : ℕ) where
  end_ahead : IsAhead tables all (suc offset) end → length all ≤ suc offset
  end_ahead ahead = omega (arith, ap length (ahead.left ∙ bytes-end tables), length-drop (suc offset) all)

  module _ (it : Leaf) (rest : Forest) (ahead : IsAhead tables all (suc offset) (leaf it rest)) where
    leaf_here : drop (suc offset) all ≡ token_bytes tables (token.Leaf it) 0 ++ bytes tables rest
    leaf_here = ahead.left ∙ bytes-leaf tables it rest

    leaf_read : entry_at (drop (suc offset) all) ≡ token_read (of_leaf (leaf_entry tables it)) (bytes tables rest)
    leaf_read =
        ap entry_at leaf_here ∙ entry_again (entry_of tables (token.Leaf it) 0) (bytes tables rest) (first_leaf_fits tables it rest ahead.named)

    leaf_passed : suc offset + length (bytes tables rest) < length all
    leaf_passed =
        omega (
          arith,
          ahead.inside,
          ap length leaf_here,
          length-drop (suc offset) all,
          length-append (token_bytes tables (token.Leaf it) 0) (bytes tables rest),
          (entry_length (entry_of tables (token.Leaf it) 0)).0,
        )

    leaf_ahead : LeafAhead tables all (suc offset) (leaf it rest) (leaf_entry tables it) (bytes tables rest)
    leaf_ahead =
        record {
          it = it;
          behind = rest;
          is = refl;
          finds = leaf_entry_finds tables it ahead.named.2.0;
          passed = leaf_passed;
          after = λ next moved.
              ahead_at tables all next rest (omega (arith, moved, leaf_passed, ahead.top))
              (omega (arith, moved))
              (drop_first all (suc offset) (token_bytes tables (token.Leaf it) 0) (bytes tables rest) next ahead.inside leaf_here moved)
              (can_name_behind tables it rest ahead.named) (omega (arith, ahead.few, fewer_behind_leaf tables it rest));
        }

  module _ (delimiter : Delimiter) (children rest : Forest) (ahead : IsAhead tables all (suc offset) (node delimiter children rest)) where
    abbrev child_bytes : ℕ
    child_bytes = length (bytes tables children)

    abbrev first : List ℕ
    first = token_bytes tables (header delimiter (size children)) child_bytes

    abbrev subtree : Subtree
    subtree = record { delimiter = delimiter; len = size children }

    node_here : drop (suc offset) all ≡ first ++ (bytes tables children ++ bytes tables rest)
    node_here = ahead.left ∙ bytes-node tables delimiter children rest

    node_read : entry_at (drop (suc offset) all) ≡ token_read (of_header (header_entry tables subtree child_bytes)) (bytes tables children ++ bytes tables rest)
    node_read =
        ap entry_at node_here
        ∙ entry_again (of_header (header_entry tables subtree child_bytes)) (bytes tables children ++ bytes tables rest)
        (first_header_fits tables delimiter children rest ahead.named (omega (arith, ahead.few, (fewer_in_node tables delimiter children rest).0)))

    node_length : suc offset + length first + length (bytes tables children ++ bytes tables rest) ≡ length all
    node_length = omega (arith, ahead.inside, ap length node_here, length-drop (suc offset) all, length-append first (bytes tables children ++ bytes tables rest))

    node_passed : suc offset + length (bytes tables children ++ bytes tables rest) < length all
    node_passed = omega (arith, node_length, (entry_length (entry_of tables (header delimiter (size children)) child_bytes)).0)

    inner_length : length (bytes tables children ++ bytes tables rest) ≡ child_bytes + length (bytes tables rest)
    inner_length = length-append (bytes tables children) (bytes tables rest)

    inside_ahead : (next : ℕ) → next + length (bytes tables children ++ bytes tables rest) ≡ length all → IsAhead tables all next (join children rest)
    inside_ahead next moved =
        ahead_at tables all next (join children rest) (omega (arith, moved, node_passed, ahead.top)) (omega (arith, moved))
        (drop_first all (suc offset) first (bytes tables children ++ bytes tables rest) next ahead.inside node_here moved ∙ sym (bytes-join tables children rest))
        (can_name_join tables children rest (can_name_children tables delimiter children rest ahead.named) (can_name_rest tables delimiter children rest ahead.named))
        (omega (arith, ahead.few, ap length (bytes-join tables children rest), ap length (bytes-node tables delimiter children rest), length-append first (bytes tables children ++ bytes tables rest)))

    behind_ahead : (next : ℕ) → next + length (bytes tables children ++ bytes tables rest) ≡ length all + child_bytes → IsAhead tables all next rest
    behind_ahead next moved =
        ahead_at tables all next rest (omega (arith, moved, node_passed, inner_length, ahead.top)) (omega (arith, moved, inner_length))
        (drop_first all (suc offset) (first ++ bytes tables children) (bytes tables rest) next ahead.inside
        (node_here ∙ sym (append_assoc first (bytes tables children) (bytes tables rest))) (omega (arith, moved, inner_length)))
        (can_name_rest tables delimiter children rest ahead.named) (omega (arith, ahead.few, (fewer_in_node tables delimiter children rest).1))

    node_ahead : NodeAhead tables all (suc offset) (node delimiter children rest) (header_entry tables subtree child_bytes) (bytes tables children ++ bytes tables rest)
    node_ahead =
        record {
          delimiter = delimiter;
          children = children;
          behind = rest;
          is = refl;
          finds = header_entry_finds tables subtree child_bytes ahead.named.2.0;
          passed = node_passed;
          room = omega (arith, inner_length);
          inside = inside_ahead;
          after = behind_ahead;
        }

-- ---- what is read

nothing_read : entry_at [] ≡ None
unfolding entry_at span_at
nothing_read = refl

-- If a token is read at an offset, it is the first one ahead, and the trees after it are ahead of the next offset; otherwise no trees are
-- ahead.
pub ahead_read : (tables : Tables) (all : List ℕ) (offset : ℕ) (trees : Forest) → IsAhead tables all offset trees → TokenAhead tables all offset trees (entry_at (drop offset all))
ahead_read tables all zero end ahead =
    subst (TokenAhead tables all 0 end) (sym (ap entry_at ahead ∙ nothing_read)) (refl, omega (arith, ap length ahead))
ahead_read tables all zero (leaf it rest) ahead = absurd ahead
ahead_read tables all zero (node delimiter children (leaf it rest)) ahead = absurd ahead
ahead_read tables all zero (node delimiter children (node other inner rest)) ahead = absurd ahead
ahead_read tables all zero (node delimiter children end) ahead =
    let root : Root = record { delimiter = delimiter; children = children } in
    subst (TokenAhead tables all 0 (node delimiter children end)) (sym (top_read tables all root ahead)) (top_ahead tables all root ahead)
ahead_read tables all (suc offset) end ahead =
    subst (TokenAhead tables all (suc offset) end) (sym (ap entry_at (drop_all (suc offset) all (end_ahead tables all offset ahead)) ∙ nothing_read)) (refl, end_ahead tables all offset ahead)
ahead_read tables all (suc offset) (leaf it rest) ahead =
    subst (TokenAhead tables all (suc offset) (leaf it rest)) (sym (leaf_read tables all offset it rest ahead)) (leaf_ahead tables all offset it rest ahead)
ahead_read tables all (suc offset) (node delimiter children rest) ahead =
    subst (TokenAhead tables all (suc offset) (node delimiter children rest)) (sym (node_read tables all offset delimiter children rest ahead)) (node_ahead tables all offset delimiter children rest ahead)

-- If no bytes are left, no trees are ahead.
pub none_ahead : (tables : Tables) (all : List ℕ) (offset : ℕ) (trees : Forest) → IsAhead tables all offset trees → length all ≤ offset → trees ≡ end
none_ahead tables all offset trees ahead passed =
    let read : TokenAhead tables all offset trees None =
    subst (TokenAhead tables all offset trees) (ap entry_at (drop_all offset all passed) ∙ nothing_read) (ahead_read tables all offset trees ahead) in
    read.0

-- If no trees are ahead, no bytes are left.
pub end_is_passed : (tables : Tables) (all : List ℕ) (offset : ℕ) → IsAhead tables all offset end → length all ≤ offset
end_is_passed tables all zero ahead = omega (arith, ap length ahead)
end_is_passed tables all (suc offset) ahead = end_ahead tables all offset ahead

-- A leaf that is read at an offset is ahead of it.
pub leaf_is_ahead : (tables : Tables) (all : List ℕ) (offset : ℕ) (trees : Forest) (entry : LeafEntry) (rest : List ℕ) → IsAhead tables all offset trees
    → entry_at (drop offset all) ≡ token_read (of_leaf entry) rest → LeafAhead tables all offset trees entry rest
leaf_is_ahead tables all offset trees entry rest ahead e = subst (TokenAhead tables all offset trees) e (ahead_read tables all offset trees ahead)

-- A header that is read at an offset is ahead of it, with its children.
pub node_is_ahead : (tables : Tables) (all : List ℕ) (offset : ℕ) (trees : Forest) (entry : HeaderEntry) (rest : List ℕ) → IsAhead tables all offset trees
    → entry_at (drop offset all) ≡ token_read (of_header entry) rest → NodeAhead tables all offset trees entry rest
node_is_ahead tables all offset trees entry rest ahead e = subst (TokenAhead tables all offset trees) e (ahead_read tables all offset trees ahead)

-- A header that is read at the start names the last two parts of the table.
pub start_parts_last : (tables : Tables) (all : List ℕ) (trees : Forest) (entry : HeaderEntry) (rest : List ℕ) → IsAhead tables all 0 trees
    → entry_at all ≡ token_read (of_header entry) rest → (entry.opening.part + 2 ≡ length tables.parts) × (entry.closing.part + 1 ≡ length tables.parts)
start_parts_last tables all end entry rest ahead e = cc (sym e ∙ ap entry_at ahead ∙ nothing_read)
start_parts_last tables all (leaf it others) entry rest ahead e = absurd ahead
start_parts_last tables all (node delimiter children (leaf it others)) entry rest ahead e = absurd ahead
start_parts_last tables all (node delimiter children (node other inner others)) entry rest ahead e = absurd ahead
start_parts_last tables all (node delimiter children end) entry rest ahead e =
    let root : Root = record { delimiter = delimiter; children = children } in
    let same : of_header (top_of root) ≡ of_header entry =
    (reads_alike (of_header (top_of root)) (of_header entry) (bytes tables children) rest (sym (top_read tables all root ahead) ∙ e)).0 in
    let entries : top_of root ≡ entry = cc same in
    let last = top_parts_last tables all root ahead in
    (ap (λ it. it.opening.part + 2) (sym entries) ∙ last.0, ap (λ it. it.closing.part + 1) (sym entries) ∙ last.1)

-- If no token is read, no trees are ahead.
pub none_read : (tables : Tables) (all : List ℕ) (offset : ℕ) (trees : Forest) → IsAhead tables all offset trees
    → entry_at (drop offset all) ≡ None → (trees ≡ end) × (length all ≤ offset)
none_read tables all offset trees ahead e = subst (TokenAhead tables all offset trees) e (ahead_read tables all offset trees ahead)
