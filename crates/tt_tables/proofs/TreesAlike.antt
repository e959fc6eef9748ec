-- Trees with the same bytes under the same tables are the same trees.
use Rattle.std.proofs.Common.{◌≡◌, ℕ, ◌+◌, ◌^◌, ◌<◌, ◌≤◌, List, [], ◌++◌, length, take, drop, Some, None, length-append, refl, ap, ap₂, sym, ◌∙◌, arith}
use Rattle.std.proofs.Math.Seq.{take-append_seam, drop-append_seam}
use Rattle.tt_base.specs.declared.delimiter.Delimiter.{Delimiter}
use Rattle.tt_base.specs.declared.delimiter.Subtree.{Subtree}
use Rattle.tt_base.specs.declared.leaf.Leaf.{Leaf}
use Rattle.tt_base.specs.declared.token_tree.TokenTree.TheVariants as token
use Rattle.tt_codec.specs.declared.entry.Entry.{Entry}
use Rattle.tt_codec.specs.Entry.{EntryFits, entry_bytes, entry_at}
use Rattle.tt_base.specs.Forest.{Forest, end, leaf, node, size, header}
use Rattle.tt_tables.specs.Meaning.{CanName}
use Rattle.tt_codec.specs.Read.{Read}
use Rattle.tt_tables.specs.Stored.{bytes}
use Rattle.tt_tables.specs.Tables.{Tables, header_entry, entry_of, token_bytes}
use Rattle.tt_codec.proofs.EntryReading.{entry_again}
use Rattle.tt_codec.proofs.HeaderReading.{token_read}
use Rattle.tt_tables.proofs.Lengths.{entry_length}
use Rattle.tt_tables.proofs.Lookups.{leaf_is, subtree_is}
use Rattle.tt_tables.proofs.Naming.{first_leaf_fits, first_header_fits, can_name_behind, can_name_children, can_name_rest, bytes-end, bytes-leaf, bytes-node}

-- the token that was read, or `it`
token_of : Entry → Read Entry → Entry
token_of it read = elim read [ None ↦ it | Some found ↦ found.0 ]

-- the bytes after it
behind_of : Read Entry → List ℕ
behind_of read = elim read [ None ↦ [] | Some found ↦ found.1 ]

-- A token is read in only one way.
pub reads_alike : (a b : Entry) (x y : List ℕ) → token_read a x ≡ token_read b y → (a ≡ b) × (x ≡ y)
unfolding token_of behind_of
reads_alike a b x y e = (ap (token_of a) e, ap behind_of e)

-- Bytes that begin with two tokens begin with the same token, and the same bytes follow it.
pub entries_alike : (a b : Entry) (x y : List ℕ) → EntryFits a → EntryFits b → entry_bytes a ++ x ≡ entry_bytes b ++ y → (a ≡ b) × (x ≡ y)
entries_alike a b x y fits_a fits_b e = reads_alike a b x y (sym (entry_again a x fits_a) ∙ ap entry_at e ∙ entry_again b y fits_b)

-- Equal lists have equal first n items and equal items after them.
pub seam : {X : Type 0} (a b c d : List X) → length a ≡ length c → a ++ b ≡ c ++ d → (a ≡ c) × (b ≡ d)
seam a b c d long e = (
  sym (take-append_seam a b) ∙ ap₂ take long e ∙ take-append_seam c d,
  sym (drop-append_seam a b) ∙ ap₂ drop long e ∙ drop-append_seam c d,
)

no_token : (it : Entry) (behind : List ℕ) → [] ≡ entry_bytes it ++ behind → ⊥
no_token it behind e = omega (arith, ap length e, length-append (entry_bytes it) behind, (entry_length it).0)

-- The bytes in a node, and those after it, are fewer than all.
pub fewer_in_node : (tables : Tables) (delimiter : Delimiter) (children rest : Forest)
    → (length (bytes tables children) ≤ length (bytes tables (node delimiter children rest))) × (length (bytes tables rest) ≤ length (bytes tables (node delimiter children rest)))
fewer_in_node tables delimiter children rest = (omega (arith, lengths), omega (arith, lengths))
  where
    child_bytes : ℕ
    child_bytes = length (bytes tables children)

    lengths : length (bytes tables (node delimiter children rest)) ≡ length (token_bytes tables (header delimiter (size children)) child_bytes) + (child_bytes + length (bytes tables rest))
    lengths =
        omega (
          arith,
          ap length (bytes-node tables delimiter children rest),
          length-append (token_bytes tables (header delimiter (size children)) child_bytes) (bytes tables children ++ bytes tables rest),
          length-append (bytes tables children) (bytes tables rest),
        )

-- The bytes after a leaf are fewer than all.
pub fewer_behind_leaf : (tables : Tables) (it : Leaf) (rest : Forest) → length (bytes tables rest) ≤ length (bytes tables (leaf it rest))
fewer_behind_leaf tables it rest =
    omega (arith, ap length (bytes-leaf tables it rest), length-append (token_bytes tables (token.Leaf it) 0) (bytes tables rest))

module _ (tables : Tables) where
  abbrev header_of : Delimiter → Forest → Entry
  header_of delimiter children = entry_of tables (header delimiter (size children)) (length (bytes tables children))

  leaf_first : (it other : Leaf) (rest others : Forest) → CanName tables (leaf it rest) → CanName tables (leaf other others)
      → bytes tables (leaf it rest) ≡ bytes tables (leaf other others) → (it ≡ other) × (bytes tables rest ≡ bytes tables others)
  leaf_first it other rest others named named_others e = (leaf_is tables it other named.2.0 (cc firsts.0), firsts.1)
    where
      firsts : (entry_of tables (token.Leaf it) 0 ≡ entry_of tables (token.Leaf other) 0) × (bytes tables rest ≡ bytes tables others)
      firsts =
          entries_alike (entry_of tables (token.Leaf it) 0) (entry_of tables (token.Leaf other) 0) (bytes tables rest) (bytes tables others)
          (first_leaf_fits tables it rest named) (first_leaf_fits tables other others named_others)
          (sym (bytes-leaf tables it rest) ∙ e ∙ bytes-leaf tables other others)

  node_first : (delimiter other : Delimiter) (children inner rest others : Forest) → CanName tables (node delimiter children rest) → CanName tables (node other inner others)
      → length (bytes tables children) < 2 ^ 32 → length (bytes tables inner) < 2 ^ 32
      → bytes tables (node delimiter children rest) ≡ bytes tables (node other inner others)
      → (delimiter ≡ other) × (bytes tables children ≡ bytes tables inner) × (bytes tables rest ≡ bytes tables others)
  node_first delimiter other children inner rest others named named_others few few_other e =
      let (below, behind) = seam (bytes tables children) (bytes tables rest) (bytes tables inner) (bytes tables others) (ap (λ it. it.child_bytes) entries) firsts.1 in
      (ap (λ s. s.delimiter) (subtree_is tables subtree subtree_other child_bytes held_other named.2.0 entries), below, behind)
    where
      child_bytes : ℕ
      child_bytes = length (bytes tables children)

      held_other : ℕ
      held_other = length (bytes tables inner)

      subtree : Subtree
      subtree = record { delimiter = delimiter; len = size children }

      subtree_other : Subtree
      subtree_other = record { delimiter = other; len = size inner }

      firsts : (header_of delimiter children ≡ header_of other inner) × (bytes tables children ++ bytes tables rest ≡ bytes tables inner ++ bytes tables others)
      firsts =
          entries_alike (header_of delimiter children) (header_of other inner) (bytes tables children ++ bytes tables rest) (bytes tables inner ++ bytes tables others)
          (first_header_fits tables delimiter children rest named few) (first_header_fits tables other inner others named_others few_other)
          (sym (bytes-node tables delimiter children rest) ∙ e ∙ bytes-node tables other inner others)

      entries : header_entry tables subtree child_bytes ≡ header_entry tables subtree_other held_other
      entries = cc firsts.0

  no_leaf_is_node : (it : Leaf) (delimiter : Delimiter) (rest children others : Forest) → CanName tables (leaf it rest) → CanName tables (node delimiter children others)
      → length (bytes tables children) < 2 ^ 32 → bytes tables (leaf it rest) ≡ bytes tables (node delimiter children others) → ⊥
  no_leaf_is_node it delimiter rest children others named named_others few e = cc firsts
    where
      firsts : entry_of tables (token.Leaf it) 0 ≡ header_of delimiter children
      firsts =
          (entries_alike (entry_of tables (token.Leaf it) 0) (header_of delimiter children) (bytes tables rest) (bytes tables children ++ bytes tables others)
          (first_leaf_fits tables it rest named) (first_header_fits tables delimiter children others named_others few)
          (sym (bytes-leaf tables it rest) ∙ e ∙ bytes-node tables delimiter children others)).0

  end_is_no_leaf : (it : Leaf) (rest : Forest) → bytes tables end ≡ bytes tables (leaf it rest) → ⊥
  end_is_no_leaf it rest e =
      no_token (entry_of tables (token.Leaf it) 0) (bytes tables rest) (sym (bytes-end tables) ∙ e ∙ bytes-leaf tables it rest)

  end_is_no_node : (delimiter : Delimiter) (children rest : Forest) → bytes tables end ≡ bytes tables (node delimiter children rest) → ⊥
  end_is_no_node delimiter children rest e =
      no_token (header_of delimiter children) (bytes tables children ++ bytes tables rest) (sym (bytes-end tables) ∙ e ∙ bytes-node tables delimiter children rest)

-- Trees with the same bytes are equal.
pub trees_alike : (tables : Tables) (f g : Forest) → CanName tables f → CanName tables g → length (bytes tables f) < 2 ^ 32 → bytes tables f ≡ bytes tables g → f ≡ g
trees_alike tables end end named named_others few e = refl
trees_alike tables end (leaf it rest) named named_others few e = absurd (end_is_no_leaf tables it rest e)
trees_alike tables end (node delimiter children rest) named named_others few e = absurd (end_is_no_node tables delimiter children rest e)
trees_alike tables (leaf it rest) end named named_others few e = absurd (end_is_no_leaf tables it rest (sym e))
trees_alike tables (node delimiter children rest) end named named_others few e = absurd (end_is_no_node tables delimiter children rest (sym e))
trees_alike tables (leaf it rest) (leaf other others) named named_others few e =
    let (same, behind) = leaf_first tables it other rest others named named_others e in
    ap₂ leaf same
    (trees_alike tables rest others (can_name_behind tables it rest named) (can_name_behind tables other others named_others) (omega (arith, few, fewer_behind_leaf tables it rest)) behind)
trees_alike tables (leaf it rest) (node delimiter children others) named named_others few e =
    absurd
    (no_leaf_is_node tables it delimiter rest children others named named_others
    (omega (arith, few, ap length e, (fewer_in_node tables delimiter children others).0)) e)
trees_alike tables (node delimiter children rest) (leaf it others) named named_others few e =
    absurd
    (no_leaf_is_node tables it delimiter others children rest named_others named
    (omega (arith, few, (fewer_in_node tables delimiter children rest).0)) (sym e))
trees_alike tables (node delimiter children rest) (node other inner others) named named_others few e =
    let few_below : length (bytes tables children) < 2 ^ 32 = omega (arith, few, (fewer_in_node tables delimiter children rest).0) in
    let few_inner : length (bytes tables inner) < 2 ^ 32 = omega (arith, few, ap length e, (fewer_in_node tables other inner others).0) in
    let (same, below, behind) = node_first tables delimiter other children inner rest others named named_others few_below few_inner e in
    let all_below : children ≡ inner =
    trees_alike tables children inner (can_name_children tables delimiter children rest named) (can_name_children tables other inner others named_others) few_below below in
    let all_behind : rest ≡ others =
    trees_alike tables rest others (can_name_rest tables delimiter children rest named) (can_name_rest tables other inner others named_others)
    (omega (arith, few, (fewer_in_node tables delimiter children rest).1)) behind in
    λ i. node (same i) (all_below i) (all_behind i)
