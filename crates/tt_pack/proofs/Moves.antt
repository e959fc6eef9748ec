-- The offset of a reader after a move, and the trees ahead of it.
use Rattle.std.proofs.Common.{◌≡◌, ◌⊎◌, inl, inr, ℕ, zero, suc, ◌<◌, ◌≤◌, ◌↔◌, List, length, drop, None, refl, ap, sym, subst, ◌∙◌, arith}
use Rattle.std.proofs.lemmas.List.{drop_all}
use Rattle.tt_base.specs.declared.delimiter.Delimiter.{Delimiter}
use Rattle.tt_base.specs.declared.leaf.Leaf.{Leaf}
use Rattle.tt_base.specs.declared.span.SpanPart.{SpanPart}
use Rattle.tt_base.specs.Fits.{LeafInRange, TokenInRange}
use Rattle.tt_base.specs.Forest.{Forest, Root, end, leaf, node, only, size, header}
use Rattle.tt_tables.specs.Stored.{most_parts, most_symbols, bytes, packed, IsInRange, IsWithinLimits}
use Rattle.tt_tables.specs.Meaning.{IsAhead}
use Rattle.tt_base.specs.Moves.{first_token, step_after}
use Rattle.tt_tables.specs.Tables.{Tables, tables_from}
use Rattle.tt_tables.proofs.Ahead.{none_ahead, end_is_passed, below_ahead}
use Rattle.tt_tables.proofs.Naming.{bytes-end}
use Rattle.tt_tables.proofs.StoredAlike.{ahead_is}
use Rattle.tt_pack.specs.declared.reader.Reader.{Reader}
use Rattle.tt_pack.specs.StoredIn.{bytes_for, tables_stored}
use Rattle.tt_pack.specs.ReaderOf.{ahead_of, tables_of, bytes_of, offset_of, steps_of, ReadsSame, StepsTo}

-- A reader's offset is in the bytes, or at their end.
pub inside : (tables : Tables) (all : List ℕ) (offset : ℕ) (trees : Forest) → IsAhead tables all offset trees → offset ≤ length all
inside tables all zero trees ahead = omega arith
inside tables all (suc offset) trees ahead = ahead.inside

-- No reader's offset is inside the top's header.
pub outside_top : (tables : Tables) (all : List ℕ) (offset : ℕ) (trees : Forest) → IsAhead tables all offset trees → (offset ≡ 0) ⊎ (33 ≤ offset)
outside_top tables all zero trees ahead = inl refl
outside_top tables all (suc offset) trees ahead = inr ahead.top

none_first : (trees : Forest) → first_token trees ≡ None → trees ≡ end
none_first end e = refl
none_first (leaf it rest) e = cc e
none_first (node delimiter children rest) e = cc e

module _ (tables : Tables) (all : List ℕ) (offset : ℕ) (trees : Forest) where
  -- There is no first token exactly if all bytes are before the offset.
  pub ends : IsAhead tables all offset trees → (first_token trees ≡ None) ↔ (length all ≤ offset)
  ends ahead = (
    λ none. end_is_passed tables all offset (subst (IsAhead tables all offset) (none_first trees none) ahead),
    λ passed. ap first_token (none_ahead tables all offset trees ahead passed),
  )

-- After the start, the bytes of the trees ahead are left.
left_ahead : (tables : Tables) (all : List ℕ) (offset : ℕ) (trees : Forest) → 0 < offset → IsAhead tables all offset trees → drop offset all ≡ bytes tables trees
left_ahead tables all zero trees passed ahead = absurd (omega arith)
left_ahead tables all (suc offset) trees passed ahead = ahead.left

-- A step leads to the offset that has the trees ahead.
pub steps_to : (old new : Reader) (trees : Forest) → 0 < offset_of new → IsAhead (tables_of new) (bytes_of new) (offset_of new) trees
    → ReadsSame new old → steps_of new ≡ step_after (steps_of old) (ahead_of old) → StepsTo old trees new
steps_to old new trees passed is same steps =
    record {
      ahead = ahead_is (tables_of new) (bytes_of new) (offset_of new) new.ahead trees is;
      same = same;
      inside = inside (tables_of new) (bytes_of new) (offset_of new) trees is;
      left = left_ahead (tables_of new) (bytes_of new) (offset_of new) trees passed is;
      steps = steps;
    }

-- If no trees are ahead, a reader stays.
pub stays : (reader : Reader) (trees : Forest) → ahead_of reader ≡ end → trees ≡ end → StepsTo reader trees reader
stays reader trees nothing none =
    record {
      ahead = nothing ∙ sym none;
      same = (refl, refl);
      inside = inside (tables_of reader) (bytes_of reader) (offset_of reader) (ahead_of reader) reader.ahead.1;
      left = drop_all (offset_of reader) (bytes_of reader) passed ∙ sym (bytes-end (tables_of reader)) ∙ ap (bytes (tables_of reader)) (sym none);
      steps = ap (step_after (steps_of reader)) (sym nothing);
    }
  where
    passed : length (bytes_of reader) ≤ offset_of reader
    passed =
        end_is_passed (tables_of reader) (bytes_of reader) (offset_of reader)
        (subst (IsAhead (tables_of reader) (bytes_of reader) (offset_of reader)) nothing reader.ahead.1)

-- a table whose indices can be written
pub record HasFewEntries (tables : Tables) : Type 0 where
  pub parts : length tables.parts ≤ most_parts
  pub symbols : length tables.symbols ≤ most_symbols

-- The numbers of a leaf ahead are in range, and the tables have few entries.
pub leaf_in_range_ahead : (tables : Tables) (all : List ℕ) (offset : ℕ) (it : Leaf) (rest : Forest) → IsAhead tables all offset (leaf it rest)
    → LeafInRange it × HasFewEntries tables
leaf_in_range_ahead tables all zero it rest ahead = absurd ahead
leaf_in_range_ahead tables all (suc offset) it rest ahead =
    (ahead.named.3.0, record { parts = ahead.named.0; symbols = ahead.named.1 })

-- The same for a header.
pub node_in_range_ahead : (tables : Tables) (all : List ℕ) (offset : ℕ) (delimiter : Delimiter) (children rest : Forest)
    → IsAhead tables all offset (node delimiter children rest) → TokenInRange (header delimiter (size children)) × HasFewEntries tables
unfolding packed
node_in_range_ahead tables all zero delimiter children end ahead = (
  ahead.0.0,
  record {
    parts = omega (arith, ap (λ s. length s.parts) ahead.2, ahead.1.parts);
    symbols = omega (arith, ap (λ s. length s.symbols) ahead.2, ahead.1.symbols);
  },
)
node_in_range_ahead tables all zero delimiter children (leaf it rest) ahead = absurd ahead
node_in_range_ahead tables all zero delimiter children (node other inner rest) ahead = absurd ahead
node_in_range_ahead tables all (suc offset) delimiter children rest ahead =
    (ahead.named.3.0, record { parts = ahead.named.0; symbols = ahead.named.1 })

-- A stored tree is ahead at the start.
pub start_is_ahead : (root : Root) (all : List ℕ) (parts : List SpanPart) (symbols : List (List ℕ)) → IsInRange root → IsWithinLimits root
    → all ≡ (packed root).bytes → parts ≡ (packed root).parts → symbols ≡ (packed root).symbols → IsAhead (tables_from parts symbols) all 0 (only root)
unfolding packed
start_is_ahead root all parts symbols range limits e f g = (
  range,
  limits,
  λ i. record { bytes = e i; parts = f i; symbols = g i; len = suc (size root.children) },
)

-- The trees below the top of a stored tree are ahead after its header.
pub below_is_ahead : (root : Root) → IsInRange root → IsWithinLimits root → IsAhead (tables_stored root) (bytes_for root) 33 root.children
below_is_ahead root range limits =
    below_ahead (tables_stored root) (bytes_for root) root (start_is_ahead root (bytes_for root) _ _ range limits refl refl refl)
