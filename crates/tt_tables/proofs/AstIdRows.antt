-- The new ids of small trees.
use Rattle.std.proofs.Common.{◌≡◌, ℕ, [], ◌∷◌, get_or, refl, ap, le-add_right, arith}
use Rattle.std.proofs.lemmas.Bool.{true≢false}
use Rattle.std.specs.List.{IsDistinct}
use Rattle.tt_base.specs.declared.delimiter.DelimiterKind.TheVariants.{Parenthesis}
use Rattle.tt_base.specs.declared.leaf.Leaf.{Leaf}
use Rattle.tt_base.specs.declared.leaf.Leaf.TheVariants as leaf_of
use Rattle.tt_base.specs.declared.punct.Spacing.TheVariants.{Alone}
use Rattle.tt_base.specs.declared.span.Span.{Span}
use Rattle.tt_base.specs.Token.{delimiter}
use Rattle.tt_base.specs.Forest.{end, leaf, Root}
use Rattle.tt_codec.specs.SpanNumbers.{span_bytes}
use Rattle.tt_tables.specs.AstIds.{stored_ids, ids_changed, KeepApart}
use Rattle.tt_tables.specs.Stored.{bytes, packed}
use Rattle.tt_tables.specs.TableOrder.{table}

-- a span of an id, at 0..1
abbrev of_id : ℕ → Span
of_id id =
    record {
      range = record { start = record { raw = 0 }; end = record { raw = 1 }; ordered = le-add_right 0 1 };
      anchor = record { file_id = record { 0 = 0 }; ast_id = record { 0 = id } };
      ctx = record { 0 = 0 };
    }

-- ; of an id
abbrev semicolon : ℕ → Leaf
semicolon id = leaf_of.Punct (record { char = 59; spacing = Alone; span = of_id id })

-- a parenthesis of the ids 5 and 6 over ; of the id 7
three_parts : Root
three_parts = record { delimiter = delimiter Parenthesis (of_id 5) (of_id 6); children = leaf (semicolon 7) end }

asked : stored_ids three_parts ≡ record { 0 = 7 } ∷ record { 0 = 5 } ∷ record { 0 = 6 } ∷ []
unfolding three_parts table
asked = refl

one_id : ids_changed (record { 0 = 1 } ∷ []) three_parts ≡ record { delimiter = delimiter Parenthesis (of_id 5) (of_id 6); children = leaf (semicolon 1) end }
unfolding three_parts table
one_id = refl

three_ids : stored_ids (ids_changed (record { 0 = 9 } ∷ record { 0 = 9 } ∷ record { 0 = 9 } ∷ []) (ids_changed (record { 0 = 1 } ∷ []) three_parts))
    ≡ record { 0 = 9 } ∷ record { 0 = 9 } ∷ record { 0 = 9 } ∷ []
unfolding three_parts table
three_ids = refl

-- two parts below the top that differ only in their ids, and a top with the same parts
two_parts : Root
two_parts = record { delimiter = delimiter Parenthesis (of_id 3) (of_id 4); children = leaf (semicolon 1) (leaf (semicolon 2) end) }

-- all parts become equal
all_one : stored_ids (ids_changed (record { 0 = 0 } ∷ record { 0 = 0 } ∷ record { 0 = 0 } ∷ record { 0 = 0 } ∷ []) two_parts)
    ≡ record { 0 = 0 } ∷ record { 0 = 0 } ∷ record { 0 = 0 } ∷ []
unfolding two_parts table
all_one = refl

-- each part takes its own id
exchanged : ids_changed (record { 0 = 2 } ∷ record { 0 = 1 } ∷ record { 0 = 4 } ∷ record { 0 = 3 } ∷ []) two_parts
    ≡ record { delimiter = delimiter Parenthesis (of_id 4) (of_id 3); children = leaf (semicolon 2) (leaf (semicolon 1) end) }
unfolding two_parts table
exchanged = refl

-- all entries stay different
stays_apart : KeepApart (record { 0 = 2 } ∷ record { 0 = 1 } ∷ record { 0 = 4 } ∷ record { 0 = 3 } ∷ []) two_parts
unfolding two_parts table IsDistinct
stays_apart = ((refl, tt), (tt, tt))

-- the bytes stay
same_bytes : (packed (ids_changed (record { 0 = 2 } ∷ record { 0 = 1 } ∷ record { 0 = 4 } ∷ record { 0 = 3 } ∷ []) two_parts)).bytes ≡ (packed two_parts).bytes
unfolding two_parts table packed bytes span_bytes
same_bytes = refl

-- if all become equal, they are not different
becomes_one : KeepApart (record { 0 = 0 } ∷ record { 0 = 0 } ∷ record { 0 = 0 } ∷ record { 0 = 0 } ∷ []) two_parts → ⊥
unfolding two_parts table IsDistinct
becomes_one apart = true≢false apart.0.0

-- and then the second names the first entry
other_bytes : ((packed (ids_changed (record { 0 = 0 } ∷ record { 0 = 0 } ∷ record { 0 = 0 } ∷ record { 0 = 0 } ∷ []) two_parts)).bytes ≡ (packed two_parts).bytes) → ⊥
unfolding two_parts table packed bytes span_bytes
other_bytes same = absurd (omega (arith, index))
  where
    index : ◌≡◌ {A = ℕ} 65 69
    index = ap (λ l. get_or l 38 0) same
