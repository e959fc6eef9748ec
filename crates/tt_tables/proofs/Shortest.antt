-- The format of a header is the shortest that can hold it.
use Rattle.std.proofs.Common.{◌≡◌, ℕ, ◌+◌, ◌*◌, ◌/◌, ◌%◌, ◌≤◌, Bool, true, false, cond, ◌&&◌, ◌==◌, nat_le, inl, inr, List, ◌∷◌, ◌++◌, length, drop, length-append, refl, ap, sym, subst, ◌∙◌, arith}
use Rattle.std.proofs.Math.Seq.{drop-append_seam}
use Rattle.std.proofs.lemmas.Bool.{true≢false}
use Rattle.tt_codec.specs.declared.entry.Entry.{Entry}
use Rattle.tt_codec.specs.declared.entry.Entry.TheVariants.{Leaf as of_leaf, Header as of_header}
use Rattle.tt_codec.specs.Entry.{entry_bytes}
use Rattle.tt_base.specs.Forest.{Forest, end, leaf, node, Root, size, header, flat}
use Rattle.tt_codec.specs.declared.entry.HeaderEntry.{HeaderEntry}
use Rattle.tt_codec.specs.Kinds.{delimiter_number}
use Rattle.tt_codec.specs.Header.{distance, has_format_1, has_format_2, has_format_3, format_1, format_2, format_3, format_4, header_bytes, top_entry}
use Rattle.tt_tables.specs.Shortest.{CanHold, IsShortest, IsShortestToken, HasShortestHeaders}
use Rattle.tt_codec.specs.declared.span.SpanNumbers.{SpanNumbers}
use Rattle.tt_codec.specs.SpanNumbers.{part_rest, length_rest, start_rest, fits_one_word, fits_two_words, light_span, middle_span, heavy_span, span_bytes, word}
use Rattle.tt_tables.specs.Stored.{bytes, bytes_below, packed}
use Rattle.tt_tables.specs.Tables.{Tables, entry_of, token_bytes, tables_for}
use Rattle.tt_codec.proofs.HeaderReading.{format_1_facts}
use Rattle.tt_tables.proofs.Lengths.{heavy_length}

-- the number of bytes of a span, by its rests
abbrev span_count : (part length start : ℕ) → ℕ
span_count part length start =
    cond (part == 0 && length == 0 && start == 0) 4 (cond (nat_le part 2047 && nat_le length 1023 && nat_le start 1023) 8 12)

span_counted : (numbers : SpanNumbers) → length (span_bytes false 0 numbers) ≡ span_count (part_rest numbers) (length_rest numbers) (start_rest numbers)
unfolding span_bytes
span_counted numbers = by_form (fits_one_word numbers) (fits_two_words numbers)
  where
    by_form : (one two : Bool) → length (cond one (light_span 0 numbers) (cond two (middle_span 0 numbers) (heavy_span 0 numbers))) ≡ cond one 4 (cond two 8 12)
    by_form true two = refl
    by_form false true = refl
    by_form false false = refl

module _ (it : HeaderEntry) where
  -- the number of bytes of the open span
  abbrev opening : ℕ
  opening = length (span_bytes false 0 it.opening)

  count_1 : has_format_1 it ≡ true → length (format_1 it) ≡ opening + 3
  count_1 e = length-append (span_bytes false 0 near) _ ∙ ap (λ n. n + 3) as_long
    where
      near : SpanNumbers
      near = record { part = it.opening.part; start = it.opening.start; length = distance it % 256 }

      no_rest : distance it % 256 / 256 ≡ it.opening.length / 256
      no_rest = omega (arith, (format_1_facts it e).1)

      as_long : length (span_bytes false 0 near) ≡ opening
      as_long = span_counted near ∙ ap (λ n. span_count (part_rest it.opening) n (start_rest it.opening)) no_rest ∙ sym (span_counted it.opening)

  count_2 : length (format_2 it) ≡ opening + 3
  count_2 = length-append (span_bytes false 0 it.opening) _

  count_3 : length (format_3 it) ≡ opening + 5
  count_3 = length-append (span_bytes false 0 it.opening) _

  count_4 : opening + 9 ≤ length (format_4 false it)
  count_4 =
      omega (
        arith,
        length-append ((span_bytes false 0 it.opening ++ (5 + delimiter_number it.kind * 8) ∷ span_bytes false 0 it.closing) ++ word it.len) (word it.child_bytes),
        length-append (span_bytes false 0 it.opening ++ (5 + delimiter_number it.kind * 8) ∷ span_bytes false 0 it.closing) (word it.len),
        length-append (span_bytes false 0 it.opening) ((5 + delimiter_number it.kind * 8) ∷ span_bytes false 0 it.closing),
      )

  -- Bytes that can hold the header are the shortest if they are no longer than each format that can.
  no_longer : (bytes : List ℕ) → CanHold it bytes → (has_format_1 it ≡ true → length bytes ≤ length (format_1 it)) → (has_format_2 it ≡ true → length bytes ≤ length (format_2 it))
      → (has_format_3 it ≡ true → length bytes ≤ length (format_3 it)) → length bytes ≤ length (format_4 false it) → IsShortest it bytes
  no_longer bytes can one two three four = (can, than)
    where
      than : (other : List ℕ) → CanHold it other → length bytes ≤ length other
      than other (inl h) = omega (arith, one h.0, ap length h.1)
      than other (inr (inl h)) = omega (arith, two h.0, ap length h.1)
      than other (inr (inr (inl h))) = omega (arith, three h.0, ap length h.1)
      than other (inr (inr (inr h))) = omega (arith, four, ap length h)

  -- The format of the header is the shortest that can hold it.
  pub shortest : IsShortest it (header_bytes it)
  unfolding header_bytes
  shortest = by_form (has_format_1 it) refl (has_format_2 it) refl (has_format_3 it) refl
    where
      by_form : (one : Bool) → has_format_1 it ≡ one → (two : Bool) → has_format_2 it ≡ two → (three : Bool) → has_format_3 it ≡ three
          → IsShortest it (cond one (format_1 it) (cond two (format_2 it) (cond three (format_3 it) (format_4 false it))))
      by_form true e two f three g =
          no_longer (format_1 it) (inl (e, refl)) (λ _. omega arith) (λ _. omega (arith, count_1 e, count_2)) (λ _. omega (arith, count_1 e, count_3)) (omega (arith, count_1 e, count_4))
      by_form false e true f three g =
          no_longer (format_2 it) (inr (inl (f, refl))) (λ t. absurd (true≢false (sym t ∙ e))) (λ _. omega arith) (λ _. omega (arith, count_2, count_3)) (omega (arith, count_2, count_4))
      by_form false e false f true g =
          no_longer (format_3 it) (inr (inr (inl (g, refl)))) (λ t. absurd (true≢false (sym t ∙ e))) (λ t. absurd (true≢false (sym t ∙ f))) (λ _. omega arith) (omega (arith, count_3, count_4))
      by_form false e false f false g =
          no_longer (format_4 false it) (inr (inr (inr refl))) (λ t. absurd (true≢false (sym t ∙ e))) (λ t. absurd (true≢false (sym t ∙ f))) (λ t. absurd (true≢false (sym t ∙ g))) (omega arith)

-- A token that is a header has the shortest format that can hold it.
pub shortest_token : (it : Entry) → IsShortestToken it (entry_bytes it)
shortest_token (of_leaf it) = tt
shortest_token (of_header it) = shortest it

-- In the bytes of trees each header has its shortest bytes.
pub shortest_headers : (tables : Tables) (trees : Forest) → HasShortestHeaders tables trees (bytes tables trees)
unfolding bytes
shortest_headers tables end = refl
shortest_headers tables (leaf it rest) = (bytes tables rest, refl, shortest_headers tables rest)
shortest_headers tables (node delimiter children rest) = (
  token_bytes tables (header delimiter (size children)) (length (bytes tables children)),
  bytes tables children,
  bytes tables rest,
  refl,
  shortest_token (entry_of tables (header delimiter (size children)) (length (bytes tables children))),
  shortest_headers tables children,
  shortest_headers tables rest,
)

-- In a stored tree each header below the top has its shortest bytes.
pub stored_shortest : (root : Root) → HasShortestHeaders (tables_for (flat root.children)) root.children (drop 33 (packed root).bytes)
unfolding packed
stored_shortest root =
    subst (HasShortestHeaders (tables_for (flat root.children)) root.children) (sym behind) (shortest_headers (tables_for (flat root.children)) root.children)
  where
    top : HeaderEntry
    top = top_entry (length (tables_for (flat root.children)).parts) root.delimiter (size root.children) (length (bytes_below root.children))

    behind : drop 33 (format_4 true top ++ bytes_below root.children) ≡ bytes_below root.children
    behind = ap (λ n. drop n (format_4 true top ++ bytes_below root.children)) (sym (heavy_length top)) ∙ drop-append_seam (format_4 true top) (bytes_below root.children)
