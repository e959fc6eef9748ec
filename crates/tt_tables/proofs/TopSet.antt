-- A tree with another delimiter at its top takes as many bytes: only the top's header and the last two parts change.
use Rattle.std.proofs.Common.{◌≡◌, ℕ, suc, ◌+◌, ◌-◌, true, List, [], ◌∷◌, ◌++◌, length, set, drop, length-append, refl, ap, ap₂, sym, subst, ◌∙◌, arith}
use Rattle.std.proofs.Math.Seq.{set-append_seam, drop-append_seam}
use Rattle.std.proofs.lemmas.List.{set-append_right}
use Rattle.tt_base.specs.declared.delimiter.Delimiter.{Delimiter}
use Rattle.tt_base.specs.declared.span.SpanPart.{SpanPart}
use Rattle.tt_base.specs.Fits.{TokenInRange}
use Rattle.tt_base.specs.Forest.{Root, size, header, flat}
use Rattle.tt_base.specs.Span.{part_of}
use Rattle.tt_codec.specs.declared.entry.HeaderEntry.{HeaderEntry}
use Rattle.tt_codec.specs.Header.{format_4, top_entry}
use Rattle.tt_tables.specs.Meaning.{IsStored}
use Rattle.tt_tables.specs.Stored.{Stored, bytes_below, root_bytes, root_parts, packed}
use Rattle.tt_tables.specs.Tables.{part_table, tables_for}
use Rattle.tt_tables.proofs.Lengths.{heavy_length}
use Rattle.tt_tables.proofs.StoredAlike.{top_of, length-root_parts}

module _ (stored : Stored) (root : Root) (is : IsStored stored root) where
  bytes_are : stored.bytes ≡ root_bytes root
  unfolding packed
  bytes_are = ap (λ s. s.bytes) is.2

  parts_are : stored.parts ≡ root_parts root
  unfolding packed
  parts_are = ap (λ s. s.parts) is.2

  symbols_are : stored.symbols ≡ (tables_for (flat root.children)).symbols
  unfolding packed
  symbols_are = ap (λ s. s.symbols) is.2

  -- The counts of tokens, of bytes and of parts stay.
  pub len_is : stored.len ≡ suc (size root.children)
  unfolding packed
  len_is = ap (λ s. s.len) is.2

  pub bytes_count : length stored.bytes ≡ 33 + length (bytes_below root.children)
  bytes_count =
      ap length bytes_are
      ∙ omega (arith, length-append (format_4 true (top_of root)) (bytes_below root.children), heavy_length (top_of root))

  pub parts_count : length stored.parts ≡ length (part_table (flat root.children)) + 2
  parts_count = ap length parts_are ∙ length-root_parts root

  bytes_behind : drop 33 stored.bytes ≡ bytes_below root.children
  bytes_behind =
      ap (drop 33) bytes_are
      ∙ ap (λ n. drop n (format_4 true (top_of root) ++ bytes_below root.children)) (sym (heavy_length (top_of root)))
      ∙ drop-append_seam (format_4 true (top_of root)) (bytes_below root.children)

  -- The new header of the top over the old one, and its two parts over the last two, are what is stored for the tree with that delimiter.
  pub top_set : (it : Delimiter) (entry : HeaderEntry) (bytes : List ℕ) (parts : List SpanPart) (part_count byte_count : ℕ)
      → part_count ≡ length stored.parts → byte_count ≡ length stored.bytes
      → entry ≡ top_entry (part_count - 2) it (stored.len - 1) (byte_count - 33) → TokenInRange (header it (stored.len - 1))
      → bytes ≡ format_4 true entry ++ drop 33 stored.bytes
      → parts ≡ set (set stored.parts (part_count - 2) (part_of it.open_span)) (part_count - 2 + 1) (part_of it.close)
      → IsStored (record { bytes = bytes; parts = parts; symbols = stored.symbols; len = stored.len }) (record { delimiter = it; children = root.children })
  unfolding packed
  top_set it entry bytes parts part_count byte_count all_parts all_bytes of range over last = (
    (subst (λ n. TokenInRange (header it n)) below range, is.0.1),
    record {
      tokens = is.1.tokens;
      parts = omega (arith, is.1.parts, length-root_parts root, length-root_parts (record { delimiter = it; children = root.children }));
      symbols = is.1.symbols;
      bytes = is.1.bytes;
    },
    λ i. record { bytes = bytes_now i; parts = parts_now i; symbols = symbols_are i; len = len_is i },
  )
    where
      table : List SpanPart
      table = part_table (flat root.children)

      at : part_count - 2 ≡ length table
      at = omega (arith, all_parts, parts_count)

      below : stored.len - 1 ≡ size root.children
      below = omega (arith, len_is)

      held : byte_count - 33 ≡ length (bytes_below root.children)
      held = omega (arith, all_bytes, bytes_count)

      bytes_now : bytes ≡ root_bytes (record { delimiter = it; children = root.children })
      bytes_now = over ∙ ap₂ (λ e l. format_4 true e ++ l) (of ∙ λ i. top_entry (at i) it (below i) (held i)) bytes_behind

      one : length table + 1 - length table ≡ 1
      one = omega arith

      parts_now : parts ≡ root_parts (record { delimiter = it; children = root.children })
      parts_now =
          last
          ∙ ap₂ (λ l n. set (set l n (part_of it.open_span)) (n + 1) (part_of it.close)) parts_are at
          ∙ ap (λ l. set l (length table + 1) (part_of it.close)) (set-append_seam table (part_of root.delimiter.open_span) (part_of root.delimiter.close ∷ []) (part_of it.open_span))
          ∙ set-append_right table (part_of it.open_span ∷ part_of root.delimiter.close ∷ []) (length table) (length table + 1) (part_of it.close) refl (omega arith)
          ∙ ap (λ n. table ++ set (part_of it.open_span ∷ part_of root.delimiter.close ∷ []) n (part_of it.close)) one
