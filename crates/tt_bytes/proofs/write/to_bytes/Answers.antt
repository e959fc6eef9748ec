use Rattle.std.proofs.Common.{rules, ◌≡◌, ◌++◌, length, ℕ, List, append_assoc, refl}
use Rattle.tt_base.specs.declared.span.SpanPart.{SpanPart}
use Rattle.tt_base.specs.Forest.{Root}
use Rattle.tt_bytes.specs.Format.{mark, number_bytes, parts_bytes, symbols_bytes, piece, PieceFits}
use Rattle.tt_tables.specs.Stored.{packed}
use Rattle.tt_bytes.proofs.Alike.{trees_alike}
use Rattle.tt_bytes.proofs.write.to_bytes.Goals as goal

-- The parts, one after the other, are the piece.
joined : (parts : List SpanPart) (symbols : List (List ℕ)) (below a b c d e f all : List ℕ) → a ≡ mark → b ≡ a ++ number_bytes (length parts)
    → c ≡ b ++ number_bytes (length symbols) → d ≡ c ++ number_bytes (length below) → e ≡ d ++ parts_bytes parts → f ≡ e ++ symbols_bytes symbols
    → all ≡ f ++ below → all ≡ piece parts symbols below
unfolding piece
joined parts symbols below a b c d e f all is_a is_b is_c is_d is_e is_f is_all =
    simp (is_all, is_f, is_e, is_d, is_c, is_b, is_a, append_assoc) refl

pub returns-clause-ok : goal.returns-clause-ok
returns-clause-ok c =
    record {
      has = record { range = c.packed_bytes-packed.ensures.range; limits = c.packed_bytes-packed.ensures.limits; fits = fits };
      is = is;
    }
  where
    root : Root
    root = c.args.tree.now

    fits : PieceFits (packed root).parts (packed root).symbols (packed root).bytes
    fits = record {
      part_count = search rules;
      symbol_count = search rules;
      byte_count = search rules;
      each_part = search rules;
      each_text = search rules;
    }

    is : c.extend_from_slice-2.new.self.items ≡ piece (packed root).parts (packed root).symbols (packed root).bytes
    is = joined _ _ _ c.extend_from_slice.new.self.items c.put_count.new.bytes.items c.put_count-2.new.bytes.items c.put_count-3.new.bytes.items c.put_parts.new.bytes.items c.put_symbols.new.bytes.items _
        (search rules) (search rules) (search rules) (search rules) (search rules) (search rules) (search rules)

pub returns-clause-only : goal.returns-clause-only
returns-clause-only c other are = trees_alike other c.args.tree.now _ are (returns-clause-ok c)
