-- What is stored for two small trees. The bytes were worked out by hand.
use Rattle.std.proofs.Common.{◌≡◌, [], ◌∷◌, codes, refl}
use Rattle.tt_base.specs.declared.delimiter.DelimiterKind.TheVariants.{Brace, Invisible, InvisibleOpaque}
use Rattle.tt_base.specs.declared.ident.IdentIsRaw.TheVariants.{No}
use Rattle.tt_base.specs.declared.leaf.Leaf.{Leaf}
use Rattle.tt_base.specs.declared.leaf.Leaf.TheVariants as leaf_of
use Rattle.tt_base.specs.declared.punct.Spacing.TheVariants.{Alone}
use Rattle.tt_base.specs.declared.span.SpanPart.{SpanPart}
use Rattle.tt_base.specs.Edits.{with_kind}
use Rattle.tt_base.specs.Token.{delimiter}
use Rattle.tt_base.specs.Forest.{end, leaf, Root}
use Rattle.tt_base.specs.Span.{part_of}
use Rattle.tt_codec.specs.Reference.{reference_bytes}
use Rattle.tt_codec.specs.SpanNumbers.{span_bytes}
use Rattle.tt_tables.specs.Stored.{bytes, packed}
use Rattle.tt_tables.specs.TableOrder.{table}
use Rattle.tt_base.proofs.Samples.{span, hex}

abbrev part : SpanPart
part = part_of (span 0 0)

-- an invisible delimiter with nothing inside
empty : Root
empty = record { delimiter = delimiter Invisible (span 0 0) (span 0 0); children = end }

of_empty : packed empty
    ≡ record {
      bytes = hex (codes "00 40 00 00 01 00 00 00 00 00 00 00 1d 04 40 00 00 01 00 00 00 00 00 00 00 00 00 00 00 00 00 00 00");
      parts = part ∷ part ∷ [];
      symbols = [];
      len = 1;
    }
unfolding packed bytes table span_bytes empty
of_empty = refl

-- its kind set to opaque, and back
of_opaque : (packed (with_kind InvisibleOpaque empty)).bytes
    ≡ hex (codes "00 40 00 00 01 00 00 00 00 00 00 00 25 04 40 00 00 01 00 00 00 00 00 00 00 00 00 00 00 00 00 00 00")
unfolding packed bytes table span_bytes empty
of_opaque = refl

set_back : with_kind Invisible (with_kind InvisibleOpaque empty) ≡ empty
unfolding empty
set_back = refl

abbrev a : Leaf
a = leaf_of.Ident (record { sym = codes "a"; span = span 2 1; is_raw = No })

abbrev semicolon : Leaf
semicolon = leaf_of.Punct (record { char = 59; spacing = Alone; span = span 3 1 })

-- braces around an ident and a semicolon
statement : Root
statement = record { delimiter = delimiter Brace (span 0 1) (span 5 1); children = leaf a (leaf semicolon end) }

of_statement : packed statement
    ≡ record {
      bytes =
          hex
          (codes "44 40 00 00 01 00 00 00 00 00 00 00 0d 48 c0 02 00 01 00 00 00 00 00 00 00 02 00 00 00 0a 00 00 00 42 00 01 00 00 41 80 01 00 76");
      parts = part ∷ part ∷ part ∷ [];
      symbols = codes "a" ∷ [];
      len = 3;
    }
unfolding packed bytes table span_bytes reference_bytes statement
of_statement = refl
