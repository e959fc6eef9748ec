-- What `Debug` writes for small tokens and trees, by `docs/FORMATS.md`.
use Rattle.std.proofs.Common.{◌≡◌, ◌++◌, ◌∷◌, [], map, codes, refl}
use Rattle.std.specs.Fmt.{digits}
use Rattle.tt_base.specs.declared.delimiter.DelimiterKind.TheVariants.{Parenthesis, InvisibleOpaque}
use Rattle.tt_base.specs.declared.ident.IdentIsRaw.TheVariants.{No, Yes}
use Rattle.tt_base.specs.declared.leaf.Leaf.TheVariants as leaf
use Rattle.tt_base.specs.declared.literal.LitKind.TheVariants as lit
use Rattle.tt_base.specs.declared.punct.Spacing.TheVariants.{Alone, Joint, JointHidden}
use Rattle.tt_base.specs.DebugText.{debug, leaf_line, header_line, kind_text, indent}
use Rattle.tt_base.specs.Forest.{end, leaf as leaf_then, node}
use Rattle.tt_base.specs.Token.{delimiter}
use Rattle.tt_base.proofs.Samples.{span, punct}

first_run : debug (node (delimiter Parenthesis (span 0 1) (span 3 1))
    (leaf_then (leaf.Ident (record { sym = codes "a"; span = span 1 1; is_raw = No }))
    (leaf_then (leaf.Punct (record { char = 59; spacing = Alone; span = span 2 1 })) end)) end)
    ≡ codes "SUBTREE () 0:0@0..1#0 0:0@3..4#0" ++ 10 ∷ codes "  IDENT   a 0:0@1..2#0" ++ 10 ∷ codes "  PUNCH   ; [alone] 0:0@2..3#0"
unfolding debug leaf_line header_line digits lib.Utf8.encode
first_run = refl

opaque : debug (node (delimiter InvisibleOpaque (span 0 1) (span 1 1)) end end) ≡ codes "SUBTREE $$ 0:0@0..1#0 0:0@1..2#0"
unfolding debug header_line digits
opaque = refl

nothing : debug end ≡ codes ""
unfolding debug
nothing = refl

raw_ident : leaf_line (leaf.Ident (record { sym = codes "a"; span = span 1 3; is_raw = Yes })) ≡ codes "IDENT   r#a 0:0@1..4#0"
unfolding leaf_line digits
raw_ident = refl

joint : leaf_line (punct 43 Joint) ≡ codes "PUNCH   + [joint] 0:0@0..1#0"
unfolding leaf_line digits lib.Utf8.encode
joint = refl

joint_hidden : leaf_line (punct 43 JointHidden) ≡ codes "PUNCH   + [joint] 0:0@0..1#0"
unfolding leaf_line digits lib.Utf8.encode
joint_hidden = refl

two_levels : indent 2 ≡ codes "    "
two_levels = refl

two_hashes : kind_text (lit.CStrRaw 2) ≡ codes "CStrRaw(2)"
unfolding digits
two_hashes = refl

no_kind : kind_text (lit.Err tt) ≡ codes "Err(())"
no_kind = refl

all_kinds : map kind_text
    (lit.Byte ∷ lit.Char ∷ lit.Integer ∷ lit.Float ∷ lit.Str ∷ lit.StrRaw 0 ∷ lit.ByteStr ∷ lit.ByteStrRaw 1 ∷ lit.CStr ∷ lit.CStrRaw 255 ∷ lit.Err tt ∷ [])
    ≡ codes "Byte" ∷ codes "Char" ∷ codes "Integer" ∷ codes "Float" ∷ codes "Str" ∷ codes "StrRaw(0)" ∷ codes "ByteStr" ∷ codes "ByteStrRaw(1)" ∷ codes "CStr"
    ∷ codes "CStrRaw(255)" ∷ codes "Err(())" ∷ []
unfolding digits
all_kinds = refl
