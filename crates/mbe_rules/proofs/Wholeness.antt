-- A template's parts determine it.
use Rattle.std.proofs.Common.{◌≡◌, List, [], ◌∷◌, map, refl, ap, sym, ◌∙◌}
use Rattle.mbe_rules.specs.declared.parts.Part.{Part}
use Rattle.mbe_rules.specs.Parts.{Bit, uses, same, enter, leave, begin, close, bit_of, bits_of, all_bits}
use Rattle.mbe_rules.specs.Templates.{Template, nothing, use_of, token, subtree, repetition}
use Rattle.mbe_rules.specs.Wholes.{Read, read, put, levels_in, first_in, whole_of, AreWhole}

-- A template before its end is read as one.
pub read_parts : (template : Template) (ending : Bit) (behind : List Bit) (levels : List Read) → put ending (levels_in behind) ≡ read nothing ending ∷ levels
    → levels_in (bits_of template (ending ∷ behind)) ≡ read template ending ∷ levels
read_parts nothing ending behind levels is = is
read_parts (use_of at variable less_follows others) ending behind levels is = ap (put (uses at variable less_follows)) (read_parts others ending behind levels is)
read_parts (token it others) ending behind levels is = ap (put (same it)) (read_parts others ending behind levels is)
read_parts (subtree delimiter inner others) ending behind levels is =
    ap (put (enter delimiter))
    (read_parts inner leave (bits_of others (ending ∷ behind)) (read others ending ∷ levels) (ap (put leave) (read_parts others ending behind levels is)))
read_parts (repetition at inner separator kind others) ending behind levels is =
    ap (put (begin at))
    (read_parts inner (close separator kind) (bits_of others (ending ∷ behind)) (read others ending ∷ levels)
    (ap (put (close separator kind)) (read_parts others ending behind levels is)))

-- So parts are those of one template at most,
pub whole_by : (parts : List Part) (template : Template) → map bit_of parts ≡ all_bits template → whole_of parts ≡ template
whole_by parts template is = ap (λ bits. first_in (levels_in bits)) is ∙ ap first_in (read_parts template leave [] [] refl)

-- which is read of them.
pub are_its : (parts : List Part) (template : Template) → map bit_of parts ≡ all_bits template → AreWhole parts
are_its parts template is = is ∙ ap all_bits (sym (whole_by parts template is))
