-- Characters as a diagnostic shows them. Each holds by computation.
use Rattle.std.proofs.Common.{◌≡◌, refl}
use Rattle.syntax_diagnostic.specs.Mark.{shown_char}

-- A tab, a letter, a no-break space and a wide character stay.
stay : (shown_char 9 ≡ 9) × (shown_char 97 ≡ 97) × (shown_char 160 ≡ 160) × (shown_char 25991 ≡ 25991)
stay = (refl, refl, refl, refl)

-- NUL, a carriage return, an escape, DEL and the control characters behind it up to U+009F do not, and none that turns the direction.
hidden : (shown_char 0 ≡ 65533)
    × (shown_char 13 ≡ 65533)
    × (shown_char 27 ≡ 65533)
    × (shown_char 31 ≡ 65533)
    × (shown_char 127 ≡ 65533)
    × (shown_char 155 ≡ 65533)
    × (shown_char 159 ≡ 65533)
    × (shown_char 8234 ≡ 65533)
    × (shown_char 8238 ≡ 65533)
    × (shown_char 8294 ≡ 65533)
    × (shown_char 8297 ≡ 65533)
hidden = (refl, refl, refl, refl, refl, refl, refl, refl, refl, refl, refl)

-- The characters beside those stay.
beside : (shown_char 32 ≡ 32) × (shown_char 126 ≡ 126) × (shown_char 8233 ≡ 8233) × (shown_char 8239 ≡ 8239) × (shown_char 8293 ≡ 8293) × (shown_char 8298 ≡ 8298)
beside = (refl, refl, refl, refl, refl, refl)
