-- A text without bytes.
use Rattle.std.proofs.Common.{◌≡◌, ℕ, false, List, [], ◌∷◌, arith, length, refl}
use Rattle.std.specs.Str.{chars}
use Rattle.syntax_cfg.specs.Name.{is_name}
use Rattle.syntax_lex.specs.Reading.{first_token_of, reading}

-- It is no name.
pub no_name : (text : List ℕ) → length text ≡ 0 → is_name text ≡ false
unfolding first_token_of reading chars
no_name [] none = refl
no_name (byte ∷ bytes) none = absurd (omega (arith, none))
