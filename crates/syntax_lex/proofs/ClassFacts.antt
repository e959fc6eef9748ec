-- Classes of ASCII characters.
use Rattle.std.proofs.Common.{◌≡◌, ℕ, ◌<◌, Bool, true, false, ◌||◌, ◌==◌, refl, ◌∙◌}
use Rattle.std.specs.Char.{is_ascii_alphabetic, is_ascii_digit}
use Rattle.std.specs.Int.{is_in_range}
use Rattle.unicode_ident.proofs.IdentLemmas.{is_xid_continue-ascii}
use Rattle.syntax_lex.specs.Class.{is_id_continue}

-- the first of four tests may come third
pub third_first : (a b c d : Bool) → ((a || b) || c) || d ≡ (b || c) || (a || d)
third_first true true c d = refl
third_first true false true d = refl
third_first true false false d = refl
third_first false true c d = refl
third_first false false true d = refl
third_first false false false d = refl

-- an ASCII character of an identifier: a letter, a digit or `_`
pub id_continue-ascii : (c : ℕ) → c < 128 → is_id_continue c ≡ is_ascii_alphabetic c || (is_ascii_digit c || (c == 95))
id_continue-ascii c ascii = is_xid_continue-ascii c ascii ∙ third_first (is_in_range 48 57 c) (is_in_range 65 90 c) (is_in_range 97 122 c) (c == 95)
