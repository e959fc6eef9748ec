-- Names that are never raw.
use Rattle.std.specs.Prelude.{ℕ, Bool, ◌||◌, List, Option, codes, bytes_eq}
use Rattle.tt_base.specs.Token.{without_raw_prefix}
use Rattle.syntax_parse.specs.Doc.{without_prefix}
use Rattle.syntax_parse.specs.Inside.{fault_if}
use Rattle.syntax_parse.specs.declared.fault.BadToken.{BadToken}
use Rattle.syntax_parse.specs.declared.fault.BadToken.TheVariants as bad

-- whether a name is never raw: `_`, and the names of places in a path
abbrev pub is_never_raw : (name : List ℕ) → Bool
is_never_raw name =
    bytes_eq name (codes "_") || bytes_eq name (codes "crate") || bytes_eq name (codes "self") || bytes_eq name (codes "super") || bytes_eq name (codes "Self")

-- what is wrong with a raw name of this text
abbrev pub raw_name_fault : (text : List ℕ) → Option BadToken
raw_name_fault text = fault_if (is_never_raw (without_raw_prefix text)) bad.NeverRaw

-- what follows the quote of a lifetime
abbrev pub behind_apostrophe : (text : List ℕ) → List ℕ
behind_apostrophe text = without_prefix (codes "'") text
