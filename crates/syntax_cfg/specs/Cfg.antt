-- What a text says of conditions: `NAME` or `NAME="VALUE"`.
use Rattle.std.specs.Prelude.{ℕ, ◌==◌, ◌&&◌, List, length, is_none, Option, Some, None, option_and_then, option_map, if◌then◌else◌}
use Rattle.std.specs.Str.{trim}
use Rattle.syntax_cfg.specs.Cut.{cut_at}
use Rattle.syntax_cfg.specs.Name.{name_in}
use Rattle.syntax_cfg.specs.declared.cfg.Cfg as in_code

-- a name, or a key with a value
pub record Said : Type 0 where
  pub name : List ℕ
  pub value : Option (List ℕ)

-- what a value of the code means
abbrev pub said : in_code.Cfg → Said
said it = record { name = it.name.now; value = option_map (λ value. value.now) it.value }

-- a name alone
abbrev pub flag : (name : List ℕ) → Said
flag name = record { name = name; value = None }

-- a key with a value
abbrev pub pair : (key value : List ℕ) → Said
pair key value = record { name = key; value = Some value }

-- a value, if nothing is before it or behind it, and it has no escape
abbrev pub alone : (before value behind : List ℕ) → Option (List ℕ)
alone before value behind = if (length before == 0) && (length behind == 0) && is_none (cut_at 92 value) then Some value else None

-- the text between a first quote and the next one, if all of the text is that
abbrev pub unquoted : (text : List ℕ) → Option (List ℕ)
unquoted text = option_and_then (λ first. option_and_then (λ next. alone first.0 next.0 next.1) (cut_at 34 first.1)) (cut_at 34 text)

-- the value in a text with white space around it: what is between two quotes, without quotes and escapes
abbrev pub value_in : (text : List ℕ) → Option (List ℕ)
value_in text = unquoted (trim text)

-- a key with a value, if the texts before and behind `=` are these
abbrev pub pair_in : (before behind : List ℕ) → Option Said
pair_in before behind = option_and_then (λ key. option_map (pair key) (value_in behind)) (name_in before)

-- a text without `=` is a name, and one with `=` is a key with a value
abbrev pub said_by : (text : List ℕ) → Option (List ℕ × List ℕ) → Option Said
said_by text None = option_map flag (name_in text)
said_by text (Some parts) = pair_in parts.0 parts.1

-- what a text says; nothing, if it is no `NAME` and no `NAME="VALUE"`
abbrev pub cfg_in : (text : List ℕ) → Option Said
cfg_in text = said_by text (cut_at 61 text)
