-- What an answer holds.
use Rattle.std.specs.Prelude.{ℕ, List, string_bytes}
use Rattle.app_console.specs.declared.answer.Held.{Held}
use Rattle.app_console.specs.declared.answer.Held.TheVariants.{Fixed, Short, Built}

-- its bytes
abbrev pub held_bytes : Held → List ℕ
held_bytes (Fixed bytes) = bytes.now
held_bytes (Short text) = text.bytes
held_bytes (Built text) = string_bytes text
