use Rattle.std.proofs.Common.{◌≡◌, ◌++◌, drop}
use Rattle.std.specs.Prelude.{string_bytes}
use Rattle.std.specs.List.{flat_map}
use Rattle.tt.specs.Stored.{packed}
use Rattle.app_console.specs.ViewText.{hex_pair}
use Rattle.app_console.proofs.stored_lines.stored_bytes.Given as goal

abbrev pub invariant-loop-byte : goal.invariant-loop-byte
invariant-loop-byte l = string_bytes l.text ++ flat_map hex_pair (drop l.byte-index (packed l.tree).bytes) ≡ flat_map hex_pair (packed l.tree).bytes
