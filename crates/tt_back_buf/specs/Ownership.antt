-- What a block owns that is filled from its end, and what a `&` to it holds.
use Rattle.std.specs.Prelude.{ℕ, List, length}
use base.Fraction.{full_share}
use base.Fml.{Lft, Fml, fsep}
use mir.Syntax.{Ty, w8, ty_int, ty_array}
use denote.Array.{Array}
use denote.Builtin.{u8}
use denote.RawPtr.{Ptr, lies_at, room_for, ◌+ₚ◌}
use denote.Struct.Lending.{lent_at}

-- n bytes
abbrev pub block_type : ℕ → Ty
block_type n = ty_array (ty_int w8) n

-- the bytes, after room for `room` more, at p
abbrev pub region_owns : Ptr → ℕ → List ℕ → Fml
region_owns p room bytes = fsep (lies_at (Array u8 (length bytes)) full_share (p +ₚ room) bytes) (room_for (block_type room) p)

-- the bytes without the room
abbrev pub region_lends : Ptr → ℕ → List ℕ → Lft → Fml
region_lends p room bytes = lent_at (Array u8 (length bytes)) (p +ₚ room) bytes
