-- The value of a buffer in contracts.
use Rattle.std.specs.Prelude.{ℕ, List}
use Rattle.tt_back_buf.specs.declared.back_buf.BackBuf.{BackBuf}

-- its bytes
abbrev pub bytes_of : BackBuf → List ℕ
bytes_of buf = buf.region.bytes

-- the number of bytes for which there is still room
abbrev pub room_of : BackBuf → ℕ
room_of buf = buf.room
