-- All tokens after the index are written, and there is room for all before it and for a top.
use Rattle.std.proofs.Common.{◌+◌, ◌≤◌, length, take, drop}
use Rattle.tt_back_buf.specs.Bytes.{room_of}
use Rattle.tt_pack.specs.Room.{most_list_bytes}
use Rattle.tt_pack.specs.WriterOf.{HasWritten}
use Rattle.tt_pack.proofs.writer.Writer.write_all.Given as goal

abbrev pub invariant-loop-index : goal.invariant-loop-index
invariant-loop-index g l =
    let list = g.N.Numbered.list l.numbers in
    (l.index ≤ length list) × HasWritten (g.N.Numbered.tables l.numbers) (drop l.index list) l.writer × (most_list_bytes (take l.index list) + 33 ≤ room_of l.writer.bytes)

abbrev pub decreases-loop-index : goal.decreases-loop-index
decreases-loop-index g l = l.index
