-- The headers so far have the part.
use Rattle.std.proofs.Common.{take}
use Rattle.tt_tables.specs.OnePart.{HeadersHave}
use Rattle.tt_tables.proofs.small_read.headers_have.Given as goal

abbrev pub invariant-loop-header : goal.invariant-loop-header
invariant-loop-header l = HeadersHave l.part (take l.header-index l.headers)
