use Rattle.std.proofs.Common.{arith}
use Rattle.app_language.proofs.Numbers.{byte_read}
use Rattle.app_language.proofs.command.numbers.U8Word.read.Goals as goal

pub returns : goal.returns
returns c = rw c.ok.ensures.value (byte_read _ _ _ c.in_ok-number.ensures.0 (omega (arith, c.in_ok-number.ensures.1)) c.try_from.ensures)
