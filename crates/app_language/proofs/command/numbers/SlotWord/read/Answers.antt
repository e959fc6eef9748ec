use Rattle.std.proofs.Common.{arith}
use Rattle.app_language.proofs.Numbers.{slot_read}
use Rattle.app_language.proofs.command.numbers.SlotWord.read.Goals as goal

pub returns : goal.returns
returns c = slot_read _ _ _ c.in_ok-number.ensures.0 (omega (arith, c.in_ok-number.ensures.1)) c.new.ensures
