use Rattle.std.proofs.Common.{arith}
use Rattle.syntax_lex.proofs.FrontFacts.{byte_length-chars}
use Rattle.syntax_lex.proofs.front.bytes_before.Goals as goal

pub returns : goal.returns
returns c = omega (arith, byte_length-chars c.args.text.now c.utf8.text, byte_length-chars c.args.rest.now c.utf8.rest)
