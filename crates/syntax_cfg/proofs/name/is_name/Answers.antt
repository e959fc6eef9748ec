use Rattle.std.proofs.Common.{arith, sym}
use Rattle.std.proofs.lemmas.Bool.Decides.{nat_tests}
use Rattle.syntax_cfg.proofs.NameFacts.{no_name}
use Rattle.syntax_cfg.proofs.name.is_name.Goals as goal

pub returns-then-is_empty : goal.returns-then-is_empty
returns-then-is_empty c = let none = c.if-is_empty.ensures in sym (no_name c.args.text.now (grind (arith, nat_tests)))
