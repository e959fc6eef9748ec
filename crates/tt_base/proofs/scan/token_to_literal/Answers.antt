use Rattle.std.proofs.Common.{arith, rules}
use Rattle.std.proofs.lemmas.Grind.{common_steps}
use Rattle.tt_base.proofs.scan.token_to_literal.Goals as goal

-- explicit: an automatic search for this answer takes long before it fails
pub returns-in_default-cut-clause-err : goal.returns-in_default-cut-clause-err
returns-in_default-cut-clause-err c = search rules

pub returns-then-is_number-clause-ok : goal.returns-then-is_number-clause-ok
returns-then-is_number-clause-ok c = grind (arith, common_steps)

pub returns-then-is_number-clause-err : goal.returns-then-is_number-clause-err
returns-then-is_number-clause-err c = search rules
