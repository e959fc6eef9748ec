use Rattle.mbe_grammar.specs.Table.{rust_rules}
use Rattle.mbe_grammar.proofs.OneDerivation.{apart}
use Rattle.mbe_grammar.proofs.laws.never_both.Goals as goal

pub returns : goal.returns
returns c = apart rust_rules
