use Rattle.mbe_grammar.specs.Table.{rust_rules}
use Rattle.mbe_grammar.proofs.OneDerivation.{one_refusal}
use Rattle.mbe_grammar.proofs.laws.one_refusal.Goals as goal

pub returns : goal.returns
returns c = one_refusal rust_rules
