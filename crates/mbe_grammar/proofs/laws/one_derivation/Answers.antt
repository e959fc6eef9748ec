use Rattle.mbe_grammar.specs.Table.{rust_rules}
use Rattle.mbe_grammar.proofs.OneDerivation.{once}
use Rattle.mbe_grammar.proofs.laws.one_derivation.Goals as goal

pub returns : goal.returns
returns c = once rust_rules
