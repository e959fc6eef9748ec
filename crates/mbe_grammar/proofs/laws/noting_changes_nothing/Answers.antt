use Rattle.mbe_grammar.specs.Table.{rust_rules}
use Rattle.mbe_grammar.proofs.Plain.{parses_plain}
use Rattle.mbe_grammar.proofs.laws.noting_changes_nothing.Goals as goal

pub returns : goal.returns
returns c = parses_plain rust_rules
