use Rattle.std.proofs.Common.{refl}
use Rattle.mbe_grammar.specs.Expressions.{name}
use Rattle.mbe_grammar.specs.Names.{start}
use Rattle.mbe_grammar.specs.Rust.{stands}
use Rattle.mbe_grammar.specs.Table.{rust_rules}
use Rattle.mbe_grammar.proofs.Laid.{answers_of_rules, rules_of_answers}
use Rattle.mbe_grammar.proofs.RustLaid.{are_laid}
use Rattle.mbe_grammar.proofs.laws.table_is_the_page.Goals as goal

pub returns : goal.returns
returns c = λ noting which from answer. (
  answers_of_rules noting rust_rules stands are_laid (name which) (start which) from answer refl,
  rules_of_answers noting rust_rules stands are_laid (name which) (start which) from answer refl,
)
