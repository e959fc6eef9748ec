use Rattle.std.proofs.Common.{◌≡◌, length, arith, rules}
use Rattle.syntax_unparse.proofs.ReadFacts.{some_token}
use Rattle.syntax_unparse.proofs.reads.one_token.Goals as goal

pub returns-then-is_empty : goal.returns-then-is_empty
returns-then-is_empty c = λ one. let none : length c.args.text.now ≡ 0 = search rules in omega (arith, none, some_token c.args.text.now one)
