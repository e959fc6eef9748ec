use Rattle.std.proofs.Common.{rules}
use Rattle.syntax_layout.proofs.Blanks.{space_first}
use Rattle.syntax_layout.proofs.layout.next_token.Goals as goal

pub returns-then-begins_with_space : goal.returns-then-begins_with_space
returns-then-begins_with_space c = space_first c.args.text.now (search rules)
