use Rattle.std.proofs.Common.{sym, ap, ◌∙◌, Some}
use Rattle.std.proofs.lemmas.Bool.{eqb-true}
use Rattle.syntax_parse.proofs.TextFacts.{more_than_none, none_ahead, some_ahead}
use Rattle.syntax_parse.proofs.parse.token_ahead.Goals as goal

pub returns-then-is_empty : goal.returns-then-is_empty
returns-then-is_empty c = none_ahead c.args.text.now (eqb-true _ 0 (sym c.if-is_empty.ensures))

pub returns-else-is_empty : goal.returns-else-is_empty
returns-else-is_empty c = ap Some c.first_token.ensures ∙ some_ahead c.args.text.now c.utf8.text (more_than_none _ c.if-is_empty.ensures)
