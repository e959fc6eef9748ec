use Rattle.std.proofs.Common.{length, sym, ap, ◌∙◌, arith}
use Rattle.syntax_lex.proofs.FrontFacts.{empty_from_chars}
use Rattle.syntax_lex.proofs.reading.read.Goals as goal

pub returns-in-None-clause-smaller : goal.returns-in-None-clause-smaller
returns-in-None-clause-smaller c = λ some. absurd (omega (arith, empty_from_chars c.args.text.now c.utf8.text c.in-None.ensures))

pub returns-in-None-clause-some : goal.returns-in-None-clause-some
returns-in-None-clause-some c = λ some. absurd (omega (arith, empty_from_chars c.args.text.now c.utf8.text c.in-None.ensures))

pub returns-in-Some-clause-some : goal.returns-in-Some-clause-some
returns-in-Some-clause-some c = λ _ none. absurd (omega (arith, ap length (sym c.in-Some.ensures.0 ∙ none)))
