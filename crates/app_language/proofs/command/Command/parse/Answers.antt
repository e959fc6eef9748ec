use Rattle.std.proofs.Common.{rules}
use Rattle.app_language.specs.Reading.{IsOneLine}
use Rattle.app_language.proofs.Cutting.{Lacks-apart}
use Rattle.app_language.proofs.Commands.{StandsFor-unique, one_line_read}
use Rattle.app_language.proofs.command.Command.parse.Goals as goal

pub returns-clause-reads : goal.returns-clause-reads
returns-clause-reads c =
    c.parse_with.ensures.reads

pub returns-clause-one_line : goal.returns-clause-one_line
returns-clause-one_line c =
    let one : IsOneLine c.args.line.now = search rules in
    one_line_read _ _ one

pub returns-clause-unique : goal.returns-clause-unique
returns-clause-unique c = StandsFor-unique _

pub returns-then-is_some-clause-reads : goal.returns-then-is_some-clause-reads
returns-then-is_some-clause-reads c = λ command meant. search (rules, Lacks-apart)

pub returns-then-is_some-clause-unique : goal.returns-then-is_some-clause-unique
returns-then-is_some-clause-unique c = StandsFor-unique _
