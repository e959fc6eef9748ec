-- A line that begins with a verb is read by what follows it, and no other line is a command.
use Rattle.app_language.proofs.Commands.{no_verb}
use Rattle.app_language.proofs.command.Command.read.Goals as goal

pub returns-in_default-clause-reads : goal.returns-in_default-clause-reads
returns-in_default-clause-reads c = no_verb _ _ _ c.first_word.ensures.whole c.first_word.ensures.tail c.first_word.ensures.word c.in_default.ensures
