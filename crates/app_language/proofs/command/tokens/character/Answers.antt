use Rattle.std.proofs.Common.{subst, sym}
use Rattle.std.specs.Str.{IsUtf8}
use Rattle.std.proofs.lemmas.Str.{IsUtf8-encode}
use Rattle.app_language.proofs.command.tokens.character.Goals as goal

pub returns-in_default : goal.returns-in_default
returns-in_default c = λ char fits e. c.in_default.ensures.cases.0 (subst IsUtf8 (sym e) (IsUtf8-encode char fits))
