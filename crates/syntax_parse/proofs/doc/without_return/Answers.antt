use Rattle.std.proofs.Common.{codes, sym, refl}
use Rattle.std.proofs.lemmas.Str.Pattern.{ends_text}
use Rattle.std.specs.Prelude.{false}
use Rattle.syntax_parse.proofs.doc.without_return.Goals as goal

pub returns-in-None : goal.returns-in-None
returns-in-None c = rw (sym (ends_text false (codes "\r") c.args.text.now c.in-None.ensures.cases)) refl
