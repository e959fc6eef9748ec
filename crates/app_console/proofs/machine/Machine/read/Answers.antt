use Rattle.std.proofs.Common.{inl, subst}
use Rattle.app_console.specs.Reading.{line_part}
use Rattle.syntax_parse.specs.Parsed.{IsParse}
use Rattle.app_console.proofs.machine.Machine.read.Goals as goal

pub returns-in-Ok : goal.returns-in-Ok
returns-in-Ok c =
    inl (inl (c.in-Ok.tree, subst (λ text. IsParse line_part text c.in-Ok.tree) c.as_str.ensures c.in-Ok.ensures.ok, c.ok.ensures, c.put.ensures))
