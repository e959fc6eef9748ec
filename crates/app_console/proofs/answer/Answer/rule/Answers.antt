use Rattle.std.proofs.Common.{lit<}
use Rattle.std.proofs.lemmas.Fmt.{decimal_digit}
use Rattle.app_console.proofs.answer.Answer.rule.Goals as goal
use Rattle.app_console.proofs.answer.Answer.rule.Goals.{in-BadPattern, in-BadTemplate, in-DuplicateName, in-UnknownName, in-Memory}

pub returns : goal.returns
returns c =
    elim c.match-fault.branch [
      | in-BadPattern w ↦ rw (c.fixed.ensures, w.fixed-is, w.in-BadPattern.is)
      | in-BadTemplate w ↦ rw (c.fixed.ensures, w.fixed-is, w.in-BadTemplate.is)
      | in-DuplicateName w ↦ rw (c.fixed.ensures, w.fixed-is, w.in-DuplicateName.is)
      | in-UnknownName w ↦ rw (c.fixed.ensures, w.fixed-is, w.in-UnknownName.is)
      | in-Memory w ↦ rw (c.fixed.ensures, w.fixed-is, w.in-Memory.is, decimal_digit 1 (lit< tt))
    ]
