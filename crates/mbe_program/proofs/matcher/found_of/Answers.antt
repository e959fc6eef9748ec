use Rattle.std.proofs.Common.{map, subst, sym}
use Rattle.mbe_matcher.specs.Marks.{note_of}
use Rattle.mbe_program.specs.Answers.{HasOneRun, IsAnswer}
use Rattle.mbe_program.specs.Program.{program_of}
use Rattle.mbe_program.proofs.Finding.{found_nothing, found_one, found_many}
use Rattle.mbe_program.proofs.matcher.found_of.Goals as goal

pub returns-in-NoRun : goal.returns-in-NoRun
returns-in-NoRun c = λ pattern input is.
    let own = subst (λ it. IsAnswer (program_of pattern) input it) c.in-NoRun.is is in
    found_nothing pattern input c.in-NoRun.at own.0 own.1

pub returns-in-OneRun : goal.returns-in-OneRun
returns-in-OneRun c = λ pattern input is.
    let own = subst (λ it. IsAnswer (program_of pattern) input it) c.in-OneRun.is is in
    found_one pattern input c.new.result (subst (λ marks. HasOneRun (program_of pattern) input (map note_of marks.items)) (sym c.new.ensures) own)

pub returns-in-TwoRuns : goal.returns-in-TwoRuns
returns-in-TwoRuns c = λ pattern input is.
    found_many pattern input (subst (λ it. IsAnswer (program_of pattern) input it) c.in-TwoRuns.is is)
