use Rattle.app_language.proofs.Cutting.{IsTail-spaced}
use Rattle.app_language.proofs.Pieces.{next_unique}
use Rattle.app_language.proofs.command.part.Tuple2Part.read.Goals as goal

pub returns-in_default-clause-reads : goal.returns-in_default-clause-reads
returns-in_default-clause-reads g c = λ value fits e. c.in_default.ensures value.0 _ fits.0 (IsTail-spaced _) e

pub returns-in_default-2-clause-reads : goal.returns-in_default-2-clause-reads
returns-in_default-2-clause-reads g c =
    let unread = rw c.in_default-2.is at c.in_ok-more.ensures.reads in
    λ value fits e.
    let u = next_unique _ _ _ _ _ (g.W.Word.has_no_space _ c.in-Some.ensures.1) (g.W.Word.has_no_space value.0 fits.0) c.in-Some.ensures.2 (IsTail-spaced _) c.in-Some.ensures.0 e in
    unread value.1 fits.1 u.1
