use Rattle.std.proofs.Common.{◌++◌, map, ap, sym, ◌∙◌, arith}
use Rattle.std.proofs.lemmas.List.{at_drop_all, append-nil}
use Rattle.mbe_matcher.specs.Marks.{note_of}
use Rattle.mbe_matcher.proofs.EndSteps.{ends_by, ends_are}
use Rattle.mbe_matcher.proofs.binding.Binding.ends.Goals as goal

pub returns : goal.returns
returns c =
    let marks = c.args.self.now.marks.items in
    let ends = c.loop-mark.ends.items in
    sym (ap (λ l. ends ++ l) (at_drop_all (λ its. ends_by c.args.number c.loop-mark.so_far (map note_of its)) marks c.loop-mark.mark-index (omega arith)) ∙ append-nil ends)
    ∙ c.loop-mark.invariant.ends
    ∙ ends_are c.args.number 0 0 (map note_of marks) 0 (omega arith)
