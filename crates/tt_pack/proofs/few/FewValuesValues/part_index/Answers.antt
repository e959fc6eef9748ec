use Rattle.std.proofs.Common.{refl}
use Rattle.tt_base.specs.Span.{part_of}
use Rattle.tt_pack.proofs.FewMeeting.{notes_part}
use Rattle.tt_pack.proofs.few.FewValuesValues.part_index.Goals as goal

pub returns-clause-met : goal.returns-clause-met
returns-clause-met c =
    notes_part c.args.self.now (record c.args.self.now { parts = c.note_part.new.parts }) c.note_part.result (part_of c.args.span.now) refl
    c.note_part.ensures.few c.note_part.ensures.parts c.note_part.ensures.index
