use Rattle.std.specs.Prelude.{IfOk, IfErr}
use Rattle.std.proofs.Common.{map, subst}
use Rattle.mbe_matcher.specs.Grouping.{binding_by}
use Rattle.mbe_matcher.specs.Marks.{note_of}
use Rattle.mbe_matcher.specs.Binders.{where_of}
use Rattle.mbe_rules.specs.Transcribing.{transcribed}
use Rattle.mbe_rules.specs.Results.{IsTranscribed, IsTranscribeError}
use Rattle.mbe_rules.specs.Wholes.{whole_of}
use Rattle.mbe_rules.proofs.template.Template.transcribe_within.Goals as goal

pub returns-clause-ok : goal.returns-clause-ok
returns-clause-ok c =
    let binding = binding_by (map where_of c.args.binders.now) (map note_of c.args.binding.marks.items) in
    subst (λ parts. IfOk c.transcribed.result (IsTranscribed c.args.delimiter (transcribed (whole_of parts) binding))) c.deref.ensures.value c.transcribed.ensures.ok

pub returns-clause-err : goal.returns-clause-err
returns-clause-err c =
    let binding = binding_by (map where_of c.args.binders.now) (map note_of c.args.binding.marks.items) in
    subst (λ parts. IfErr c.transcribed.result (IsTranscribeError c.args.limit c.args.delimiter (transcribed (whole_of parts) binding))) c.deref.ensures.value c.transcribed.ensures.err
