-- What is written, with what is left, is the filled template.
use Rattle.std.proofs.Common.{◌≡◌, List, drop, map, reverse}
use Rattle.tt.specs.Building.{lowest}
use Rattle.mbe_matcher.specs.Grouping.{binding_by}
use Rattle.mbe_matcher.specs.Marks.{note_of}
use Rattle.mbe_matcher.specs.Binders.{where_of}
use Rattle.mbe_rules.specs.Transcribing.{transcribed}
use Rattle.mbe_rules.specs.Parts.{bit_of}
use Rattle.mbe_rules.specs.Filling.{most_of, IsAt}
use Rattle.mbe_rules.specs.Wholes.{whole_of, levels_in}
use Rattle.mbe_rules.specs.Writing.{Level, written_by, finished}
use Rattle.mbe_rules.proofs.Measuring.{work_at}
use Rattle.mbe_rules.proofs.transcribe.transcribed.Given as goal

abbrev pub invariant-loop-part : goal.invariant-loop-part
invariant-loop-part l =
    let binding = binding_by (map where_of l.binders) (map note_of l.fn.binding.marks.items) in
    let all = transcribed (whole_of l.parts) binding in
    record {
      levels : List Level;
      is_at : IsAt (map bit_of l.parts) binding levels l.transcriber (map bit_of (drop l.next l.parts));
      whole : finished levels (written_by l.transcriber) ≡ record { stack = lowest all.trees; fault = all.fault };
      top : l.transcriber.builder.top ≡ l.fn.delimiter;
      most : most_of l.transcriber ≡ l.fn.limit;
    }

abbrev pub decreases-loop-part : goal.decreases-loop-part
decreases-loop-part l =
    work_at (map bit_of l.parts) (binding_by (map where_of l.binders) (map note_of l.fn.binding.marks.items)) (levels_in (map bit_of (drop l.next l.parts)))
    (reverse l.transcriber.rounds.items)
