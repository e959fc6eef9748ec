use Rattle.std.proofs.Common.{◌≡◌, subst, rules}
use Rattle.tt_base.specs.contracts.span.SpanPartEq.TheImpl.Laws as part_eq
use Rattle.tt_tables.specs.Uses.{same_part}
use Rattle.tt_pack.specs.Counted.{note_value}
use Rattle.tt_pack.proofs.Noting.{noted_there}
use Rattle.tt_pack.proofs.few.note_part.Goals as goal

pub returns-then-is_at-clause-parts : goal.returns-then-is_at-clause-parts
returns-then-is_at-clause-parts c =
    subst (λ part. c.args.parts.now.items ≡ note_value same_part c.args.parts.now.items part) c.from_span-part.ensures
    (noted_there same_part part_eq.lawful.laws c.args.parts.now.items c.args.other c.from_span-part.result (search rules))
