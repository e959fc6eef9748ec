use Rattle.std.proofs.Common.{rules, ◌≡◌, ◌≢◌, inl, inr, refl, ap, subst, ◌∙◌}
use Rattle.tt.specs.Building.{built}
use Rattle.tt.specs.Stored.{IsWithinLimits}
use Rattle.tt.specs.TreeFault.{IsTreeFault}
use Rattle.tt.specs.Views.{trees_of}
use Rattle.tt.specs.Types.DelimiterKind.TheVariants.{Invisible}
use Rattle.tt.specs.Types.TtFault.TheVariants as limit
use Rattle.expand_items.specs.Loosening.{loosened, place_of}
use Rattle.expand_text.specs.Expanding.{IsAdded}
use Rattle.expand_text.specs.Expansion.{IsTextOf}
use Rattle.expand_text.specs.Macros.{tree_of}
use Rattle.expand_text.specs.Outcomes.{trees_left}
use Rattle.expand_text.specs.Invocations.{site_of}
use Rattle.expand_text.proofs.Placing.{built_alone, call_text}
use Rattle.expand_text.proofs.source.invocation_text.Goals as goal

pub returns-in-Some : goal.returns-in-Some
returns-in-Some c before is =
    let it = c.args.invocation.now in
    let (after, ready, put) = c.in_ok-fault.ensures.placed before is in
    let (misplaced, same) = subst (λ m. IsAdded (site_of (trees_of c.args.whole) it) (trees_left put.outcome) m c.in_ok-builder.builder.stack c.expand_invocation.new.builder.stack) c.in-Some.is put.added in
    (after, ready, record { inside = put.inside; outcome = put.outcome; expands_to = put.expands_to; behind = put.behind; text = inl (misplaced, c.start_of-begin.ensures) })

pub returns-in-Err : goal.returns-in-Err
returns-in-Err c before is =
    let it = c.args.invocation.now in
    let why = c.in-Err.refused.fault in
    let (after, ready, put) = c.in_ok-fault.ensures.placed before is in
    let (trees, so, added) = subst (λ m. IsAdded (site_of (trees_of c.args.whole) it) (trees_left put.outcome) m c.in_ok-builder.builder.stack c.expand_invocation.new.builder.stack) c.in-None.is put.added in
    let whole : built c.expand_invocation.new.builder ≡ tree_of it.delimiter trees =
    built_alone (record it.delimiter { kind = Invisible }) c.in_ok-builder.builder c.expand_invocation.new.builder trees c.in_ok-builder.ensures.ok c.in_ok-fault.ensures.top added in
    let past : IsTreeFault (built c.expand_invocation.new.builder) why = search rules in
    let no_memory : why ≢ limit.Memory = search rules in (
      after,
      ready,
      record {
        inside = put.inside;
        outcome = put.outcome;
        expands_to = put.expands_to;
        behind = put.behind;
        text = inr (refl, inl (trees, so, (subst (λ r. IsTreeFault r why) whole past, no_memory), c.start_of-begin.ensures));
      },
    )

pub returns-in_ok-write_loosened-in-Ok : goal.returns-in_ok-write_loosened-in-Ok
returns-in_ok-write_loosened-in-Ok c before is =
    let it = c.args.invocation.now in
    let one_line = c.args.config.now.one_line in
    let text = c.in_ok-write_loosened-in-Ok.field-0 in
    let begin = c.start_of-begin.result in
    let (after, ready, put) = c.in_ok-fault.ensures.placed before is in
    let (trees, so, added) = subst (λ m. IsAdded (site_of (trees_of c.args.whole) it) (trees_left put.outcome) m c.in_ok-builder.builder.stack c.expand_invocation.new.builder.stack) c.in-None.is put.added in
    let whole : built c.expand_invocation.new.builder ≡ tree_of it.delimiter trees =
    built_alone (record it.delimiter { kind = Invisible }) c.in_ok-builder.builder c.expand_invocation.new.builder trees c.in_ok-builder.ensures.ok c.in_ok-fault.ensures.top added in
    let tree : c.in-Ok.tree ≡ tree_of it.delimiter trees = c.in-Ok.ensures.ok ∙ whole in
    let within : IsWithinLimits (tree_of it.delimiter trees) = subst IsWithinLimits tree c.in-Ok.ensures.limits in
    let shown = loosened (place_of it.enclosure it.position) trees in
    let made : IsTextOf one_line it.delimiter shown begin text =
    subst (λ f. IsTextOf one_line it.delimiter (loosened (place_of it.enclosure it.position) f) begin text) (ap (λ r. r.children) tree) c.in_ok-write_loosened-in-Ok.ensures in (
      after,
      ready,
      record {
        inside = put.inside;
        outcome = put.outcome;
        expands_to = put.expands_to;
        behind = put.behind;
        text = call_text one_line (site_of (trees_of c.args.whole) it) (trees_left put.outcome) shown _ text (trees, so, (within, refl)) (subst (λ n. IsTextOf one_line it.delimiter shown n text) c.start_of-begin.ensures made);
      },
    )
