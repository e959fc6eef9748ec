use Rattle.std.proofs.Common.{inr, refl, ap, subst}
use Rattle.tt.specs.Span.{start_of}
use Rattle.tt.specs.Views.{trees_of}
use Rattle.expand_text.specs.Expansion.{IsCallText}
use Rattle.expand_text.specs.Contexts.{with_finding}
use Rattle.expand_text.specs.Outcomes.{trees_left}
use Rattle.expand_text.specs.Invocations.{found_by, site_of}
use Rattle.expand_text.proofs.source.write_invocation.Goals as goal

pub returns-in_ok-find-in-Faulty : goal.returns-in_ok-find-in-Faulty
returns-in_ok-find-in-Faulty c before is =
    let it = c.args.invocation.now in
    let (now, context, came) = c.in_ok-text.ensures before is in
    let kept = subst (IsCallText c.args.config.now.one_line (site_of (trees_of c.args.whole) it) (trees_left came.outcome) (start_of it.first_span.range)) c.in-Faulty.is came.text in (
      with_finding (found_by it c.in-Faulty.at c.in-Faulty.fault) now,
      c.in_ok-find-in-Faulty.ensures.found now context,
      record {
        inside = came.inside;
        outcome = came.outcome;
        expands_to = came.expands_to;
        put = inr (c.in-Faulty.at, c.in-Faulty.fault, kept, ap (with_finding (found_by it c.in-Faulty.at c.in-Faulty.fault)) came.behind, refl);
      },
    )
