use Rattle.std.proofs.Common.{rules, ◌≡◌, Some, sym, subst, take}
use Rattle.expand_text.specs.Scopes.{AreReady, kept_of}
use Rattle.expand_text.proofs.Readiness.{ready_front}
use Rattle.expand_text.proofs.context.Context.leave.Goals as goal

pub returns-in-Some-clause-left : goal.returns-in-Some-clause-left
returns-in-Some-clause-left c context is =
    let which : c.args.kept ≡ Some c.in-Some.len = search rules in
    record {
      macros =
          subst (λ k. AreReady (kept_of k context.macros) c.leave.new.self.macros.items) (sym which)
          (subst (AreReady (take c.in-Some.len context.macros)) (sym c.leave.ensures)
          (ready_front c.in-Some.len context.macros c.args.self.now.scope.macros.items is.macros));
      exported = is.exported;
      findings = is.findings;
      is_over = is.is_over;
      callers = is.callers;
      caller = is.caller;
      left = is.left;
    }
