-- The innermost expansion goes on, and the others wait.
use Rattle.std.proofs.Common.{◌≡◌, ◌≤◌, ◌+◌, ◌*◌, ◌-◌, ℕ, suc, length, reverse}
use Rattle.tt.specs.Building.{depth}
use Rattle.expand_text.specs.Contexts.{Context, HasCaller, IsContext, config_of}
use Rattle.expand_text.specs.Invocations.{body_of}
use Rattle.expand_text.specs.Walks.{levels_of, closes_of, work_in}
use Rattle.expand_text.proofs.Stacked.{AreDeep, AreUnder, HaveCallers, IsStacked, works}
use Rattle.expand_text.proofs.expanding.expand_tree.Given as goal

abbrev pub invariant-trees : goal.invariant-trees
invariant-trees l =
    record {
      going :
          (before : Context) → IsContext before l.fn.context
          → (now : Context) × IsContext now l.context
          × IsStacked (config_of l.config) (λ limit base. (limit ≡ l.fn.limit) × (base ≡ record { position = l.fn.call.position; trees = body_of l.fn.call l.fn.tree; begin = before; state = l.fn.builder }))
          (l.limit - length l.waiting.items) (reverse l.waiting.items) (levels_of l.walk) now l.builder;
      deep :
          (n : ℕ) × (suc (depth l.builder.stack) ≡ length (closes_of (levels_of l.walk)) + n) × AreDeep (depth l.fn.builder.stack) (reverse l.waiting.items) n;
      under : AreUnder l.fn.builder.top (reverse l.waiting.items) l.builder.top;
      most : length l.waiting.items ≤ l.limit;
      caller : HasCaller l.context;
      callers : HaveCallers (reverse l.waiting.items);
    }

abbrev pub decreases-trees : goal.decreases-trees
decreases-trees l = work_in (levels_of l.walk) + works (reverse l.waiting.items) + 2 * l.context.left
