use Rattle.std.proofs.Common.{◌++◌, List, map, length}
use Rattle.tt_base.specs.declared.span.ErasedFileAstId.{ErasedFileAstId}
use Rattle.tt_base.specs.Asked.{AsksAll}
use Rattle.tt_view.proofs.top_subtree.ast_ids.ask_all.Given as goal

-- The answers so far, and those to come, are all answers.
abbrev pub invariant-loop-part : goal.invariant-loop-part
invariant-loop-part g l =
    goal.F-IsAlwaysCallable g l.callback
    × ((more : List ErasedFileAstId) (last : _) → AsksAll (λ p x y q. goal.F-step g p x y q) l.callback (map (λ part. part.anchor.ast_id) l.rest) more last
    → AsksAll (λ p x y q. goal.F-step g p x y q) l.fn.callback (map (λ part. part.anchor.ast_id) l.fn.parts) (l.ids.items ++ more) last)

abbrev pub decreases-loop-part : goal.decreases-loop-part
decreases-loop-part g l = length l.rest
