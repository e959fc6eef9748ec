-- What a partly written template becomes.
use Rattle.std.proofs.Common.{◌≡◌, ◌+◌, ◌≤◌, ℕ, List, [], ◌∷◌, Some, None, refl, ap, ap₂, sym, ◌∙◌, arith}
use Rattle.tt.specs.Building.{Stack, lowest, above, append, close_innermost, tokens_held}
use Rattle.tt.specs.Forest.{Forest, end, leaf, node, join, size}
use Rattle.tt.specs.Iters.{rest_of, IsFirstElement}
use Rattle.tt.specs.Moves.{after_tree}
use Rattle.tt.specs.Types.Span.{Span}
use Rattle.tt.specs.Types.Subtree.{Subtree}
use Rattle.tt.specs.Types.TtElement.TheVariants as element
use Rattle.tt.specs.Types.TtIter.{TtIter}
use Rattle.tt.specs.Unflat.{join-end}
use Rattle.tt_base.proofs.Appending.{append-end, append-join, held-append, held-close}
use Rattle.mbe_rule.specs.declared.transcribe.Level.{Level}
use Rattle.mbe_rule.specs.Instances.{Binding, filled}

-- the builder's levels after everything that is left of the template is placed and closed, the innermost first
abbrev pub finished : Binding → List Level → Stack → Stack
finished binding [] stack = stack
finished binding (level ∷ outer) stack =
    finished binding outer (close_innermost level.close (append (filled binding (rest_of level.rest)) stack))

-- how many tokens of the template are left
abbrev pub tokens_left : List Level → ℕ
tokens_left [] = 0
tokens_left (level ∷ outer) = size (rest_of level.rest) + tokens_left outer

-- At the end of a level it is closed.
pub finished_ended : (binding : Binding) (level : Level) (outer : List Level) (stack : Stack) → IsFirstElement (rest_of level.rest) None
    → finished binding (level ∷ outer) stack ≡ finished binding outer (close_innermost level.close stack)
finished_ended binding level outer stack none = by (rest_of level.rest) none
  where
    by : (trees : Forest) → IsFirstElement trees None
        → finished binding outer (close_innermost level.close (append (filled binding trees) stack)) ≡ finished binding outer (close_innermost level.close stack)
    by end p = ap (λ s. finished binding outer (close_innermost level.close s)) (append-end stack)
    by (leaf it rest) p = absurd p
    by (node delimiter children rest) p = absurd p

-- Trees are placed, and the others are left.
pub finished_placed : (binding : Binding) (level next : Level) (outer : List Level) (stack : Stack) (trees : Forest)
    → filled binding (rest_of level.rest) ≡ join trees (filled binding (rest_of next.rest)) → next.close ≡ level.close
    → finished binding (level ∷ outer) stack ≡ finished binding (next ∷ outer) (append trees stack)
finished_placed binding level next outer stack trees whole same =
    ap (λ f. finished binding outer (close_innermost level.close (append f stack))) whole
    ∙ ap₂ (λ span s. finished binding outer (close_innermost span s)) (sym same) (append-join trees (filled binding (rest_of next.rest)) stack)

-- the levels with a subtree placed that has this header and holds those trees
abbrev placed : Binding → Stack → Subtree → Forest → Span → Stack
placed binding stack subtree f span = close_innermost span (append (filled binding f) (above stack subtree.delimiter.kind subtree.delimiter.open_span end))

-- A subtree is opened, and what it holds and what follows are left.
pub finished_subtree : (binding : Binding) (level next below : Level) (outer : List Level) (stack : Stack) (subtree : Subtree) (children : TtIter)
    → IsFirstElement (rest_of level.rest) (Some (element.Subtree subtree children)) → rest_of next.rest ≡ after_tree (rest_of level.rest) → next.close ≡ level.close
    → below.rest ≡ children → below.close ≡ subtree.delimiter.close
    → finished binding (level ∷ outer) stack
    ≡ finished binding (below ∷ next ∷ outer) (above stack subtree.delimiter.kind subtree.delimiter.open_span end)
finished_subtree binding level next below outer stack subtree children first rest same held close =
    by (rest_of level.rest) first
    ∙ ap₂ (λ span f. finished binding outer (close_innermost span (append (filled binding f) (placed binding stack subtree (rest_of children) subtree.delimiter.close)))) (sym same) (sym rest)
    ∙ ap₂ (λ iter span. finished binding outer (close_innermost next.close (append (filled binding (rest_of next.rest)) (placed binding stack subtree (rest_of iter) span)))) (sym held) (sym close)
  where
    by : (trees : Forest) → IsFirstElement trees (Some (element.Subtree subtree children))
        → finished binding outer (close_innermost level.close (append (filled binding trees) stack))
        ≡ finished binding outer (close_innermost level.close (append (filled binding (after_tree trees)) (placed binding stack subtree (rest_of children) subtree.delimiter.close)))
    by end p = absurd p
    by (leaf it others) p = absurd p
    by (node delimiter inner others) p =
        ap₂ (λ d f. finished binding outer (close_innermost level.close (append (node d (filled binding f) (filled binding others)) stack))) (sym p.0) (sym p.2)
        ∙ ap (λ s. finished binding outer (close_innermost level.close s)) (append-join (node subtree.delimiter (filled binding (rest_of children)) end) (filled binding others) stack)

-- No fewer tokens are held at the end.
pub held_less : (binding : Binding) (levels : List Level) (stack : Stack) → tokens_held stack ≤ tokens_held (finished binding levels stack)
held_less binding [] stack = omega arith
held_less binding (level ∷ outer) stack =
    omega (
      arith,
      held-append (filled binding (rest_of level.rest)) stack,
      held-close level.close (append (filled binding (rest_of level.rest)) stack),
      held_less binding outer (close_innermost level.close (append (filled binding (rest_of level.rest)) stack)),
    )
