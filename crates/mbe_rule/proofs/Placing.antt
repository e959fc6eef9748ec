-- What is placed of a template, and why it is not.
use Rattle.std.proofs.Common.{◌≡◌, inl, inr, ◌+◌, ◌<◌, ◌≤◌, ℕ, List, ◌∷◌, Ok, Err, Some, None, refl, ap, ap₂, sym, subst, ◌∙◌, arith}
use Rattle.std.specs.Prelude.{Result, IfErr}
use Rattle.tt.specs.Building.{BuilderState, Stack, lowest, above, append, close_innermost, bottom, extended, pushed, IsAbove, IsOpen, IsGrowthFault, built, tokens_held}
use Rattle.tt.specs.Forest.{Forest, Root, end, leaf, join, size}
use Rattle.tt.specs.Iters.{rest_of, IsFirstElement}
use Rattle.tt.specs.Moves.{after_tree}
use Rattle.tt.specs.Stored.{most_tokens}
use Rattle.tt.specs.TreeFault.{IsTreeFault}
use Rattle.tt.specs.Types.Leaf.{Leaf}
use Rattle.tt.specs.Types.Span.{Span}
use Rattle.tt.specs.Types.Subtree.{Subtree}
use Rattle.tt.specs.Types.TtElement.TheVariants as element
use Rattle.tt.specs.Types.TtFault.{TtFault}
use Rattle.tt.specs.Types.TtFault.TheVariants.{Memory}
use Rattle.tt.specs.Types.TtIter.{TtIter}
use Rattle.tt_base.proofs.Joins.{size-join}
use Rattle.mbe_rule.specs.declared.transcribe.Level.{Level}
use Rattle.mbe_rule.specs.declared.variable.Name.{Name}
use Rattle.mbe_rule.specs.Instances.{Binding, bound_to, filled, expansion}
use Rattle.mbe_rule.specs.Transcribing.{Places, IsPlaceFault}
use Rattle.mbe_rule.specs.Variables.{use_at}
use Rattle.mbe_rule.proofs.Advancing.{node_before}
use Rattle.tt_base.proofs.Appending.{held-append, held-close}
use Rattle.mbe_rule.proofs.Filling.{finished, held_less}
use Rattle.mbe_rule.proofs.Parts.{use_first, leaf_first, after_smaller}

-- Running out of memory is a fault of any tree.
pub memory_refuses : (root : Root) (fault : TtFault) → fault ≡ Memory → IsTreeFault root fault
memory_refuses root fault e = subst (IsTreeFault root) (sym e) tt

-- Too many tokens are a fault of a tree that has at least as many.
pub growth_refuses : (root : Root) (more : ℕ) (s : BuilderState) (fault : TtFault) → tokens_held s.stack + more ≤ size root.children
    → IsGrowthFault more s fault → IsTreeFault root fault
growth_refuses root more s fault within (inl (e, room)) = memory_refuses root fault e
growth_refuses root more s fault within (inr (e, many)) =
    let past : most_tokens < size root.children = omega (arith, within, many) in
    subst (IsTreeFault root) (sym e) past

-- A use is placed.
pub places_use : (binding : Binding) (it : Leaf) (siblings rest : Forest) (name : Name) (old new : BuilderState) (trees : Forest)
    → use_at it siblings ≡ Some name → rest ≡ after_tree siblings → trees ≡ bound_to name binding → new ≡ extended trees old
    → Places binding it siblings old rest new
places_use binding it siblings rest name old new trees used behind bound grown =
    record {
      trees = trees;
      placed = grown;
      whole = use_first binding it siblings name used ∙ ap₂ (λ t r. join t (filled binding r)) (sym bound) (sym behind);
      smaller = omega (arith, ap size behind, after_smaller siblings);
    }

-- Another leaf is placed.
pub places_leaf : (binding : Binding) (it : Leaf) (siblings rest : Forest) (old new : BuilderState)
    → use_at it siblings ≡ None → rest ≡ siblings → new ≡ pushed it old
    → Places binding it siblings old rest new
places_leaf binding it siblings rest old new plain same grown =
    record {
      trees = leaf it end;
      placed = grown;
      whole = leaf_first binding it siblings plain ∙ ap (λ r. join (leaf it end) (filled binding r)) (sym same);
      smaller = omega (arith, ap size same);
    }

-- A use is not placed.
pub use_refused : (binding : Binding) (it : Leaf) (siblings : Forest) (name : Name) (old : BuilderState) (trees : Forest) (fault : TtFault)
    → use_at it siblings ≡ Some name → trees ≡ bound_to name binding → IsGrowthFault (size trees) old fault → IsPlaceFault binding it siblings old fault
use_refused binding it siblings name old trees fault used bound refused =
    record {
      trees = trees;
      rest = after_tree siblings;
      whole = use_first binding it siblings name used ∙ ap (λ t. join t (filled binding (after_tree siblings))) (sym bound);
      refused = refused;
    }

-- Another leaf is not placed.
pub leaf_refused : (binding : Binding) (it : Leaf) (siblings : Forest) (old : BuilderState) (fault : TtFault)
    → use_at it siblings ≡ None → IsGrowthFault 1 old fault → IsPlaceFault binding it siblings old fault
leaf_refused binding it siblings old fault plain refused =
    record { trees = leaf it end; rest = siblings; whole = leaf_first binding it siblings plain; refused = refused }

-- Or a use may not be placed.
pub use_refused_if : {A : Type 0} (binding : Binding) (it : Leaf) (siblings : Forest) (name : Name) (old : BuilderState) (trees : Forest) (result : Result A TtFault)
    → use_at it siblings ≡ Some name → trees ≡ bound_to name binding → IfErr result (IsGrowthFault (size trees) old)
    → IfErr result (IsPlaceFault binding it siblings old)
use_refused_if binding it siblings name old trees (Ok x) used bound refused = tt
use_refused_if binding it siblings name old trees (Err fault) used bound refused = use_refused binding it siblings name old trees fault used bound refused

module _ (binding : Binding) (level : Level) (outer : List Level) (stack : Stack) (trees : Forest)
    (whole : finished binding (level ∷ outer) stack ≡ lowest trees) where
  -- Everything that is left of the level is among the trees.
  held_within : tokens_held stack + size (filled binding (rest_of level.rest)) ≤ size trees
  held_within =
      omega (
        arith,
        ap tokens_held whole,
        held-append (filled binding (rest_of level.rest)) stack,
        held-close level.close (append (filled binding (rest_of level.rest)) stack),
        held_less binding outer (close_innermost level.close (append (filled binding (rest_of level.rest)) stack)),
      )

  -- So is what is placed next.
  pub placed_within : (placed rest : Forest) → filled binding (rest_of level.rest) ≡ join placed (filled binding rest) → tokens_held stack + size placed ≤ size trees
  placed_within placed rest first = omega (arith, held_within, ap size first, size-join placed (filled binding rest))

  -- So is the header of a subtree that is opened.
  pub opened_within : (header : Subtree) (below : TtIter) → IsFirstElement (rest_of level.rest) (Some (element.Subtree header below)) → tokens_held stack + 1 ≤ size trees
  opened_within header below first =
      omega (arith, held_within, ap (λ f. size (filled binding f)) (node_before (rest_of level.rest) header below first))

-- If no subtree is open, there is nothing to close.
pub none_closed : (span : Span) (stack : Stack) → (IsAbove stack → ⊥) → close_innermost span stack ≡ stack
none_closed span (lowest trees) none = refl
none_closed span (above outer kind open_span trees) none = absurd (none tt)

-- If everything is placed, no subtree is open.
pub none_open : (s : BuilderState) (trees : Forest) → s.stack ≡ lowest trees → IsOpen s → ⊥
none_open s trees e is = subst IsAbove e is

-- The tree is then the filled template.
pub built_expansion : (binding : Binding) (template : Root) (s : BuilderState) → s.top ≡ template.delimiter → s.stack ≡ lowest (filled binding template.children)
    → built s ≡ expansion template binding
built_expansion binding template s top whole = λ i. record { delimiter = top i; children = bottom (whole i) }
