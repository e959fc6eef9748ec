-- What one step of transcribing leaves to be placed, and which errors it gives.
use Rattle.std.proofs.Common.{◌≡◌, ◌+◌, ◌*◌, ◌<◌, ◌≤◌, ℕ, List, [], ◌∷◌, ◌++◌, Some, None, length, reverse, ap, ap₂, sym, subst, ◌∙◌, arith, length-append}
use Rattle.std.proofs.lemmas.List.{reverse-append}
use Rattle.tt.specs.Building.{BuilderState, lowest, opened, closed, tokens_held, IsOpen, IsGrowthFault}
use Rattle.tt.specs.Forest.{Forest, Root, leaf, size}
use Rattle.tt.specs.Iters.{rest_of, IsFirstElement}
use Rattle.tt.specs.Moves.{after_tree}
use Rattle.tt.specs.TreeFault.{IsTreeFault}
use Rattle.tt.specs.Types.Leaf.{Leaf}
use Rattle.tt.specs.Types.Subtree.{Subtree}
use Rattle.tt.specs.Types.TtElement.TheVariants as element
use Rattle.tt.specs.Types.TtFault.{TtFault}
use Rattle.tt.specs.Types.TtIter.{TtIter}
use Rattle.mbe_rule.specs.declared.transcribe.Level.{Level}
use Rattle.mbe_rule.specs.Instances.{Binding, filled}
use Rattle.mbe_rule.specs.Transcribing.{Places, IsPlaceFault}
use Rattle.mbe_rule.proofs.Advancing.{leaf_before, node_before}
use Rattle.mbe_rule.proofs.Filling.{finished, tokens_left, finished_ended, finished_placed, finished_subtree}
use Rattle.mbe_rule.proofs.Placing.{growth_refuses, placed_within, opened_within, none_closed}

module _ (binding : Binding) (levels olds : List Level) (level : Level) (old : BuilderState) (trees : Forest) (was : olds ≡ levels ++ level ∷ [])
    (whole : finished binding (reverse olds) old.stack ≡ lowest trees) where
  -- what is left, with the innermost level first
  left : finished binding (level ∷ reverse levels) old.stack ≡ lowest trees
  left = sym (ap (λ l. finished binding l old.stack) (ap reverse was ∙ reverse-append levels (level ∷ []))) ∙ whole

  -- A level ends in a subtree that is closed.
  pub closed_step : (new : BuilderState) → IsFirstElement (rest_of level.rest) None → new ≡ closed level.close old → finished binding (reverse levels) new.stack ≡ lowest trees
  closed_step new none is =
      ap (λ s. finished binding (reverse levels) s.stack) is ∙ sym (finished_ended binding level (reverse levels) old.stack none) ∙ left

  -- The lowest level ends.
  pub ended_step : IsFirstElement (rest_of level.rest) None → (IsOpen old → ⊥) → finished binding (reverse levels) old.stack ≡ lowest trees
  ended_step none not_open =
      ap (λ s. finished binding (reverse levels) s) (sym (none_closed level.close old.stack not_open))
      ∙ sym (finished_ended binding level (reverse levels) old.stack none) ∙ left

  module _ (it : Leaf) (siblings : Forest) (first : IsFirstElement (rest_of level.rest) (Some (element.Leaf it))) (behind : siblings ≡ after_tree (rest_of level.rest)) where
    -- the level as it is read
    begins : rest_of level.rest ≡ leaf it siblings
    begins = leaf_before (rest_of level.rest) it first ∙ ap (leaf it) (sym behind)

    -- A leaf is placed.
    pub leaf_step : (next : Level) (news : List Level) (new : BuilderState) → news ≡ levels ++ next ∷ [] → next.close ≡ level.close
        → Places binding it siblings old (rest_of next.rest) new → finished binding (reverse news) new.stack ≡ lowest trees
    leaf_step next news new is close placed =
        ap₂ (λ l s. finished binding l s.stack) (ap reverse is ∙ reverse-append levels (next ∷ [])) placed.placed
        ∙ sym (finished_placed binding level next (reverse levels) old.stack placed.trees (ap (filled binding) begins ∙ placed.whole) close)
        ∙ left

    -- The leaf is not placed.
    pub leaf_fault : (root : Root) (fault : TtFault) → root.children ≡ trees → IsPlaceFault binding it siblings old fault → IsTreeFault root fault
    leaf_fault root fault same is =
        growth_refuses root (size is.trees) old fault
        (subst (λ f. tokens_held old.stack + size is.trees ≤ size f) (sym same) (placed_within binding level (reverse levels) old.stack trees left is.trees is.rest (ap (filled binding) begins ∙ is.whole)))
        is.refused

  module _ (header : Subtree) (children : TtIter) (first : IsFirstElement (rest_of level.rest) (Some (element.Subtree header children))) where
    -- A subtree is opened.
    pub subtree_step : (next below : Level) (news : List Level) (new : BuilderState) → rest_of next.rest ≡ after_tree (rest_of level.rest)
        → news ≡ (levels ++ next ∷ []) ++ below ∷ [] → next.close ≡ level.close → below.rest ≡ children → below.close ≡ header.delimiter.close
        → new ≡ opened header.delimiter.kind header.delimiter.open_span old → finished binding (reverse news) new.stack ≡ lowest trees
    subtree_step next below news new rest is close held round opening =
        ap₂ (λ l s. finished binding l s.stack)
        (ap reverse is ∙ reverse-append (levels ++ next ∷ []) (below ∷ []) ∙ ap (λ l. below ∷ l) (reverse-append levels (next ∷ []))) opening
        ∙ sym (finished_subtree binding level next below (reverse levels) old.stack header children first rest close held round)
        ∙ left

    -- No subtree is opened.
    pub open_fault : (root : Root) (fault : TtFault) → root.children ≡ trees → IsGrowthFault 1 old fault → IsTreeFault root fault
    open_fault root fault same refused =
        growth_refuses root 1 old fault
        (subst (λ f. tokens_held old.stack + 1 ≤ size f) (sym same) (opened_within binding level (reverse levels) old.stack trees left header children first))
        refused

-- how much is left to do
abbrev pub work_left : List Level → ℕ
work_left levels = 2 * tokens_left (reverse levels) + length levels

module _ (levels olds news : List Level) (level next : Level) (was : olds ≡ levels ++ level ∷ []) where
  -- Less is left after a leaf.
  pub leaf_smaller : (it : Leaf) (siblings : Forest) → news ≡ levels ++ next ∷ [] → IsFirstElement (rest_of level.rest) (Some (element.Leaf it))
      → siblings ≡ after_tree (rest_of level.rest) → size (rest_of next.rest) ≤ size siblings → work_left news < work_left olds
  leaf_smaller it siblings is first behind smaller =
      omega (
        arith,
        ap tokens_left (ap reverse was ∙ reverse-append levels (level ∷ [])),
        ap tokens_left (ap reverse is ∙ reverse-append levels (next ∷ [])),
        ap length was ∙ length-append levels (level ∷ []),
        ap length is ∙ length-append levels (next ∷ []),
        ap size (leaf_before (rest_of level.rest) it first ∙ ap (leaf it) (sym behind)),
        smaller,
      )

  -- Less is left in a subtree.
  pub subtree_smaller : (header : Subtree) (children : TtIter) (below : Level) → news ≡ (levels ++ next ∷ []) ++ below ∷ []
      → IsFirstElement (rest_of level.rest) (Some (element.Subtree header children)) → rest_of next.rest ≡ after_tree (rest_of level.rest) → below.rest ≡ children
      → work_left news < work_left olds
  subtree_smaller header children below is first rest held =
      omega (
        arith,
        ap tokens_left (ap reverse was ∙ reverse-append levels (level ∷ [])),
        ap tokens_left (ap reverse is ∙ reverse-append (levels ++ next ∷ []) (below ∷ []) ∙ ap (λ l. below ∷ l) (reverse-append levels (next ∷ []))),
        ap length was ∙ length-append levels (level ∷ []),
        ap length is ∙ length-append (levels ++ next ∷ []) (below ∷ []),
        length-append levels (next ∷ []),
        ap size (node_before (rest_of level.rest) header children first),
        ap size rest,
        ap (λ i. size (rest_of i)) held,
      )
