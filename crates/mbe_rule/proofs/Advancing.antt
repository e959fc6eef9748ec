-- What the next sibling of a pattern finds in an input, from what was read of both.
use Rattle.std.proofs.Common.{◌≡◌, true, false, List, [], ◌∷◌, ◌++◌, Some, None, refl, ap, ap₂, sym, subst, ◌∙◌, arith, append_assoc}
use Rattle.tt.specs.Expectations.{is_at_node}
use Rattle.tt.specs.Forest.{Forest, end, leaf, node, size}
use Rattle.tt.specs.Iters.{rest_of, IsFirstElement}
use Rattle.tt.specs.Moves.{after_tree}
use Rattle.tt.specs.Siblings.{first_tree, is_end}
use Rattle.tt.specs.Types.Leaf.{Leaf}
use Rattle.tt.specs.Types.Subtree.{Subtree}
use Rattle.tt.specs.Types.TtElement.TheVariants as element
use Rattle.tt.specs.Types.TtIter.{TtIter}
use Rattle.mbe_rule.specs.declared.matching.Pair.{Pair}
use Rattle.mbe_rule.specs.declared.matching.Progress.TheVariants as progress
use Rattle.mbe_rule.specs.declared.variable.Variable.{Variable}
use Rattle.mbe_rule.specs.Instances.{variable, token, pattern_of, takes}
use Rattle.mbe_pattern.specs.Units.{IsLeafLike, IsNodeOf}
use Rattle.mbe_rule.specs.Matching.{Matches, trees_bound, PairMatches, pair_trees, Advances}
use Rattle.mbe_rule.specs.Variables.{variable_at}
use Rattle.mbe_rule.proofs.Parts.{variable_first, token_first, after_smaller}

-- Nothing is left.
pub none_first : (trees : Forest) → IsFirstElement trees None → trees ≡ end
none_first end p = refl
none_first (leaf it rest) p = absurd p
none_first (node delimiter children rest) p = absurd p

none_left : (trees : Forest) → is_end trees ≡ true → trees ≡ end
none_left end p = refl
none_left (leaf it rest) p = absurd (cc p)
none_left (node delimiter children rest) p = absurd (cc p)

-- The first tree is a leaf.
pub leaf_before : (trees : Forest) (it : Leaf) → IsFirstElement trees (Some (element.Leaf it)) → trees ≡ leaf it (after_tree trees)
leaf_before end it p = absurd p
leaf_before (leaf other rest) it p = ap (λ l. leaf l rest) (sym p)
leaf_before (node delimiter children rest) it p = absurd p

-- The first tree is a subtree.
pub node_before : (trees : Forest) (header : Subtree) (below : TtIter) → IsFirstElement trees (Some (element.Subtree header below))
    → trees ≡ node header.delimiter (rest_of below) (after_tree trees)
node_before end header below p = absurd p
node_before (leaf it rest) header below p = absurd p
node_before (node delimiter children rest) header below p = ap₂ (λ d f. node d f rest) (sym p.0) (sym p.2)

module _ (old new : Pair) (before after : List Forest) where
  -- Both are at their ends.
  pub ends : IsFirstElement (rest_of old.pattern) None → is_end (rest_of old.input) ≡ true → after ≡ before → Advances old before progress.Ends new after
  ends none ended same =
      let over = none_first (rest_of old.pattern) none in (
        subst (λ f. Matches (pattern_of f) (rest_of old.input)) (sym over) (none_left (rest_of old.input) ended),
        ap (λ f. trees_bound (pattern_of f) (rest_of old.input)) over,
        same,
      )

  -- Only the pattern is at its end.
  pub goes_on : IsFirstElement (rest_of old.pattern) None → is_end (rest_of old.input) ≡ false → Advances old before progress.Differs new after
  goes_on none more m =
      let over = none_first (rest_of old.pattern) none in
      let is : rest_of old.input ≡ end = subst (λ f. Matches (pattern_of f) (rest_of old.input)) over m in
      cc (more, ap is_end is)

  module _ (it : Leaf) (first : IsFirstElement (rest_of old.pattern) (Some (element.Leaf it))) where
    -- the pattern as it is read
    begins : rest_of old.pattern ≡ leaf it (after_tree (rest_of old.pattern))
    begins = leaf_before (rest_of old.pattern) it first

    module _ (found : Variable) (at : variable_at it (after_tree (rest_of old.pattern)) ≡ Some found) where
      -- as a variable
      spelled : pattern_of (rest_of old.pattern) ≡ variable found (pattern_of (after_tree (after_tree (after_tree (after_tree (rest_of old.pattern))))))
      spelled = ap pattern_of begins ∙ variable_first it (after_tree (rest_of old.pattern)) found at

      -- It takes a tree.
      pub variable_passes : takes found.fragment (rest_of old.input) ≡ true
          → rest_of new.pattern ≡ after_tree (after_tree (after_tree (after_tree (rest_of old.pattern)))) → rest_of new.input ≡ after_tree (rest_of old.input)
          → after ≡ before ++ first_tree (rest_of old.input) ∷ [] → Advances old before progress.Passes new after
      variable_passes taken behind rest more = (
        (
          λ m. subst (λ f. Matches (pattern_of f) (rest_of new.input)) (sym behind) (subst (Matches (pattern_of (after_tree (after_tree (after_tree (after_tree (rest_of old.pattern))))))) (sym rest) (subst (λ p. Matches p (rest_of old.input)) spelled m).1),
          λ m. subst (λ p. Matches p (rest_of old.input)) (sym spelled) (taken, subst (Matches (pattern_of (after_tree (after_tree (after_tree (after_tree (rest_of old.pattern))))))) rest (subst (λ f. Matches (pattern_of f) (rest_of new.input)) behind m)),
        ),
        ap (λ l. l ++ pair_trees new) more
            ∙ append_assoc before (first_tree (rest_of old.input) ∷ []) (pair_trees new)
            ∙ ap (λ l. before ++ l)
            (ap₂ (λ f i. first_tree (rest_of old.input) ∷ trees_bound (pattern_of f) i) behind rest ∙ ap (λ p. trees_bound p (rest_of old.input)) (sym spelled)),
        omega (
          arith,
          ap size begins,
          ap size behind,
          after_smaller (after_tree (rest_of old.pattern)),
          after_smaller (after_tree (after_tree (rest_of old.pattern))),
          after_smaller (after_tree (after_tree (after_tree (rest_of old.pattern)))),
        ),
      )

      -- It takes none.
      pub variable_differs : takes found.fragment (rest_of old.input) ≡ false → Advances old before progress.Differs new after
      variable_differs none m = cc (none, (subst (λ p. Matches p (rest_of old.input)) spelled m).0)

    module _ (at : variable_at it (after_tree (rest_of old.pattern)) ≡ None) where
      -- as a leaf
      spells : pattern_of (rest_of old.pattern) ≡ token it (pattern_of (after_tree (rest_of old.pattern)))
      spells = ap pattern_of begins ∙ token_first it (after_tree (rest_of old.pattern)) at

      -- The input has the leaf.
      pub token_passes : IsLeafLike it (rest_of old.input) → rest_of new.pattern ≡ after_tree (rest_of old.pattern) → rest_of new.input ≡ after_tree (rest_of old.input)
          → after ≡ before → Advances old before progress.Passes new after
      token_passes like behind rest same = (
        (
          λ m. subst (λ f. Matches (pattern_of f) (rest_of new.input)) (sym behind) (subst (Matches (pattern_of (after_tree (rest_of old.pattern)))) (sym rest) (subst (λ p. Matches p (rest_of old.input)) spells m).1),
          λ m. subst (λ p. Matches p (rest_of old.input)) (sym spells) (like, subst (Matches (pattern_of (after_tree (rest_of old.pattern)))) rest (subst (λ f. Matches (pattern_of f) (rest_of new.input)) behind m)),
        ),
        ap₂ (λ l t. l ++ t) same (ap₂ (λ f i. trees_bound (pattern_of f) i) behind rest ∙ ap (λ p. trees_bound p (rest_of old.input)) (sym spells)),
        omega (arith, ap size begins, ap size behind),
      )

      -- The input does not have it.
      pub token_differs : (IsLeafLike it (rest_of old.input) → ⊥) → Advances old before progress.Differs new after
      token_differs other m = other (subst (λ p. Matches p (rest_of old.input)) spells m).0

  module _ (header : Subtree) (inside : TtIter) (first : IsFirstElement (rest_of old.pattern) (Some (element.Subtree header inside))) where
    -- the pattern as it is read
    opens : rest_of old.pattern ≡ node header.delimiter (rest_of inside) (after_tree (rest_of old.pattern))
    opens = node_before (rest_of old.pattern) header inside first

    -- A subtree of the same kind is entered with it.
    pub enters : (other : Subtree) (held : TtIter) (below : Pair) → IsFirstElement (rest_of old.input) (Some (element.Subtree other held))
        → other.delimiter.kind ≡ header.delimiter.kind → below.pattern ≡ inside → below.input ≡ held
        → rest_of new.pattern ≡ after_tree (rest_of old.pattern) → rest_of new.input ≡ after_tree (rest_of old.input)
        → after ≡ before → Advances old before (progress.Enters below) new after
    enters other held below found kind is_inside is_held behind rest same =
        let begun = node_before (rest_of old.input) other held found in
        let whole : PairMatches old ≡ ((other.delimiter.kind ≡ header.delimiter.kind) × PairMatches below × PairMatches new) =
        ap₂ (λ f i. Matches (pattern_of f) i) opens begun
        ∙ ap₂ (λ p i. (other.delimiter.kind ≡ header.delimiter.kind) × Matches (pattern_of (rest_of p)) (rest_of i) × Matches (pattern_of (after_tree (rest_of old.pattern))) (after_tree (rest_of old.input))) (sym is_inside) (sym is_held)
        ∙ ap₂ (λ f i. (other.delimiter.kind ≡ header.delimiter.kind) × PairMatches below × Matches (pattern_of f) i) (sym behind) (sym rest) in (
          (
            λ m. let all = subst (λ T. T) whole m in (all.1, all.2),
            λ m. subst (λ T. T) (sym whole) (kind, m.0, m.1),
          ),
          ap₂ (λ f i. trees_bound (pattern_of f) i) opens begun
              ∙ ap₂ (λ p i. trees_bound (pattern_of (rest_of p)) (rest_of i) ++ trees_bound (pattern_of (after_tree (rest_of old.pattern))) (after_tree (rest_of old.input))) (sym is_inside) (sym is_held)
              ∙ ap₂ (λ f i. pair_trees below ++ trees_bound (pattern_of f) i) (sym behind) (sym rest),
          same,
          omega (arith, ap size opens, ap (λ p. size (rest_of p)) is_inside, ap size behind),
        )

    -- The input has no subtree there.
    pub node_missed : is_at_node (rest_of old.input) ≡ false → Advances old before progress.Differs new after
    node_missed none m =
        let like : IsNodeOf header.delimiter.kind (rest_of old.input) = (subst (λ f. Matches (pattern_of f) (rest_of old.input)) opens m).0 in
        at (rest_of old.input) none like
      where
        at : (trees : Forest) → is_at_node trees ≡ false → IsNodeOf header.delimiter.kind trees → ⊥
        at end none like = like
        at (leaf it rest) none like = like
        at (node delimiter children rest) none like = cc none

    -- The input has a subtree of another kind.
    pub kind_differs : (other : Subtree) (held : TtIter) → IsFirstElement (rest_of old.input) (Some (element.Subtree other held))
        → (other.delimiter.kind ≡ header.delimiter.kind → ⊥) → Advances old before progress.Differs new after
    kind_differs other held found differs m =
        let begun = node_before (rest_of old.input) other held found in
        differs (subst (λ T. T) (ap₂ (λ f i. Matches (pattern_of f) i) opens begun) m).0
