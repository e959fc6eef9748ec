-- A step that passes the first tree of a level.
use Rattle.std.proofs.Common.{◌≡◌, ◌-◌, ◌<◌, ◌+◌, ◌++◌, ℕ, zero, suc, Bool, List, map, None, Some, refl, ap, ap₂, sym, subst, ◌∙◌, arith}
use Rattle.std.proofs.lemmas.List.{append_assoc, append-nil}
use Rattle.tt.specs.Forest.{Forest, end, leaf, node, size}
use Rattle.tt.specs.Iters.{rest_of, IsFirstElement}
use Rattle.tt.specs.Moves.{after_tree}
use Rattle.tt.specs.Types.Leaf.{Leaf}
use Rattle.tt.specs.Types.Subtree.{Subtree}
use Rattle.tt.specs.Types.TtElement.TheVariants as element
use Rattle.tt.specs.Types.TtIter.{TtIter}
use Rattle.expand_unused.specs.declared.choice.Choice.{Choice}
use Rattle.expand_unused.specs.declared.part.Part as part_in_code
use Rattle.expand_unused.specs.declared.walk.Level.{Level}
use Rattle.expand_unused.specs.declared.walk.Step.TheVariants as step
use Rattle.expand_unused.specs.Parts.{first_at, first_parts, part_of, parts_in, passed_by}
use Rattle.expand_unused.specs.Steps.{left_in, AreFirstNoted, IsInside, IsLeafPassed, IsStep, IsSubtreePassed}

module _ (choice : Choice) (defined : ℕ → Bool) (before after : List part_in_code.Part) (old new : Level) where
  -- The parts that are left at a leaf are those that it begins, and those behind it.
  leaf_left : (passed : ℕ) (trees : Forest) (it : Leaf) → IsFirstElement trees (Some (element.Leaf it)) → rest_of old.rest ≡ trees → new.left ≡ old.left - 1
      → AreFirstNoted choice (defined old.left) it passed old before new.passed after
      → (size (after_tree trees) < size trees)
      × (map part_of after ++ parts_in choice defined new.passed new.left (after_tree trees) ≡ map part_of before ++ parts_in choice defined passed old.left trees)
  leaf_left passed end it first is left noted = absurd first
  leaf_left passed (node delimiter children rest) it first is left noted = absurd first
  leaf_left (suc passed) (leaf other rest) it first is left noted =
      let those = noted.0 (omega arith) in
      let next : new.passed ≡ passed = omega (arith, those.0) in (
        omega arith,
        ap₂ (λ parts n. parts ++ parts_in choice defined n new.left rest) those.1 next ∙ ap (λ n. map part_of before ++ parts_in choice defined passed n rest) left,
      )
  leaf_left zero (leaf other rest) it first is left noted =
      let those = noted.1 refl in
      let found = first_at choice (defined old.left) (leaf other rest) in
      let same : first_at choice (defined old.left) (rest_of old.rest) ≡ found = ap (first_at choice (defined old.left)) is in
      let parts : map part_of after ≡ map part_of before ++ first_parts choice found other (leaf other rest) =
      those.1 ∙ ap₂ (λ f t. map part_of before ++ first_parts choice f it t) same is ∙ ap (λ l. map part_of before ++ first_parts choice found l (leaf other rest)) first in
      let next : new.passed ≡ passed_by found = those.0 ∙ ap passed_by same in (
        omega arith,
        ap₂ (λ these n. these ++ parts_in choice defined n new.left rest) parts next
            ∙ ap (λ n. (map part_of before ++ first_parts choice found other (leaf other rest)) ++ parts_in choice defined (passed_by found) n rest) left
            ∙ append_assoc (map part_of before) (first_parts choice found other (leaf other rest)) (parts_in choice defined (passed_by found) (old.left - 1) rest),
      )

  pub leaf_step : (it : Leaf) → IsFirstElement (rest_of old.rest) (Some (element.Leaf it)) → IsLeafPassed choice defined it old before new after
      → IsStep choice defined old before step.Past new after
  leaf_step it first is =
      let behind : rest_of new.rest ≡ after_tree (rest_of old.rest) = is.behind in
      let (less, parts) = leaf_left old.passed (rest_of old.rest) it first refl is.left is.noted in
      record {
        less = subst (λ f. size f < size (rest_of old.rest)) (sym behind) less;
        noted = ap₂ (λ these f. these ++ parts_in choice defined new.passed new.left f) (append-nil (map part_of after)) behind ∙ parts;
      }

module _ (choice : Choice) (defined : ℕ → Bool) (before : List part_in_code.Part) (old new : Level) (header : Subtree) (children : TtIter) where
  -- A subtree of a definition is passed.
  past_left : (passed : ℕ) (trees : Forest) → IsFirstElement trees (Some (element.Subtree header children)) → new.left ≡ old.left - 1 - header.len → new.passed ≡ passed - 1
      → IsInside children passed old.left None
      → (size (after_tree trees) < size trees) × (parts_in choice defined new.passed new.left (after_tree trees) ≡ parts_in choice defined passed old.left trees)
  past_left passed end first left next inside = absurd first
  past_left passed (leaf other rest) first left next inside = absurd first
  past_left zero (node delimiter held rest) first left next inside = absurd (cc inside)
  past_left (suc passed) (node delimiter held rest) first left next inside =
      let here : new.passed ≡ passed = omega (arith, next) in
      let there : new.left ≡ old.left - 1 - size held = left ∙ ap (λ n. old.left - 1 - n) first.1 in
      (omega arith, ap₂ (λ n m. parts_in choice defined n m rest) here there)

  pub past_step : IsFirstElement (rest_of old.rest) (Some (element.Subtree header children)) → IsSubtreePassed header.len children old None new
      → IsStep choice defined old before step.Past new before
  past_step first is =
      let behind : rest_of new.rest ≡ after_tree (rest_of old.rest) = is.behind in
      let (less, parts) = past_left old.passed (rest_of old.rest) first is.left is.passed is.into in
      record {
        less = subst (λ f. size f < size (rest_of old.rest)) (sym behind) less;
        noted = ap (λ these. these ++ left_in choice defined new) (append-nil (map part_of before))
            ∙ ap (λ f. map part_of before ++ parts_in choice defined new.passed new.left f) behind ∙ ap (λ these. map part_of before ++ these) parts;
      }

  -- The trees of another subtree are still to be walked.
  into_left : (inside : Level) (passed : ℕ) (trees : Forest) → IsFirstElement trees (Some (element.Subtree header children)) → new.left ≡ old.left - 1 - header.len
      → new.passed ≡ passed - 1 → IsInside children passed old.left (Some inside)
      → (size (rest_of inside.rest) + size (after_tree trees) < size trees)
      × (left_in choice defined inside ++ parts_in choice defined new.passed new.left (after_tree trees) ≡ parts_in choice defined passed old.left trees)
  into_left inside passed end first left next is = absurd first
  into_left inside passed (leaf other rest) first left next is = absurd first
  into_left inside (suc passed) (node delimiter held rest) first left next is = absurd (cc is)
  into_left inside zero (node delimiter held rest) first left next is =
      let same : inside ≡ record { rest = children; passed = 0; left = old.left - 1 } = cc is in
      let here : new.passed ≡ 0 = omega (arith, next) in
      let there : new.left ≡ old.left - 1 - size held = left ∙ ap (λ n. old.left - 1 - n) first.1 in
      let holds : rest_of inside.rest ≡ held = ap (λ l. rest_of l.rest) same ∙ first.2 in (
        omega (arith, ap size holds),
        ap₂ (λ these those. these ++ those)
            (ap (left_in choice defined) same ∙ ap (parts_in choice defined 0 (old.left - 1)) first.2)
            (ap₂ (λ n m. parts_in choice defined n m rest) here there),
      )

  pub into_step : (inside : Level) → IsFirstElement (rest_of old.rest) (Some (element.Subtree header children)) → IsSubtreePassed header.len children old (Some inside) new
      → IsStep choice defined old before (step.Into inside) new before
  into_step inside first is =
      let behind : rest_of new.rest ≡ after_tree (rest_of old.rest) = is.behind in
      let (less, parts) = into_left inside old.passed (rest_of old.rest) first is.left is.passed is.into in
      record {
        less = subst (λ f. size (rest_of inside.rest) + size f < size (rest_of old.rest)) (sym behind) less;
        noted = append_assoc (map part_of before) (left_in choice defined inside) (left_in choice defined new)
            ∙ ap (λ f. map part_of before ++ (left_in choice defined inside ++ parts_in choice defined new.passed new.left f)) behind
            ∙ ap (λ these. map part_of before ++ these) parts;
      }
