use Rattle.std.proofs.Common.{rules, ◌≡◌, [], ◌∷◌, ◌++◌, None, Some, Err, map, refl, ap, ◌∙◌}
use Rattle.std.specs.List.{zip}
use Rattle.tt.specs.Building.{IsOpen, IsGrowthFault, closed, opened}
use Rattle.tt.specs.Iters.{rest_of, IsFirstElement}
use Rattle.tt.specs.Moves.{after_tree}
use Rattle.tt.specs.SubtreeViews.{root_of}
use Rattle.tt.specs.Types.TtElement.TheVariants as element
use Rattle.tt.specs.Views.{trees_of}
use Rattle.mbe_rule.specs.declared.transcribe.Level.{Level}
use Rattle.mbe_rule.specs.Instances.{expansion, filled}
use Rattle.mbe_rule.specs.Transcribing.{Places, IsPlaceFault}
use Rattle.mbe_rule.proofs.PlaceSteps.{closed_step, ended_step, leaf_step, leaf_fault, leaf_smaller, subtree_step, subtree_smaller, open_fault}
use Rattle.mbe_rule.proofs.transcribe.fill.Goals as goal

pub loop-level-preserved-in-Continue-branch-2 : goal.loop-level-preserved-in-Continue-branch-2
loop-level-preserved-in-Continue-branch-2 c =
    let binding = zip c.args.names.now.keys (map trees_of c.args.taken.now) in
    let levels = c.pop.new.self.items in
    let level = c.in-Some.level in
    let was : c.loop-level.levels.items ≡ levels ++ level ∷ [] = search rules in
    let first : IsFirstElement (rest_of level.rest) None = search rules in
    let is : c.close.new.self ≡ closed level.close c.loop-level.builder = search rules in
    record {
      top = ap (λ s. s.top) is ∙ c.loop-level.invariant.top;
      whole = closed_step binding levels c.loop-level.levels.items level c.loop-level.builder (filled binding (root_of c.args.template).children) was c.loop-level.invariant.whole c.close.new.self first is;
    }

pub loop-level-preserved-else-is_open : goal.loop-level-preserved-else-is_open
loop-level-preserved-else-is_open c =
    let binding = zip c.args.names.now.keys (map trees_of c.args.taken.now) in
    let levels = c.pop.new.self.items in
    let level = c.in-Some.level in
    let was : c.loop-level.levels.items ≡ levels ++ level ∷ [] = search rules in
    let first : IsFirstElement (rest_of level.rest) None = search rules in
    let shut : IsOpen c.loop-level.builder → ⊥ = search rules in
    record {
      top = c.loop-level.invariant.top;
      whole = ended_step binding levels c.loop-level.levels.items level c.loop-level.builder (filled binding (root_of c.args.template).children) was c.loop-level.invariant.whole first shut;
    }

pub returns-in_err-place-in-Some-Leaf-clause-fault : goal.returns-in_err-place-in-Some-Leaf-clause-fault
returns-in_err-place-in-Some-Leaf-clause-fault c =
    let binding = zip c.args.names.now.keys (map trees_of c.args.taken.now) in
    let levels = c.pop.new.self.items in
    let level = c.in-Some.level in
    let leaf = c.in-Some-Leaf.leaf in
    let was : c.loop-level.levels.items ≡ levels ++ level ∷ [] = search rules in
    let first : IsFirstElement (rest_of level.rest) (Some (element.Leaf leaf)) = search rules in
    let behind : rest_of c.next.new.self ≡ after_tree (rest_of level.rest) = search rules in
    let refused : IsPlaceFault binding leaf (rest_of c.next.new.self) c.loop-level.builder c.in_err-place-in-Some-Leaf.field-0.0 = search rules in
    let is : c.from_residual-in_err-place-in-Some-Leaf.result ≡ Err c.in_err-place-in-Some-Leaf.field-0.0 = search rules in
    rw is
    (leaf_fault binding levels c.loop-level.levels.items level c.loop-level.builder (filled binding (root_of c.args.template).children) was c.loop-level.invariant.whole leaf (rest_of c.next.new.self) first behind
    (expansion (root_of c.args.template) binding) _ refl refused)

pub loop-level-preserved-in-Continue-branch-4 : goal.loop-level-preserved-in-Continue-branch-4
loop-level-preserved-in-Continue-branch-4 c =
    let binding = zip c.args.names.now.keys (map trees_of c.args.taken.now) in
    let levels = c.pop.new.self.items in
    let level = c.in-Some.level in
    let leaf = c.in-Some-Leaf.leaf in
    let next : Level = record { rest = c.place.new.siblings; close = level.close } in
    let was : c.loop-level.levels.items ≡ levels ++ level ∷ [] = search rules in
    let is : c.push-in-Some-Leaf.new.self.items ≡ levels ++ next ∷ [] = search rules in
    let first : IsFirstElement (rest_of level.rest) (Some (element.Leaf leaf)) = search rules in
    let behind : rest_of c.next.new.self ≡ after_tree (rest_of level.rest) = search rules in
    let placed : Places binding leaf (rest_of c.next.new.self) c.loop-level.builder (rest_of c.place.new.siblings) c.place.new.builder = search rules in
    record {
      top = ap (λ s. s.top) placed.placed ∙ c.loop-level.invariant.top;
      whole =
          leaf_step binding levels c.loop-level.levels.items level c.loop-level.builder (filled binding (root_of c.args.template).children) was c.loop-level.invariant.whole leaf (rest_of c.next.new.self) first behind next
          c.push-in-Some-Leaf.new.self.items c.place.new.builder is refl placed;
    }

pub loop-level-smaller-in-Continue-branch-4 : goal.loop-level-smaller-in-Continue-branch-4
loop-level-smaller-in-Continue-branch-4 c =
    let binding = zip c.args.names.now.keys (map trees_of c.args.taken.now) in
    let levels = c.pop.new.self.items in
    let level = c.in-Some.level in
    let leaf = c.in-Some-Leaf.leaf in
    let next : Level = record { rest = c.place.new.siblings; close = level.close } in
    let was : c.loop-level.levels.items ≡ levels ++ level ∷ [] = search rules in
    let is : c.push-in-Some-Leaf.new.self.items ≡ levels ++ next ∷ [] = search rules in
    let first : IsFirstElement (rest_of level.rest) (Some (element.Leaf leaf)) = search rules in
    let behind : rest_of c.next.new.self ≡ after_tree (rest_of level.rest) = search rules in
    let placed : Places binding leaf (rest_of c.next.new.self) c.loop-level.builder (rest_of c.place.new.siblings) c.place.new.builder = search rules in
    leaf_smaller levels c.loop-level.levels.items c.push-in-Some-Leaf.new.self.items level next was leaf (rest_of c.next.new.self) is first behind placed.smaller

pub returns-in_err-open-in-Some-Subtree-clause-fault : goal.returns-in_err-open-in-Some-Subtree-clause-fault
returns-in_err-open-in-Some-Subtree-clause-fault c =
    let binding = zip c.args.names.now.keys (map trees_of c.args.taken.now) in
    let levels = c.pop.new.self.items in
    let level = c.in-Some.level in
    let header = c.in-Some-Subtree.header in
    let children = c.in-Some-Subtree.rest in
    let was : c.loop-level.levels.items ≡ levels ++ level ∷ [] = search rules in
    let first : IsFirstElement (rest_of level.rest) (Some (element.Subtree header children)) = search rules in
    let refused : IsGrowthFault 1 c.loop-level.builder c.in_err-open-in-Some-Subtree.field-0.0 = search rules in
    let is : c.from_residual-in_err-open-in-Some-Subtree.result ≡ Err c.in_err-open-in-Some-Subtree.field-0.0 = search rules in
    rw is
    (open_fault binding levels c.loop-level.levels.items level c.loop-level.builder (filled binding (root_of c.args.template).children) was c.loop-level.invariant.whole header children first
    (expansion (root_of c.args.template) binding) _ refl refused)

pub loop-level-preserved : goal.loop-level-preserved
loop-level-preserved c =
    let binding = zip c.args.names.now.keys (map trees_of c.args.taken.now) in
    let levels = c.pop.new.self.items in
    let level = c.in-Some.level in
    let header = c.in-Some-Subtree.header in
    let children = c.in-Some-Subtree.rest in
    let next : Level = record { rest = c.next.new.self; close = level.close } in
    let below : Level = record { rest = children; close = header.delimiter.close } in
    let was : c.loop-level.levels.items ≡ levels ++ level ∷ [] = search rules in
    let is : c.push-in-Some-Subtree-2.new.self.items ≡ (levels ++ next ∷ []) ++ below ∷ [] = search rules in
    let first : IsFirstElement (rest_of level.rest) (Some (element.Subtree header children)) = search rules in
    let rest : rest_of c.next.new.self ≡ after_tree (rest_of level.rest) = search rules in
    let opening : c.open.new.self ≡ opened header.delimiter.kind header.delimiter.open_span c.loop-level.builder = search rules in
    record {
      top = ap (λ s. s.top) opening ∙ c.loop-level.invariant.top;
      whole =
          subtree_step binding levels c.loop-level.levels.items level c.loop-level.builder (filled binding (root_of c.args.template).children) was c.loop-level.invariant.whole header children first next below
          c.push-in-Some-Subtree-2.new.self.items c.open.new.self rest is refl refl refl opening;
    }

pub loop-level-smaller : goal.loop-level-smaller
loop-level-smaller c =
    let levels = c.pop.new.self.items in
    let level = c.in-Some.level in
    let header = c.in-Some-Subtree.header in
    let children = c.in-Some-Subtree.rest in
    let next : Level = record { rest = c.next.new.self; close = level.close } in
    let below : Level = record { rest = children; close = header.delimiter.close } in
    let was : c.loop-level.levels.items ≡ levels ++ level ∷ [] = search rules in
    let is : c.push-in-Some-Subtree-2.new.self.items ≡ (levels ++ next ∷ []) ++ below ∷ [] = search rules in
    let first : IsFirstElement (rest_of level.rest) (Some (element.Subtree header children)) = search rules in
    let rest : rest_of c.next.new.self ≡ after_tree (rest_of level.rest) = search rules in
    subtree_smaller levels c.loop-level.levels.items c.push-in-Some-Subtree-2.new.self.items level next was header children below is first rest refl
