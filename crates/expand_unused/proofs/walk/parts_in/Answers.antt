use Rattle.std.proofs.Common.{rules, ◌≡◌, ◌++◌, ◌∷◌, [], ap, ◌∙◌, arith}
use Rattle.expand_unused.specs.Places.{defined_in}
use Rattle.expand_unused.specs.Steps.{IsStep}
use Rattle.expand_unused.specs.declared.walk.Step.TheVariants as step
use Rattle.expand_unused.proofs.Levels.{work_of, work_more, after_over, after_past, after_into}
use Rattle.expand_unused.proofs.walk.parts_in.Goals as goal

pub levels-smaller-in-Over : goal.levels-smaller-in-Over
levels-smaller-in-Over c =
    let split : c.levels.levels.items ≡ c.pop.new.self.items ++ c.in-Some.level ∷ [] = search rules in
    omega (arith, ap work_of split, work_more c.pop.new.self.items c.in-Some.level)

pub levels-preserved-in-Over : goal.levels-preserved-in-Over
levels-preserved-in-Over c =
    let split : c.levels.levels.items ≡ c.pop.new.self.items ++ c.in-Some.level ∷ [] = search rules in
    let is : IsStep c.args.choice.now (defined_in c.args.defined.now) c.in-Some.level c.levels.parts.items step.Over c.step.new.self c.step.new.parts.items = search rules in
    after_over c.args.choice.now (defined_in c.args.defined.now) c.levels.levels.items c.pop.new.self.items c.in-Some.level c.step.new.self split c.levels.parts.items c.step.new.parts.items _
    c.levels.invariant is

pub levels-smaller-in-Continue-branch-4 : goal.levels-smaller-in-Continue-branch-4
levels-smaller-in-Continue-branch-4 c =
    let split : c.levels.levels.items ≡ c.pop.new.self.items ++ c.in-Some.level ∷ [] = search rules in
    let is : IsStep c.args.choice.now (defined_in c.args.defined.now) c.in-Some.level c.levels.parts.items step.Past c.step.new.self c.step.new.parts.items = search rules in
    let more : c.push-in-Past.new.self.items ≡ c.pop.new.self.items ++ c.step.new.self ∷ [] = search rules in
    omega (arith, ap work_of split, work_more c.pop.new.self.items c.in-Some.level, ap work_of more, work_more c.pop.new.self.items c.step.new.self, is.less)

pub levels-preserved-in-Continue-branch-4 : goal.levels-preserved-in-Continue-branch-4
levels-preserved-in-Continue-branch-4 c =
    let split : c.levels.levels.items ≡ c.pop.new.self.items ++ c.in-Some.level ∷ [] = search rules in
    let is : IsStep c.args.choice.now (defined_in c.args.defined.now) c.in-Some.level c.levels.parts.items step.Past c.step.new.self c.step.new.parts.items = search rules in
    let more : c.push-in-Past.new.self.items ≡ c.pop.new.self.items ++ c.step.new.self ∷ [] = search rules in
    after_past c.args.choice.now (defined_in c.args.defined.now) c.levels.levels.items c.pop.new.self.items c.in-Some.level c.step.new.self split c.levels.parts.items c.step.new.parts.items _
    c.levels.invariant c.push-in-Past.new.self.items more is

pub levels-smaller : goal.levels-smaller
levels-smaller c =
    let outer = c.pop.new.self.items in
    let inside = c.in-Into.inside in
    let split : c.levels.levels.items ≡ outer ++ c.in-Some.level ∷ [] = search rules in
    let is : IsStep c.args.choice.now (defined_in c.args.defined.now) c.in-Some.level c.levels.parts.items (step.Into inside) c.step.new.self c.step.new.parts.items = search rules in
    let one : c.push-in-Into.new.self.items ≡ outer ++ c.step.new.self ∷ [] = search rules in
    let two : c.push-in-Into-2.new.self.items ≡ c.push-in-Into.new.self.items ++ inside ∷ [] = search rules in
    omega (
      arith,
      ap work_of split,
      work_more outer c.in-Some.level,
      ap work_of one,
      work_more outer c.step.new.self,
      ap work_of two,
      work_more c.push-in-Into.new.self.items inside,
      is.less,
    )

pub levels-preserved : goal.levels-preserved
levels-preserved c =
    let outer = c.pop.new.self.items in
    let inside = c.in-Into.inside in
    let split : c.levels.levels.items ≡ outer ++ c.in-Some.level ∷ [] = search rules in
    let is : IsStep c.args.choice.now (defined_in c.args.defined.now) c.in-Some.level c.levels.parts.items (step.Into inside) c.step.new.self c.step.new.parts.items = search rules in
    let one : c.push-in-Into.new.self.items ≡ outer ++ c.step.new.self ∷ [] = search rules in
    let two : c.push-in-Into-2.new.self.items ≡ c.push-in-Into.new.self.items ++ inside ∷ [] = search rules in
    after_into c.args.choice.now (defined_in c.args.defined.now) c.levels.levels.items outer c.in-Some.level c.step.new.self split c.levels.parts.items c.step.new.parts.items _
    c.levels.invariant inside c.push-in-Into-2.new.self.items (two ∙ ap (λ these. these ++ inside ∷ []) one) is
