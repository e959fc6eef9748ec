use Rattle.std.proofs.Common.{rules, ◌≡◌, ◌∷◌, ◌++◌, [], Some, None, true, false, ap, sym, subst, arith}
use Rattle.tt.specs.Forest.{size}
use Rattle.tt.specs.Iters.{rest_of}
use Rattle.tt.specs.Siblings.{is_end}
use Rattle.expand_items.specs.Parts.{IsPart}
use Rattle.expand_items.proofs.PartsSoFar.{ArePartsSoFar, all_so_far, more_so_far, stop_so_far, part_long, less_left}
use Rattle.expand_items.proofs.part.parts.Goals as goal

pub returns-in_default : goal.returns-in_default
returns-in_default c =
    let left = rest_of c.parts.trees in
    let some : is_end left ≡ false = search rules in
    let none : IsPart c.args.siblings left None = search rules in
    stop_so_far c.args.siblings (rest_of c.args.trees) left c.parts.parts.items c.parts.invariant some none

pub parts-smaller : goal.parts-smaller
parts-smaller c =
    let left = rest_of c.parts.trees in
    let part = c.in-Some.part in
    let some : is_end left ≡ false = search rules in
    let is : IsPart c.args.siblings left (Some part) = search rules in
    omega (arith, ap size c.pass.ensures.rest, less_left part.len left (part_long c.args.siblings left part is) some)

pub parts-preserved : goal.parts-preserved
parts-preserved c =
    let left = rest_of c.parts.trees in
    let part = c.in-Some.part in
    let all = rest_of c.args.trees in
    let some : is_end left ≡ false = search rules in
    let is : IsPart c.args.siblings left (Some part) = search rules in
    let more : c.push.new.self.items ≡ c.parts.parts.items ++ part ∷ [] = search rules in
    subst (λ f. ArePartsSoFar c.args.siblings all f c.push.new.self.items) (sym c.pass.ensures.rest)
    (more_so_far c.args.siblings all left c.parts.parts.items c.push.new.self.items part c.parts.invariant some is more)

pub returns : goal.returns
returns c =
    let left = rest_of c.parts.trees in
    let none : is_end left ≡ true = search rules in
    all_so_far c.args.siblings (rest_of c.args.trees) left c.parts.parts.items c.parts.invariant none
