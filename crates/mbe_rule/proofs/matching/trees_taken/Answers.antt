use Rattle.std.proofs.Common.{rules, ◌≡◌, [], ◌∷◌, ◌++◌, map, reverse, ap, subst, ◌∙◌}
use Rattle.std.proofs.lemmas.List.{reverse-append}
use Rattle.tt.specs.Views.{trees_of}
use Rattle.mbe_rule.specs.declared.matching.Progress.TheVariants as progress
use Rattle.mbe_rule.specs.Matching.{Advances}
use Rattle.mbe_rule.proofs.MatchSteps.{AllMatch, goes_past, goes_in, agrees_on, taken_on, stops}
use Rattle.mbe_rule.proofs.matching.trees_taken.Goals as goal

pub loop-pair-preserved-in-Continue-branch-4 : goal.loop-pair-preserved-in-Continue-branch-4
loop-pair-preserved-in-Continue-branch-4 c =
    let pairs = c.pop.new.self.items in
    let pair = c.in-Some.pair in
    let new = c.advance.new.pair in
    let was : c.loop-pair.pairs.items ≡ pairs ++ pair ∷ [] = search rules in
    let is : c.push-in-Passes.new.self.items ≡ pairs ++ new ∷ [] = search rules in
    let step : Advances pair (map trees_of c.loop-pair.taken.items) progress.Passes new (map trees_of c.advance.new.taken.items) = search rules in
    let goes = goes_past pair new (reverse pairs) (map trees_of c.loop-pair.taken.items) (map trees_of c.advance.new.taken.items) step in
    let first : reverse c.loop-pair.pairs.items ≡ pair ∷ reverse pairs = ap reverse was ∙ reverse-append pairs (pair ∷ []) in
    let then : reverse c.push-in-Passes.new.self.items ≡ new ∷ reverse pairs = ap reverse is ∙ reverse-append pairs (new ∷ []) in
    record {
      agree = agrees_on _ [] _ _ _ _ goes c.loop-pair.pairs.items c.push-in-Passes.new.self.items first then c.loop-pair.invariant.agree;
      taken = taken_on ⊥ _ _ _ _ _ goes c.loop-pair.pairs.items c.push-in-Passes.new.self.items first then c.loop-pair.invariant.taken;
    }

pub loop-pair-preserved : goal.loop-pair-preserved
loop-pair-preserved c =
    let pairs = c.pop.new.self.items in
    let pair = c.in-Some.pair in
    let new = c.advance.new.pair in
    let below = c.in-Enters.below in
    let was : c.loop-pair.pairs.items ≡ pairs ++ pair ∷ [] = search rules in
    let is : c.push-in-Enters-2.new.self.items ≡ (pairs ++ new ∷ []) ++ below ∷ [] = search rules in
    let step : Advances pair (map trees_of c.loop-pair.taken.items) (progress.Enters below) new (map trees_of c.advance.new.taken.items) = search rules in
    let goes = goes_in pair new below (reverse pairs) (map trees_of c.loop-pair.taken.items) (map trees_of c.advance.new.taken.items) step in
    let first : reverse c.loop-pair.pairs.items ≡ pair ∷ reverse pairs = ap reverse was ∙ reverse-append pairs (pair ∷ []) in
    let then : reverse c.push-in-Enters-2.new.self.items ≡ below ∷ new ∷ reverse pairs = ap reverse is ∙ reverse-append (pairs ++ new ∷ []) (below ∷ []) ∙ ap (λ items. below ∷ items) (reverse-append pairs (new ∷ [])) in
    record {
      agree = agrees_on _ [] _ _ _ _ goes c.loop-pair.pairs.items c.push-in-Enters-2.new.self.items first then c.loop-pair.invariant.agree;
      taken = taken_on ⊥ _ _ _ _ _ goes c.loop-pair.pairs.items c.push-in-Enters-2.new.self.items first then c.loop-pair.invariant.taken;
    }

pub returns-in-Differs : goal.returns-in-Differs
returns-in-Differs c matches =
    let pairs = c.pop.new.self.items in
    let pair = c.in-Some.pair in
    let new = c.advance.new.pair in
    let was : c.loop-pair.pairs.items ≡ pairs ++ pair ∷ [] = search rules in
    let step : Advances pair (map trees_of c.loop-pair.taken.items) progress.Differs new (map trees_of c.advance.new.taken.items) = search rules in
    stops pair new (reverse pairs) (map trees_of c.loop-pair.taken.items) (map trees_of c.advance.new.taken.items) step
    (subst AllMatch (ap reverse was ∙ reverse-append pairs (pair ∷ [])) (c.loop-pair.invariant.agree.0 matches))
