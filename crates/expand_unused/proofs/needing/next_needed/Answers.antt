use Rattle.std.proofs.Common.{rules, ◌≡◌, ◌++◌, ◌∷◌, [], None, Some, ap, sym, subst, ◌∙◌, arith}
use Rattle.std.proofs.lemmas.List.{append-nil}
use Rattle.expand_unused.specs.Waiting.{waiting_in, words_of, IsBetween}
use Rattle.expand_unused.proofs.Finding.{next_between}
use Rattle.expand_unused.proofs.needing.next_needed.Goals as goal

pub returns-in-Some-take-clause-goes : goal.returns-in-Some-take-clause-goes
returns-in-Some-take-clause-goes c parts given =
    let old = waiting_in c.loop-name.waiting in
    let new = waiting_in c.take.new.waiting in
    let name = c.in-Some.name in
    let left = c.pop.new.self.items in
    let split : c.loop-name.needed.items ≡ left ++ name ∷ [] = search rules in
    let between : IsBetween parts old (left ++ name ∷ []) = subst (IsBetween parts old) split (c.loop-name.invariant.goes parts given) in
    let found : Some c.in-Some-take.words.items ≡ old name = c.in-Some-take.ensures.words in
    subst (λ words. IsBetween parts new (left ++ words_of words)) (sym found) (next_between parts old left name new between c.in-Some-take.ensures.others)

pub loop-name-preserved : goal.loop-name-preserved
loop-name-preserved c =
    let old = waiting_in c.loop-name.waiting in
    let new = waiting_in c.take.new.waiting in
    let name = c.in-Some.name in
    let left = c.pop.new.self.items in
    let split : c.loop-name.needed.items ≡ left ++ name ∷ [] = search rules in
    let none : None ≡ old name = search rules in
    record {
      goes = λ parts given.
          let between : IsBetween parts old (left ++ name ∷ []) = subst (IsBetween parts old) split (c.loop-name.invariant.goes parts given) in
          subst (IsBetween parts new) (ap (λ words. left ++ words_of words) (sym none) ∙ append-nil left)
          (next_between parts old left name new between c.take.ensures.others);
      len = search (arith, rules);
    }
