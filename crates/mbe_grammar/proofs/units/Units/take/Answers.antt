-- The unit is taken, and its trees are not beyond the end.
use Rattle.std.proofs.Common.{rules, ◌≡◌, true, false, [], ◌∷◌, ◌++◌, map, ap, sym, subst, ◌∙◌, arith}
use Rattle.std.proofs.lemmas.List.{map-append}
use Rattle.tt.specs.Gluing.{after_trees}
use Rattle.tt.specs.Views.{trees_of}
use Rattle.mbe_grammar.specs.Places.{entry, trees_in}
use Rattle.mbe_grammar.specs.Positions.{count_of, entry_of}
use Rattle.mbe_grammar.specs.Tests.{named, passes}
use Rattle.mbe_grammar.specs.Units.{first_unit}
use Rattle.mbe_grammar.proofs.Taking.{within, took_noting, took_silently}
use Rattle.mbe_grammar.proofs.units.Units.take.Goals.{then-noting+in_ok-put, else-noting}
use Rattle.mbe_grammar.proofs.units.Units.take.Goals as goal

pub overflow_add-here : goal.overflow_add-here
overflow_add-here c =
    let trees = trees_in c.args.self.now in
    let here = c.args.here.now in
    let rest : trees_of c.here-first.result.now.rest ≡ after_trees here trees = c.here-first.ensures in
    let unit : c.here-first.result.now.unit ≡ first_unit (after_trees here trees) = c.here-first.result.now.is_first ∙ ap first_unit rest in
    let yes : passes c.args.test (first_unit (after_trees here trees)) ≡ true = subst (λ u. passes c.args.test u ≡ true) unit (sym c.passes-passes.ensures ∙ c.if-passes.true) in
    let count : c.taken_size-count.result ≡ count_of c.args.test (after_trees here trees) = search rules in
    omega (arith, within here trees c.args.test yes, count, c.args.self.now.fits)

pub returns-in_ok-reach-clause-answer : goal.returns-in_ok-reach-clause-answer
returns-in_ok-reach-clause-answer c =
    let trees = trees_in c.args.self.now in
    let here = c.args.here.now in
    let old = c.args.log.now.items in
    let rest : trees_of c.here-first.result.now.rest ≡ after_trees here trees = c.here-first.ensures in
    let unit : c.here-first.result.now.unit ≡ first_unit (after_trees here trees) = c.here-first.result.now.is_first ∙ ap first_unit rest in
    let yes : passes c.args.test (first_unit (after_trees here trees)) ≡ true = subst (λ u. passes c.args.test u ≡ true) unit (sym c.passes-passes.ensures ∙ c.if-passes.true) in
    let count : c.taken_size-count.result ≡ count_of c.args.test (after_trees here trees) = search rules in
    elim c.if-noting.branch [
      | then-noting+in_ok-put w ↦
          let on : c.args.noting ≡ true = search rules in
          let added : c.if-noting.log.items ≡ old ++ w.entry.result ∷ [] = search rules in
          let is : map entry c.if-noting.log.items ≡ map entry old ++ entry_of (named c.args.test) (count_of c.args.test (after_trees here trees)) (after_trees here trees) ∷ [] = search (rules, map-append entry old (w.entry.result ∷ [])) in
          rw (c.if-passes.true, on, count, took_noting trees old c.if-noting.log.items here c.args.test yes is)
      | else-noting w ↦
          let off : c.args.noting ≡ false = search rules in
          let is : map entry c.if-noting.log.items ≡ map entry old = search rules in
          rw (c.if-passes.true, off, count, took_silently trees old c.if-noting.log.items here c.args.test yes is)
    ]
