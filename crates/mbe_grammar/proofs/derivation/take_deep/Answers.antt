-- What the expression took is left of the log, and what is ahead shows whether its subtrees have their contents.
use Rattle.std.proofs.Common.{rules, ◌≡◌, true, [], reverse, Some, None, refl, subst, ap, ap₂}
use Rattle.std.specs.Prelude.{option_map}
use Rattle.tt.specs.Views.{trees_of}
use Rattle.mbe_grammar.specs.declared.derivation.NextEvent.TheVariants as next
use Rattle.mbe_grammar.specs.Derivations.{place}
use Rattle.mbe_grammar.specs.Deriving.{Gives, Stops, IsNext}
use Rattle.mbe_grammar.specs.Left.{ahead_in}
use Rattle.mbe_grammar.specs.Parses.{Parses}
use Rattle.mbe_grammar.specs.Places.{position_of, trees_in}
use Rattle.mbe_grammar.specs.Positions.{first_position}
use Rattle.mbe_grammar.proofs.DeepReading.{deep_taken, deep_refused}
use Rattle.mbe_grammar.proofs.Deriving.{onto}
use Rattle.mbe_grammar.proofs.derivation.take_deep.Goals as goal

pub returns-in-End : goal.returns-in-End
returns-in-End c =
    let table = c.args.table.rules.now in
    let trees = trees_of c.args.trees in
    let log = c.parse.new.log.items in
    let to = position_of trees log c.in-Some.count in
    let none : c.in_ok-log.log.items ≡ [] = search rules in
    let empty : c.new-around.result.items ≡ [] = search rules in
    let same : trees_in c.in_ok-units.units ≡ trees = search rules in
    let from : position_of (trees_in c.in_ok-units.units) c.in_ok-log.log.items 0 ≡ first_position trees = ap₂ (λ t l. position_of t l 0) same none in
    let is : c.in_ok-count.field-0 ≡ Some c.in-Some.count = search rules in
    let found : option_map (position_of trees log) c.in_ok-count.field-0 ≡ Some to = ap (option_map (position_of trees log)) is in
    let parses : Parses true table c.args.at (first_position trees) (Some to) =
    subst (Parses true table c.args.at (first_position trees)) found (subst (λ f. Parses true table c.args.at f (option_map (position_of trees log) c.in_ok-count.field-0)) from (subst (λ t. Parses true table c.args.at (position_of (trees_in c.in_ok-units.units) c.in_ok-log.log.items 0) (option_map (position_of t log) c.in_ok-count.field-0)) same c.in_ok-count.ensures.parses)) in
    let left : ahead_in log 0 0 None (reverse c.new-around.result.items) ≡ onto table log [] = ap (λ o. ahead_in log 0 0 None (reverse o)) empty in
    let end : c.in_ok-next_event.field-0 ≡ next.End = search rules in
    let ends : IsNext c.loop-derivation.derivation next.End c.next_event.new.self = subst (λ n. IsNext c.loop-derivation.derivation n c.next_event.new.self) end c.in_ok-next_event.ensures.next in
    let all = c.loop-derivation.invariant.gives [] ends in
    deep_taken table c.args.at trees to log parses refl all.0 (subst (λ l. Gives table l all.0) left all.1)

pub returns-in-Refused : goal.returns-in-Refused
returns-in-Refused c =
    let table = c.args.table.rules.now in
    let trees = trees_of c.args.trees in
    let log = c.parse.new.log.items in
    let to = position_of trees log c.in-Some.count in
    let none : c.in_ok-log.log.items ≡ [] = search rules in
    let empty : c.new-around.result.items ≡ [] = search rules in
    let same : trees_in c.in_ok-units.units ≡ trees = search rules in
    let from : position_of (trees_in c.in_ok-units.units) c.in_ok-log.log.items 0 ≡ first_position trees = ap₂ (λ t l. position_of t l 0) same none in
    let is : c.in_ok-count.field-0 ≡ Some c.in-Some.count = search rules in
    let found : option_map (position_of trees log) c.in_ok-count.field-0 ≡ Some to = ap (option_map (position_of trees log)) is in
    let parses : Parses true table c.args.at (first_position trees) (Some to) =
    subst (Parses true table c.args.at (first_position trees)) found (subst (λ f. Parses true table c.args.at f (option_map (position_of trees log) c.in_ok-count.field-0)) from (subst (λ t. Parses true table c.args.at (position_of (trees_in c.in_ok-units.units) c.in_ok-log.log.items 0) (option_map (position_of t log) c.in_ok-count.field-0)) same c.in_ok-count.ensures.parses)) in
    let left : ahead_in log 0 0 None (reverse c.new-around.result.items) ≡ onto table log [] = ap (λ o. ahead_in log 0 0 None (reverse o)) empty in
    let level = c.in-Refused.field-0 in
    let refused : c.in_ok-next_event.field-0 ≡ next.Refused level = search rules in
    let stops : IsNext c.loop-derivation.derivation (next.Refused level) c.next_event.new.self = subst (λ n. IsNext c.loop-derivation.derivation n c.next_event.new.self) refused c.in_ok-next_event.ensures.next in
    deep_refused table c.args.at trees to log parses refl (place level) (subst (λ l. Stops table l (place level)) left (c.loop-derivation.invariant.stops (place level) stops))
