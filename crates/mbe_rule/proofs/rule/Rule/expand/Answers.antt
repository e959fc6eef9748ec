use Rattle.std.proofs.Common.{rules, ◌≡◌, Err, map}
use Rattle.std.specs.List.{zip}
use Rattle.tt.specs.SubtreeViews.{root_of}
use Rattle.tt.specs.TreeFault.{IsTreeFault}
use Rattle.tt.specs.Views.{trees_of}
use Rattle.mbe_rule.specs.Instances.{pattern_of, expansion}
use Rattle.mbe_rule.specs.Matching.{Matches, trees_bound}
use Rattle.mbe_rule.specs.Variables.{names_in}
use Rattle.mbe_rule.proofs.Expanding.{no_instance, expanded, not_expanded}
use Rattle.mbe_rule.proofs.rule.Rule.expand.Goals as goal

pub returns-in_err-tree-in-Some-clause-fault : goal.returns-in_err-tree-in-Some-clause-fault
returns-in_err-tree-in-Some-clause-fault c =
    let pattern = (root_of c.args.self.now.pattern).children in
    let input = trees_of c.args.input in
    let taken = map trees_of c.in-Some.taken.items in
    let named : c.args.self.now.names.keys ≡ names_in pattern = search rules in
    let matches : Matches (pattern_of pattern) input = search rules in
    let bound : taken ≡ trees_bound (pattern_of pattern) input = search rules in
    let refused : IsTreeFault (expansion (root_of c.args.self.now.template) (zip c.args.self.now.names.keys taken)) c.in_err-tree-in-Some.field-0.0 = search rules in
    let is : c.from_residual-in_err-tree-in-Some.result ≡ Err c.in_err-tree-in-Some.field-0.0 = search rules in
    rw is (not_expanded pattern input c.args.self.now.names.keys taken named matches bound (root_of c.args.self.now.template) _ refused)

pub returns-in_ok-tree-in-Some-clause-answer : goal.returns-in_ok-tree-in-Some-clause-answer
returns-in_ok-tree-in-Some-clause-answer c =
    let pattern = (root_of c.args.self.now.pattern).children in
    let input = trees_of c.args.input in
    let taken = map trees_of c.in-Some.taken.items in
    let named : c.args.self.now.names.keys ≡ names_in pattern = search rules in
    let matches : Matches (pattern_of pattern) input = search rules in
    let bound : taken ≡ trees_bound (pattern_of pattern) input = search rules in
    let made : c.in_ok-tree-in-Some.tree ≡ expansion (root_of c.args.self.now.template) (zip c.args.self.now.names.keys taken) = search rules in
    expanded pattern input c.args.self.now.names.keys taken named matches bound (root_of c.args.self.now.template) c.in_ok-tree-in-Some.tree made

pub returns-in-None-clause-answer : goal.returns-in-None-clause-answer
returns-in-None-clause-answer c =
    let pattern = (root_of c.args.self.now.pattern).children in
    let none : Matches (pattern_of pattern) (trees_of c.args.input) → ⊥ = search rules in
    no_instance pattern (trees_of c.args.input) none
