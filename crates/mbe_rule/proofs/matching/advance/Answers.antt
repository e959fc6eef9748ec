use Rattle.std.proofs.Common.{rules, ◌≡◌, true, false, [], ◌∷◌, ◌++◌, None, Some, map, refl, ap, sym, ◌∙◌}
use Rattle.std.proofs.lemmas.List.{map-append}
use Rattle.tt.specs.Iters.{rest_of, IsFirstElement}
use Rattle.tt.specs.Moves.{after_tree}
use Rattle.tt.specs.Siblings.{first_tree}
use Rattle.tt.specs.Types.TtElement.TheVariants as element
use Rattle.tt.specs.Views.{trees_of}
use Rattle.mbe_rule.specs.declared.matching.Pair.{Pair}
use Rattle.mbe_rule.specs.Instances.{takes}
use Rattle.mbe_pattern.specs.Units.{IsLeafLike}
use Rattle.mbe_rule.specs.Variables.{variable_at}
use Rattle.mbe_rule.proofs.Advancing.{variable_passes, variable_differs, token_passes, token_differs}
use Rattle.mbe_rule.proofs.matching.advance.Goals as goal

pub returns-in-Some-take : goal.returns-in-Some-take
returns-in-Some-take c =
    let old = c.args.pair.now in
    let new : Pair = record { pattern = c.variable_at.new.siblings; input = c.take.new.input } in
    let leaf = c.in-Some-Leaf.leaf in
    let found = c.in-Some.variable in
    let first : IsFirstElement (rest_of old.pattern) (Some (element.Leaf leaf)) = search rules in
    let behind : rest_of c.next.new.self ≡ after_tree (rest_of old.pattern) = search rules in
    let read : variable_at leaf (rest_of c.next.new.self) ≡ Some found = search rules in
    let at : variable_at leaf (after_tree (rest_of old.pattern)) ≡ Some found = ap (variable_at leaf) (sym behind) ∙ read in
    let taken : takes found.fragment (rest_of old.input) ≡ true = search rules in
    let passed : rest_of c.variable_at.new.siblings ≡ after_tree (after_tree (after_tree (rest_of c.next.new.self))) = search rules in
    let rest : rest_of c.take.new.input ≡ after_tree (rest_of old.input) = search rules in
    let tree : trees_of c.in-Some-take.tree ≡ first_tree (rest_of old.input) = search rules in
    let pushed : c.push.new.self.items ≡ c.args.taken.now.items ++ c.in-Some-take.tree ∷ [] = search rules in
    variable_passes old new (map trees_of c.args.taken.now.items) (map trees_of c.push.new.self.items) leaf first found at taken
    (passed ∙ ap (λ f. after_tree (after_tree (after_tree f))) behind) rest
    (ap (map trees_of) pushed ∙ map-append trees_of c.args.taken.now.items (c.in-Some-take.tree ∷ []) ∙ ap (λ t. map trees_of c.args.taken.now.items ++ t ∷ []) tree)

pub returns-in-Some : goal.returns-in-Some
returns-in-Some c =
    let old = c.args.pair.now in
    let new : Pair = record { pattern = c.variable_at.new.siblings; input = c.take.new.input } in
    let leaf = c.in-Some-Leaf.leaf in
    let found = c.in-Some.variable in
    let first : IsFirstElement (rest_of old.pattern) (Some (element.Leaf leaf)) = search rules in
    let behind : rest_of c.next.new.self ≡ after_tree (rest_of old.pattern) = search rules in
    let read : variable_at leaf (rest_of c.next.new.self) ≡ Some found = search rules in
    let at : variable_at leaf (after_tree (rest_of old.pattern)) ≡ Some found = ap (variable_at leaf) (sym behind) ∙ read in
    let none : takes found.fragment (rest_of old.input) ≡ false = search rules in
    variable_differs old new [] [] leaf first found at none

pub returns-then-passes_leaf : goal.returns-then-passes_leaf
returns-then-passes_leaf c =
    let old = c.args.pair.now in
    let new : Pair = record { pattern = c.variable_at.new.siblings; input = c.passes_leaf.new.trees } in
    let leaf = c.in-Some-Leaf.leaf in
    let first : IsFirstElement (rest_of old.pattern) (Some (element.Leaf leaf)) = search rules in
    let behind : rest_of c.next.new.self ≡ after_tree (rest_of old.pattern) = search rules in
    let read : variable_at leaf (rest_of c.next.new.self) ≡ None = search rules in
    let at : variable_at leaf (after_tree (rest_of old.pattern)) ≡ None = ap (variable_at leaf) (sym behind) ∙ read in
    let like : IsLeafLike leaf (rest_of old.input) = search rules in
    let passed : rest_of c.variable_at.new.siblings ≡ rest_of c.next.new.self = search rules in
    let rest : rest_of c.passes_leaf.new.trees ≡ after_tree (rest_of old.input) = search rules in
    token_passes old new (map trees_of c.args.taken.now.items) (map trees_of c.args.taken.now.items) leaf first at like (passed ∙ behind) rest refl

pub returns-in-Some-Leaf : goal.returns-in-Some-Leaf
returns-in-Some-Leaf c =
    let old = c.args.pair.now in
    let new : Pair = record { pattern = c.variable_at.new.siblings; input = c.passes_leaf.new.trees } in
    let leaf = c.in-Some-Leaf.leaf in
    let first : IsFirstElement (rest_of old.pattern) (Some (element.Leaf leaf)) = search rules in
    let behind : rest_of c.next.new.self ≡ after_tree (rest_of old.pattern) = search rules in
    let read : variable_at leaf (rest_of c.next.new.self) ≡ None = search rules in
    let at : variable_at leaf (after_tree (rest_of old.pattern)) ≡ None = ap (variable_at leaf) (sym behind) ∙ read in
    let other : IsLeafLike leaf (rest_of old.input) → ⊥ = search rules in
    token_differs old new [] [] leaf first at other
