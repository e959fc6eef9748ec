use Rattle.std.proofs.Common.{rules, ◌≡◌, ◌∷◌, [], ap, sym, ◌∙◌}
use Rattle.tt.specs.Iters.{rest_of}
use Rattle.mbe_pattern.specs.Patterns as pattern
use Rattle.mbe_pattern.specs.Placed.{pattern_of}
use Rattle.mbe_pattern.specs.Units.{front_leaves}
use Rattle.mbe_pattern.proofs.Plain.{plain_first}
use Rattle.mbe_pattern.proofs.parts.next_part.Goals as goal

pub returns-in-End-clause-part : goal.returns-in-End-clause-part
returns-in-End-clause-part c = plain_first 0 (rest_of c.args.trees.now) (rest_of c.next_first.new.trees) _ _ c.in-End.is c.in_ok-first.ensures.part

pub returns-in-Variable-clause-part : goal.returns-in-Variable-clause-part
returns-in-Variable-clause-part c = plain_first 0 (rest_of c.args.trees.now) (rest_of c.next_first.new.trees) _ _ c.in-Variable.is c.in_ok-first.ensures.part

pub returns-in_ok-vec-in-Wrong-clause-part : goal.returns-in_ok-vec-in-Wrong-clause-part
returns-in_ok-vec-in-Wrong-clause-part c =
    let leaves : c.in_ok-vec-in-Wrong.field-0.items ≡ c.in-Wrong.dollar ∷ [] = search rules in
    plain_first 0 (rest_of c.args.trees.now) (rest_of c.next_first.new.trees) _ _ c.in-Wrong.is c.in_ok-first.ensures.part ∙ ap (λ l. pattern.token l (pattern_of (rest_of c.next_first.new.trees))) (sym leaves)

pub returns-in_ok-front_leaves-in-Token-clause-part : goal.returns-in_ok-front_leaves-in-Token-clause-part
returns-in_ok-front_leaves-in-Token-clause-part c =
    let leaves : c.in_ok-front_leaves-in-Token.field-0.items ≡ front_leaves c.in-Token.count (rest_of c.args.trees.now) = search rules in
    plain_first 0 (rest_of c.args.trees.now) (rest_of c.next_first.new.trees) _ _ c.in-Token.is c.in_ok-first.ensures.part ∙ ap (λ l. pattern.token l (pattern_of (rest_of c.next_first.new.trees))) (sym leaves)

pub returns-in-Subtree-clause-part : goal.returns-in-Subtree-clause-part
returns-in-Subtree-clause-part c = plain_first 0 (rest_of c.args.trees.now) (rest_of c.next_first.new.trees) _ _ c.in-Subtree.is c.in_ok-first.ensures.part

pub returns-in-Repetition-clause-part : goal.returns-in-Repetition-clause-part
returns-in-Repetition-clause-part c = plain_first 0 (rest_of c.args.trees.now) (rest_of c.next_first.new.trees) _ _ c.in-Repetition.is c.in_ok-first.ensures.part
