use Rattle.std.proofs.Common.{rules, ◌≡◌, inl, inr, true}
use Rattle.tt.specs.Forest.{end}
use Rattle.tt.specs.Iters.{rest_of}
use Rattle.tt.specs.Moves.{after_tree}
use Rattle.mbe_rules.specs.Arrows.{is_semicolon_in}
use Rattle.mbe_rules.proofs.arm.Arm.next_in.Goals as goal

pub returns-then-is_punct_in-clause-ok : goal.returns-then-is_punct_in-clause-ok
returns-then-is_punct_in-clause-ok c =
    let (arm, is, made) = c.in_ok-arm.ensures.ok in
    let there : is_semicolon_in (rest_of c.read.new.trees) ≡ true = search rules in
    let left : rest_of c.pass.new.trees ≡ after_tree (rest_of c.read.new.trees) = search rules in
    (arm, rest_of c.read.new.trees, is, inr (there, left), made)

pub returns-then-is_empty-clause-ok : goal.returns-then-is_empty-clause-ok
returns-then-is_empty-clause-ok c =
    let (arm, is, made) = c.in_ok-arm.ensures.ok in
    let none : rest_of c.read.new.trees ≡ end = search rules in
    (arm, rest_of c.read.new.trees, is, inl (none, none), made)
