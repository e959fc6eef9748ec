use Rattle.std.proofs.Common.{rules, ◌≡◌, ◌≤◌, ◌-◌, false, ap, ap₂, sym, ◌∙◌, length, arith}
use Rattle.tt.specs.Expectations.{is_at_node}
use Rattle.tt.specs.Forest.{leaf, node, size}
use Rattle.tt.specs.Gluing.{after_trees}
use Rattle.tt.specs.Iters.{rest_of, IsFirstSubtree}
use Rattle.tt.specs.Moves.{after_tree}
use Rattle.mbe_pattern.specs.Placed.{fault_in, placed_until}
use Rattle.mbe_pattern.specs.Placed as placed
use Rattle.mbe_pattern.specs.Spelling.{dollar_in}
use Rattle.mbe_pattern.specs.Spelling as spelling
use Rattle.mbe_pattern.specs.Dollars.{tail_of}
use Rattle.mbe_pattern.proofs.FirstSteps.{node_there, placed_repetition, placed_alone, placed_wrong}
use Rattle.mbe_pattern.proofs.FirstTrees.{node_before}
use Rattle.mbe_pattern.proofs.Passing.{after_less}
use Rattle.mbe_pattern.proofs.first.dollar_first.Goals as goal

pub returns-in-Ok-clause-part : goal.returns-in-Ok-clause-part
returns-in-Ok-clause-part c =
    let until = c.args.until in
    let rest = rest_of c.args.siblings.now in
    let inner = c.in-Ok.inner in
    let header = c.in-Ok.field-0-0 in
    let tail = c.in-Repetition.tail in
    let first : IsFirstSubtree rest header inner = search rules in
    let begins : rest ≡ node header.delimiter (rest_of inner) (after_tree rest) = node_before rest header inner first in
    let seen : rest_of c.iter.result ≡ rest = search rules in
    let found : spelling.repetition (record { separator = tail.separator.items; kind = tail.kind }) ≡ dollar_in (rest_of c.iter.result) = search rules in
    let same : dollar_in rest ≡ spelling.repetition (record { separator = tail.separator.items; kind = tail.kind }) = sym (found ∙ ap dollar_in seen) in
    let left : rest_of c.pass-in-Ok.new.trees ≡ after_trees (length tail.separator.items) (after_tree (after_tree rest)) = search rules in
    let before : c.place_before.result ≡ until - size rest = search rules in
    let less : c.saturating_sub-at.result ≡ c.place_before.result - 1 = search rules in
    let at : c.saturating_sub-at.result ≡ until - size (leaf c.args.dollar rest) = omega (arith, before, less) in
    let behind : rest_of c.expect_subtree.new.self ≡ after_tree rest = search rules in
    let inside : c.place_before-inside.result ≡ until - size (rest_of c.expect_subtree.new.self) = search rules in
    let until_inside : c.place_before-inside.result ≡ until - size (after_tree rest) = inside ∙ ap (λ t. until - size t) behind in
    placed_repetition until c.args.dollar rest c.requires header.delimiter (rest_of inner) (after_tree rest) (rest_of c.pass-in-Ok.new.trees) tail.separator.items tail.kind begins same left
    ∙ sym (ap₂ (λ n m. placed.repetition n (placed_until m (rest_of inner)) tail.separator.items tail.kind (placed_until until (rest_of c.pass-in-Ok.new.trees))) at until_inside)

pub returns-in-Ok-clause-less : goal.returns-in-Ok-clause-less
returns-in-Ok-clause-less c =
    let rest = rest_of c.args.siblings.now in
    let inner = c.in-Ok.inner in
    let header = c.in-Ok.field-0-0 in
    let first : IsFirstSubtree rest header inner = search rules in
    let begins : rest ≡ node header.delimiter (rest_of inner) (after_tree rest) = node_before rest header inner first in
    let next : rest_of c.next.new.self ≡ after_tree (after_tree rest) = search rules in
    let passed : size (rest_of c.pass-in-Ok.new.trees) ≤ size (rest_of c.next.new.self) = search rules in
    omega (arith, ap size begins, ap size next, passed, after_less 1 (after_tree rest))

pub unreachable-requires : goal.unreachable-requires
unreachable-requires c =
    let rest = rest_of c.args.siblings.now in
    let tail = tail_of c.in-Repetition.tail in
    let seen : rest_of c.iter.result ≡ rest = search rules in
    let found : spelling.repetition tail ≡ dollar_in (rest_of c.iter.result) = search rules in
    let none : is_at_node rest ≡ false = search rules in
    node_there rest tail (sym (found ∙ ap dollar_in seen)) none

pub returns-in-Token-clause-part : goal.returns-in-Token-clause-part
returns-in-Token-clause-part c =
    let rest = rest_of c.args.siblings.now in
    let seen : rest_of c.iter.result ≡ rest = search rules in
    let found : spelling.token ≡ dollar_in (rest_of c.iter.result) = search rules in
    placed_alone c.args.until c.args.dollar rest c.requires (sym (found ∙ ap dollar_in seen))

pub returns-in-Nothing-clause-part : goal.returns-in-Nothing-clause-part
returns-in-Nothing-clause-part c =
    let until = c.args.until in
    let rest = rest_of c.args.siblings.now in
    let seen : rest_of c.iter.result ≡ rest = search rules in
    let found : spelling.nothing ≡ dollar_in (rest_of c.iter.result) = search rules in
    let before : c.place_before.result ≡ until - size rest = search rules in
    let less : c.saturating_sub-at.result ≡ c.place_before.result - 1 = search rules in
    let at : c.saturating_sub-at.result ≡ until - size (leaf c.args.dollar rest) = omega (arith, before, less) in
    let again : rest_of c.iter-in-Nothing.result ≡ rest = search rules in
    let fault : c.fault_in-fault.result ≡ fault_in c.saturating_sub-at.result (rest_of c.iter-in-Nothing.result) = search rules in
    placed_wrong until c.args.dollar rest c.requires (sym (found ∙ ap dollar_in seen))
    ∙ sym (ap (λ why. placed.wrong why c.args.dollar (placed_until until rest)) (fault ∙ ap₂ fault_in at again))
