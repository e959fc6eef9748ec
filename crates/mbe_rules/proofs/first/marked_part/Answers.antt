use Rattle.std.proofs.Common.{rules, ◌≡◌, ◌-◌, ap, ap₂, map, sym, ◌∙◌, length, arith}
use Rattle.tt.specs.Forest.{leaf, node, size}
use Rattle.tt.specs.Gluing.{after_trees}
use Rattle.tt.specs.Iters.{rest_of, IsFirstSubtree}
use Rattle.tt.specs.Moves.{after_tree}
use Rattle.mbe_matcher.specs.Binders.{where_of}
use Rattle.mbe_pattern.proofs.FirstTrees.{node_before}
use Rattle.mbe_rules.specs.Spelling.{last_alone, mark_in, template_until}
use Rattle.mbe_rules.specs.Spelling as spelling
use Rattle.mbe_rules.specs.Templates as template
use Rattle.mbe_rules.specs.SpellingFaults.{or_else, fault_until}
use Rattle.mbe_rules.proofs.FirstParts.{marked_repetition}
use Rattle.mbe_rules.proofs.SpellingFaults.{nothing_sound, repetition_sound, second_sound, use_sound}
use Rattle.mbe_rules.proofs.first.marked_part.Goals as goal

pub returns-in_ok-separator-in-Ok-clause-part : goal.returns-in_ok-separator-in-Ok-clause-part
returns-in_ok-separator-in-Ok-clause-part c =
    let variables = map where_of c.args.binders.now in
    let until = c.args.until in
    let rest = rest_of c.args.siblings.now in
    let inner = c.in-Ok.inner in
    let header = c.in-Ok.field-0-0 in
    let tail = c.in-Repetition.tail in
    let first : IsFirstSubtree rest header inner = search rules in
    let begins : rest ≡ node header.delimiter (rest_of inner) (after_tree rest) = node_before rest header inner first in
    let seen : rest_of c.iter.result ≡ rest = search rules in
    let found : spelling.repetition (record { separator = tail.separator.items; kind = tail.kind }) ≡ mark_in variables (rest_of c.iter.result) = search rules in
    let same : mark_in variables rest ≡ spelling.repetition (record { separator = tail.separator.items; kind = tail.kind }) = sym (found ∙ ap (mark_in variables) seen) in
    let left : rest_of c.pass.new.trees ≡ after_trees (length tail.separator.items) (after_tree (after_tree rest)) = search rules in
    let before : c.place_before.result ≡ until - size rest = search rules in
    let less : c.saturating_sub-at.result ≡ c.place_before.result - 1 = search rules in
    let at : c.saturating_sub-at.result ≡ until - size (leaf c.args.dollar rest) = omega (arith, before, less) in
    let behind : rest_of c.expect_subtree.new.self ≡ after_tree rest = search rules in
    let inside : c.place_before-inside.result ≡ until - size (rest_of c.expect_subtree.new.self) = search rules in
    let until_inside : c.place_before-inside.result ≡ until - size (after_tree rest) = inside ∙ ap (λ t. until - size t) behind in
    let separator : c.in_ok-separator-in-Ok.separator.items ≡ last_alone tail.separator.items = search rules in
    marked_repetition variables until c.args.dollar rest c.requires.dollar header.delimiter (rest_of inner) (after_tree rest) (rest_of c.pass.new.trees) tail.separator.items tail.kind begins same left
    ∙ sym (ap₂ (λ n m. template.repetition n (template_until variables m (rest_of inner)) (last_alone tail.separator.items) tail.kind (template_until variables until (rest_of c.pass.new.trees))) at until_inside)
    ∙ sym (ap (λ l. template.repetition c.saturating_sub-at.result (template_until variables c.place_before-inside.result (rest_of inner)) l tail.kind (template_until variables until (rest_of c.pass.new.trees))) separator)

pub returns-in_ok-separator-in-Ok-clause-fault : goal.returns-in_ok-separator-in-Ok-clause-fault
returns-in_ok-separator-in-Ok-clause-fault c =
    let variables = map where_of c.args.binders.now in
    let until = c.args.until in
    let rest = rest_of c.args.siblings.now in
    let inner = c.in-Ok.inner in
    let header = c.in-Ok.field-0-0 in
    let tail = c.in-Repetition.tail in
    let first : IsFirstSubtree rest header inner = search rules in
    let begins : rest ≡ node header.delimiter (rest_of inner) (after_tree rest) = node_before rest header inner first in
    let seen : rest_of c.iter.result ≡ rest = search rules in
    let found : spelling.repetition (record { separator = tail.separator.items; kind = tail.kind }) ≡ mark_in variables (rest_of c.iter.result) = search rules in
    let same : mark_in variables rest ≡ spelling.repetition (record { separator = tail.separator.items; kind = tail.kind }) = sym (found ∙ ap (mark_in variables) seen) in
    let left : rest_of c.pass.new.trees ≡ after_trees (length tail.separator.items) (after_tree (after_tree rest)) = search rules in
    let behind : rest_of c.expect_subtree.new.self ≡ after_tree rest = search rules in
    let inside : c.place_before-inside.result ≡ until - size (rest_of c.expect_subtree.new.self) = search rules in
    let until_inside : c.place_before-inside.result ≡ until - size (after_tree rest) = inside ∙ ap (λ t. until - size t) behind in
    repetition_sound until c.args.dollar rest c.requires.dollar c.requires.sound variables header.delimiter (rest_of inner) (after_tree rest) (rest_of c.pass.new.trees)
    (record { separator = tail.separator.items; kind = tail.kind }) begins same left
    ∙ sym (ap (λ m. or_else (fault_until m (rest_of inner)) (fault_until until (rest_of c.pass.new.trees))) until_inside)

pub returns-in-Use-clause-fault : goal.returns-in-Use-clause-fault
returns-in-Use-clause-fault c =
    let variables = map where_of c.args.binders.now in
    let rest = rest_of c.args.siblings.now in
    let seen : rest_of c.iter.result ≡ rest = search rules in
    let found : spelling.use_of c.in-Use.number c.in-Use.less_follows ≡ mark_in variables (rest_of c.iter.result) = search rules in
    let same : mark_in variables rest ≡ spelling.use_of c.in-Use.number c.in-Use.less_follows = sym (found ∙ ap (mark_in variables) seen) in
    let passed : rest_of c.next.new.self ≡ after_tree rest = search rules in
    use_sound c.args.until c.args.dollar rest c.requires.dollar c.requires.sound variables c.in-Use.number c.in-Use.less_follows (rest_of c.next.new.self) same passed

pub returns-in-Nothing-clause-fault : goal.returns-in-Nothing-clause-fault
returns-in-Nothing-clause-fault c =
    let variables = map where_of c.args.binders.now in
    let rest = rest_of c.args.siblings.now in
    let seen : rest_of c.iter.result ≡ rest = search rules in
    let found : spelling.nothing ≡ mark_in variables (rest_of c.iter.result) = search rules in
    let same : mark_in variables rest ≡ spelling.nothing = sym (found ∙ ap (mark_in variables) seen) in
    nothing_sound c.args.until c.args.dollar rest c.requires.dollar c.requires.sound variables same

pub returns-in-Second-clause-fault : goal.returns-in-Second-clause-fault
returns-in-Second-clause-fault c =
    let variables = map where_of c.args.binders.now in
    let rest = rest_of c.args.siblings.now in
    let seen : rest_of c.iter.result ≡ rest = search rules in
    let found : spelling.second c.in-Second.second ≡ mark_in variables (rest_of c.iter.result) = search rules in
    let same : mark_in variables rest ≡ spelling.second c.in-Second.second = sym (found ∙ ap (mark_in variables) seen) in
    let passed : rest_of c.next-in-Second.new.self ≡ after_tree rest = search rules in
    second_sound c.args.until c.args.dollar rest c.requires.dollar c.requires.sound variables c.in-Second.second (rest_of c.next-in-Second.new.self) same passed
