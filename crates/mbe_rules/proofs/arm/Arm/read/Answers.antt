use Rattle.std.proofs.Common.{rules, ◌≡◌, true, false, Some, map, refl, ap, sym, ◌∙◌}
use Rattle.tt.specs.Expectations.{is_at_node}
use Rattle.tt.specs.Forest.{node}
use Rattle.tt.specs.Gluing.{after_trees}
use Rattle.tt.specs.Iters.{rest_of, IsFirstSubtree}
use Rattle.tt.specs.Moves.{after_tree}
use Rattle.mbe_program.specs.Matchers.{IsMatcherOf}
use Rattle.mbe_matcher.specs.Binders.{where_of}
use Rattle.mbe_pattern.specs.Placed.{pattern_of}
use Rattle.mbe_rules.specs.Results.{meant}
use Rattle.mbe_rules.specs.Spelling.{template_of}
use Rattle.mbe_rules.specs.declared.rules_error.ArmFault.TheVariants.{NoArrow, NoTemplate}
use Rattle.mbe_rules.specs.Arms.{variables}
use Rattle.mbe_rules.specs.Arrows.{is_arrow_in}
use Rattle.mbe_rules.specs.ArmFaults.{place, of_template, body_fault, IsArmFault}
use Rattle.mbe_rules.specs.SpellingFaults.{IsTemplateError}
use Rattle.mbe_rules.specs.declared.error.TemplateError.{TemplateError}
use Rattle.mbe_rules.proofs.Reading.{node_first, no_arrow, no_template, template_wrong}
use Rattle.mbe_rules.proofs.arm.Arm.read.Goals as goal

pub returns-then-not-is_arrow_in-clause-err : goal.returns-then-not-is_arrow_in-clause-err
returns-then-not-is_arrow_in-clause-err c =
    let trees = rest_of c.args.trees.now in
    let held = rest_of c.in-Ok.pattern in
    let between = rest_of c.expect_subtree.new.self in
    let outer = c.in-Ok.field-0-0.delimiter in
    let first : IsFirstSubtree trees c.in-Ok.field-0-0 c.in-Ok.pattern = search rules in
    let passed : between ≡ after_tree trees = search rules in
    let begins : trees ≡ node outer held between = node_first trees c.in-Ok.field-0-0 c.in-Ok.pattern first ∙ ap (node outer held) (sym passed) in
    let none : is_arrow_in between ≡ false = search rules in
    let at : c.place.result ≡ place c.args.until between = search rules in
    no_arrow c.args.until trees outer held between begins c.in_ok-matcher.ensures.sound none ∙ ap (λ n. Some (NoArrow n)) (sym at)

pub returns-in_default-expect_subtree-clause-err : goal.returns-in_default-expect_subtree-clause-err
returns-in_default-expect_subtree-clause-err c =
    let trees = rest_of c.args.trees.now in
    let held = rest_of c.in-Ok.pattern in
    let between = rest_of c.expect_subtree.new.self in
    let behind = rest_of c.pass.new.trees in
    let outer = c.in-Ok.field-0-0.delimiter in
    let first : IsFirstSubtree trees c.in-Ok.field-0-0 c.in-Ok.pattern = search rules in
    let passed : between ≡ after_tree trees = search rules in
    let begins : trees ≡ node outer held between = node_first trees c.in-Ok.field-0-0 c.in-Ok.pattern first ∙ ap (node outer held) (sym passed) in
    let arrow : is_arrow_in between ≡ true = search rules in
    let left : behind ≡ after_trees 2 between = search rules in
    let none : is_at_node behind ≡ false = search rules in
    let at : c.place-at-2.result ≡ place c.args.until behind = search rules in
    no_template c.args.until trees outer held between begins c.in_ok-matcher.ensures.sound arrow behind left none ∙ ap (λ n. Some (NoTemplate n)) (sym at)

pub returns-clause-ok : goal.returns-clause-ok
returns-clause-ok c =
    let trees = rest_of c.args.trees.now in
    let held = rest_of c.in-Ok.pattern in
    let between = rest_of c.expect_subtree.new.self in
    let behind = rest_of c.pass.new.trees in
    let outer = c.in-Ok.field-0-0.delimiter in
    let inner = c.in-Ok-expect_subtree.header.delimiter in
    let body = rest_of c.in-Ok-expect_subtree.template in
    let first : IsFirstSubtree trees c.in-Ok.field-0-0 c.in-Ok.pattern = search rules in
    let passed : between ≡ after_tree trees = search rules in
    let begins : trees ≡ node outer held between = node_first trees c.in-Ok.field-0-0 c.in-Ok.pattern first ∙ ap (node outer held) (sym passed) in
    let arrow : is_arrow_in between ≡ true = search rules in
    let left : behind ≡ after_trees 2 between = search rules in
    let second : IsFirstSubtree behind c.in-Ok-expect_subtree.header c.in-Ok-expect_subtree.template = search rules in
    let is : IsMatcherOf (pattern_of held) c.in_ok-matcher.matcher = c.in_ok-matcher.ensures.ok in
    let its = map where_of c.binders.result.now in
    let same : its ≡ variables (pattern_of held) = ap (map where_of) c.binders.ensures ∙ is.variables in
    let made : meant c.in_ok-template.template ≡ template_of (variables (pattern_of held)) body = c.in_ok-template.ensures.ok ∙ ap (λ v. template_of v body) same in
    let others : rest_of c.expect_subtree-2.new.self ≡ after_tree behind = search rules in (
      record { pattern = pattern_of held; delimiter = inner; template = template_of (variables (pattern_of held)) body },
      record {
        outer = outer;
        pattern = held;
        between = between;
        template = body;
        begins = begins;
        arrow = arrow;
        ends = sym left ∙ node_first behind c.in-Ok-expect_subtree.header c.in-Ok-expect_subtree.template second ∙ ap (node inner body) (sym others);
        is_pattern = refl;
        is_template = refl;
        sound_pattern = c.in_ok-matcher.ensures.sound;
        sound_template = c.in_ok-template.ensures.sound;
      },
      record { matcher = is; template = made; delimiter = refl },
    )

pub returns-in_err-template-clause-err : goal.returns-in_err-template-clause-err
returns-in_err-template-clause-err c =
    let trees = rest_of c.args.trees.now in
    let held = rest_of c.in-Ok.pattern in
    let between = rest_of c.expect_subtree.new.self in
    let behind = rest_of c.pass.new.trees in
    let outer = c.in-Ok.field-0-0.delimiter in
    let inner = c.in-Ok-expect_subtree.header.delimiter in
    let body = rest_of c.in-Ok-expect_subtree.template in
    let first : IsFirstSubtree trees c.in-Ok.field-0-0 c.in-Ok.pattern = search rules in
    let passed : between ≡ after_tree trees = search rules in
    let begins : trees ≡ node outer held between = node_first trees c.in-Ok.field-0-0 c.in-Ok.pattern first ∙ ap (node outer held) (sym passed) in
    let arrow : is_arrow_in between ≡ true = search rules in
    let left : behind ≡ after_trees 2 between = search rules in
    let second : IsFirstSubtree behind c.in-Ok-expect_subtree.header c.in-Ok-expect_subtree.template = search rules in
    let ends : after_trees 2 between ≡ node inner body (after_tree behind) = sym left ∙ node_first behind c.in-Ok-expect_subtree.header c.in-Ok-expect_subtree.template second in
    let wrong : (error : TemplateError) → IsTemplateError body error → IsArmFault (body_fault c.args.until trees) (of_template error) =
    template_wrong c.args.until trees outer held between begins c.in_ok-matcher.ensures.sound arrow inner body (after_tree behind) ends in
    search (rules, wrong)
