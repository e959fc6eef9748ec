use Rattle.std.proofs.Common.{rules, ◌≡◌, ◌∙◌, Some, true, codes, ap, sym, arith}
use Rattle.tt.specs.Expectations.{as_ident_or_underscore, first_leaf_as}
use Rattle.tt.specs.Forest.{size}
use Rattle.tt.specs.Iters.{rest_of}
use Rattle.tt.specs.Moves.{after_tree}
use Rattle.expand_items.specs.Cfg.{known_of}
use Rattle.expand_items.specs.Predicates.{predicates, value}
use Rattle.expand_items.proofs.Reading.{below_more, key_first, key_size, word_first, word_size}
use Rattle.expand_items.proofs.cfg.CfgOptions.take_operand.Goals as goal
use Rattle.mbe_pattern.specs.Units.{is_at_punct}

pub returns-then-is_ok-clause-says : goal.returns-then-is_ok-clause-says
returns-then-is_ok-clause-says c =
    let known = known_of c.args.self.now in
    let trees = rest_of c.args.trees.now in
    let word = c.in-Ok.word in
    let first : first_leaf_as as_ident_or_underscore trees ≡ Some word = search rules in
    let there : is_at_punct (codes "=") (after_tree trees) ≡ true = search rules in
    let behind : rest_of c.expect_char.new.self ≡ after_tree (after_tree trees) = search rules in
    let key : c.as_str.result.now ≡ word.sym = search rules in
    word_first known word trees first ∙ key_first known word (after_tree trees) there ∙ ap (predicates known (value word.sym)) (sym behind)
    ∙ ap (λ k. predicates known (value k) (rest_of c.expect_char.new.self)) (sym key) ∙ c.take_value.ensures.says

pub returns-then-is_ok-clause-less : goal.returns-then-is_ok-clause-less
returns-then-is_ok-clause-less c =
    let trees = rest_of c.args.trees.now in
    let word = c.in-Ok.word in
    let first : first_leaf_as as_ident_or_underscore trees ≡ Some word = search rules in
    let there : is_at_punct (codes "=") (after_tree trees) ≡ true = search rules in
    let behind : rest_of c.expect_char.new.self ≡ after_tree (after_tree trees) = search rules in
    below_more c.take_value.result _ (size trees) (rest_of c.take_value.new.trees)
    (omega (arith, word_size word trees first, key_size (after_tree trees) there, ap size behind)) c.take_value.ensures.less

pub returns-clause-less : goal.returns-clause-less
returns-clause-less c =
    let trees = rest_of c.args.trees.now in
    let word = c.in-Ok.word in
    let first : first_leaf_as as_ident_or_underscore trees ≡ Some word = search rules in
    let behind : rest_of c.expect_ident_or_underscore.new.self ≡ after_tree trees = search rules in
    below_more c.take_rest.result _ (size trees) (rest_of c.take_rest.new.trees) (omega (arith, word_size word trees first, ap size behind)) c.take_rest.ensures.less
