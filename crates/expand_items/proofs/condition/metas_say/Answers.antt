use Rattle.std.proofs.Common.{rules, ◌≡◌, ◌∙◌, Some, true, false, codes, cond, ap, ap₂, sym}
use Rattle.tt.specs.Iters.{rest_of}
use Rattle.tt.specs.Moves.{after_tree}
use Rattle.tt.specs.Siblings.{is_end}
use Rattle.expand_items.specs.Cfg.{known_of}
use Rattle.expand_items.specs.Conditions.{meta_says, metas_say}
use Rattle.expand_items.specs.Predicates.{both}
use Rattle.expand_items.proofs.Kleene.{both_both}
use Rattle.expand_items.proofs.Saying.{metas_first}
use Rattle.expand_items.proofs.condition.metas_say.Goals as goal
use Rattle.mbe_pattern.specs.Units.{is_at_punct}

pub trees-preserved : goal.trees-preserved
trees-preserved c =
    let known = known_of c.args.options.now in
    let trees = rest_of c.trees.trees in
    let begins = c.trees.is_behind_comma in
    let some : is_end trees ≡ false = search rules in
    let first : c.in_ok-first.first ≡ cond begins (meta_says known trees) (Some true) = search rules in
    let says : c.both-says.result ≡ both c.trees.says c.in_ok-first.first = search rules in
    let next : c.is_at_punct-is_behind_comma.result ≡ is_at_punct (codes ",") trees = search rules in
    let behind : rest_of c.pass.new.trees ≡ after_tree trees = search rules in
    ap₂ both (says ∙ ap (both c.trees.says) first) (ap₂ (metas_say known) next behind)
    ∙ both_both c.trees.says (cond begins (meta_says known trees) (Some true)) (metas_say known (is_at_punct (codes ",") trees) (after_tree trees))
    ∙ ap (both c.trees.says) (sym (metas_first known begins trees some)) ∙ c.trees.invariant
