use Rattle.std.proofs.Common.{◌≡◌, ◌++◌, ◌∷◌, [], Some, None, length, length-append, ap, sym, ◌∙◌, arith, rules}
use Rattle.std.specs.Prelude.{string_bytes}
use Rattle.tt.specs.Iters.{rest_of, IsFirstElement}
use Rattle.tt_base.specs.declared.token_tree.TokenTree.TheVariants as token
use Rattle.app_language.specs.Token.{token_words}
use Rattle.app_console.specs.Answer.{line}
use Rattle.app_console.specs.ViewText.{listed}
use Rattle.app_console.proofs.Listing.{one_line_more}
use Rattle.app_console.proofs.Stacked.{stacked, level_ended, leaf_passed, header_passed}
use Rattle.tt_view.specs.declared.iter.TtElement.TheVariants as element
use Rattle.app_console.proofs.token_lines.sibling_lines.Goals as goal

pub loop-level-smaller-in-None : goal.loop-level-smaller-in-None
loop-level-smaller-in-None c =
    let levels = c.pop.new.self.items in
    let level = c.in-Some.level in
    let before : c.loop-level.levels.items ≡ levels ++ level ∷ [] = search rules in
    let first : IsFirstElement (rest_of level) None = search rules in
    let tokens = ap stacked before ∙ level_ended levels level first in
    omega (arith, ap length tokens, ap length before, length-append levels (level ∷ []))

pub loop-level-preserved-in-None : goal.loop-level-preserved-in-None
loop-level-preserved-in-None c =
    let levels = c.pop.new.self.items in
    let level = c.in-Some.level in
    let before : c.loop-level.levels.items ≡ levels ++ level ∷ [] = search rules in
    let first : IsFirstElement (rest_of level) None = search rules in
    ap (λ tokens. string_bytes c.loop-level.text ++ listed token_words tokens) (sym (ap stacked before ∙ level_ended levels level first)) ∙ c.loop-level.invariant

pub loop-level-smaller-in-Continue-branch-3 : goal.loop-level-smaller-in-Continue-branch-3
loop-level-smaller-in-Continue-branch-3 c =
    let levels = c.pop.new.self.items in
    let level = c.in-Some.level in
    let leaf = c.in-Some-Leaf.leaf in
    let before : c.loop-level.levels.items ≡ levels ++ level ∷ [] = search rules in
    let first : IsFirstElement (rest_of level) (Some (element.Leaf leaf)) = search rules in
    let after : c.push-in-Some-Leaf.new.self.items ≡ levels ++ c.next.new.self ∷ [] = search rules in
    let tokens = ap stacked before ∙ leaf_passed levels level c.next.new.self leaf first c.next.ensures.steps.rest ∙ ap (λ l. token.Leaf leaf ∷ stacked l) (sym after) in
    omega (arith, ap length tokens, ap length before, ap length after, length-append levels (level ∷ []), length-append levels (c.next.new.self ∷ []))

pub loop-level-preserved-in-Continue-branch-3 : goal.loop-level-preserved-in-Continue-branch-3
loop-level-preserved-in-Continue-branch-3 c =
    let levels = c.pop.new.self.items in
    let level = c.in-Some.level in
    let leaf = c.in-Some-Leaf.leaf in
    let before : c.loop-level.levels.items ≡ levels ++ level ∷ [] = search rules in
    let first : IsFirstElement (rest_of level) (Some (element.Leaf leaf)) = search rules in
    let after : c.push-in-Some-Leaf.new.self.items ≡ levels ++ c.next.new.self ∷ [] = search rules in
    let tokens = ap stacked before ∙ leaf_passed levels level c.next.new.self leaf first c.next.ensures.steps.rest ∙ ap (λ l. token.Leaf leaf ∷ stacked l) (sym after) in
    let wrote : string_bytes c.write_line.new.text ≡ string_bytes c.loop-level.text ++ line (token_words (token.Leaf leaf)) = search rules in
    ap (λ text. text ++ listed token_words (stacked c.push-in-Some-Leaf.new.self.items)) wrote
    ∙ one_line_more token_words _ _ (token.Leaf leaf) _ (ap (λ l. string_bytes c.loop-level.text ++ listed token_words l) (sym tokens) ∙ c.loop-level.invariant)

pub loop-level-smaller : goal.loop-level-smaller
loop-level-smaller c =
    let levels = c.pop.new.self.items in
    let level = c.in-Some.level in
    let next = c.next.new.self in
    let below = c.in-Some-Subtree.children in
    let subtree = c.in-Some-Subtree.subtree in
    let before : c.loop-level.levels.items ≡ levels ++ level ∷ [] = search rules in
    let first : IsFirstElement (rest_of level) (Some (element.Subtree subtree below)) = search rules in
    let after : c.push-in-Some-Subtree-2.new.self.items ≡ (levels ++ next ∷ []) ++ below ∷ [] = search rules in
    let tokens = ap stacked before ∙ header_passed levels level next below subtree first c.next.ensures.steps.rest ∙ ap (λ l. token.Subtree subtree ∷ stacked l) (sym after) in
    omega (arith, ap length tokens, ap length before, ap length after, length-append levels (level ∷ []), length-append levels (next ∷ []), length-append (levels ++ next ∷ []) (below ∷ []))

pub loop-level-preserved : goal.loop-level-preserved
loop-level-preserved c =
    let levels = c.pop.new.self.items in
    let level = c.in-Some.level in
    let next = c.next.new.self in
    let below = c.in-Some-Subtree.children in
    let subtree = c.in-Some-Subtree.subtree in
    let before : c.loop-level.levels.items ≡ levels ++ level ∷ [] = search rules in
    let first : IsFirstElement (rest_of level) (Some (element.Subtree subtree below)) = search rules in
    let after : c.push-in-Some-Subtree-2.new.self.items ≡ (levels ++ next ∷ []) ++ below ∷ [] = search rules in
    let tokens = ap stacked before ∙ header_passed levels level next below subtree first c.next.ensures.steps.rest ∙ ap (λ l. token.Subtree subtree ∷ stacked l) (sym after) in
    let wrote : string_bytes c.write_line-in-Some-Subtree.new.text ≡ string_bytes c.loop-level.text ++ line (token_words (token.Subtree subtree)) = search rules in
    ap (λ text. text ++ listed token_words (stacked c.push-in-Some-Subtree-2.new.self.items)) wrote
    ∙ one_line_more token_words _ _ (token.Subtree subtree) _ (ap (λ l. string_bytes c.loop-level.text ++ listed token_words l) (sym tokens) ∙ c.loop-level.invariant)
