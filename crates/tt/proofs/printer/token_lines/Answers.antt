use Rattle.std.proofs.Common.{◌≡◌, ◌++◌, ◌∷◌, [], None, Some, true, length, reverse, append-nil, ap, sym, ◌∙◌, rules}
use Rattle.std.proofs.lemmas.List.{reverse-append, length-reverse}
use Rattle.std.specs.Prelude.{string_bytes}
use Rattle.tt_base.specs.DebugText.{break_if, indent, leaf_line, header_line}
use Rattle.tt_base.specs.Moves.{after_tree}
use Rattle.tt_view.specs.Iters.{rest_of, IsFirstElement}
use Rattle.tt_view.specs.declared.iter.TtElement.TheVariants as element
use Rattle.tt.proofs.TextsLeft.{lines_left, lines_leaf, lines_subtree, lines_ended, goes_on}
use Rattle.tt.proofs.printer.token_lines.Goals as goal

pub tokens-preserved-in-Some-Leaf : goal.tokens-preserved-in-Some-Leaf
tokens-preserved-in-Some-Leaf c =
    let items = c.tokens.outer.items in
    let level = c.tokens.level in
    let next = c.next.new.self in
    let leaf = c.in-Some-Leaf.leaf in
    let due = c.tokens.due in
    let first : IsFirstElement (rest_of level) (Some (element.Leaf leaf)) = search rules in
    let rest : rest_of next ≡ after_tree (rest_of level) = search rules in
    let wrote : string_bytes c.write_leaf_line.new.text ≡ string_bytes c.tokens.text ++ ((break_if due ++ indent (length items)) ++ leaf_line leaf) = search rules in
    goes_on _ _ ((break_if due ++ indent (length items)) ++ leaf_line leaf) _ (lines_left due (level ∷ reverse items)) _ wrote
    (lines_leaf due level next (reverse items) leaf first rest
    ∙ ap (λ n. ((break_if due ++ indent n) ++ leaf_line leaf) ++ lines_left true (next ∷ reverse items)) (length-reverse items))
    c.tokens.invariant

pub tokens-preserved-in-Some-Subtree : goal.tokens-preserved-in-Some-Subtree
tokens-preserved-in-Some-Subtree c =
    let items = c.tokens.outer.items in
    let level = c.tokens.level in
    let next = c.next.new.self in
    let subtree = c.in-Some-Subtree.subtree in
    let below = c.in-Some-Subtree.children in
    let due = c.tokens.due in
    let pushed : c.push.new.self.items ≡ items ++ next ∷ [] = search rules in
    let first : IsFirstElement (rest_of level) (Some (element.Subtree subtree below)) = search rules in
    let rest : rest_of next ≡ after_tree (rest_of level) = search rules in
    let wrote : string_bytes c.write_header_line.new.text ≡ string_bytes c.tokens.text ++ ((break_if due ++ indent (length items)) ++ header_line subtree.delimiter) = search rules in
    goes_on _ _ ((break_if due ++ indent (length items)) ++ header_line subtree.delimiter) _ (lines_left due (level ∷ reverse items)) _ wrote
    (lines_subtree due level next below (reverse items) subtree first rest
    ∙ ap (λ n. ((break_if due ++ indent n) ++ header_line subtree.delimiter) ++ lines_left true (below ∷ next ∷ reverse items)) (length-reverse items)
    ∙ ap (λ outer. ((break_if due ++ indent (length items)) ++ header_line subtree.delimiter) ++ lines_left true (below ∷ outer)) (sym (ap reverse pushed ∙ reverse-append items (next ∷ []))))
    c.tokens.invariant

pub tokens-preserved : goal.tokens-preserved
tokens-preserved c =
    let level = c.tokens.level in
    let due = c.tokens.due in
    let outer = reverse c.tokens.outer.items in
    let popped : c.tokens.outer.items ≡ c.pop.new.self.items ++ c.in-Some.round ∷ [] = search rules in
    let first : IsFirstElement (rest_of level) None = search rules in
    ap (λ lines. string_bytes c.tokens.text ++ lines)
    (sym (lines_ended due level outer first ∙ ap (lines_left true) (ap reverse popped ∙ reverse-append c.pop.new.self.items (c.in-Some.round ∷ []))))
    ∙ c.tokens.invariant

pub returns-in_default : goal.returns-in_default
returns-in_default c =
    let level = c.tokens.level in
    let due = c.tokens.due in
    let none : c.tokens.outer.items ≡ [] = search rules in
    let first : IsFirstElement (rest_of level) None = search rules in
    sym (append-nil _)
    ∙ ap (λ lines. string_bytes c.tokens.text ++ lines) (sym (lines_ended due level (reverse c.tokens.outer.items) first ∙ ap (λ items. lines_left true (reverse items)) none))
    ∙ c.tokens.invariant
