-- The text and the lines with one more sibling.
use Rattle.std.proofs.Common.{◌≡◌, ◌+◌, Bool, true, false, Some, ℕ, suc, add-one, List, ◌++◌, refl, ap, ap₂, sym, ◌∙◌, arith, append_assoc}
use Rattle.tt_base.specs.DebugText.{leaf_line, header_line, indent, break_if, lines_text}
use Rattle.tt_base.specs.Forest.{Forest, end, leaf, node, size}
use Rattle.tt_base.specs.LeafText.{leaf_text}
use Rattle.tt_base.specs.Moves.{after_tree}
use Rattle.tt_base.specs.TreeText.{opening_text, closing_text, is_alone, space_if, space_after, siblings_text}
use Rattle.tt_view.specs.Iters.{rest_of, tree_of, IsFirstElement}
use Rattle.tt_view.specs.SiblingText.{tree_text, tree_lines, tree_size, space_after_tree}
use Rattle.tt_base.specs.declared.delimiter.Subtree.{Subtree}
use Rattle.tt_view.specs.declared.iter.TtIter.{TtIter}
use Rattle.tt_view.specs.declared.iter.TtElement.{TtElement}
use Rattle.tt_view.specs.declared.iter.TtElement.TheVariants as element

-- The first sibling, and then the others.
text_step : (due : Bool) (f : Forest) (e : TtElement) → IsFirstElement f (Some e)
    → siblings_text is_alone due f ≡ space_if due ++ (tree_text (tree_of e) ++ siblings_text is_alone (space_after_tree (tree_of e)) (after_tree f))
text_step due end e h = absurd h
text_step due (leaf it rest) (element.Leaf found) h = rw h (append_assoc (space_if due) (leaf_text it) (siblings_text is_alone (space_after is_alone it) rest))
text_step due (leaf it rest) (element.Subtree subtree below) h = absurd h
text_step due (node d children rest) (element.Leaf found) h = absurd h
text_step due (node d children rest) (element.Subtree subtree below) h = rw (h.0, h.2) (simp append_assoc)

-- The text of the siblings before goes on with the text of this one.
pub goes_on : (done all gap : List ℕ) (due next : Bool) (e : TtElement) (f g : Forest) → IsFirstElement f (Some e) → g ≡ after_tree f
    → gap ≡ space_if due → next ≡ space_after_tree (tree_of e) → done ++ siblings_text is_alone due f ≡ all
    → ((done ++ gap) ++ tree_text (tree_of e)) ++ siblings_text is_alone next g ≡ all
goes_on done all gap due next e f g first rest spaced told more =
    let this = tree_text (tree_of e) in
    let later = siblings_text is_alone (space_after_tree (tree_of e)) (after_tree f) in
    rw (rest, spaced, told)
    (append_assoc (done ++ space_if due) this later
    ∙ append_assoc done (space_if due) (this ++ later)
    ∙ ap (λ x. done ++ x) (sym (text_step due f e first))
    ∙ more)

-- The tokens of a sibling, and those after it, are as many as all.
pub first_size : (f : Forest) (e : TtElement) → IsFirstElement f (Some e) → tree_size (tree_of e) + size (after_tree f) ≡ size f
first_size end e h = absurd h
first_size (leaf it rest) (element.Leaf found) h = omega arith
first_size (leaf it rest) (element.Subtree subtree below) h = absurd h
first_size (node d children rest) (element.Leaf found) h = absurd h
first_size (node d children rest) (element.Subtree subtree below) h = omega (arith, ap size h.2)

-- The text of a subtree, in three parts.
pub subtree_parts : (e : TtElement) (s : Subtree) (below : TtIter) (front back : List ℕ) → e ≡ element.Subtree s below
    → front ≡ opening_text s.delimiter.kind → back ≡ closing_text s.delimiter.kind
    → (front ++ siblings_text is_alone false (rest_of below)) ++ back ≡ tree_text (tree_of e)
subtree_parts e s below front back is opens closes = rw (is, opens, closes) refl

-- Five pieces, in two groupings.
grouped : (gap spaces first below later : List ℕ) → (((gap ++ spaces) ++ first) ++ below) ++ later ≡ (gap ++ spaces) ++ ((first ++ below) ++ later)
grouped gap spaces first below later =
    ap (λ x. x ++ later) (append_assoc (gap ++ spaces) first below) ∙ append_assoc (gap ++ spaces) (first ++ below) later

-- The lines of the first sibling, and then those of the others.
lines_step : (due : Bool) (depth : ℕ) (f : Forest) (e : TtElement) → IsFirstElement f (Some e)
    → lines_text due depth f ≡ (break_if due ++ indent depth) ++ (tree_lines depth (tree_of e) ++ lines_text true depth (after_tree f))
lines_step due depth end e h = absurd h
lines_step due depth (leaf it rest) (element.Leaf found) h =
    append_assoc (break_if due ++ indent depth) (leaf_line it) (lines_text true depth rest)
    ∙ ap (λ l. (break_if due ++ indent depth) ++ (leaf_line l ++ lines_text true depth rest)) (sym h)
lines_step due depth (leaf it rest) (element.Subtree subtree below) h = absurd h
lines_step due depth (node d children rest) (element.Leaf found) h = absurd h
lines_step due depth (node d children rest) (element.Subtree subtree below) h =
    grouped (break_if due) (indent depth) (header_line d) (lines_text true (suc depth) children) (lines_text true depth rest)
    ∙ ap₂ (λ at held. (break_if due ++ indent depth) ++ ((header_line at ++ lines_text true (suc depth) held) ++ lines_text true depth rest)) (sym h.0) (sym h.2)

-- The lines of the siblings before go on with the lines of this one.
pub lines_go_on : (done all gap spaces : List ℕ) (due : Bool) (depth : ℕ) (e : TtElement) (f g : Forest) → IsFirstElement f (Some e) → g ≡ after_tree f
    → gap ≡ break_if due → spaces ≡ indent depth → done ++ lines_text due depth f ≡ all
    → (((done ++ gap) ++ spaces) ++ tree_lines depth (tree_of e)) ++ lines_text true depth g ≡ all
lines_go_on done all gap spaces due depth e f g first rest broken indented more =
    let this = tree_lines depth (tree_of e) in
    let later = lines_text true depth (after_tree f) in
    rw (rest, broken, indented)
    (append_assoc ((done ++ break_if due) ++ indent depth) this later
    ∙ ap (λ x. x ++ (this ++ later)) (append_assoc done (break_if due) (indent depth))
    ∙ append_assoc done (break_if due ++ indent depth) (this ++ later)
    ∙ ap (λ x. done ++ x) (sym (lines_step due depth f e first))
    ∙ more)

-- The lines of a subtree, in two parts.
pub subtree_lines : (e : TtElement) (s : Subtree) (below : TtIter) (depth : ℕ) (front : List ℕ) → e ≡ element.Subtree s below
    → front ≡ header_line s.delimiter → front ++ lines_text true (depth + 1) (rest_of below) ≡ tree_lines depth (tree_of e)
subtree_lines e s below depth front is opens = rw (is, opens) (ap (λ d. header_line s.delimiter ++ lines_text true d (rest_of below)) (add-one depth))
