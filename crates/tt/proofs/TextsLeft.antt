-- The texts that the levels of a printer still have to write, the innermost level first.
use Rattle.std.proofs.Common.{◌≡◌, ◌+◌, Bool, true, false, ℕ, suc, List, [], ◌∷◌, ◌++◌, Some, None, length, refl, ap, ap₂, sym, ◌∙◌, append_assoc}
use Rattle.tt_base.specs.DebugText.{break_if, indent, leaf_line, header_line, lines_text}
use Rattle.tt_base.specs.Forest.{Forest, end, leaf, node, size}
use Rattle.tt_base.specs.LeafText.{leaf_text}
use Rattle.tt_base.specs.Moves.{after_tree}
use Rattle.tt_base.specs.TreeText.{opening_text, closing_text, space_if, space_after, siblings_text}
use Rattle.tt_base.specs.declared.delimiter.Subtree.{Subtree}
use Rattle.tt_base.specs.declared.leaf.Leaf.{Leaf}
use Rattle.tt_base.specs.declared.punct.Spacing.{Spacing}
use Rattle.tt_view.specs.Iters.{rest_of, IsFirstElement}
use Rattle.tt_view.specs.declared.iter.TtElement.TheVariants as element
use Rattle.tt_view.specs.declared.iter.TtIter.{TtIter}
use Rattle.tt.specs.declared.printer.Level.{Level}

-- the text of the trees that are left, then what closes their level, then the text of the outer levels
abbrev pub text_left : (lets : Spacing → Bool) → (due : Bool) → List Level → List ℕ
text_left lets due [] = []
text_left lets due (level ∷ outer) = siblings_text lets due (rest_of level.rest) ++ (closing_text level.kind ++ text_left lets true outer)

-- the lines of the trees that are left, and then those of the outer levels
abbrev pub lines_left : (due : Bool) → List TtIter → List ℕ
lines_left due [] = []
lines_left due (level ∷ outer) = lines_text due (length outer) (rest_of level) ++ lines_left true outer

-- the number of tokens that are left
abbrev pub tokens_left : List Level → ℕ
tokens_left [] = 0
tokens_left (level ∷ outer) = size (rest_of level.rest) + tokens_left outer

-- the same for iterators
abbrev pub tokens_in : List TtIter → ℕ
tokens_in [] = 0
tokens_in (level ∷ outer) = size (rest_of level) + tokens_in outer

-- At the end of a level, the text that closes it comes next.
pub text_ended : (lets : Spacing → Bool) (due : Bool) (level : Level) (outer : List Level) → IsFirstElement (rest_of level.rest) None
    → text_left lets due (level ∷ outer) ≡ closing_text level.kind ++ text_left lets true outer
text_ended lets due level outer none = by (rest_of level.rest) none
  where
    by : (trees : Forest) → IsFirstElement trees None
        → siblings_text lets due trees ++ (closing_text level.kind ++ text_left lets true outer) ≡ closing_text level.kind ++ text_left lets true outer
    by end p = refl
    by (leaf it rest) p = absurd p
    by (node delimiter children rest) p = absurd p

-- A leaf comes first, and the level's other trees next.
pub text_leaf : (lets : Spacing → Bool) (due : Bool) (level next : Level) (outer : List Level) (found : Leaf)
    → IsFirstElement (rest_of level.rest) (Some (element.Leaf found)) → rest_of next.rest ≡ after_tree (rest_of level.rest) → next.kind ≡ level.kind
    → text_left lets due (level ∷ outer) ≡ (space_if due ++ leaf_text found) ++ text_left lets (space_after lets found) (next ∷ outer)
text_leaf lets due level next outer found first rest kind =
    by (rest_of level.rest) first
    ∙ ap₂ (λ trees at. (space_if due ++ leaf_text found) ++ (siblings_text lets (space_after lets found) trees ++ (closing_text at ++ text_left lets true outer))) (sym rest) (sym kind)
  where
    by : (trees : Forest) → IsFirstElement trees (Some (element.Leaf found))
        → siblings_text lets due trees ++ (closing_text level.kind ++ text_left lets true outer)
        ≡ (space_if due ++ leaf_text found) ++ (siblings_text lets (space_after lets found) (after_tree trees) ++ (closing_text level.kind ++ text_left lets true outer))
    by end p = absurd p
    by (leaf it rest) p =
        append_assoc (space_if due ++ leaf_text it) (siblings_text lets (space_after lets it) rest) (closing_text level.kind ++ text_left lets true outer)
        ∙ ap (λ l. (space_if due ++ leaf_text l) ++ (siblings_text lets (space_after lets l) rest ++ (closing_text level.kind ++ text_left lets true outer))) (sym p)
    by (node delimiter children rest) p = absurd p

-- Five pieces, in two groupings.
regrouped : (front held back rest outer : List ℕ) → (((front ++ held) ++ back) ++ rest) ++ outer ≡ front ++ (held ++ (back ++ (rest ++ outer)))
regrouped front held back rest outer =
    append_assoc ((front ++ held) ++ back) rest outer ∙ append_assoc (front ++ held) back (rest ++ outer) ∙ append_assoc front held (back ++ (rest ++ outer))

-- A subtree comes first: what opens it, and then the trees below it.
pub text_subtree : (lets : Spacing → Bool) (due : Bool) (level next below : Level) (outer : List Level) (subtree : Subtree) (children : TtIter)
    → IsFirstElement (rest_of level.rest) (Some (element.Subtree subtree children)) → rest_of next.rest ≡ after_tree (rest_of level.rest) → next.kind ≡ level.kind
    → below.rest ≡ children → below.kind ≡ subtree.delimiter.kind
    → text_left lets due (level ∷ outer) ≡ (space_if due ++ opening_text subtree.delimiter.kind) ++ text_left lets false (below ∷ next ∷ outer)
text_subtree lets due level next below outer subtree children first rest kind held round =
    by (rest_of level.rest) first
    ∙ ap₂ (λ trees at. (space_if due ++ opening_text subtree.delimiter.kind) ++ (siblings_text lets false (rest_of children) ++ (closing_text subtree.delimiter.kind ++ (siblings_text lets true trees ++ (closing_text at ++ text_left lets true outer))))) (sym rest) (sym kind)
    ∙ ap₂ (λ iter at. (space_if due ++ opening_text subtree.delimiter.kind) ++ (siblings_text lets false (rest_of iter) ++ (closing_text at ++ text_left lets true (next ∷ outer)))) (sym held) (sym round)
  where
    by : (trees : Forest) → IsFirstElement trees (Some (element.Subtree subtree children))
        → siblings_text lets due trees ++ (closing_text level.kind ++ text_left lets true outer)
        ≡ (space_if due ++ opening_text subtree.delimiter.kind) ++ (siblings_text lets false (rest_of children) ++ (closing_text subtree.delimiter.kind ++ (siblings_text lets true (after_tree trees) ++ (closing_text level.kind ++ text_left lets true outer))))
    by end p = absurd p
    by (leaf it others) p = absurd p
    by (node delimiter inner others) p =
        regrouped (space_if due ++ opening_text delimiter.kind) (siblings_text lets false inner) (closing_text delimiter.kind) (siblings_text lets true others) (closing_text level.kind ++ text_left lets true outer)
        ∙ ap₂ (λ at trees. (space_if due ++ opening_text at.kind) ++ (siblings_text lets false trees ++ (closing_text at.kind ++ (siblings_text lets true others ++ (closing_text level.kind ++ text_left lets true outer))))) (sym p.0) (sym p.2)

-- At the end of a level, the lines of the outer ones come next.
pub lines_ended : (due : Bool) (level : TtIter) (outer : List TtIter) → IsFirstElement (rest_of level) None → lines_left due (level ∷ outer) ≡ lines_left true outer
lines_ended due level outer none = by (rest_of level) none
  where
    by : (trees : Forest) → IsFirstElement trees None → lines_text due (length outer) trees ++ lines_left true outer ≡ lines_left true outer
    by end p = refl
    by (leaf it rest) p = absurd p
    by (node delimiter children rest) p = absurd p

-- The line of a leaf comes first.
pub lines_leaf : (due : Bool) (level next : TtIter) (outer : List TtIter) (found : Leaf)
    → IsFirstElement (rest_of level) (Some (element.Leaf found)) → rest_of next ≡ after_tree (rest_of level)
    → lines_left due (level ∷ outer) ≡ ((break_if due ++ indent (length outer)) ++ leaf_line found) ++ lines_left true (next ∷ outer)
lines_leaf due level next outer found first rest =
    by (rest_of level) first
    ∙ ap (λ trees. ((break_if due ++ indent (length outer)) ++ leaf_line found) ++ (lines_text true (length outer) trees ++ lines_left true outer)) (sym rest)
  where
    by : (trees : Forest) → IsFirstElement trees (Some (element.Leaf found))
        → lines_text due (length outer) trees ++ lines_left true outer
        ≡ ((break_if due ++ indent (length outer)) ++ leaf_line found) ++ (lines_text true (length outer) (after_tree trees) ++ lines_left true outer)
    by end p = absurd p
    by (leaf it rest) p =
        append_assoc ((break_if due ++ indent (length outer)) ++ leaf_line it) (lines_text true (length outer) rest) (lines_left true outer)
        ∙ ap (λ l. ((break_if due ++ indent (length outer)) ++ leaf_line l) ++ (lines_text true (length outer) rest ++ lines_left true outer)) (sym p)
    by (node delimiter children rest) p = absurd p

-- The line of a header comes first, and then those of the tokens below it.
pub lines_subtree : (due : Bool) (level next below : TtIter) (outer : List TtIter) (subtree : Subtree)
    → IsFirstElement (rest_of level) (Some (element.Subtree subtree below)) → rest_of next ≡ after_tree (rest_of level)
    → lines_left due (level ∷ outer) ≡ ((break_if due ++ indent (length outer)) ++ header_line subtree.delimiter) ++ lines_left true (below ∷ next ∷ outer)
lines_subtree due level next below outer subtree first rest =
    by (rest_of level) first
    ∙ ap (λ trees. ((break_if due ++ indent (length outer)) ++ header_line subtree.delimiter) ++ (lines_text true (suc (length outer)) (rest_of below) ++ (lines_text true (length outer) trees ++ lines_left true outer))) (sym rest)
  where
    by : (trees : Forest) → IsFirstElement trees (Some (element.Subtree subtree below))
        → lines_text due (length outer) trees ++ lines_left true outer
        ≡ ((break_if due ++ indent (length outer)) ++ header_line subtree.delimiter) ++ (lines_text true (suc (length outer)) (rest_of below) ++ (lines_text true (length outer) (after_tree trees) ++ lines_left true outer))
    by end p = absurd p
    by (leaf it others) p = absurd p
    by (node delimiter inner others) p =
        (append_assoc (((break_if due ++ indent (length outer)) ++ header_line delimiter) ++ lines_text true (suc (length outer)) inner) (lines_text true (length outer) others) (lines_left true outer)
        ∙ append_assoc ((break_if due ++ indent (length outer)) ++ header_line delimiter) (lines_text true (suc (length outer)) inner) (lines_text true (length outer) others ++ lines_left true outer))
        ∙ ap₂ (λ at trees. ((break_if due ++ indent (length outer)) ++ header_line at) ++ (lines_text true (suc (length outer)) trees ++ (lines_text true (length outer) others ++ lines_left true outer))) (sym p.0) (sym p.2)

-- One more piece is written, and the others are left.
pub goes_on : (old new piece all left later : List ℕ) → new ≡ old ++ piece → left ≡ piece ++ later → old ++ left ≡ all → new ++ later ≡ all
goes_on old new piece all left later wrote first more =
    ap (λ x. x ++ later) wrote ∙ append_assoc old piece later ∙ ap (λ x. old ++ x) (sym first) ∙ more

-- A leaf is one token.
pub size_leaf : (trees : Forest) (found : Leaf) → IsFirstElement trees (Some (element.Leaf found)) → size trees ≡ suc (size (after_tree trees))
size_leaf end found p = absurd p
size_leaf (leaf it rest) found p = refl
size_leaf (node delimiter children rest) found p = absurd p

-- A subtree is its header, the tokens below it, and those after it.
pub size_subtree : (trees : Forest) (subtree : Subtree) (below : TtIter) → IsFirstElement trees (Some (element.Subtree subtree below))
    → size trees ≡ suc (size (rest_of below) + size (after_tree trees))
size_subtree end subtree below p = absurd p
size_subtree (leaf it rest) subtree below p = absurd p
size_subtree (node delimiter children rest) subtree below p = ap (λ held. suc (size held + size rest)) (sym p.2)
