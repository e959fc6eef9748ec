-- The marks that levels have left, the innermost level first.
use Rattle.std.proofs.Common.{◌≡◌, ◌+◌, ℕ, suc, List, [], ◌∷◌, ◌++◌, Option, Some, None, ap, ap₂, sym, ◌∙◌, append_assoc, arith}
use Rattle.tt_base.specs.Forest.{Forest, end, leaf, node, size}
use Rattle.tt_base.specs.Moves.{after_tree}
use Rattle.tt_base.specs.declared.delimiter.Subtree.{Subtree}
use Rattle.tt_base.specs.declared.leaf.Leaf.{Leaf}
use Rattle.tt_view.specs.Iters.{rest_of, IsFirstElement}
use Rattle.tt_view.specs.declared.iter.TtElement.TheVariants as element
use Rattle.tt_view.specs.declared.iter.TtIter.{TtIter}
use Rattle.syntax_parse.specs.declared.bracket.Bracket.{Bracket}
use Rattle.syntax_unparse.specs.Marks.{Mark, word, opens, closes, brackets_of, marks, shown}
use Rattle.syntax_unparse.specs.declared.write.Level.{Level}
use Rattle.syntax_unparse.proofs.ShownLeft.{size_end, size_leaf, size_subtree}

-- the marks of the rest of levels, whose next token has place `at`, and the closing of each level
abbrev pub marks_left : (at : ℕ) → List Level → List Mark
marks_left at [] = []
marks_left at (level ∷ outer) = marks at (rest_of level.rest) ++ (closes level.brackets ++ marks_left (at + size (rest_of level.rest)) outer)

-- how many tokens are left
abbrev pub tokens_left : List Level → ℕ
tokens_left [] = 0
tokens_left (level ∷ outer) = size (rest_of level.rest) + tokens_left outer

-- At the end of a level, its closing comes next.
pub marks_ended : (at : ℕ) (level : Level) (outer : List Level) → IsFirstElement (rest_of level.rest) None
    → marks_left at (level ∷ outer) ≡ closes level.brackets ++ marks_left at outer
marks_ended at level outer none = by (rest_of level.rest) none
  where
    zero_more : at + 0 ≡ at
    zero_more = omega arith

    by : (trees : Forest) → IsFirstElement trees None
        → marks at trees ++ (closes level.brackets ++ marks_left (at + size trees) outer) ≡ closes level.brackets ++ marks_left at outer
    by end p = ap (λ n. closes level.brackets ++ marks_left n outer) zero_more
    by (leaf it rest) p = absurd p
    by (node delimiter children rest) p = absurd p

-- A leaf comes first, and the level's other trees next.
pub marks_leaf : (at : ℕ) (level next : Level) (outer : List Level) (found : Leaf)
    → IsFirstElement (rest_of level.rest) (Some (element.Leaf found)) → rest_of next.rest ≡ after_tree (rest_of level.rest) → next.brackets ≡ level.brackets
    → marks_left at (level ∷ outer) ≡ word at found ∷ marks_left (at + 1) (next ∷ outer)
marks_leaf at level next outer found first rest kept =
    by (rest_of level.rest) first
    ∙ ap₂ (λ trees b. word at found ∷ (marks (at + 1) trees ++ (closes b ++ marks_left ((at + 1) + size trees) outer))) (sym rest) (sym kept)
  where
    by : (trees : Forest) → IsFirstElement trees (Some (element.Leaf found))
        → marks at trees ++ (closes level.brackets ++ marks_left (at + size trees) outer)
        ≡ word at found ∷ (marks (at + 1) (after_tree trees) ++ (closes level.brackets ++ marks_left ((at + 1) + size (after_tree trees)) outer))
    by end p = absurd p
    by (leaf it others) p =
        let places : at + suc (size others) ≡ (at + 1) + size others = omega arith in
        ap₂ (λ l n. word at l ∷ (marks (at + 1) others ++ (closes level.brackets ++ marks_left n outer))) (sym p) places
    by (node delimiter children rest) p = absurd p

-- Four pieces, in two groupings.
regrouped : (a b c d e : List Mark) → (a ++ (b ++ (c ++ d))) ++ e ≡ a ++ (b ++ (c ++ (d ++ e)))
regrouped a b c d e =
    append_assoc a (b ++ (c ++ d)) e ∙ ap (λ t. a ++ t) (append_assoc b (c ++ d) e ∙ ap (λ t. b ++ t) (append_assoc c d e))

-- A subtree comes first: its opening, then its children.
pub marks_subtree : (at : ℕ) (level next below : Level) (outer : List Level) (subtree : Subtree) (children : TtIter)
    → IsFirstElement (rest_of level.rest) (Some (element.Subtree subtree children)) → rest_of next.rest ≡ after_tree (rest_of level.rest) → next.brackets ≡ level.brackets
    → below.rest ≡ children → below.brackets ≡ brackets_of subtree.delimiter.kind (shown (rest_of children))
    → marks_left at (level ∷ outer) ≡ opens below.brackets ++ marks_left (at + 1) (below ∷ next ∷ outer)
marks_subtree at level next below outer subtree children first rest kept held round =
    by (rest_of level.rest) first
    ∙ ap₂ (λ trees b. opens inner ++ (marks (at + 1) (rest_of children) ++ (closes inner ++ (marks ((at + 1) + size (rest_of children)) trees ++ (closes b ++ marks_left (((at + 1) + size (rest_of children)) + size trees) outer))))) (sym rest) (sym kept)
    ∙ ap₂ (λ iter b. opens b ++ (marks (at + 1) (rest_of iter) ++ (closes b ++ marks_left ((at + 1) + size (rest_of iter)) (next ∷ outer)))) (sym held) (sym round)
  where
    inner : Option Bracket
    inner = brackets_of subtree.delimiter.kind (shown (rest_of children))

    by : (trees : Forest) → IsFirstElement trees (Some (element.Subtree subtree children))
        → marks at trees ++ (closes level.brackets ++ marks_left (at + size trees) outer)
        ≡ opens inner ++ (marks (at + 1) (rest_of children) ++ (closes inner ++ (marks ((at + 1) + size (rest_of children)) (after_tree trees) ++ (closes level.brackets ++ marks_left (((at + 1) + size (rest_of children)) + size (after_tree trees)) outer))))
    by end p = absurd p
    by (leaf it others) p = absurd p
    by (node delimiter held others) p =
        let b = brackets_of delimiter.kind (shown held) in
        let behind = (at + 1) + size held in
        let places : at + suc (size held + size others) ≡ behind + size others = omega arith in
        regrouped (opens b) (marks (at + 1) held) (closes b) (marks behind others) (closes level.brackets ++ marks_left (at + suc (size held + size others)) outer)
        ∙ ap (λ n. opens b ++ (marks (at + 1) held ++ (closes b ++ (marks behind others ++ (closes level.brackets ++ marks_left n outer))))) places
        ∙ ap₂ (λ d trees. opens (brackets_of d.kind (shown trees)) ++ (marks (at + 1) trees ++ (closes (brackets_of d.kind (shown trees)) ++ (marks ((at + 1) + size trees) others ++ (closes level.brackets ++ marks_left (((at + 1) + size trees) + size others) outer))))) (sym p.0) (sym p.2)

-- A leaf is one token.
pub tokens_leaf : (at tokens : ℕ) (level next : Level) (outer : List Level) (found : Leaf)
    → IsFirstElement (rest_of level.rest) (Some (element.Leaf found)) → rest_of next.rest ≡ after_tree (rest_of level.rest)
    → at + tokens_left (level ∷ outer) ≡ tokens → (at + 1) + tokens_left (next ∷ outer) ≡ tokens
tokens_leaf at tokens level next outer found first rest count =
    omega (arith, count, size_leaf (rest_of level.rest) found first, ap size rest)

-- A subtree is its header, its children and what follows.
pub tokens_subtree : (at tokens : ℕ) (level next below : Level) (outer : List Level) (subtree : Subtree) (children : TtIter)
    → IsFirstElement (rest_of level.rest) (Some (element.Subtree subtree children)) → rest_of next.rest ≡ after_tree (rest_of level.rest) → below.rest ≡ children
    → at + tokens_left (level ∷ outer) ≡ tokens → (at + 1) + tokens_left (below ∷ next ∷ outer) ≡ tokens
tokens_subtree at tokens level next below outer subtree children first rest held count =
    omega (arith, count, size_subtree (rest_of level.rest) subtree children first, ap size rest, ap (λ iter. size (rest_of iter)) held)

-- At its end a level has no tokens left.
pub tokens_ended : (at tokens : ℕ) (level : Level) (outer : List Level) → IsFirstElement (rest_of level.rest) None
    → at + tokens_left (level ∷ outer) ≡ tokens → at + tokens_left outer ≡ tokens
tokens_ended at tokens level outer none count = omega (arith, count, size_end (rest_of level.rest) none)
