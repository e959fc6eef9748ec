-- The tokens that stacked iterators still yield, the last iterator first.
use Rattle.std.proofs.Common.{◌≡◌, List, [], ◌∷◌, ◌++◌, Some, None, refl, ap, sym, ◌∙◌, append_assoc, append-nil}
use Rattle.tt.specs.Forest.{Forest, end, leaf, node, flat}
use Rattle.tt.specs.Moves.{after_tree}
use Rattle.tt.specs.Iters.{rest_of, IsFirstElement}
use Rattle.tt_base.specs.declared.delimiter.Subtree.{Subtree}
use Rattle.tt_base.specs.declared.leaf.Leaf.{Leaf}
use Rattle.tt_base.specs.declared.token_tree.TokenTree.{TokenTree}
use Rattle.tt_base.specs.declared.token_tree.TokenTree.TheVariants as token
use Rattle.tt_view.specs.declared.iter.TtElement.TheVariants as element
use Rattle.tt_view.specs.declared.iter.TtIter.{TtIter}

abbrev pub stacked : List TtIter → List TokenTree
stacked [] = []
stacked (level ∷ levels) = stacked levels ++ flat (rest_of level)

pub stacked-push : (levels : List TtIter) (level : TtIter) → stacked (levels ++ level ∷ []) ≡ flat (rest_of level) ++ stacked levels
stacked-push [] level = sym (append-nil (flat (rest_of level)))
stacked-push (first ∷ levels) level =
    ap (λ l. l ++ flat (rest_of first)) (stacked-push levels level) ∙ append_assoc (flat (rest_of level)) (stacked levels) (flat (rest_of first))

-- at the end of a level nothing of it is left
pub level_ended : (levels : List TtIter) (level : TtIter) → IsFirstElement (rest_of level) None → stacked (levels ++ level ∷ []) ≡ stacked levels
level_ended levels level none = stacked-push levels level ∙ ap (λ l. l ++ stacked levels) (nothing (rest_of level) none)
  where
    nothing : (trees : Forest) → IsFirstElement trees None → flat trees ≡ []
    nothing end p = refl
    nothing (leaf it rest) p = absurd p
    nothing (node delimiter children rest) p = absurd p

-- a leaf is the first token, and the level's other trees follow
pub leaf_passed : (levels : List TtIter) (level next : TtIter) (found : Leaf) → IsFirstElement (rest_of level) (Some (element.Leaf found)) → rest_of next ≡ after_tree (rest_of level)
    → stacked (levels ++ level ∷ []) ≡ token.Leaf found ∷ stacked (levels ++ next ∷ [])
leaf_passed levels level next found first rest =
    stacked-push levels level
    ∙ ap (λ l. l ++ stacked levels) (first_leaf (rest_of level) first ∙ ap (λ f. token.Leaf found ∷ flat f) (sym rest))
    ∙ ap (λ l. token.Leaf found ∷ l) (sym (stacked-push levels next))
  where
    first_leaf : (trees : Forest) → IsFirstElement trees (Some (element.Leaf found)) → flat trees ≡ token.Leaf found ∷ flat (after_tree trees)
    first_leaf end p = absurd p
    first_leaf (leaf it rest) p = ap (λ l. token.Leaf l ∷ flat rest) (sym p)
    first_leaf (node delimiter children rest) p = absurd p

-- a header is the first token; its contents follow, and then the level's other trees
pub header_passed : (levels : List TtIter) (level next below : TtIter) (subtree : Subtree) → IsFirstElement (rest_of level) (Some (element.Subtree subtree below))
    → rest_of next ≡ after_tree (rest_of level) → stacked (levels ++ level ∷ []) ≡ token.Subtree subtree ∷ stacked ((levels ++ next ∷ []) ++ below ∷ [])
header_passed levels level next below subtree first rest =
    stacked-push levels level
    ∙ ap (λ l. l ++ stacked levels) (first_header (rest_of level) first ∙ ap (λ f. token.Subtree subtree ∷ (flat (rest_of below) ++ flat f)) (sym rest))
    ∙ ap (λ l. token.Subtree subtree ∷ l)
    (append_assoc (flat (rest_of below)) (flat (rest_of next)) (stacked levels)
    ∙ ap (λ l. flat (rest_of below) ++ l) (sym (stacked-push levels next))
    ∙ sym (stacked-push (levels ++ next ∷ []) below))
  where
    first_header : (trees : Forest) → IsFirstElement trees (Some (element.Subtree subtree below))
        → flat trees ≡ token.Subtree subtree ∷ (flat (rest_of below) ++ flat (after_tree trees))
    first_header end p = absurd p
    first_header (leaf it rest) p = absurd p
    first_header (node delimiter children rest) p =
        λ i. token.Subtree (record { delimiter = sym p.0 i; len = sym p.1 i }) ∷ (flat (sym p.2 i) ++ flat rest)
