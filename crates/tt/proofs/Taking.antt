-- The next token of a rewriting, and its end.
use Rattle.std.proofs.Common.{◌≡◌, Bool, List, [], ◌∷◌, map, length, Some, None, refl, ap, sym, subst, ◌∙◌, arith, length-append}
use Rattle.tt_base.specs.declared.token_tree.TokenTree.{TokenTree}
use Rattle.tt_base.specs.Forest.{Forest, end, leaf, node, header}
use Rattle.tt_base.specs.Moves.{first_token}
use Rattle.tt_base.specs.Siblings.{children_of}
use Rattle.tt_view.specs.Iters.{IsFirstElement}
use Rattle.tt_view.specs.declared.iter.TtElement.{TtElement}
use Rattle.tt_view.specs.declared.iter.TtElement.TheVariants as element
use Rattle.tt.specs.declared.transform.Frame.{Frame}
use Rattle.tt.specs.Work.{Work, lowest, above, rest_of, rests_of, behind, Stands, ComesToSame, token_of, below_of}

-- The first element has the first token, and the trees below it.
pub element_first : (trees : Forest) (it : TtElement) → IsFirstElement trees (Some it) → (first_token trees ≡ Some (token_of it)) × (below_of it ≡ children_of trees)
element_first end (element.Leaf found) is = absurd is
element_first end (element.Subtree subtree below) is = absurd is
element_first (leaf it rest) (element.Leaf found) is = (ap (λ l. first_token (leaf l rest)) (sym is), refl)
element_first (leaf it rest) (element.Subtree subtree below) is = absurd is
element_first (node d children rest) (element.Leaf found) is = absurd is
element_first (node d children rest) (element.Subtree subtree below) is = (λ i. Some (header (sym is.0 i) (sym is.1 i)), is.2)

-- If there is no element, no tree is left.
pub none_left : (trees : Forest) → IsFirstElement trees None → trees ≡ end
none_left end is = refl
none_left (leaf it rest) is = absurd is
none_left (node d children rest) is = absurd is

-- If no trees are left and no node is open, everything is read.
pub all_read : (fits : Bool) (list : List TokenTree) (frames now : List Frame) (rest : Forest) (work next : Work) → frames ≡ [] → now ≡ [] → rest ≡ end
    → Stands fits list frames rest next → ComesToSame work next → (came : Forest) × Stands fits list now rest (lowest came end) × ComesToSame work (lowest came end)
all_read fits list frames now rest work (lowest came left) none none_now ended is same =
    let gone : left ≡ end = sym is.ahead ∙ ended in (
      came,
      subst (λ f. Stands fits list f rest (lowest came end)) (none ∙ sym none_now) (subst (λ f. Stands fits list frames rest (lowest came f)) gone is),
      subst (λ f. ComesToSame work (lowest came f)) gone same,
    )
all_read fits list frames now rest work (above outer d n came left) none none_now ended is same =
    absurd (omega (arith, ap (λ l. length (map behind l)) (sym none) ∙ ap length is.rests, length-append (rests_of outer) (rest_of outer ∷ [])))
