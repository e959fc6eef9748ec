use Rattle.std.proofs.Common.{◌≡◌, ◌++◌, ◌∷◌, [], Some, None, length, length-append, ap, sym, subst, ◌∙◌, arith, rules}
use Rattle.tt_base.specs.Forest.{end}
use Rattle.tt_base.specs.Moves.{first_token, after_tree}
use Rattle.tt_base.specs.Siblings.{children_of}
use Rattle.tt_view.specs.Iters.{rest_of as trees_left, IsFirstElement}
use Rattle.tt_view.specs.Views.{trees_of}
use Rattle.tt.specs.Work.{Stands}
use Rattle.tt.proofs.Taking.{element_first, none_left, all_read}
use Rattle.tt.proofs.Working.{one_taken, same_then}
use Rattle.tt.proofs.WorkStands.{stands_taken}
use Rattle.tt.proofs.transform.Rewriting.next.Goals as goal

pub returns-in-Some : goal.returns-in-Some
returns-in-Some c = λ work is.
    let (next, stands, same) = c.loop-element.invariant work is in
    let rest = trees_of c.loop-element.self.rest in
    let there : trees_left c.iter-siblings.result ≡ rest = c.iter-siblings.ensures in
    let element : IsFirstElement (trees_left c.iter-siblings.result) (Some c.in-Some.element) = c.in-Some.ensures.steps.first in
    let (token, below) = element_first rest c.in-Some.element (subst (λ f. IsFirstElement f (Some c.in-Some.element)) there element) in
    let first : first_token rest ≡ Some c.parts.result.0 = token ∙ ap Some (sym c.parts.ensures.token) in
    let left : trees_of c.remaining-self.result ≡ after_tree rest = c.remaining-self.ensures ∙ c.in-Some.ensures.steps.rest ∙ ap after_tree there in
    record {
      next = next;
      same = same;
      first = ap first_token (sym stands.ahead) ∙ first;
      holds = c.parts.ensures.below ∙ below ∙ ap children_of stands.ahead;
      stands = stands_taken _ _ _ rest _ next c.parts.result.0 first left stands;
      one = one_taken next c.parts.result.0 (ap first_token (sym stands.ahead) ∙ first) stands.one;
    }

pub returns-in_err-frame : goal.returns-in_err-frame
returns-in_err-frame c =
    let is : c.from_residual.result ≡ None = search rules in
    let there : trees_left c.iter-siblings.result ≡ trees_of c.loop-element.self.rest = c.iter-siblings.ensures in
    let element : IsFirstElement (trees_left c.iter-siblings.result) None = c.in_default.ensures.steps.first in
    let ended : trees_of c.loop-element.self.rest ≡ end = none_left _ (subst (λ f. IsFirstElement f None) there element) in
    let none : c.loop-element.self.frames.items ≡ [] = search rules in
    let none_now : c.pop.new.self.items ≡ [] = search rules in
    rw is
    (λ work st.
    let (next, stands, same) = c.loop-element.invariant work st in
    all_read _ _ _ _ _ work next none none_now ended stands same)

pub loop-element-smaller : goal.loop-element-smaller
loop-element-smaller c =
    let popped : c.loop-element.self.frames.items ≡ c.pop.new.self.items ++ c.in_ok-frame.frame ∷ [] = search rules in
    let kept : c.close.new.self.frames.items ≡ c.pop.new.self.items = c.close.ensures.frames in
    omega (arith, ap length popped, ap length kept, length-append c.pop.new.self.items (c.in_ok-frame.frame ∷ []))

pub loop-element-preserved : goal.loop-element-preserved
loop-element-preserved c = λ work st.
    let (next, stands, same) = c.loop-element.invariant work st in
    let popped : c.loop-element.self.frames.items ≡ c.pop.new.self.items ++ c.in_ok-frame.frame ∷ [] = search rules in
    let there : trees_left c.iter-siblings.result ≡ trees_of c.loop-element.self.rest = c.iter-siblings.ensures in
    let element : IsFirstElement (trees_left c.iter-siblings.result) None = c.in_default.ensures.steps.first in
    let ended : trees_of c.loop-element.self.rest ≡ end = none_left _ (subst (λ f. IsFirstElement f None) there element) in
    let is = subst (λ f. Stands c.loop-element.self.fits c.loop-element.self.list.items (c.pop.new.self.items ++ c.in_ok-frame.frame ∷ []) f next) ended
    (subst (λ f. Stands c.loop-element.self.fits c.loop-element.self.list.items f (trees_of c.loop-element.self.rest) next) popped stands) in
    let (then, closed, alike) = c.close.ensures.goes next is in
    (then, closed, same_then work next then same alike)
