-- A rewriting goes one token further, and its end.
use Rattle.std.proofs.Common.{◌≡◌, ◌+◌, ◌<◌, sum_by, List, [], ◌∷◌, map, refl, ap, ap₂, sym, ◌∙◌, subst, arith}
use Rattle.tt_base.specs.declared.token_tree.TokenTree.{TokenTree}
use Rattle.tt_base.specs.Asked.{AsksAll}
use Rattle.tt_base.specs.Forest.{Forest, end, size}
use Rattle.tt_base.specs.Unflat.{join-end}
use Rattle.tt.specs.declared.transform.Rewriting.{Rewriting}
use Rattle.tt.specs.declared.transform.TransformTtAction.{TransformTtAction}
use Rattle.tt.specs.Rewrites.{action_of, Rewrites}
use Rattle.tt.specs.Work.{Work, lowest, taken, done, finish, to_show, to_come, StandsFor, unread, ComesToSame, IsNextOf}
use Rattle.tt.proofs.Working.{acted_result, acted_tokens, less_to_come}

-- the callback was called for all tokens before some work; its later calls and answers complete the rewriting
pub record IsOnTheWay {F : Type 0} (call : F → TokenTree → TransformTtAction → F → Type 0) (first : F) (trees : Forest) (now : F) (fields : Rewriting) : Type 0 where
  pub work : Work
  pub stands : StandsFor fields work
  pub later : (answers : List TransformTtAction) (last : F) → AsksAll call now (to_show work (map action_of answers)) answers last
      → Rewrites call first trees (finish work (map action_of answers))

unread_is : (fields : Rewriting) (work : Work) → StandsFor fields work → unread fields ≡ to_come work
unread_is fields work is = ap₂ (λ f l. size f + sum_by size l) is.ahead is.rests

module _ {F : Type 0} (call : F → TokenTree → TransformTtAction → F → Type 0) (first : F) (trees : Forest) where
  module _ (now : F) (fields : Rewriting) (way : IsOnTheWay call first trees now fields) where
    -- The rewriting goes one token further.
    pub goes_further : (then : F) (it : TokenTree) (below : Forest) (answer : TransformTtAction) (took new : Rewriting) (n : IsNextOf way.work took it below)
        → call now it answer then → StandsFor new (done (action_of answer) it below (taken n.next)) → IsOnTheWay call first trees then new
    goes_further then it below answer took new n called is =
        let action = action_of answer in
        record {
          work = done action it below (taken n.next);
          stands = is;
          later = λ answers last asked.
              let tokens : to_show way.work (action ∷ map action_of answers) ≡ it ∷ to_show (done action it below (taken n.next)) (map action_of answers) =
              n.same.tokens (action ∷ map action_of answers) ∙ acted_tokens action n.next it (map action_of answers) n.first
              ∙ ap (λ f. it ∷ to_show (done action it f (taken n.next)) (map action_of answers)) (sym n.holds) in
              let result : finish way.work (action ∷ map action_of answers) ≡ finish (done action it below (taken n.next)) (map action_of answers) =
              n.same.result (action ∷ map action_of answers) ∙ acted_result action n.next it (map action_of answers) n.first
              ∙ ap (λ f. finish (done action it f (taken n.next)) (map action_of answers)) (sym n.holds) in
              let all : AsksAll call now (to_show way.work (action ∷ map action_of answers)) (answer ∷ answers) last =
              subst (λ l. AsksAll call now l (answer ∷ answers) last) (sym tokens) (then, called, asked) in
              subst (Rewrites call first trees) result (way.later (answer ∷ answers) last all);
        }

    -- Fewer tokens are left to read.
    pub less_left : (it : TokenTree) (below : Forest) (answer : TransformTtAction) (took new : Rewriting) (n : IsNextOf way.work took it below)
        → StandsFor new (done (action_of answer) it below (taken n.next)) → unread new < unread fields
    less_left it below answer took new n is =
        let less : to_come (done (action_of answer) it below (taken n.next)) < to_come n.next =
        subst (λ f. to_come (done (action_of answer) it f (taken n.next)) < to_come n.next) (sym n.holds) (less_to_come (action_of answer) n.next it n.first) in
        omega (arith, less, unread_is fields way.work way.stands, unread_is new (done (action_of answer) it below (taken n.next)) is, n.same.left)

    -- At the end the written trees are the rewritten trees.
    pub arrives : (came : Forest) → ComesToSame way.work (lowest came end) → Rewrites call first trees came
    arrives came same =
        subst (Rewrites call first trees) (same.result [] ∙ join-end came)
        (way.later [] now (subst (λ l. AsksAll call now l [] now) (sym (same.tokens [])) refl))
