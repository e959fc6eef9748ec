use Rattle.std.proofs.Common.{rules, ◌≡◌, ◌∙◌, None, inl, inr, refl, ap, ap₂, sym, subst}
use Rattle.tt.specs.Building.{BuilderState, append, depth, extended}
use Rattle.tt.specs.Forest.{Forest}
use Rattle.tt.specs.Gluing.{after_trees}
use Rattle.tt.specs.Span.{start_of}
use Rattle.tt.specs.Views.{trees_of}
use Rattle.tt_base.proofs.Appending.{append-join}
use Rattle.mbe_pattern.proofs.Passing.{front_joined}
use Rattle.mbe_pattern.specs.Units.{front_trees}
use Rattle.expand_items.proofs.Rebuilding.{depth_append}
use Rattle.expand_text.specs.Contexts.{IsContext, outside_call, with_finding}
use Rattle.expand_text.specs.Expanding.{IsAdded}
use Rattle.expand_text.specs.Invocations.{found_by, site_of}
use Rattle.expand_text.specs.Waiting.{whole_of}
use Rattle.expand_text.proofs.expanding.leave.Goals as goal
use Rattle.expand_text.proofs.expanding.leave.Goals.{in-Some+in_ok-find+in_ok-extend_with_tt, in_default}

pub returns-clause-ended : goal.returns-clause-ended
returns-clause-ended c =
    record {
      ended = λ context inside stack begun_state trees outside known begins top added.
          let it = c.args.waiting.call in
          let whole : Forest = whole_of c.args.waiting in
          let site = site_of whole it in
          let before : BuilderState = extended site.attributes stack in
          let attributes : trees_of c.attributes_in-attributes.result ≡ front_trees it.attributes whole = c.attributes_in-attributes.ensures ∙ ap (front_trees it.attributes) c.front.ensures in
          let behind = outside_call context inside in
          let left : IsContext behind c.leave_call.new.self = c.leave_call.ensures.known context inside outside known in
          let is : IsAdded site trees c.in_ok-misplaced.misplaced before.stack c.end.new.builder.stack =
          c.in_ok-misplaced.ensures.added whole trees before begun_state attributes begins top added in
          elim c.match-misplaced.branch [
            | in-Some+in_ok-find+in_ok-extend_with_tt w ↦
                let fault = w.in-Some.fault in
                let (misplaced, same) = subst (λ m. IsAdded site trees m before.stack c.end.new.builder.stack) w.in-Some.is is in
                let stays : trees_of w.call_in.result ≡ after_trees it.attributes whole = w.call_in.ensures ∙ ap (after_trees it.attributes) w.front-in-Some.ensures in
                let all : w.extend_with_tt.new.self.stack ≡ append whole stack.stack =
                ap (λ s. s.stack) w.in_ok-extend_with_tt.ensures.ok ∙ ap₂ (λ f s. append f s) stays same
                ∙ sym (append-join (front_trees it.attributes whole) (after_trees it.attributes whole) stack.stack) ∙ ap (λ f. append f stack.stack) (sym (front_joined it.attributes whole)) in (
                  with_finding (found_by it (start_of it.first_span.range) fault) behind,
                  subst (IsContext (with_finding (found_by it (start_of it.first_span.range) fault) behind)) (sym w.context-is)
                      (subst (λ n. IsContext (with_finding (found_by it n fault) behind) w.find.new.self) w.start_of-at.ensures (w.in_ok-find.ensures.found behind left)),
                  inr (fault, misplaced, refl, ap (λ b. b.stack) w.builder-is ∙ all),
                )
            | in_default w ↦
                let none : c.in_ok-misplaced.misplaced ≡ None = search rules in
                let (put, so, same) = subst (λ m. IsAdded site trees m before.stack c.end.new.builder.stack) none is in (
                  behind,
                  subst (IsContext behind) (sym w.context-is) left,
                  inl (put, so, refl, ap (λ b. b.stack) w.builder-is ∙ same),
                )
          ];
    }

pub returns-clause-depth : goal.returns-clause-depth
returns-clause-depth c =
    elim c.match-misplaced.branch [
      | in-Some+in_ok-find+in_ok-extend_with_tt w ↦
          ap (λ b. depth b.stack) (w.builder-is ∙ w.in_ok-extend_with_tt.ensures.ok) ∙ depth_append (trees_of w.call_in.result) c.end.new.builder.stack ∙ c.in_ok-misplaced.ensures.depth
      | in_default w ↦ ap (λ b. depth b.stack) w.builder-is ∙ c.in_ok-misplaced.ensures.depth
    ]
