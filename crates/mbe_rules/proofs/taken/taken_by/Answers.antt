use Rattle.std.proofs.Common.{rules, ◌≡◌, ◌+◌, ◌<◌, ◌++◌, ◌∷◌, [], map, take, length, get_or, ap, sym, subst, ◌∙◌}
use Rattle.std.proofs.lemmas.List.{map-append, take_more}
use Rattle.mbe_matcher.specs.Grouping.{named_by, binding_by}
use Rattle.mbe_matcher.specs.Marks.{note_of}
use Rattle.mbe_matcher.specs.Binders.{where_of}
use Rattle.mbe_rules.specs.Rounds.{IsTakenBy, AreTaken}
use Rattle.mbe_rules.proofs.Seeing.{taken_more}
use Rattle.mbe_rules.proofs.taken.taken_by.Goals as goal

pub loop-binder-preserved : goal.loop-binder-preserved
loop-binder-preserved c =
    let notes = map note_of c.args.binding.now.marks.items in
    let binders = c.args.binders.now in
    let index = c.loop-binder.binder-index in
    let binder = c.binder-item.result in
    let lt : index < length binders = search rules in
    let there : binder ≡ get_or binders index binder = search rules in
    let before = take index binders in
    let more : take (index + 1) binders ≡ before ++ binder ∷ [] = take_more binders index binder lt ∙ ap (λ it. before ++ it ∷ []) (sym there) in
    let is : IsTakenBy (named_by notes (where_of binder)) c.in_ok-of.field-0 = search rules in
    let pushed : c.push.new.self.items ≡ c.loop-binder.taken.items ++ c.in_ok-of.field-0 ∷ [] = search rules in
    let split : binding_by (map where_of (take (index + 1) binders)) notes ≡ binding_by (map where_of before) notes ++ named_by notes (where_of binder) ∷ [] =
    ap (λ l. binding_by (map where_of l) notes) more ∙ ap (map (named_by notes)) (map-append where_of before (binder ∷ [])) ∙ map-append (named_by notes) (map where_of before) (where_of binder ∷ []) in
    subst (λ l. AreTaken l c.push.new.self.items) (sym split)
    (subst (AreTaken (binding_by (map where_of before) notes ++ named_by notes (where_of binder) ∷ [])) (sym pushed)
    (taken_more (binding_by (map where_of before) notes) c.loop-binder.taken.items (named_by notes (where_of binder)) c.in_ok-of.field-0 c.loop-binder.invariant is))
