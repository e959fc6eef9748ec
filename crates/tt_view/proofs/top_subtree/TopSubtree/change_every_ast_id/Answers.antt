use Rattle.std.proofs.Common.{◌≡◌, Result, Ok, Err, OnOk, IfErr, inr, ap, ◌∙◌, rules}
use Rattle.tt_tables.specs.Stored.{root_parts, packed, IsWithinLimits}
use Rattle.tt_tables.proofs.IdsStored.{packed-ids_changed}
use Rattle.tt_view.proofs.NewIds.{answers_ids}
use Rattle.tt_view.proofs.NewParts.{ids_fault}
use Rattle.tt_view.proofs.top_subtree.TopSubtree.change_every_ast_id.Goals as goal

if_ok : {T E : Type 0} (r : Result T E) (P Q : Type 0) → (P → Q) → OnOk r P → OnOk r Q
if_ok (Ok x) P Q f h = f h
if_ok (Err e) P Q f h = tt

if_err : {T E : Type 0} (r : Result T E) (P Q : E → Type 0) → ((e : E) → P e → Q e) → IfErr r P → IfErr r Q
if_err (Ok x) P Q f h = tt
if_err (Err e) P Q f h = f e h

on_ok : {T E : Type 0} (r : Result T E) (Q : Type 0) → Q → OnOk r Q
on_ok (Ok x) Q h = h
on_ok (Err e) Q h = tt

pub take_ids-requires : goal.take_ids-requires
unfolding packed
take_ids-requires g c =
    let parts : c.parts.result.now ≡ root_parts c.args.self.now = c.parts.ensures.value ∙ ap root_parts c.self.view_is in
    (answers_ids (λ p x y q. goal.F-step g p x y q) c.args.callback c.args.self.now _ _ _ parts c.deref.ensures.value c.in_ok-ids.ensures).1

pub returns-clause-ok : goal.returns-clause-ok
unfolding packed
returns-clause-ok g c =
    let parts : c.parts.result.now ≡ root_parts c.args.self.now = c.parts.ensures.value ∙ ap root_parts c.self.view_is in
    let told = (answers_ids (λ p x y q. goal.F-step g p x y q) c.args.callback c.args.self.now _ _ _ parts c.deref.ensures.value c.in_ok-ids.ensures).0 in
    if_ok c.take_ids.result _ _ (λ is. (c.deref.result.now, told, is)) c.take_ids.ensures.ok

pub returns-clause-stored : goal.returns-clause-stored
returns-clause-stored g c = on_ok c.take_ids.result _ (λ ids is apart. ap packed is ∙ packed-ids_changed ids c.args.self.now apart)

pub returns-clause-fault : goal.returns-clause-fault
unfolding packed
returns-clause-fault g c =
    let parts : c.parts.result.now ≡ root_parts c.args.self.now = c.parts.ensures.value ∙ ap root_parts c.self.view_is in
    let told = (answers_ids (λ p x y q. goal.F-step g p x y q) c.args.callback c.args.self.now _ _ _ parts c.deref.ensures.value c.in_ok-ids.ensures).0 in
    if_err c.take_ids.result _ _ (λ fault why. inr (c.deref.result.now, told, why)) c.take_ids.ensures.fault

pub returns-clause-limit : goal.returns-clause-limit
returns-clause-limit g c =
    let limits : IsWithinLimits c.args.self.now = search rules in
    if_err c.take_ids.result _ _ (λ fault why. ids_fault c.deref.result.now c.args.self.now fault limits why) c.take_ids.ensures.fault
