use Rattle.std.proofs.Common.{◌≡◌, ◌++◌, ◌∷◌, ◌+◌, [], Some, length, length-append, slice_get, ap, ap₂, ◌∙◌, arith, rules}
use Rattle.std.proofs.lemmas.Option.{slice_get_within}
use Rattle.tt_pack.proofs.Noting.{noted_there}
use Rattle.tt_pack.proofs.RowOrder.{slice_get-snoc}
use Rattle.tt_pack.proofs.few.put_last.Goals as goal

pub returns-in-Some-clause-values : goal.returns-in-Some-clause-values
returns-in-Some-clause-values g c =
    noted_there g.T.PartialEq.eq g.met.T.Eq.laws c.args.values.now.items c.in-Some.index c.args.value.now (rw c.in-Some.is at c.requires.at)

pub returns-in-Some-clause-index : goal.returns-in-Some-clause-index
returns-in-Some-clause-index g c few =
    let at : slice_get c.args.values.now.items c.in-Some.index ≡ Some c.args.value.now = rw c.in-Some.is at c.requires.at in
    let kept : c.kept_index.result ≡ c.in-Some.index = c.kept_index.ensures (omega (arith, few, slice_get_within c.args.values.now.items c.in-Some.index c.args.value.now at)) in
    ap (slice_get c.args.values.now.items) kept ∙ at

pub returns-clause-index : goal.returns-clause-index
returns-clause-index g c few =
    let values = c.args.values.now.items in
    let value = c.args.value.now in
    let copy : c.in_ok-clone.field-0 ≡ value = c.requires.copies _ _ (search rules) in
    let more : c.push.new.self.items ≡ values ++ value ∷ [] = c.in_ok-push.ensures.items ∙ ap (λ x. values ++ x ∷ []) copy in
    let long : length c.push.new.self.items ≡ length values + 1 = ap length more ∙ length-append values (value ∷ []) in
    let kept : c.kept_index-2.result ≡ length values = c.kept_index-2.ensures (omega (arith, few, long, c.len-index.ensures)) ∙ omega (arith, c.len-index.ensures) in
    ap₂ slice_get more kept ∙ slice_get-snoc values value
