use Rattle.std.proofs.Common.{◌≡◌, ◌+◌, ◌<◌, true, Some, length, slice_get, ap, sym, ◌∙◌, arith, rules}
use Rattle.std.proofs.lemmas.Option.{slice_get_read}
use Rattle.indexmap.specs.IndexMap.{keys}
use Rattle.indexmap.proofs.CallerLemmas.{keys-with_value_at}
use Rattle.tt_pack.proofs.Counting.{count_own, room_at}
use Rattle.tt_pack.proofs.counted.count_at.Goals as goal

pub overflow_add-index_mut : goal.overflow_add-index_mut
overflow_add-index_mut g c =
    omega (arith, room_at 1 c.args.counts.now.entries c.args.index c.index_mut.result.now c.requires.room c.index_mut.ensures.value)

pub returns-clause-counted : goal.returns-clause-counted
returns-clause-counted g c =
    let equal : g.T.PartialEq.eq c.index-known-index.result c.args.value.now ≡ true = search rules in
    let value : c.index-known-index.result ≡ c.args.value.now = c.requires.same _ _ equal in
    let within : c.args.index < length c.as_slice-known.result.now = omega (arith, c.if-index-known.false) in
    let read : slice_get c.as_slice-known.result.now c.args.index ≡ Some c.index-known-index.result =
    slice_get_read c.as_slice-known.result.now (length c.as_slice-known.result.now) c.args.index c.index-known-index.result (search rules) within c.index-known-index.is in
    let stands : slice_get (keys c.args.counts.now) c.args.index ≡ Some c.args.value.now =
    ap (λ ks. slice_get ks c.args.index) (sym (c.as_slice-known.ensures ∙ c.keys.ensures.rest)) ∙ read ∙ ap Some value in
    count_own g.T.PartialEq.eq g.met.T.Eq.laws c.args.counts.now.entries c.args.index c.args.value.now c.index_mut.result.now c.keys.ensures.unique stands c.index_mut.ensures.value

pub returns-clause-index : goal.returns-clause-index
returns-clause-index g c =
    let equal : g.T.PartialEq.eq c.index-known-index.result c.args.value.now ≡ true = search rules in
    let value : c.index-known-index.result ≡ c.args.value.now = c.requires.same _ _ equal in
    let within : c.args.index < length c.as_slice-known.result.now = omega (arith, c.if-index-known.false) in
    let read : slice_get c.as_slice-known.result.now c.args.index ≡ Some c.index-known-index.result =
    slice_get_read c.as_slice-known.result.now (length c.as_slice-known.result.now) c.args.index c.index-known-index.result (search rules) within c.index-known-index.is in
    ap (λ ks. slice_get ks c.args.index) (keys-with_value_at c.args.counts.now c.args.index (c.index_mut.result.now + 1) ∙ sym (c.as_slice-known.ensures ∙ c.keys.ensures.rest))
    ∙ read
    ∙ ap Some value
