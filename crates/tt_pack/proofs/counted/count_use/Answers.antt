use Rattle.std.proofs.Common.{◌≡◌, ◌+◌, Some, slice_get, ap, ap₂, sym, ◌∙◌, arith, rules}
use Rattle.std.proofs.lemmas.Option.{slice_get_within}
use Rattle.std.specs.Map.{lookup, keys_of}
use Rattle.indexmap.specs.IndexMap.{get, insert_entry, set_value_at}
use Rattle.tt_tables.specs.TableOrder.{index_in}
use Rattle.tt_pack.proofs.Counting.{room_there}
use Rattle.tt_tables.proofs.Entering.{entered_again, entered_new, stands_entered}
use Rattle.tt_tables.proofs.Positions.{same_index}
use Rattle.tt_pack.proofs.counted.count_use.Goals as goal
use Rattle.tt_pack.proofs.counted.count_use.Goals.{in-Some, in_default}

pub overflow_add-uses : goal.overflow_add-uses
overflow_add-uses g c =
    let same = g.T.PartialEq.eq in
    let key : c.in_ok-clone.field-0 ≡ c.args.value.now = c.requires.copies _ _ (search rules) in
    let there : lookup (same c.args.value.now) c.args.counts.now.entries ≡ Some c.in-Some.uses =
    ap (λ k. get same c.args.counts.now k) (sym key) ∙ sym c.in_ok-index.ensures.old ∙ c.in-Some.is in
    omega (arith, room_there same c.args.counts.now.entries c.args.value.now c.in-Some.uses c.requires.room there)

pub returns-clause-counts : goal.returns-clause-counts
returns-clause-counts g c =
    let same = g.T.PartialEq.eq in
    let before = c.args.counts.now.entries in
    let value = c.args.value.now in
    let key : c.in_ok-clone.field-0 ≡ value = c.requires.copies _ _ (search rules) in
    let inserted : c.insert_full.new.self.entries ≡ insert_entry same before value 1 = c.in_ok-index.ensures.entries ∙ ap (λ k. insert_entry same before k 1) key in
    let found_at : c.in_ok-index.index ≡ index_in (same value) (keys_of before) =
    c.in_ok-index.ensures.index ∙ same_index (same c.in_ok-clone.field-0) (keys_of before) ∙ ap (λ k. index_in (same k) (keys_of before)) key in
    let found : c.in_ok-index.before ≡ lookup (same value) before = c.in_ok-index.ensures.old ∙ ap (λ k. get same c.args.counts.now k) key in
    elim c.match-before.branch [
      | in-Some w ↦
          ap (λ m. m.entries) w.counts-is
          ∙ ap₂ (λ entries i. set_value_at entries i (w.in-Some.uses + 1)) inserted found_at
          ∙ entered_again same 1 (λ n. n + 1) before value w.in-Some.uses (sym found ∙ w.in-Some.is)
      | in_default w ↦ ap (λ m. m.entries) w.counts-is ∙ inserted ∙ entered_new same 1 (λ n. n + 1) before value (sym found ∙ w.in_default.is)
    ]

pub returns-clause-index : goal.returns-clause-index
returns-clause-index g c few =
    let same = g.T.PartialEq.eq in
    let before = c.args.counts.now.entries in
    let value = c.args.value.now in
    let key : c.in_ok-clone.field-0 ≡ value = c.requires.copies _ _ (search rules) in
    let found_at : c.in_ok-index.index ≡ index_in (same value) (keys_of before) =
    c.in_ok-index.ensures.index ∙ same_index (same c.in_ok-clone.field-0) (keys_of before) ∙ ap (λ k. index_in (same k) (keys_of before)) key in
    let stands : slice_get (keys_of c.match-before.counts.entries) c.in_ok-index.index ≡ Some value =
    ap₂ (λ entries i. slice_get (keys_of entries) i) (returns-clause-counts g c) found_at ∙ stands_entered same 1 (λ n. n + 1) c.requires.same before value in
    let kept : c.kept_index.result ≡ c.in_ok-index.index =
    c.kept_index.ensures (omega (arith, few, slice_get_within (keys_of c.match-before.counts.entries) c.in_ok-index.index value stands)) in
    ap (slice_get (keys_of c.match-before.counts.entries)) kept ∙ stands
