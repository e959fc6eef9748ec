use Rattle.std.proofs.Common.{◌≡◌, ap₂, sym, subst, ◌∙◌, slice_get, rules}
use Rattle.std.specs.List.{IsDistinct}
use Rattle.std.specs.Map.{keys_of, lookup}
use Rattle.indexmap.specs.IndexMap.{insert_entry, set_value_at}
use Rattle.tt_tables.specs.TableOrder.{index_in}
use Rattle.tt_tables.proofs.Positions.{same_index}
use Rattle.tt_tables.proofs.Entering.{entered_again, entered_new, stands_entered}
use Rattle.tt_tables.proofs.Places.{keys_kept, entered_is}
use Rattle.tt_tables.proofs.interner.insert.Goals as goal

pub returns-in-Some-clause-ok : goal.returns-in-Some-clause-ok
returns-in-Some-clause-ok g c =
    let same = g.T.PartialEq.eq in
    let before = c.args.entries.now.entries in
    let value = c.args.value.now in
    let key : c.in_ok-clone.field-0 ≡ value = c.requires.copies _ _ (search rules) in
    let stays = c.reserve_more.ensures in
    let inserted : c.insert_full.new.self.entries ≡ insert_entry same before value 0 = c.in_ok-index.ensures.entries ∙ ap₂ (λ es k. insert_entry same es k 0) stays key in
    let found_at : c.in_ok-index.index ≡ index_in (same value) (keys_of before) =
    c.in_ok-index.ensures.index ∙ same_index (same c.in_ok-clone.field-0) (keys_of c.reserve_more.new.entries.entries) ∙ ap₂ (λ k es. index_in (same k) (keys_of es)) key stays in
    let found : c.in_ok-index.uses ≡ lookup (same value) before = c.in_ok-index.ensures.old ∙ ap₂ (λ k es. lookup (same k) es) key stays in
    ap₂ (λ entries i. set_value_at entries i c.in-Some.uses) inserted found_at ∙ entered_again same 0 (λ n. n) before value c.in-Some.uses (sym found ∙ c.in-Some.is) ∙ entered_is same before value

pub returns-in-Some-clause-index : goal.returns-in-Some-clause-index
returns-in-Some-clause-index g c =
    let same = g.T.PartialEq.eq in
    let before = c.args.entries.now.entries in
    let value = c.args.value.now in
    let key : c.in_ok-clone.field-0 ≡ value = c.requires.copies _ _ (search rules) in
    let stays = c.reserve_more.ensures in
    let found_at : c.in_ok-index.index ≡ index_in (same value) (keys_of before) =
    c.in_ok-index.ensures.index ∙ same_index (same c.in_ok-clone.field-0) (keys_of c.reserve_more.new.entries.entries) ∙ ap₂ (λ k es. index_in (same k) (keys_of es)) key stays in
    ap₂ (λ entries i. slice_get (keys_of entries) i) (returns-in-Some-clause-ok g c ∙ sym (entered_is same before value)) found_at ∙ stands_entered same 0 (λ n. n) c.requires.same before value

pub returns-in-Some-clause-distinct : goal.returns-in-Some-clause-distinct
returns-in-Some-clause-distinct g c = subst (IsDistinct g.T.PartialEq.eq) (sym (keys_kept c.insert_full.new.self.entries c.in_ok-index.index c.in-Some.uses)) c.in_ok-index.ensures.unique

pub returns-in_default-clause-ok : goal.returns-in_default-clause-ok
returns-in_default-clause-ok g c =
    let same = g.T.PartialEq.eq in
    let before = c.args.entries.now.entries in
    let value = c.args.value.now in
    let key : c.in_ok-clone.field-0 ≡ value = c.requires.copies _ _ (search rules) in
    let stays = c.reserve_more.ensures in
    let inserted : c.insert_full.new.self.entries ≡ insert_entry same before value 0 = c.in_ok-index.ensures.entries ∙ ap₂ (λ es k. insert_entry same es k 0) stays key in
    let found : c.in_ok-index.uses ≡ lookup (same value) before = c.in_ok-index.ensures.old ∙ ap₂ (λ k es. lookup (same k) es) key stays in
    inserted ∙ entered_new same 0 (λ n. n) before value (sym found ∙ c.in_default.is) ∙ entered_is same before value

pub returns-in_default-clause-index : goal.returns-in_default-clause-index
returns-in_default-clause-index g c =
    let same = g.T.PartialEq.eq in
    let before = c.args.entries.now.entries in
    let value = c.args.value.now in
    let key : c.in_ok-clone.field-0 ≡ value = c.requires.copies _ _ (search rules) in
    let stays = c.reserve_more.ensures in
    let found_at : c.in_ok-index.index ≡ index_in (same value) (keys_of before) =
    c.in_ok-index.ensures.index ∙ same_index (same c.in_ok-clone.field-0) (keys_of c.reserve_more.new.entries.entries) ∙ ap₂ (λ k es. index_in (same k) (keys_of es)) key stays in
    ap₂ (λ entries i. slice_get (keys_of entries) i) (returns-in_default-clause-ok g c ∙ sym (entered_is same before value)) found_at ∙ stands_entered same 0 (λ n. n) c.requires.same before value
