use Rattle.std.proofs.Common.{◌≡◌, ◌++◌, take, drop, length, ap, sym, subst, ◌∙◌, arith, rules}
use Rattle.std.proofs.Math.Seq.{take-append_seam}
use Rattle.tt_tables.specs.AstIds.{ids_changed, parts_with_ids, KeepApart}
use Rattle.tt_tables.specs.Meaning.{IsStored}
use Rattle.tt_tables.specs.Stored.{root_parts}
use Rattle.tt_tables.proofs.IdsStored.{packed-ids_changed, ids_stored}
use Rattle.tt_tables.proofs.StoredAlike.{length-root_parts, meaning_is}
use Rattle.tt_tables.proofs.TopSet.{parts_count}
use Rattle.tt_pack.specs.Packed.{stored_of}
use Rattle.tt_pack.proofs.packed.Packed.set_ids.Goals as goal

pub put_ids-requires : goal.put_ids-requires
put_ids-requires c =
    let a = c.self.inside in
    let there : c.as_mut_slice.result.now ≡ a.parts.items = search rules in
    omega (arith, ap length there, parts_count _ a.meaning.0 a.meaning.1, length-root_parts a.meaning.0, ap (λ root. length (root_parts root)) c.self.view_is, c.requires.count)

pub invariant_of-self-inside : goal.invariant_of-self-inside
invariant_of-self-inside c =
    let a = c.self.inside in
    let ids = c.args.ids.now in
    let apart : KeepApart ids a.meaning.0 = subst (KeepApart ids) (sym c.self.view_is) c.requires.apart in
    let there : c.as_mut_slice.result.now ≡ a.parts.items = search rules in
    let put : c.put_ids.new.parts ≡ parts_with_ids ids a.parts.items = c.put_ids.ensures ∙ ap (parts_with_ids ids) there in
    let long : a.parts.len ≡ length c.put_ids.new.parts = omega (arith, c.put_ids.auto.parts, ap length there, c.as_mut_slice.ensures.len) in
    let parts = ap (λ n. take n (c.put_ids.new.parts ++ drop (length c.put_ids.new.parts) a.parts.items)) long
    ∙ take-append_seam c.put_ids.new.parts (drop (length c.put_ids.new.parts) a.parts.items)
    ∙ put in
    ((ids_changed ids a.meaning.0, ids_stored _ a.meaning.0 ids _ a.meaning.1 apart parts), tt)

pub returns : goal.returns
returns c =
    let a = c.self.inside in
    let ids = c.args.ids.now in
    let old = c.args.self.now in
    let there : c.as_mut_slice.result.now ≡ a.parts.items = search rules in
    let put : c.put_ids.new.parts ≡ parts_with_ids ids a.parts.items = c.put_ids.ensures ∙ ap (parts_with_ids ids) there in
    let long : a.parts.len ≡ length c.put_ids.new.parts = omega (arith, c.put_ids.auto.parts, ap length there, c.as_mut_slice.ensures.len) in
    let parts = ap (λ n. take n (c.put_ids.new.parts ++ drop (length c.put_ids.new.parts) a.parts.items)) long
    ∙ take-append_seam c.put_ids.new.parts (drop (length c.put_ids.new.parts) a.parts.items)
    ∙ put in
    let parts_now = take a.parts.len (c.put_ids.new.parts ++ drop (length c.put_ids.new.parts) a.parts.items) in
    let was : IsStored (stored_of a.bytes.items a.parts.items a.symbols.items a.len) old = subst (IsStored _) c.self.view_is a.meaning.1 in
    let is : IsStored (stored_of a.bytes.items parts_now a.symbols.items a.len) (ids_changed ids old) = ids_stored _ old ids _ was c.requires.apart parts in
    record {
      value = search (rules, meaning_is, is);
      stored = search (rules, meaning_is, is, packed-ids_changed);
      limits = search (rules, meaning_is, is);
    }
