use Rattle.std.proofs.Common.{◌≡◌, ◌-◌, ◌↔◌, vec_len, IsTrue, IfOk, length, take, ap, subst, ◌∙◌, arith, rules}
use Rattle.std.proofs.lemmas.List.{length-take}
use Rattle.std.specs.List.{IsDistinct}
use Rattle.tt_base.specs.Forest.{flat}
use Rattle.tt_tables.specs.AstIds.{parts_with_ids}
use Rattle.tt_tables.specs.Stored.{root_parts}
use Rattle.tt_tables.specs.Tables.{part_table}
use Rattle.tt_tables.specs.Uses.{same_part}
use Rattle.tt_tables.proofs.IdsStored.{stored_below}
use Rattle.tt_tables.proofs.StoredAlike.{length-root_parts}
use Rattle.tt_tables.proofs.TopSet.{parts_count}
use Rattle.tt_pack.proofs.packed.Packed.ids_keep_apart.Goals as goal

pub overflow_sub-below : goal.overflow_sub-below
overflow_sub-below c =
    let a = c.self.inside in
    let long : vec_len a.parts ≡ length a.parts.items = search rules in
    omega (arith, parts_count _ a.meaning.0 a.meaning.1, long, c.len-below.ensures)

pub are_apart-requires : goal.are_apart-requires
are_apart-requires c =
    let a = c.self.inside in
    omega (
      arith,
      length-take (c.len-below.result - 2) c.deref.result.now,
      ap length c.deref.ensures.value,
      parts_count _ a.meaning.0 a.meaning.1,
      length-root_parts a.meaning.0,
      ap (λ root. length (root_parts root)) c.self.view_is,
      c.requires,
    )

pub returns : goal.returns
returns c =
    let a = c.self.inside in
    let long : vec_len a.parts ≡ length a.parts.items = search rules in
    let below : take (c.len-below.result - 2) c.deref.result.now ≡ part_table (flat a.meaning.0.children) =
    ap (take (c.len-below.result - 2)) c.deref.ensures.value ∙ ap (λ n. take (n - 2) a.parts.items) (c.len-below.ensures ∙ long) ∙ stored_below _ a.meaning.0 a.meaning.1 in
    let all : take (c.len-below.result - 2) c.deref.result.now ≡ part_table (flat c.args.self.now.children) = below ∙ ap (λ root. part_table (flat root.children)) c.self.view_is in
    subst (λ parts. IfOk c.are_apart.result (λ apart. IsTrue apart ↔ IsDistinct same_part (parts_with_ids c.args.ids.now parts))) all c.are_apart.ensures
