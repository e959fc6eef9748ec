use Rattle.std.proofs.Common.{rules, vec_len, ◌≡◌, ◌+◌, ◌-◌, ◌++◌, length, take, drop, set, true, ap, ap₂, subst, ◌∙◌, arith}
use Rattle.std.proofs.Math.Seq.{take-append_seam}
use Rattle.tt_codec.specs.Header.{format_4}
use Rattle.tt_tables.specs.Meaning.{IsStored}
use Rattle.tt_tables.proofs.StoredAlike.{length-root_parts, meaning_is}
use Rattle.tt_tables.proofs.TopSet.{len_is, bytes_count, parts_count, top_set}
use Rattle.tt_pack.specs.Packed.{stored_of, with_top}
use Rattle.tt_pack.proofs.packed.Packed.set_top.Goals as goal

pub overflow_sub-part : goal.overflow_sub-part
overflow_sub-part c =
    let a = c.self.inside in
    let long : vec_len a.parts ≡ length a.parts.items = search rules in
    omega (arith, parts_count _ a.meaning.0 a.meaning.1, long, c.len-part.ensures)

pub overflow_sub-top : goal.overflow_sub-top
overflow_sub-top c = let a = c.self.inside in omega (arith, len_is _ a.meaning.0 a.meaning.1)

pub overflow_cast-top : goal.overflow_cast-top
overflow_cast-top c = let a = c.self.inside in omega (arith, len_is _ a.meaning.0 a.meaning.1, a.meaning.1.1.tokens)

pub overflow_sub-child_bytes : goal.overflow_sub-child_bytes
overflow_sub-child_bytes c =
    let a = c.self.inside in
    let long : vec_len a.bytes ≡ length a.bytes.items = search rules in
    omega (arith, bytes_count _ a.meaning.0 a.meaning.1, long, c.len.ensures)

pub overflow_cast-child_bytes : goal.overflow_cast-child_bytes
overflow_cast-child_bytes c =
    let a = c.self.inside in
    let long : vec_len a.bytes ≡ length a.bytes.items = search rules in
    omega (arith, bytes_count _ a.meaning.0 a.meaning.1, long, c.len.ensures, a.meaning.1.1.bytes)

pub overflow_cast-part : goal.overflow_cast-part
overflow_cast-part c =
    let a = c.self.inside in
    let long : vec_len a.parts ≡ length a.parts.items = search rules in
    omega (arith, parts_count _ a.meaning.0 a.meaning.1, long, c.len-part.ensures, a.meaning.1.1.parts, length-root_parts a.meaning.0)

pub of_top-entry-requires : goal.of_top-entry-requires
of_top-entry-requires c =
    let a = c.self.inside in
    let long : vec_len a.parts ≡ length a.parts.items = search rules in
    omega (arith, parts_count _ a.meaning.0 a.meaning.1, long, c.len-part.ensures, a.meaning.1.1.parts, length-root_parts a.meaning.0)

pub overwrite-requires-clause-room : goal.overwrite-requires-clause-room
overwrite-requires-clause-room c =
    let a = c.self.inside in
    let there : c.as_mut_slice.result.now ≡ a.bytes.items = search rules in
    omega (arith, bytes_count _ a.meaning.0 a.meaning.1, ap length there)

pub index_mut-requires : goal.index_mut-requires
index_mut-requires c =
    let a = c.self.inside in
    let long : vec_len a.parts ≡ length a.parts.items = search rules in
    omega (arith, parts_count _ a.meaning.0 a.meaning.1, long, c.len-part.ensures)

pub index_mut-requires-2 : goal.index_mut-requires-2
index_mut-requires-2 c =
    let a = c.self.inside in
    let long : vec_len a.parts ≡ length a.parts.items = search rules in
    omega (arith, parts_count _ a.meaning.0 a.meaning.1, long, c.len-part.ensures)

pub invariant_of-self-inside : goal.invariant_of-self-inside
invariant_of-self-inside c =
    let a = c.self.inside in
    let it = c.args.delimiter in
    let all_parts : c.len-part.result ≡ length a.parts.items = c.len-part.ensures ∙ search rules in
    let all_bytes : c.len.result ≡ length a.bytes.items = c.len.ensures ∙ search rules in
    let there : c.as_mut_slice.result.now ≡ a.bytes.items = search rules in
    let long : a.bytes.len ≡ length c.overwrite.new.bytes = omega (arith, c.overwrite.auto.bytes, ap length there, c.len.ensures, all_bytes) in
    let bytes = ap (λ n. take n (c.overwrite.new.bytes ++ drop (length c.overwrite.new.bytes) a.bytes.items)) long
    ∙ take-append_seam c.overwrite.new.bytes (drop (length c.overwrite.new.bytes) a.bytes.items)
    ∙ c.overwrite.ensures
    ∙ ap (λ l. format_4 true c.of_top-entry.result ++ drop 33 l) there in
    let parts = ap₂ (λ x y. set (set a.parts.items (c.len-part.result - 2) x) (c.len-part.result - 2 + 1) y) c.from_span.ensures c.from_span-2.ensures in (
      (
        record { delimiter = it; children = a.meaning.0.children },
        top_set _ a.meaning.0 a.meaning.1 it _ _ _ _ _ all_parts all_bytes c.of_top-entry.ensures.value c.of_top-entry.ensures.range bytes parts,
      ),
      tt,
    )

pub returns : goal.returns
returns c =
    let a = c.self.inside in
    let it = c.args.delimiter in
    let all_parts : c.len-part.result ≡ length a.parts.items = c.len-part.ensures ∙ search rules in
    let all_bytes : c.len.result ≡ length a.bytes.items = c.len.ensures ∙ search rules in
    let there : c.as_mut_slice.result.now ≡ a.bytes.items = search rules in
    let long : a.bytes.len ≡ length c.overwrite.new.bytes = omega (arith, c.overwrite.auto.bytes, ap length there, c.len.ensures, all_bytes) in
    let bytes = ap (λ n. take n (c.overwrite.new.bytes ++ drop (length c.overwrite.new.bytes) a.bytes.items)) long
    ∙ take-append_seam c.overwrite.new.bytes (drop (length c.overwrite.new.bytes) a.bytes.items)
    ∙ c.overwrite.ensures
    ∙ ap (λ l. format_4 true c.of_top-entry.result ++ drop 33 l) there in
    let parts = ap₂ (λ x y. set (set a.parts.items (c.len-part.result - 2) x) (c.len-part.result - 2 + 1) y) c.from_span.ensures c.from_span-2.ensures in
    let bytes_now = take a.bytes.len (c.overwrite.new.bytes ++ drop (length c.overwrite.new.bytes) a.bytes.items) in
    let parts_now = set (set a.parts.items (c.len-part.result - 2) c.from_span.result) (c.len-part.result - 2 + 1) c.from_span-2.result in
    let is : IsStored (stored_of bytes_now parts_now a.symbols.items a.len) (with_top it c.args.self.now) =
    subst (λ root. IsStored (stored_of bytes_now parts_now a.symbols.items a.len) (with_top it root)) c.self.view_is
    (top_set _ a.meaning.0 a.meaning.1 it _ _ _ _ _ all_parts all_bytes c.of_top-entry.ensures.value c.of_top-entry.ensures.range bytes parts) in
    search (rules, meaning_is, is)
