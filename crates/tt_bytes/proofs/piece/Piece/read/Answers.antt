use Rattle.std.proofs.Common.{rules, ◌≡◌, ◌⊎◌, ◌≤◌, ◌<◌, inl, inr, length, take, drop, Some, None, Err, ◌∙◌, arith}
use Rattle.tt_bytes.specs.declared.fault.BytesFault.TheVariants.{Memory}
use Rattle.tt_bytes.specs.Front.{counts_at, held}
use Rattle.tt_bytes.proofs.Holding.{no_mark, marked_held, no_counts, counted, no_parts, parts_there, no_symbols, symbols_there, packed_short, packed_there}
use Rattle.tt_bytes.proofs.MadeOf.{made_of}
use Rattle.tt_bytes.proofs.piece.Piece.read.Goals as goal

pub returns-in_err-marked-clause-value : goal.returns-in_err-marked-clause-value
returns-in_err-marked-clause-value c =
    let fault : held c.args.bytes.now ≡ Err c.in_err-marked.field-0.0 = no_mark c.args.bytes.now c.in_err-marked.field-0.0 c.in_err-marked.ensures.value in
    search (rules, fault)

pub returns-in_default-clause-value : goal.returns-in_default-clause-value
returns-in_default-clause-value c =
    let none : counts_at c.in_ok-marked.marked.now ≡ None = search rules in
    inr (marked_held c.args.bytes.now c.in_ok-marked.marked.now c.in_ok-marked.ensures.value ∙ no_counts (length c.args.bytes.now) c.in_ok-marked.marked.now none)

pub returns-in_err-parts-clause-value : goal.returns-in_err-parts-clause-value
returns-in_err-parts-clause-value c =
    let read : counts_at c.in_ok-marked.marked.now ≡ Some (c.in-Some.counts, c.in-Some.rest.now) = search rules in
    let fault : (c.in_err-parts.field-0.0 ≡ Memory) ⊎ (held c.args.bytes.now ≡ Err c.in_err-parts.field-0.0) =
    elim c.in_err-parts.ensures.value [
      | inl memory ↦ inl memory
      | inr wrong ↦ inr (marked_held c.args.bytes.now c.in_ok-marked.marked.now c.in_ok-marked.ensures.value ∙ counted (length c.args.bytes.now) c.in_ok-marked.marked.now c.in-Some.rest.now c.in-Some.counts read ∙ no_parts (length c.args.bytes.now) c.in-Some.counts c.in-Some.rest.now c.in_err-parts.field-0.0 wrong)
    ] in
    search (rules, fault)

pub returns-in_err-symbols-clause-value : goal.returns-in_err-symbols-clause-value
returns-in_err-symbols-clause-value c =
    let read : counts_at c.in_ok-marked.marked.now ≡ Some (c.in-Some.counts, c.in-Some.rest.now) = search rules in
    let fault : (c.in_err-symbols.field-0.0 ≡ Memory) ⊎ (held c.args.bytes.now ≡ Err c.in_err-symbols.field-0.0) =
    elim c.in_err-symbols.ensures.value [
      | inl memory ↦ inl memory
      | inr wrong ↦ inr (marked_held c.args.bytes.now c.in_ok-marked.marked.now c.in_ok-marked.ensures.value ∙ counted (length c.args.bytes.now) c.in_ok-marked.marked.now c.in-Some.rest.now c.in-Some.counts read ∙ parts_there (length c.args.bytes.now) c.in-Some.counts c.in-Some.rest.now c.in_ok-parts.rest.now c.in_ok-parts.parts.items c.in_ok-parts.ensures.value ∙ no_symbols (length c.args.bytes.now) c.in-Some.counts c.in_ok-parts.parts.items c.in_ok-parts.rest.now c.in_err-symbols.field-0.0 wrong)
    ] in
    search (rules, fault)

pub returns-in_default-split_at_checked-clause-value : goal.returns-in_default-split_at_checked-clause-value
returns-in_default-split_at_checked-clause-value c =
    let read : counts_at c.in_ok-marked.marked.now ≡ Some (c.in-Some.counts, c.in-Some.rest.now) = search rules in
    let few : length c.in_ok-symbols.rest.now < c.in-Some.counts.bytes = search (rules, arith) in
    inr (
    marked_held c.args.bytes.now c.in_ok-marked.marked.now c.in_ok-marked.ensures.value
    ∙ counted (length c.args.bytes.now) c.in_ok-marked.marked.now c.in-Some.rest.now c.in-Some.counts read
    ∙ parts_there (length c.args.bytes.now) c.in-Some.counts c.in-Some.rest.now c.in_ok-parts.rest.now c.in_ok-parts.parts.items c.in_ok-parts.ensures.value
    ∙ symbols_there (length c.args.bytes.now) c.in-Some.counts c.in_ok-parts.parts.items c.in_ok-parts.rest.now c.in_ok-symbols.rest.now c.in_ok-symbols.symbols.items c.in_ok-symbols.ensures.value
    ∙ packed_short (length c.args.bytes.now) c.in-Some.counts.bytes c.in_ok-parts.parts.items c.in_ok-symbols.symbols.items c.in_ok-symbols.rest.now few
    )

pub returns-clause-value : goal.returns-clause-value
returns-clause-value c =
    let read : counts_at c.in_ok-marked.marked.now ≡ Some (c.in-Some.counts, c.in-Some.rest.now) = search rules in
    let room : c.in-Some.counts.bytes ≤ length c.in_ok-symbols.rest.now = search (rules, arith) in
    let front : c.in-Some-split_at_checked.packed.now ≡ take c.in-Some.counts.bytes c.in_ok-symbols.rest.now = search rules in
    let back : c.in-Some-split_at_checked.behind.now ≡ drop c.in-Some.counts.bytes c.in_ok-symbols.rest.now = search rules in
    marked_held c.args.bytes.now c.in_ok-marked.marked.now c.in_ok-marked.ensures.value
    ∙ counted (length c.args.bytes.now) c.in_ok-marked.marked.now c.in-Some.rest.now c.in-Some.counts read
    ∙ parts_there (length c.args.bytes.now) c.in-Some.counts c.in-Some.rest.now c.in_ok-parts.rest.now c.in_ok-parts.parts.items c.in_ok-parts.ensures.value
    ∙ symbols_there (length c.args.bytes.now) c.in-Some.counts c.in_ok-parts.parts.items c.in_ok-parts.rest.now c.in_ok-symbols.rest.now c.in_ok-symbols.symbols.items c.in_ok-symbols.ensures.value
    ∙ packed_there (length c.args.bytes.now) c.in-Some.counts.bytes c.in_ok-parts.parts.items c.in_ok-symbols.symbols.items c.in_ok-symbols.rest.now _ _ room front back

pub returns-clause-whole : goal.returns-clause-whole
returns-clause-whole c =
    made_of c.args.bytes.now _ (λ i. omega (arith, c.type_inv.bytes i)) (returns-clause-value c)
