use Rattle.std.proofs.Common.{rules, ◌≡◌, ◌⊎◌, inl, inr, length, ap, ap₂, sym, subst, ◌∙◌, arith}
use Rattle.tt_base.specs.Unflat.{flat_root-injective}
use Rattle.tt_bytes.specs.declared.fault.BytesFault.TheVariants.{Memory}
use Rattle.tt_bytes.specs.Decoding.{Stand}
use Rattle.tt_bytes.specs.Faults.{IsFaultOf, IsStoredOtherwise, common_length, tables_in}
use Rattle.tt_bytes.specs.Format.{AreBytesOf, AreBytesOfNone}
use Rattle.tt_bytes.specs.Front.{held_in}
use Rattle.tt_bytes.proofs.Faults.{is_memory, packs}
use Rattle.tt_bytes.proofs.Holding.{ahead_of, none_held}
use Rattle.tt_bytes.proofs.Refusing.{stopped, of_none, none_packed, none_written, is_want}
use Rattle.tt_tables.specs.Searches.{first_entries}
use Rattle.tt_tables.specs.TablesOf.{tables_of}
use Rattle.tt_bytes.proofs.read.from_bytes.Goals as goal

pub returns-in_err-piece-clause-none : goal.returns-in_err-piece-clause-none
returns-in_err-piece-clause-none c =
    let none : (c.in_err-piece.field-0.0 ≡ Memory) ⊎ AreBytesOfNone c.args.bytes.now =
    elim c.in_err-piece.ensures.value [
      | inl memory ↦ inl memory
      | inr wrong ↦ inr (none_held c.args.bytes.now c.in_err-piece.field-0.0 wrong)
    ] in
    search (rules, none)

pub returns-in_err-tokens-clause-err : goal.returns-in_err-tokens-clause-err
returns-in_err-tokens-clause-err c =
    let same : tables_of c.new-tables.result ≡ tables_in (held_in c.in_ok-piece.piece) = c.new-tables.ensures ∙ ap₂ first_entries c.as_slice.ensures.value c.as_slice-2.ensures.value in
    let fault : IsFaultOf c.args.bytes.now c.in_err-tokens.field-0.0 =
    stopped c.args.bytes.now (held_in c.in_ok-piece.piece) (tables_of c.new-tables.result) _ c.in_err-tokens.field-0.0 c.in_ok-piece.ensures.value same
    (omega (arith, c.in_ok-piece.ensures.len)) c.in_err-tokens.ensures.stand in
    search (rules, fault)

pub returns-in_err-tokens-clause-none : goal.returns-in_err-tokens-clause-none
returns-in_err-tokens-clause-none c =
    let same : tables_of c.new-tables.result ≡ tables_in (held_in c.in_ok-piece.piece) = c.new-tables.ensures ∙ ap₂ first_entries c.as_slice.ensures.value c.as_slice-2.ensures.value in
    let none : (c.in_err-tokens.field-0.0 ≡ Memory) ⊎ AreBytesOfNone c.args.bytes.now =
    elim (is_want c.in_err-tokens.field-0.0) [
      | inl memory ↦ inl memory
      | inr other ↦
          inr (λ root are. other (c.in_err-tokens.ensures.list root (ahead_of root c.args.bytes.now (held_in c.in_ok-piece.piece) _ are c.in_ok-piece.ensures.value same)))
    ] in
    search (rules, none)

pub returns-in-Err-clause-err : goal.returns-in-Err-clause-err
returns-in-Err-clause-err c =
    let same : tables_of c.new-tables.result ≡ tables_in (held_in c.in_ok-piece.piece) = c.new-tables.ensures ∙ ap₂ first_entries c.as_slice.ensures.value c.as_slice-2.ensures.value in
    elim (is_memory c.in-Err.refused.fault) [
      | inl memory ↦ inl (c.fault_of.ensures.memory memory)
      | inr other ↦
          subst (IsFaultOf c.args.bytes.now) (sym (c.fault_of.ensures.other other))
          (of_none c.args.bytes.now (held_in c.in_ok-piece.piece) (tables_of c.new-tables.result) _ c.in_ok-tokens.tokens.items c.in_ok-piece.ensures.value same
          (omega (arith, c.in_ok-piece.ensures.len)) c.in_ok-tokens.ensures.stand (none_packed c.in_ok-tokens.tokens.items c.in-Err.refused.fault c.in-Err.ensures.fault other))
    ]

pub returns-in-Err-clause-none : goal.returns-in-Err-clause-none
returns-in-Err-clause-none c =
    let same : tables_of c.new-tables.result ≡ tables_in (held_in c.in_ok-piece.piece) = c.new-tables.ensures ∙ ap₂ first_entries c.as_slice.ensures.value c.as_slice-2.ensures.value in
    elim (is_memory c.in-Err.refused.fault) [
      | inl memory ↦ inl (c.fault_of.ensures.memory memory)
      | inr other ↦
          inr (λ root are.
          let tokens = c.in_ok-tokens.ensures.list root (ahead_of root c.args.bytes.now (held_in c.in_ok-piece.piece) _ are c.in_ok-piece.ensures.value same) in
          other (packs _ root tokens are.has.limits _ c.in-Err.ensures.fault))
    ]

pub returns-in-Err-to_bytes-clause-err : goal.returns-in-Err-to_bytes-clause-err
returns-in-Err-to_bytes-clause-err c =
    let same : tables_of c.new-tables.result ≡ tables_in (held_in c.in_ok-piece.piece) = c.new-tables.ensures ∙ ap₂ first_entries c.as_slice.ensures.value c.as_slice-2.ensures.value in
    elim (is_memory c.in-Err-to_bytes.fault) [
      | inl memory ↦ inl (c.fault_of-in-Err-to_bytes.ensures.memory memory)
      | inr other ↦
          subst (IsFaultOf c.args.bytes.now) (sym (c.fault_of-in-Err-to_bytes.ensures.other other))
          (of_none c.args.bytes.now (held_in c.in_ok-piece.piece) (tables_of c.new-tables.result) _ c.in_ok-tokens.tokens.items c.in_ok-piece.ensures.value same
          (omega (arith, c.in_ok-piece.ensures.len)) c.in_ok-tokens.ensures.stand
          (none_written c.in_ok-tokens.tokens.items c.in-Ok.tree c.in-Err-to_bytes.fault c.in-Ok.ensures.ok c.in-Err-to_bytes.ensures.err other))
    ]

pub returns-in-Err-to_bytes-clause-none : goal.returns-in-Err-to_bytes-clause-none
returns-in-Err-to_bytes-clause-none c =
    let same : tables_of c.new-tables.result ≡ tables_in (held_in c.in_ok-piece.piece) = c.new-tables.ensures ∙ ap₂ first_entries c.as_slice.ensures.value c.as_slice-2.ensures.value in
    elim (is_memory c.in-Err-to_bytes.fault) [
      | inl memory ↦ inl (c.fault_of-in-Err-to_bytes.ensures.memory memory)
      | inr other ↦
          inr (λ root are.
          let tokens = c.in_ok-tokens.ensures.list root (ahead_of root c.args.bytes.now (held_in c.in_ok-piece.piece) _ are c.in_ok-piece.ensures.value same) in
          none_written c.in_ok-tokens.tokens.items c.in-Ok.tree c.in-Err-to_bytes.fault c.in-Ok.ensures.ok c.in-Err-to_bytes.ensures.err other root tokens are.has)
    ]

pub returns-clause-err : goal.returns-clause-err
returns-clause-err c =
    let same : tables_of c.new-tables.result ≡ tables_in (held_in c.in_ok-piece.piece) = c.new-tables.ensures ∙ ap₂ first_entries c.as_slice.ensures.value c.as_slice-2.ensures.value in
    let apart : AreBytesOf c.in-Ok.tree c.args.bytes.now → ⊥ = λ are. search (rules, are) in
    let compared : c.common_length-at.result ≡ common_length c.args.bytes.now c.in-Ok-to_bytes.written.items = search rules in
    let stored : IsStoredOtherwise c.args.bytes.now (held_in c.in_ok-piece.piece) c.common_length-at.result =
    record {
      root = c.in-Ok.tree;
      stand = subst (λ l. Stand (tables_in (held_in c.in_ok-piece.piece)) c.in_ok-piece.piece.packed.now l (length c.in_ok-piece.piece.packed.now)) c.in-Ok.ensures.ok
          (subst (λ t. Stand t c.in_ok-piece.piece.packed.now c.in_ok-tokens.tokens.items (length c.in_ok-piece.piece.packed.now)) same c.in_ok-tokens.ensures.stand);
      has = c.in-Ok-to_bytes.ensures.ok.has;
      place = compared ∙ ap (common_length c.args.bytes.now) c.in-Ok-to_bytes.ensures.ok.is;
      other = λ e. apart (record { has = c.in-Ok-to_bytes.ensures.ok.has; is = e });
    } in
    inr (inr (held_in c.in_ok-piece.piece, c.in_ok-piece.ensures.value, stored))

pub returns-clause-none : goal.returns-clause-none
returns-clause-none c =
    let same : tables_of c.new-tables.result ≡ tables_in (held_in c.in_ok-piece.piece) = c.new-tables.ensures ∙ ap₂ first_entries c.as_slice.ensures.value c.as_slice-2.ensures.value in
    let apart : AreBytesOf c.in-Ok.tree c.args.bytes.now → ⊥ = λ are. search (rules, are) in
    inr (λ root are.
    let tokens = c.in_ok-tokens.ensures.list root (ahead_of root c.args.bytes.now (held_in c.in_ok-piece.piece) _ are c.in_ok-piece.ensures.value same) in
    let one : root ≡ c.in-Ok.tree = flat_root-injective root c.in-Ok.tree (sym tokens ∙ c.in-Ok.ensures.ok) in
    apart (subst (λ tree. AreBytesOf tree c.args.bytes.now) one are))

pub returns-then-are_bytes_of-clause-only : goal.returns-then-are_bytes_of-clause-only
returns-then-are_bytes_of-clause-only c other are =
    let same : tables_of c.new-tables.result ≡ tables_in (held_in c.in_ok-piece.piece) = c.new-tables.ensures ∙ ap₂ first_entries c.as_slice.ensures.value c.as_slice-2.ensures.value in
    let tokens = c.in_ok-tokens.ensures.list other (ahead_of other c.args.bytes.now (held_in c.in_ok-piece.piece) _ are c.in_ok-piece.ensures.value same) in
    flat_root-injective other c.in-Ok.tree (sym tokens ∙ c.in-Ok.ensures.ok)

pub returns-in-Some-clause-ok : goal.returns-in-Some-clause-ok
returns-in-Some-clause-ok c = search (rules, c.in_ok-tree.ensures.is c.args.bytes.now c.in_ok-piece.ensures.whole)

pub returns-in-Some-clause-only : goal.returns-in-Some-clause-only
returns-in-Some-clause-only c = search (rules, c.in_ok-tree.ensures.only c.args.bytes.now c.in_ok-piece.ensures.whole)
