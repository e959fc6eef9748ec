use Rattle.std.proofs.Common.{rules, ◌≡◌, ℕ, Bool, true, false, not, List, [], ◌∷◌, length, ◌==◌, arith, refl, ap, ◌∙◌, sym, subst}
use Rattle.std.proofs.lemmas.Bool.Decides.{Decides-eqb}
use Rattle.std.proofs.lemmas.Slice.Eq.{slice_eq-Decides, bytes_eq-Decides}
use Rattle.std.specs.Prelude.{Decides}
use Rattle.tt_base.specs.declared.span.SpanPart.{SpanPart}
use Rattle.tt_bytes.specs.Front.{held_in}
use Rattle.tt_bytes.proofs.MadeOf.{stored_in}
use Rattle.tt_tables.proofs.TokenTables.{part_sound, part_complete}
use Rattle.tt_tables.specs.Uses.{same_part}
use Rattle.tt_bytes.proofs.quick.is_stored_in.Goals.{then-not-is_empty-via-then-not-is_empty, then-not-is_empty-via-else-not-is_empty+then-ne}
use Rattle.tt_bytes.proofs.quick.is_stored_in.Goals as goal

not_other : (t : Bool) → false ≡ not t → true ≡ t
not_other true other = refl
not_other false other = absurd (cc other)

not_equal : (t : Bool) → true ≡ not t → t ≡ true → ⊥
not_equal true other equal = absurd (cc other)
not_equal false other equal = absurd (cc equal)

none_long : (bytes : List ℕ) → length bytes ≡ 0 → bytes ≡ []
none_long [] none = refl
none_long (byte ∷ bytes) none = absurd (omega (arith, none))

part_decides : (one other : SpanPart) → Decides (same_part one other) (one ≡ other)
part_decides one other = (part_sound one other, λ is. subst (λ part. same_part one part ≡ true) is (part_complete one))

pub returns-clause-is : goal.returns-clause-is
returns-clause-is c alike bytes made =
    let below = (slice_eq-Decides Decides-eqb c.packed_bytes.result.now c.args.piece.now.packed.now true (not_other _ c.if-ne.ensures)).0 refl in
    let parts = (slice_eq-Decides part_decides c.span_part_table.result.now c.as_slice.result.now true (not_other _ c.if-ne-2.ensures)).0 refl in
    let symbols = (slice_eq-Decides bytes_eq-Decides _ _ _ c.eq.ensures).0 alike in
    let none : length c.args.piece.now.behind.now ≡ 0 = search (rules, arith, c.is_empty.ensures, c.if-not-is_empty.ensures) in
    stored_in bytes (held_in c.args.piece.now) c.args.tree.now c.packed_bytes.ensures.range c.packed_bytes.ensures.limits
    (sym (sym c.span_part_table.ensures.value ∙ parts ∙ c.as_slice.ensures.value))
    (sym (sym c.symbol_table.ensures.value ∙ symbols ∙ c.as_slice-2.ensures.value))
    (sym (sym c.packed_bytes.ensures.value ∙ below))
    (none_long _ none) made

pub returns-clause-only : goal.returns-clause-only
returns-clause-only c it =
    let symbols = sym it.symbols in
    (slice_eq-Decides bytes_eq-Decides _ _ _ c.eq.ensures).1 (c.symbol_table.ensures.value ∙ symbols ∙ sym c.as_slice-2.ensures.value)

pub returns-then-ne-2-clause-only : goal.returns-then-ne-2-clause-only
returns-then-ne-2-clause-only c it =
    absurd (not_equal _ c.if-ne-2.ensures ((slice_eq-Decides part_decides c.span_part_table.result.now c.as_slice.result.now _ refl).1 (c.span_part_table.ensures.value ∙ sym it.parts ∙ sym c.as_slice.ensures.value)))

pub returns-then-not-is_empty-clause-only : goal.returns-then-not-is_empty-clause-only
returns-then-not-is_empty-clause-only c it =
    let empty : c.is_empty.result ≡ true = c.is_empty.ensures ∙ ap (λ bytes. length bytes == 0) it.none in
    elim c.then-not-is_empty.branch [
      | then-not-is_empty-via-then-not-is_empty w ↦ absurd (cc (empty, w.if-not-is_empty.true))
      | then-not-is_empty-via-else-not-is_empty+then-ne w ↦
          absurd (not_equal _ w.if-ne.ensures ((slice_eq-Decides Decides-eqb w.packed_bytes.result.now c.args.piece.now.packed.now _ refl).1 (w.packed_bytes.ensures.value ∙ sym it.below)))
    ]
