-- How few values get one more use.
use Rattle.std.proofs.Common.{◌≡◌, ℕ, ◌≤◌, Option, Some, None, Result, Ok, Err, IfOk, IfSome, List, length, bytes_eq, ap, ◌∙◌, arith}
use Rattle.tt_base.specs.contracts.span.SpanPartEq.TheImpl.Laws as part_eq
use Rattle.tt_base.specs.contracts.symbol.SymbolEq.TheImpl.Laws as symbol_eq
use Rattle.tt_base.specs.declared.span.SpanPart.{SpanPart}
use Rattle.tt_tables.specs.Uses.{same_part}
use Rattle.tt_pack.specs.declared.few.FewValues.{FewValues}
use Rattle.tt_pack.specs.Counted.{note_value}
use Rattle.tt_pack.specs.Few.{HasNoted}
use Rattle.tt_pack.specs.Meeting.{MeetsPart, MeetsSymbol}
use Rattle.tt_pack.specs.TablesOf.{StandsAt}
use Rattle.tt_pack.proofs.Noting.{meets_noted}

module _ {E : Type 0} (old new : FewValues) where
  -- A part that is noted has one more use.
  pub notes_part : (result : Result (Option ℕ) E) (x : SpanPart) → new.symbols ≡ old.symbols → (length old.parts.items ≤ 15 → length new.parts.items ≤ 15)
      → IfOk result (λ found. IfSome found (λ index. new.parts.items ≡ note_value same_part old.parts.items x))
      → IfOk result (λ found. IfSome found (λ index. StandsAt new.parts.items index x))
      → IfOk result (λ found. IfSome found (MeetsPart HasNoted old new x))
  notes_part (Ok (Some index)) x stay few notes at = λ parts symbols met.
      let (noted, stands) = meets_noted same_part part_eq.lawful.laws parts old.parts.items new.parts.items x index met.all_parts notes at in (
        record {
          all_parts = noted;
          all_symbols = ap (λ symbols. symbols.items) stay ∙ met.all_symbols;
          few_parts = few met.few_parts;
          few_symbols = omega (arith, met.few_symbols, ap (λ symbols. length symbols.items) stay);
        },
        stands,
      )
  notes_part (Ok None) x stay few notes at = tt
  notes_part (Err e) x stay few notes at = tt

  -- A symbol that is noted has one more use.
  pub notes_symbol : (result : Result (Option ℕ) E) (x : List ℕ) → new.parts ≡ old.parts → (length old.symbols.items ≤ 24 → length new.symbols.items ≤ 24)
      → IfOk result (λ found. IfSome found (λ index. new.symbols.items ≡ note_value bytes_eq old.symbols.items x))
      → IfOk result (λ found. IfSome found (λ index. StandsAt new.symbols.items index x))
      → IfOk result (λ found. IfSome found (MeetsSymbol HasNoted old new x))
  notes_symbol (Ok (Some index)) x stay few notes at = λ parts symbols met.
      let (noted, stands) = meets_noted bytes_eq symbol_eq.lawful.laws symbols old.symbols.items new.symbols.items x index met.all_symbols notes at in (
        record {
          all_parts = ap (λ parts. parts.items) stay ∙ met.all_parts;
          all_symbols = noted;
          few_parts = omega (arith, met.few_parts, ap (λ parts. length parts.items) stay);
          few_symbols = few met.few_symbols;
        },
        stands,
      )
  notes_symbol (Ok None) x stay few notes at = tt
  notes_symbol (Err e) x stay few notes at = tt
