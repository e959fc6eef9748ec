-- Values before their first use.
use Rattle.std.proofs.Common.{◌≡◌, ℕ, zero, suc, bytes_eq, List, [], ◌∷◌, Some, map, length, replicate, slice_get, refl, ap, sym, ◌∙◌, arith}
use Rattle.std.specs.List.{IsDistinct, list_any}
use Rattle.std.specs.Prelude.{Bool}
use Rattle.tt_base.specs.declared.span.SpanPart.{SpanPart}
use Rattle.tt_bytes.specs.Uses.{no_place, AreUsed, ArePlaced}
use Rattle.tt_tables.specs.TableOrder.{uses_of}
use Rattle.tt_tables.specs.Uses.{same_part}

-- No value is used.
no_number : {X : Type 0} (same : X → X → Bool) (values : List X) → replicate (length values) 0 ≡ map (uses_of same []) values
no_number same [] = refl
no_number same (v ∷ values) = ap (λ l. 0 ∷ l) (no_number same values)

-- No part is used.
pub no_uses : (parts : List SpanPart) (len : ℕ) (numbers : List ℕ) → length parts ≡ len → IsDistinct same_part parts → numbers ≡ replicate len 0 → AreUsed parts numbers []
no_uses parts len numbers long distinct are =
    record { distinct = distinct; counted = are ∙ ap (λ n. replicate n 0) (sym long) ∙ no_number same_part parts }

same_each : {X : Type 0} (n i : ℕ) (x y : X) → slice_get (replicate n x) i ≡ Some y → x ≡ y
same_each zero i x y at = absurd (cc at)
same_each (suc n) zero x y at = cc at
same_each (suc n) (suc i) x y at = same_each n i x y at

-- No symbol has a place.
pub no_places : (table : List (List ℕ)) (places : List ℕ) (order : List (List ℕ)) (n : ℕ) → places ≡ replicate n no_place → order ≡ [] → ArePlaced table places order
no_places table places order n are none i place text at_table at =
    let noted : no_place ≡ place = same_each n i no_place place (ap (λ l. slice_get l i) (sym are) ∙ at) in (
      λ small. absurd (omega (arith, noted, small)),
      λ large. ap (list_any (bytes_eq text)) none,
    )
