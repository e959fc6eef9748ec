-- One more use of a symbol of a table.
use Rattle.std.proofs.Common.{◌≡◌, ℕ, ◌<◌, false, bytes_eq, List, [], ◌∷◌, ◌++◌, Some, map, length, set, slice_get, ap, sym, subst, ◌∙◌, arith}
use Rattle.std.proofs.lemmas.List.{length-set}
use Rattle.std.proofs.lemmas.Option.{slice_get_within}
use Rattle.std.specs.List.{list_any}
use Rattle.tt_base.specs.contracts.symbol.SymbolEq.TheImpl.Laws as symbol_eq
use Rattle.tt_bytes.specs.declared.uses.SymbolUses.{SymbolUses}
use Rattle.tt_bytes.specs.Uses.{no_place, IsOneMoreAt, ArePlaced, HaveUses, UsesSymbol}
use Rattle.tt_bytes.proofs.Counting.{counted_at, counted_new, order_same, order_new}
use Rattle.tt_bytes.proofs.Placed.{placed_more, stands_last}
use Rattle.tt_bytes.proofs.Spans.{something_at}
use Rattle.tt_tables.proofs.PlacesKept.{keeps_front}
use Rattle.tt_tables.proofs.Used.{distinct-different}
use Rattle.tt_tables.proofs.TokenTables.{text_sound}
use Rattle.tt_tables.specs.TableOrder.{uses_of}
use Rattle.std.specs.List.{IsDistinct}

-- The symbol has a place.
pub used_again : (table : List (List ℕ)) (index place : ℕ) (old new : SymbolUses) (before : List (List ℕ)) → HaveUses table old before
    → slice_get old.places.items index ≡ Some place → place < no_place → IsOneMoreAt old.numbers.items place new.numbers.items → new.places.items ≡ old.places.items → new.order.items ≡ old.order.items
    → UsesSymbol table index place old new before
used_again table index place old new before are noted small (n, number, is) same_places same_order =
    let within : index < length table = omega (arith, are.long, slice_get_within old.places.items index place noted) in
    let (text, there) = something_at table index within in
    let stands = (are.placed index place text there noted).0 small in
    let distinct : IsDistinct bytes_eq old.order.items = subst (IsDistinct bytes_eq) (sym are.in_order) (distinct-different bytes_eq symbol_eq.lawful.laws text_sound before) in
    let counted = is ∙ counted_at bytes_eq symbol_eq.lawful.laws text_sound before old.order.items old.numbers.items place n text distinct stands are.counted number in
    record {
      text = text;
      there = there;
      stands = ap (λ l. slice_get l place) same_order ∙ stands;
      stay = λ i x at. ap (λ l. slice_get l i) same_order ∙ at;
      used = record {
        distinct = are.distinct;
        long = ap length same_places ∙ are.long;
        placed = subst (λ l. ArePlaced table l new.order.items) (sym same_places) (subst (λ l. ArePlaced table old.places.items l) (sym same_order) are.placed);
        in_order = same_order ∙ order_same bytes_eq symbol_eq.lawful.laws text_sound before old.order.items place text stands are.in_order;
        counted = counted ∙ ap (map (uses_of bytes_eq (before ++ text ∷ []))) (sym same_order);
      };
    }

-- The symbol has no place yet.
pub used_first : (table : List (List ℕ)) (index place : ℕ) (text : List ℕ) (old new : SymbolUses) (before : List (List ℕ)) → HaveUses table old before → slice_get table index ≡ Some text
    → slice_get old.places.items index ≡ Some no_place → place ≡ length old.order.items → place < no_place
    → new.places.items ≡ set old.places.items index place → new.order.items ≡ old.order.items ++ text ∷ [] → new.numbers.items ≡ old.numbers.items ++ 1 ∷ []
    → UsesSymbol table index place old new before
used_first table index place text old new before are there unplaced last small places_are order_is numbers_are =
    let none : list_any (bytes_eq text) old.order.items ≡ false = (are.placed index no_place text there unplaced).1 (omega arith) in
    let placed = placed_more table old.places.items old.order.items index place no_place text are.distinct are.placed there unplaced last small in
    let counted = counted_new bytes_eq symbol_eq.lawful.laws text_sound before old.order.items text none are.in_order in
    record {
      text = text;
      there = there;
      stands = ap (λ l. slice_get l place) order_is ∙ stands_last old.order.items text place last;
      stay = λ i x at. ap (λ l. slice_get l i) order_is ∙ keeps_front old.order.items (text ∷ []) i x at;
      used = record {
        distinct = are.distinct;
        long = ap length places_are ∙ length-set old.places.items index place ∙ are.long;
        placed = subst (λ l. ArePlaced table l new.order.items) (sym places_are) (subst (λ l. ArePlaced table (set old.places.items index place) l) (sym order_is) placed);
        in_order = order_is ∙ order_new bytes_eq symbol_eq.lawful.laws text_sound before old.order.items text none are.in_order;
        counted = numbers_are ∙ ap (λ l. l ++ 1 ∷ []) are.counted ∙ counted ∙ ap (map (uses_of bytes_eq (before ++ text ∷ []))) (sym order_is);
      };
    }
