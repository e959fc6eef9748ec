-- The counted tokens of what is held.
use Rattle.std.proofs.Common.{◌≡◌, ℕ, suc, Bool, bytes_eq, List, [], ◌∷◌, ◌++◌, Some, map, length, slice_get, refl, ap, ap₂, sym, subst, ◌∙◌}
use Rattle.std.proofs.lemmas.List.{length-map}
use Rattle.std.specs.Cmp.{IsEquivalence}
use Rattle.std.specs.List.{IsDistinct}
use Rattle.std.specs.Map.{keys_of, values_of}
use Rattle.tt_base.specs.contracts.span.SpanPartEq.TheImpl.Laws as part_eq
use Rattle.tt_base.specs.contracts.symbol.SymbolEq.TheImpl.Laws as symbol_eq
use Rattle.tt_base.specs.declared.span.SpanPart.{SpanPart}
use Rattle.tt_base.specs.declared.token_tree.TokenTree.{TokenTree}
use Rattle.tt_tables.proofs.UseCounts.{number_at}
use Rattle.tt_tables.specs.declared.token.InternedToken.{InternedToken}
use Rattle.tt_tables.specs.declared.counted.CountedTokens.{CountedTokens}
use Rattle.tt_tables.specs.Counted.{AreOf}
use Rattle.tt_tables.specs.ListOf.{list_of, tokens_of, counted_are}
use Rattle.tt_tables.proofs.PlacesKept.{length-named}
use Rattle.tt_tables.specs.Held.{HeldToken, whole, as_token, counted_parts, counted_symbols, parts_in, symbols_in}
use Rattle.tt_tables.specs.Interned.{tables_of}
use Rattle.tt_tables.specs.Names.{AllName}
use Rattle.tt_tables.specs.Counts.{CountsUses}
use Rattle.tt_tables.specs.TableOrder.{different, uses_of}
use Rattle.tt_tables.specs.Uses.{same_part, part_uses, symbol_uses}

-- The numbers beside keys, if a function gives the number of each key.
numbers_told : {X : Type 0} (f : X → ℕ) (entries : List (X × ℕ)) → ((i : ℕ) (x : X) (n : ℕ) → slice_get entries i ≡ Some (x, n) → n ≡ f x) → values_of entries ≡ map f (keys_of entries)
numbers_told f [] told = refl
numbers_told f (entry ∷ entries) told = ap₂ ◌∷◌ (told 0 entry.0 entry.1 refl) (numbers_told f entries (λ i x n at. told (suc i) x n at))

-- The numbers of uses beside different keys.
pub numbers_are : {X : Type 0} (same : X → X → Bool) → IsEquivalence same → (uses : List X) (entries : List (X × ℕ)) → IsDistinct same (keys_of entries) → CountsUses same uses entries
    → values_of entries ≡ map (uses_of same uses) (keys_of entries)
numbers_are same laws uses entries distinct right =
    numbers_told (uses_of same uses) entries (λ i x n at. sym (number_at same laws entries i x n distinct at) ∙ right x)

-- Whole tokens have the uses of the same tokens in a list.
pub parts_in-whole : (list : List TokenTree) → parts_in (map whole list) ≡ part_uses list
parts_in-whole [] = refl
parts_in-whole (it ∷ list) = ap (λ l. counted_parts (whole it) ++ l) (parts_in-whole list)

pub symbols_in-whole : (list : List TokenTree) → symbols_in (map whole list) ≡ symbol_uses list
symbols_in-whole [] = refl
symbols_in-whole (it ∷ list) = ap (λ l. counted_symbols (whole it) ++ l) (symbols_in-whole list)

-- If no header is open, the tokens held have these counts of uses.
pub counted_of : (tokens : List InternedToken) (parts : List (SpanPart × ℕ)) (symbols : List (List ℕ × ℕ)) (held : List HeldToken)
    → AllName (tables_of parts symbols) tokens held → IsDistinct same_part (keys_of parts) → CountsUses same_part (parts_in held) parts
    → IsDistinct bytes_eq (keys_of symbols) → CountsUses bytes_eq (symbols_in held) symbols → keys_of symbols ≡ different bytes_eq (symbols_in held)
    → held ≡ map whole (map as_token held)
    → AreOf tokens (keys_of parts) (values_of parts) (keys_of symbols) (values_of symbols) (map as_token held)
counted_of tokens parts symbols held named distinct right symbol_distinct symbols_right order all =
    record {
      named = subst (AllName (tables_of parts symbols) tokens) all named;
      distinct = distinct;
      parts_counted = numbers_are same_part part_eq.lawful.laws (part_uses list) parts distinct (subst (λ uses. CountsUses same_part uses parts) part_list right);
      in_order = order ∙ ap (different bytes_eq) symbol_list;
      symbols_counted = numbers_are bytes_eq symbol_eq.lawful.laws (symbol_uses list) symbols symbol_distinct (subst (λ uses. CountsUses bytes_eq uses symbols) symbol_list symbols_right);
    }
  where
    list : List TokenTree
    list = map as_token held

    part_list : parts_in held ≡ part_uses list
    part_list = ap parts_in all ∙ parts_in-whole list

    symbol_list : symbols_in held ≡ symbol_uses list
    symbol_list = ap symbols_in all ∙ symbols_in-whole list

-- The same for slices of the same items.
pub counted_from : (tokens tokens_now : List InternedToken) (parts parts_now : List SpanPart) (part_numbers part_numbers_now : List ℕ) (symbols symbols_now : List (List ℕ)) (symbol_numbers symbol_numbers_now : List ℕ) (list : List TokenTree)
    → AreOf tokens parts part_numbers symbols symbol_numbers list → tokens_now ≡ tokens → parts_now ≡ parts → part_numbers_now ≡ part_numbers → symbols_now ≡ symbols → symbol_numbers_now ≡ symbol_numbers
    → AreOf tokens_now parts_now part_numbers_now symbols_now symbol_numbers_now list
counted_from tokens tokens_now parts parts_now part_numbers part_numbers_now symbols symbols_now symbol_numbers symbol_numbers_now list are e₁ e₂ e₃ e₄ e₅ =
    subst (λ t. AreOf t parts_now part_numbers_now symbols_now symbol_numbers_now list) (sym e₁)
    (subst (λ p. AreOf tokens p part_numbers_now symbols_now symbol_numbers_now list) (sym e₂)
    (subst (λ n. AreOf tokens parts n symbols_now symbol_numbers_now list) (sym e₃)
    (subst (λ s. AreOf tokens parts part_numbers s symbol_numbers_now list) (sym e₄)
    (subst (λ n. AreOf tokens parts part_numbers symbols n list) (sym e₅) are))))

-- There are as many tokens as tokens of the list.
pub as_many_tokens : (it : CountedTokens) → length (tokens_of it) ≡ length (list_of it)
as_many_tokens it = length-named _ (tokens_of it) (map whole (list_of it)) (counted_are it).named ∙ length-map (list_of it) whole
