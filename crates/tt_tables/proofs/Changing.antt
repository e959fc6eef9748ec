-- What is held after a token is appended, changed or removed.
use Rattle.std.proofs.Common.{◌≡◌, ℕ, zero, suc, ◌+◌, ◌<◌, ◌≤◌, ◌⊎◌, inl, inr, Bool, true, false, cond, bytes_eq, List, [], ◌∷◌, ◌++◌, Some, None, length, take, drop, set, slice_get, refl, ap, sym, subst, ◌∙◌, arith, length-append}
use Rattle.std.proofs.lemmas.List.{length-set}
use Rattle.std.specs.Cmp.{IsEquivalence}
use Rattle.std.specs.List.{AllByRecursion, IsDistinct, list_any, remove}
use Rattle.std.specs.Map.{keys_of, values_of, lookup}
use Rattle.std.specs.Option.{unwrap_or}
use Rattle.tt_base.specs.contracts.span.SpanPartEq.TheImpl.Laws as part_eq
use Rattle.tt_base.specs.contracts.symbol.SymbolEq.TheImpl.Laws as symbol_eq
use Rattle.tt_base.specs.declared.span.SpanPart.{SpanPart}
use Rattle.tt_tables.proofs.UseCounts.{entry_at, number_at}
use Rattle.tt_tables.proofs.Used.{uses-append, member_used}
use Rattle.tt_tables.proofs.PlacesKept.{KeepAll, keeps_front, all_stay, keep_all, named-push, named-set, named-take}
use Rattle.tt_tables.proofs.Ordering.{keys_with, keys_cut, in_order_cut}
use Rattle.tt_tables.proofs.Using.{uses_pushed, uses_cut, uses_set, same_uses_set, uses_removed, same_uses_removed}
use Rattle.tt_tables.specs.declared.token.InternedToken.{InternedToken}
use Rattle.tt_tables.specs.Entries.{with_entry, IsCut}
use Rattle.tt_tables.specs.Held.{HeldToken, counted_parts, counted_symbols, parts_in, symbols_in}
use Rattle.tt_tables.specs.Interned.{AreHeld, tables_of}
use Rattle.tt_tables.specs.Names.{Names, AllName}
use Rattle.tt_tables.proofs.TokenTables.{part_sound, text_sound}
use Rattle.tt_tables.specs.Counts.{number_in, CountsUses, CountsMore}
use Rattle.tt_tables.specs.TableOrder.{different, uses_of}
use Rattle.tt_tables.specs.Tables.{Tables}
use Rattle.tt_tables.specs.Uses.{same_part}

-- ---- entries

-- all values keep their places
abbrev pub Grows : {X : Type 0} → (old now : List (X × ℕ)) → Type 0
Grows {X} old now = (i : ℕ) (x : X) → slice_get (keys_of old) i ≡ Some x → slice_get (keys_of now) i ≡ Some x

-- `same` is whether two values are equal
module _ {X : Type 0} (same : X → X → Bool) (laws : IsEquivalence same) (sound : (x y : X) → same x y ≡ true → x ≡ y) where
  -- A new last entry without uses changes no number.
  number_behind : (entries : List (X × ℕ)) (x y : X) → number_in same (entries ++ (x, 0) ∷ []) y ≡ number_in same entries y
  number_behind [] x y = by_test (same y x)
    where
      nothing : ℕ
      nothing = 0

      by_test : (t : Bool) → unwrap_or (cond t (Some nothing) None) 0 ≡ nothing
      by_test true = refl
      by_test false = refl
  number_behind (entry ∷ entries) x y = by_test (same y entry.0) (number_behind entries x y)
    where
      by_test : (t : Bool) → number_in same (entries ++ (x, 0) ∷ []) y ≡ number_in same entries y
          → unwrap_or (cond t (Some entry.1) (lookup (same y) (entries ++ (x, 0) ∷ []))) 0 ≡ unwrap_or (cond t (Some entry.1) (lookup (same y) entries)) 0
      by_test true later = refl
      by_test false later = later

  -- A value that gets an entry changes no number.
  pub number_with : (entries : List (X × ℕ)) (x y : X) → number_in same (with_entry same entries x) y ≡ number_in same entries y
  number_with entries x y = by_test (list_any (same x) (keys_of entries))
    where
      by_test : (t : Bool) → number_in same (cond t entries (entries ++ (x, 0) ∷ [])) y ≡ number_in same entries y
      by_test true = refl
      by_test false = number_behind entries x y

  -- All values keep their places.
  pub grows_with : (entries : List (X × ℕ)) (x : X) → Grows entries (with_entry same entries x)
  grows_with entries x i y at = by_test (list_any (same x) (keys_of entries)) (keys_with same laws sound entries x)
    where
      by_test : (t : Bool) → keys_of (with_entry same entries x) ≡ cond t (keys_of entries) (keys_of entries ++ x ∷ []) → slice_get (keys_of (with_entry same entries x)) i ≡ Some y
      by_test true e = ap (λ l. slice_get l i) e ∙ at
      by_test false e = ap (λ l. slice_get l i) e ∙ keeps_front (keys_of entries) (x ∷ []) i y at

  -- This adds no use of any value.
  pub more_with : (entries : List (X × ℕ)) (x : X) → CountsMore same [] entries (with_entry same entries x)
  more_with entries x y = omega (arith, number_with entries x y, none)
    where
      none : uses_of same [] y ≡ 0
      none = refl

  -- A value that gets an entry, and then one use, has one use more.
  pub counted_once : (old mid now : List (X × ℕ)) (x : X) → mid ≡ with_entry same old x → CountsMore same (x ∷ []) mid now → keys_of now ≡ keys_of mid
      → Grows old now × CountsMore same (x ∷ []) old now
  counted_once old mid now x e more keys = (
    λ i y at. ap (λ l. slice_get l i) (keys ∙ ap keys_of e) ∙ grows_with old x i y at,
    λ y. omega (arith, more y, ap (λ entries. number_in same entries y) e, number_with old x y),
  )

  -- A value with uses keeps its place if the last entries without uses are cut off.
  pub kept_by_cut : (uses : List X) (entries cut : List (X × ℕ)) (i : ℕ) (x : X) → IsDistinct same (keys_of entries) → CountsUses same uses entries → IsCut entries cut
      → 0 < uses_of same uses x → slice_get (keys_of entries) i ≡ Some x → slice_get (keys_of cut) i ≡ Some x
  kept_by_cut uses entries cut i x distinct right is some at =
      ap (λ l. slice_get l i) (ap keys_of is.front ∙ keys_cut entries is.len) ∙ by_order (front_or (keys_of entries) is.len i x at)
    where
      front_or : (xs : List X) (n i : ℕ) (x : X) → slice_get xs i ≡ Some x → (slice_get (take n xs) i ≡ Some x) ⊎ (n ≤ i)
      front_or [] n i x at = absurd (cc at)
      front_or (y ∷ xs) zero i x at = inr (omega arith)
      front_or (y ∷ xs) (suc n) zero x at = inl at
      front_or (y ∷ xs) (suc n) (suc i) x at = further (front_or xs n i x at)
        where
          further : (slice_get (take n xs) i ≡ Some x) ⊎ (n ≤ i) → (slice_get (take n xs) i ≡ Some x) ⊎ (suc n ≤ suc i)
          further (inl e) = inl e
          further (inr h) = inr (omega (arith, h))

      none_behind : (numbers : List ℕ) (n i number : ℕ) → n ≤ i → AllByRecursion (λ number. number ≡ 0) (drop n numbers) → slice_get numbers i ≡ Some number → number ≡ 0
      none_behind [] n i number h all at = absurd (cc at)
      none_behind (m ∷ numbers) zero zero number h all at =
          let is : m ≡ number = cc at in
          sym is ∙ all.0
      none_behind (m ∷ numbers) zero (suc i) number h all at = none_behind numbers zero i number (omega arith) all.1 at
      none_behind (m ∷ numbers) (suc n) zero number h all at = absurd (never n h)
        where
          never : (n : ℕ) → suc n ≤ 0 → ⊥
          never n h = omega arith
      none_behind (m ∷ numbers) (suc n) (suc i) number h all at = none_behind numbers n i number (omega (arith, h)) all at

      value_at : (entries : List (X × ℕ)) (i : ℕ) (x : X) → slice_get (keys_of entries) i ≡ Some x → (n : ℕ) × (slice_get (values_of entries) i ≡ Some n)
      value_at [] i x at = absurd (cc at)
      value_at (entry ∷ entries) zero x at = (entry.1, refl)
      value_at (entry ∷ entries) (suc i) x at = value_at entries i x at

      by_order : (slice_get (take is.len (keys_of entries)) i ≡ Some x) ⊎ (is.len ≤ i) → slice_get (take is.len (keys_of entries)) i ≡ Some x
      by_order (inl e) = e
      by_order (inr h) =
          let (number, beside) = value_at entries i x at in
          let none : number ≡ 0 = none_behind (values_of entries) is.len i number h is.unused beside in
          let uses_are : number_in same entries x ≡ number = number_at same laws entries i x number distinct (entry_at entries i x number at beside) in
          absurd (omega (arith, none, uses_are, right x, some))

-- The used values keep their places, if all values with uses do.
keep_used : (tables now : Tables) (held : List HeldToken)
    → ((i : ℕ) (x : SpanPart) → 0 < uses_of same_part (parts_in held) x → slice_get tables.parts i ≡ Some x → slice_get now.parts i ≡ Some x)
    → ((i : ℕ) (x : List ℕ) → 0 < uses_of bytes_eq (symbols_in held) x → slice_get tables.symbols i ≡ Some x → slice_get now.symbols i ≡ Some x) → KeepAll tables now held
keep_used tables now [] parts symbols = tt
keep_used tables now (h ∷ held) parts symbols = (
  λ i x member at. parts i x (omega (arith, uses-append same_part (counted_parts h) (parts_in held) x, member_used same_part part_eq.lawful.laws part_sound (counted_parts h) x member)) at,
  λ i x member at. symbols i x (omega (arith, uses-append bytes_eq (counted_symbols h) (symbols_in held) x, member_used bytes_eq symbol_eq.lawful.laws text_sound (counted_symbols h) x member)) at,
  keep_used tables now held
      (λ i x some at. parts i x (omega (arith, uses-append same_part (counted_parts h) (parts_in held) x, some)) at)
      (λ i x some at. symbols i x (omega (arith, uses-append bytes_eq (counted_symbols h) (symbols_in held) x, some)) at),
)

-- ---- tokens held

-- Entries without uses do not change what is held.
pub held_still : (tokens : List InternedToken) (parts now : List (SpanPart × ℕ)) (symbols : List (List ℕ × ℕ)) (held : List HeldToken) → AreHeld tokens parts symbols held
    → Grows parts now → CountsMore same_part [] parts now → AreHeld tokens now symbols held
held_still tokens parts now symbols held are grows more =
    record {
      named = all_stay (tables_of parts symbols) (tables_of now symbols) tokens held (keep_all _ _ grows (λ i x at. at) held) are.named;
      parts_counted = λ x. omega (arith, more x, are.parts_counted x, none x);
      symbols_counted = are.symbols_counted;
      in_order = are.in_order;
      few = are.few;
    }
  where
    none : (x : SpanPart) → uses_of same_part [] x ≡ 0
    none x = refl

-- One more token is appended.
pub held_pushed : (tokens : List InternedToken) (parts parts_now : List (SpanPart × ℕ)) (symbols symbols_now : List (List ℕ × ℕ)) (held : List HeldToken) (t : InternedToken) (h : HeldToken)
    → AreHeld tokens parts symbols held → length held < 4294967296
    → Grows parts parts_now → CountsMore same_part (counted_parts h) parts parts_now
    → Grows symbols symbols_now → CountsMore bytes_eq (counted_symbols h) symbols symbols_now
    → keys_of symbols_now ≡ different bytes_eq (symbols_in held ++ counted_symbols h)
    → Names (tables_of parts_now symbols_now) t h → AreHeld (tokens ++ t ∷ []) parts_now symbols_now (held ++ h ∷ [])
held_pushed tokens parts parts_now symbols symbols_now held t h are few part_grows part_more symbol_grows symbol_more order named =
    record {
      named = named-push _ tokens held t h (all_stay (tables_of parts symbols) (tables_of parts_now symbols_now) tokens held (keep_all _ _ part_grows symbol_grows held) are.named) named;
      parts_counted = λ x. omega (arith, part_more x, are.parts_counted x, ap (λ l. uses_of same_part l x) (uses_pushed counted_parts held h), uses-append same_part (parts_in held) (counted_parts h) x);
      symbols_counted = λ x. omega (arith, symbol_more x, are.symbols_counted x, ap (λ l. uses_of bytes_eq l x) (uses_pushed counted_symbols held h), uses-append bytes_eq (symbols_in held) (counted_symbols h) x);
      in_order = order ∙ ap (different bytes_eq) (sym (uses_pushed counted_symbols held h));
      few = omega (arith, few, length-append held (h ∷ []));
    }

-- A token takes the place of another with the same symbols and fewer parts.
pub held_set : (tokens : List InternedToken) (parts now : List (SpanPart × ℕ)) (symbols : List (List ℕ × ℕ)) (held : List HeldToken) (i : ℕ) (t : InternedToken) (old new : HeldToken) (more : List SpanPart)
    → AreHeld tokens parts symbols held → slice_get held i ≡ Some old → Grows parts now → CountsMore same_part more parts now
    → ((x : SpanPart) → uses_of same_part (counted_parts new) x ≡ uses_of same_part (counted_parts old) x + uses_of same_part more x)
    → counted_symbols new ≡ counted_symbols old → Names (tables_of now symbols) t new → AreHeld (set tokens i t) now symbols (set held i new)
held_set tokens parts now symbols held i t old new more are at grows grown part_uses symbol_uses named =
    record {
      named = named-set _ tokens held i t new (all_stay (tables_of parts symbols) (tables_of now symbols) tokens held (keep_all _ _ grows (λ i x at. at) held) are.named) named;
      parts_counted = λ x. omega (arith, grown x, are.parts_counted x, part_uses x, uses_set counted_parts same_part held i old new x at);
      symbols_counted = subst (λ uses. CountsUses bytes_eq uses symbols) (sym same) are.symbols_counted;
      in_order = are.in_order ∙ ap (different bytes_eq) (sym same);
      few = omega (arith, are.few, length-set held i new);
    }
  where
    same : symbols_in (set held i new) ≡ symbols_in held
    same = same_uses_set counted_symbols held i old new at symbol_uses

named-remove : (tables : Tables) (tokens : List InternedToken) (held : List HeldToken) (i : ℕ) → AllName tables tokens held → AllName tables (remove tokens i) (remove held i)
named-remove tables [] [] zero named = tt
named-remove tables [] [] (suc i) named = tt
named-remove tables [] (h ∷ held) i named = absurd named
named-remove tables (t ∷ tokens) [] i named = absurd named
named-remove tables (t ∷ tokens) (h ∷ held) zero named = named.1
named-remove tables (t ∷ tokens) (h ∷ held) (suc i) named = (named.0, named-remove tables tokens held i named.1)

length-remove : {X : Type 0} (xs : List X) (i : ℕ) → length (remove xs i) ≤ length xs
length-remove [] zero = omega arith
length-remove [] (suc i) = omega arith
length-remove (x ∷ xs) zero = omega arith
length-remove (x ∷ xs) (suc i) = omega (arith, length-remove xs i)

-- A token without symbols is removed, and its uses of parts with it.
pub held_removed : (tokens : List InternedToken) (parts now : List (SpanPart × ℕ)) (symbols : List (List ℕ × ℕ)) (held : List HeldToken) (i : ℕ) (old : HeldToken)
    → AreHeld tokens parts symbols held → slice_get held i ≡ Some old → counted_symbols old ≡ [] → keys_of now ≡ keys_of parts → CountsMore same_part (counted_parts old) now parts
    → AreHeld (remove tokens i) now symbols (remove held i)
held_removed tokens parts now symbols held i old are at none keys fewer =
    record {
      named = named-remove _ tokens held i (subst (λ l. AllName (record { parts = l; symbols = keys_of symbols }) tokens held) (sym keys) are.named);
      parts_counted = λ x. omega (arith, fewer x, are.parts_counted x, uses_removed counted_parts same_part held i old x at);
      symbols_counted = subst (λ uses. CountsUses bytes_eq uses symbols) (sym same) are.symbols_counted;
      in_order = are.in_order ∙ ap (different bytes_eq) (sym same);
      few = omega (arith, are.few, length-remove held i);
    }
  where
    same : symbols_in (remove held i) ≡ symbols_in held
    same = same_uses_removed counted_symbols held i old at none

-- All tokens from a place on are removed, and with them their uses and the last entries without uses.
pub held_cut : (tokens : List InternedToken) (parts parts_mid parts_now : List (SpanPart × ℕ)) (symbols symbols_mid symbols_now : List (List ℕ × ℕ)) (held : List HeldToken) (n : ℕ)
    → AreHeld tokens parts symbols held
    → IsDistinct same_part (keys_of parts) → keys_of parts_mid ≡ keys_of parts → CountsMore same_part (parts_in (drop n held)) parts_mid parts
    → IsCut parts_mid parts_now → ((x : SpanPart) → number_in same_part parts_now x ≡ number_in same_part parts_mid x)
    → IsDistinct bytes_eq (keys_of symbols) → keys_of symbols_mid ≡ keys_of symbols → CountsMore bytes_eq (symbols_in (drop n held)) symbols_mid symbols
    → IsCut symbols_mid symbols_now → ((x : List ℕ) → number_in bytes_eq symbols_now x ≡ number_in bytes_eq symbols_mid x)
    → AreHeld (take n tokens) parts_now symbols_now (take n held)
held_cut tokens parts parts_mid parts_now symbols symbols_mid symbols_now held n are part_distinct part_keys part_fewer part_cut part_same symbol_distinct symbol_keys symbol_fewer symbol_cut symbol_same =
    record {
      named = all_stay (tables_of parts symbols) (tables_of parts_now symbols_now) (take n tokens) (take n held)
          (keep_used (tables_of parts symbols) (tables_of parts_now symbols_now) (take n held)
          (λ i x some at. kept_by_cut same_part part_eq.lawful.laws part_sound (parts_in (take n held)) parts_mid parts_now i x
          (subst (IsDistinct same_part) (sym part_keys) part_distinct) parts_mid_right part_cut some (ap (λ l. slice_get l i) part_keys ∙ at))
          (λ i x some at. kept_by_cut bytes_eq symbol_eq.lawful.laws text_sound (symbols_in (take n held)) symbols_mid symbols_now i x
          (subst (IsDistinct bytes_eq) (sym symbol_keys) symbol_distinct) symbols_mid_right symbol_cut some (ap (λ l. slice_get l i) symbol_keys ∙ at)))
          (named-take (tables_of parts symbols) tokens held n are.named);
      parts_counted = λ x. part_same x ∙ parts_mid_right x;
      symbols_counted = λ x. symbol_same x ∙ symbols_mid_right x;
      in_order = in_order_cut bytes_eq symbol_eq.lawful.laws text_sound (symbols_in (take n held)) (symbols_in (drop n held)) symbols_mid symbols_now
          (subst (IsDistinct bytes_eq) (sym symbol_keys) symbol_distinct) (symbol_keys ∙ are.in_order ∙ ap (different bytes_eq) (uses_cut counted_symbols held n)) symbols_mid_right symbol_cut;
      few = omega (arith, are.few, length-take-most held n);
    }
  where
    length-take-most : {X : Type 0} (xs : List X) (n : ℕ) → length (take n xs) ≤ length xs
    length-take-most xs zero = omega arith
    length-take-most [] (suc n) = omega arith
    length-take-most (x ∷ xs) (suc n) = omega (arith, length-take-most xs n)

    parts_mid_right : CountsUses same_part (parts_in (take n held)) parts_mid
    parts_mid_right x =
        omega (
          arith,
          part_fewer x,
          are.parts_counted x,
          ap (λ l. uses_of same_part l x) (uses_cut counted_parts held n),
          uses-append same_part (parts_in (take n held)) (parts_in (drop n held)) x,
        )

    symbols_mid_right : CountsUses bytes_eq (symbols_in (take n held)) symbols_mid
    symbols_mid_right x =
        omega (
          arith,
          symbol_fewer x,
          are.symbols_counted x,
          ap (λ l. uses_of bytes_eq l x) (uses_cut counted_symbols held n),
          uses-append bytes_eq (symbols_in (take n held)) (symbols_in (drop n held)) x,
        )
