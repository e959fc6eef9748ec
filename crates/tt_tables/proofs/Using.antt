-- The uses of lists of items, after one is appended, changed or removed, and after all from a place on are removed.
use Rattle.std.proofs.Common.{◌≡◌, ℕ, zero, suc, ◌+◌, ◌*◌, ◌≤◌, Bool, List, [], ◌∷◌, ◌++◌, Some, length, take, drop, set, slice_get, refl, ap, sym, ◌∙◌, arith, append_assoc, append-nil}
use Rattle.std.specs.List.{flat_map, remove}
use Rattle.tt_base.specs.declared.leaf.Leaf.TheVariants as leaf
use Rattle.tt_base.specs.declared.token_tree.TokenTree.TheVariants as token
use Rattle.tt_tables.proofs.Used.{uses-append}
use Rattle.tt_tables.specs.Held.{HeldToken, whole, opened, parts_in, symbols_in}
use Rattle.tt_tables.specs.TableOrder.{uses_of}

-- ---- lists one after the other

-- The uses of two lists, one after the other.
pub uses_joined : {X A : Type 0} (f : X → List A) (xs ys : List X) → flat_map f (xs ++ ys) ≡ flat_map f xs ++ flat_map f ys
uses_joined f [] ys = refl
uses_joined f (x ∷ xs) ys = ap (λ l. f x ++ l) (uses_joined f xs ys) ∙ sym (append_assoc (f x) (flat_map f xs) (flat_map f ys))

-- One item more.
pub uses_pushed : {X A : Type 0} (f : X → List A) (xs : List X) (x : X) → flat_map f (xs ++ x ∷ []) ≡ flat_map f xs ++ f x
uses_pushed f xs x = uses_joined f xs (x ∷ []) ∙ ap (λ l. flat_map f xs ++ l) (append-nil (f x))

-- A list is its first n items, and the others.
pub take_drop : {X : Type 0} (n : ℕ) (xs : List X) → xs ≡ take n xs ++ drop n xs
take_drop zero xs = refl
take_drop (suc n) [] = refl
take_drop (suc n) (x ∷ xs) = ap (λ l. x ∷ l) (take_drop n xs)

-- The uses of a list are those of its first n items, and of the others.
pub uses_cut : {X A : Type 0} (f : X → List A) (xs : List X) (n : ℕ) → flat_map f xs ≡ flat_map f (take n xs) ++ flat_map f (drop n xs)
uses_cut f xs n = ap (flat_map f) (take_drop n xs) ∙ uses_joined f (take n xs) (drop n xs)

-- ---- one item

module _ {X A : Type 0} (f : X → List A) where
  -- With an item that uses the same in the place of another, the uses stay.
  pub same_uses_set : (xs : List X) (i : ℕ) (old new : X) → slice_get xs i ≡ Some old → f new ≡ f old → flat_map f (set xs i new) ≡ flat_map f xs
  same_uses_set [] i old new at same = absurd (cc at)
  same_uses_set (x ∷ xs) zero old new at same =
      let is : x ≡ old = cc at in
      ap (λ l. l ++ flat_map f xs) (same ∙ ap f (sym is))
  same_uses_set (x ∷ xs) (suc i) old new at same = ap (λ l. f x ++ l) (same_uses_set xs i old new at same)

  -- Without an item that uses nothing, the uses stay.
  pub same_uses_removed : (xs : List X) (i : ℕ) (old : X) → slice_get xs i ≡ Some old → f old ≡ [] → flat_map f (remove xs i) ≡ flat_map f xs
  same_uses_removed [] i old at none = absurd (cc at)
  same_uses_removed (x ∷ xs) zero old at none =
      let is : x ≡ old = cc at in
      sym (ap (λ l. l ++ flat_map f xs) (ap f is ∙ none))
  same_uses_removed (x ∷ xs) (suc i) old at none = ap (λ l. f x ++ l) (same_uses_removed xs i old at none)

  module _ (same : A → A → Bool) where
    -- Another item in the place of one.
    pub uses_set : (xs : List X) (i : ℕ) (old new : X) (a : A) → slice_get xs i ≡ Some old
        → uses_of same (flat_map f (set xs i new)) a + uses_of same (f old) a ≡ uses_of same (flat_map f xs) a + uses_of same (f new) a
    uses_set [] i old new a at = absurd (cc at)
    uses_set (x ∷ xs) zero old new a at =
        let is : x ≡ old = cc at in
        omega (
          arith,
          uses-append same (f new) (flat_map f xs) a,
          uses-append same (f x) (flat_map f xs) a,
          ap (λ y. uses_of same (f y) a) is,
        )
    uses_set (x ∷ xs) (suc i) old new a at =
        omega (arith, uses-append same (f x) (flat_map f (set xs i new)) a, uses-append same (f x) (flat_map f xs) a, uses_set xs i old new a at)

    -- An item is removed.
    pub uses_removed : (xs : List X) (i : ℕ) (old : X) (a : A) → slice_get xs i ≡ Some old
        → uses_of same (flat_map f xs) a ≡ uses_of same (flat_map f (remove xs i)) a + uses_of same (f old) a
    uses_removed [] i old a at = absurd (cc at)
    uses_removed (x ∷ xs) zero old a at =
        let is : x ≡ old = cc at in
        omega (arith, uses-append same (f x) (flat_map f xs) a, ap (λ y. uses_of same (f y) a) is)
    uses_removed (x ∷ xs) (suc i) old a at =
        omega (arith, uses-append same (f x) (flat_map f (remove xs i)) a, uses-append same (f x) (flat_map f xs) a, uses_removed xs i old a at)

    -- An item has no more uses than all.
    pub uses_within : (xs : List X) (i : ℕ) (old : X) (a : A) → slice_get xs i ≡ Some old → uses_of same (f old) a ≤ uses_of same (flat_map f xs) a
    uses_within xs i old a at = omega (arith, uses_removed xs i old a at)

-- ---- few uses

-- A token has at most two uses of parts, and one of a symbol.
pub few_parts : (held : List HeldToken) → length (parts_in held) ≤ 2 * length held
few_parts [] = omega arith
few_parts (whole (token.Leaf it) ∷ held) = omega (arith, few_parts held)
few_parts (whole (token.Subtree it) ∷ held) = omega (arith, few_parts held)
few_parts (opened kind open_span ∷ held) = omega (arith, few_parts held)

pub few_symbols : (held : List HeldToken) → length (symbols_in held) ≤ length held
few_symbols [] = omega arith
few_symbols (whole (token.Leaf (leaf.Literal it)) ∷ held) = omega (arith, few_symbols held)
few_symbols (whole (token.Leaf (leaf.Punct it)) ∷ held) = omega (arith, few_symbols held)
few_symbols (whole (token.Leaf (leaf.Ident it)) ∷ held) = omega (arith, few_symbols held)
few_symbols (whole (token.Subtree it) ∷ held) = omega (arith, few_symbols held)
few_symbols (opened kind open_span ∷ held) = omega (arith, few_symbols held)
