-- How values are collected in the order of their first uses.
use Rattle.std.proofs.Common.{◌≡◌, ℕ, ◌+◌, ◌<◌, ◌≤◌, Bool, true, false, cond, Some, List, [], ◌∷◌, ◌++◌, fold, flat_map, get_or, take, length, length-append, slice_get, refl, ap, sym, subst, ◌∙◌, append-nil, append_assoc, arith}
use Rattle.std.proofs.lemmas.Map.Keys.{any_passes_from_place}
use Rattle.std.specs.Cmp.{IsEquivalence}
use Rattle.std.specs.List.{list_any}
use Rattle.tt_tables.specs.TableOrder.{different}
use Rattle.tt_pack.specs.Counted.{note_value}
use Rattle.tt_pack.specs.TablesOf.{StandsAt}
use Rattle.tt_tables.proofs.Different.{different-snoc}
use Rattle.tt_pack.proofs.RowOrder.{slice_get-front}
use Rattle.tt_pack.proofs.UsesGrow.{uses_grow}

-- ---- one value

module _ {X : Type 0} (same : X → X → Bool) where
  -- A value that is there adds nothing.
  pub noted_there : IsEquivalence same → (values : List X) (i : ℕ) (x : X) → slice_get values i ≡ Some x → values ≡ note_value same values x
  noted_there laws values i x at = sym (ap (λ t. cond t values (values ++ x ∷ [])) (any_passes_from_place (λ y. same y x) values i x at (laws.refl x)))

  -- One more value leaves each at its place.
  pub stays_noted : (values : List X) (x : X) (i : ℕ) (y : X) → slice_get values i ≡ Some y → slice_get (note_value same values x) i ≡ Some y
  stays_noted values x i y at = by_test (list_any (λ z. same z x) values)
    where
      by_test : (t : Bool) → slice_get (cond t values (values ++ x ∷ [])) i ≡ Some y
      by_test true = at
      by_test false = slice_get-front values x i y at

  no_fewer_noted : (values : List X) (x : X) → length values ≤ length (note_value same values x)
  no_fewer_noted values x = by_test (list_any (λ z. same z x) values)
    where
      by_test : (t : Bool) → length values ≤ length (cond t values (values ++ x ∷ []))
      by_test true = omega arith
      by_test false = omega (arith, length-append values (x ∷ []))

  pub stands_noted : (i : ℕ) (y : X) (values : List X) (x : X) → StandsAt values i y → StandsAt (note_value same values x) i y
  stands_noted i y values x at few = stays_noted values x i y (at (omega (arith, few, no_fewer_noted values x)))

  -- The same for more values.
  pub stands_for_noted : (i : ℕ) (y : X) (values more : List X) → StandsAt values i y → StandsAt (fold (note_value same) values more) i y
  stands_for_noted i y values [] at = at
  stands_for_noted i y values (x ∷ more) at = stands_for_noted i y (note_value same values x) more (stands_noted i y values x at)

-- ---- the values of tokens

module _ {X : Type 0} (same : X → X → Bool) (laws : IsEquivalence same) where
  pub different_more : (uses more : List X) → fold (note_value same) (different same uses) more ≡ different same (uses ++ more)
  different_more uses [] = ap (different same) (sym (append-nil uses))
  different_more uses (x ∷ more) =
      ap (λ values. fold (note_value same) values more) (sym (different-snoc same laws uses x))
      ∙ different_more (uses ++ x ∷ []) more
      ∙ ap (different same) (append_assoc uses (x ∷ []) more)

  -- One more token adds its own uses.
  pub noted_token : {A : Type 0} (f : A → List X) (tokens : List A) (i : ℕ) (x : A) (before after : List X) → i < length tokens → x ≡ get_or tokens i x
      → before ≡ different same (flat_map f (take i tokens)) → after ≡ fold (note_value same) before (f x)
      → after ≡ different same (flat_map f (take (i + 1) tokens))
  noted_token f tokens i x before after within here e g =
      g ∙ ap (λ values. fold (note_value same) values (f x)) e
      ∙ different_more (flat_map f (take i tokens)) (f x)
      ∙ ap (different same) (uses_grow f tokens i x (flat_map f (take i tokens)) (flat_map f (take i tokens) ++ f x) within here refl refl)

  -- The different values of some uses become those of one more use.
  pub meets_noted : (uses old new : List X) (x : X) (index : ℕ) → old ≡ different same uses → new ≡ note_value same old x → StandsAt new index x
      → (new ≡ different same (uses ++ x ∷ [])) × StandsAt (different same (uses ++ x ∷ [])) index x
  meets_noted uses old new x index is more at =
      let now : new ≡ different same (uses ++ x ∷ []) = more ∙ ap (λ values. note_value same values x) is ∙ sym (different-snoc same laws uses x) in
      (now, subst (λ values. StandsAt values index x) now at)
