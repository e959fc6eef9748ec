-- Places in the order of their first uses, and the rank of each.
use Rattle.std.proofs.Common.{◌≡◌, ℕ, zero, suc, ◌+◌, ◌<◌, ◌≤◌, Bool, true, false, cond, ◌⊎◌, inl, inr, Some, List, [], ◌∷◌, ◌++◌, fold, flat_map, get_or, set, take, drop, length, nat_eq, slice_get, refl, ap, sym, subst, ◌∙◌, append-nil, append_assoc, length-append, true≢false, arith}
use Rattle.std.proofs.lemmas.Bool.{eqb-true}
use Rattle.std.proofs.lemmas.Cmp.{nat_eq_equiv}
use Rattle.std.proofs.lemmas.Grind.{flat_map-append}
use Rattle.std.proofs.lemmas.List.{take-append-drop, get_or_default}
use Rattle.std.proofs.lemmas.List.Folds.{Any-from_list_any}
use Rattle.std.proofs.lemmas.Option.{slice_get_within, slice_get_read}
use Rattle.std.proofs.lemmas.Map.Keys.{any_passes_from_place}
use Rattle.std.specs.Cmp.{IsEquivalence}
use Rattle.std.specs.List.{list_any}
use Rattle.tt_tables.specs.TableOrder.{different}
use Rattle.tt_pack.specs.Counted.{note_value}
use Rattle.tt_pack.specs.Places.{AreRanked}
use Rattle.tt_pack.proofs.Noting.{different_more, noted_token}
use Rattle.tt_pack.proofs.RowOrder.{slice_get-set, slice_get-set_other}

-- A value in the list has an index.
pub any_stands : (values : List ℕ) (x : ℕ) → list_any (λ y. nat_eq y x) values ≡ true → (i : ℕ) × (slice_get values i ≡ Some x)
any_stands values x e =
    let (i, y, within, at, is) = Any-from_list_any (λ y. nat_eq y x) values e in
    (i, slice_get_read values (length values) i x refl within (sym (eqb-true y x is) ∙ sym at ∙ get_or_default values i y x within))

-- An item of a list with one more value is an item of the list, or that value.
snoc_stands : (values : List ℕ) (x : ℕ) (i : ℕ) (y : ℕ) → slice_get (values ++ x ∷ []) i ≡ Some y → (slice_get values i ≡ Some y) ⊎ ((i ≡ length values) × (y ≡ x))
snoc_stands [] x zero y at = inr (refl, sym (cc at))
snoc_stands [] x (suc i) y at = absurd (cc at)
snoc_stands (z ∷ values) x zero y at = inl at
snoc_stands (z ∷ values) x (suc i) y at = elim (snoc_stands values x i y at) [
  | inl there ↦ inl there
  | inr (last, is) ↦ inr (ap suc last, is)
]

module _ (order ranks : List ℕ) (place : ℕ) where
  -- A place is in the order exactly if the order has it at its rank.
  pub met_there : (rank read : ℕ) → AreRanked order ranks → slice_get ranks place ≡ Some rank → slice_get order rank ≡ Some read
      → nat_eq read place ≡ list_any (λ other. nat_eq other place) order
  met_there rank read ranked noted here = by_test (list_any (λ other. nat_eq other place) order) refl
    where
      same : (x y : ℕ) → Some x ≡ Some y → x ≡ y
      same x y e = cc e

      by_test : (t : Bool) → list_any (λ other. nat_eq other place) order ≡ t → nat_eq read place ≡ t
      by_test true e =
          let (at, stands) = any_stands order place e in
          let is : at ≡ rank = same at rank (sym (ranked at place stands) ∙ noted) in
          ap (λ x. nat_eq x place) (same read place (sym here ∙ ap (slice_get order) (sym is) ∙ stands)) ∙ nat_eq_equiv.refl place
      by_test false e = apart (nat_eq read place) refl
        where
          apart : (s : Bool) → nat_eq read place ≡ s → nat_eq read place ≡ false
          apart true is = absurd (true≢false (sym (any_passes_from_place (λ other. nat_eq other place) order rank place (here ∙ ap Some (eqb-true read place is)) (nat_eq_equiv.refl place)) ∙ e))
          apart false is = is

  -- A place whose rank is past the end is not in the order.
  pub met_past : (rank : ℕ) → AreRanked order ranks → slice_get ranks place ≡ Some rank → length order ≤ rank → false ≡ list_any (λ other. nat_eq other place) order
  met_past rank ranked noted past = by_test (list_any (λ other. nat_eq other place) order) refl
    where
      same : (x y : ℕ) → Some x ≡ Some y → x ≡ y
      same x y e = cc e

      by_test : (t : Bool) → list_any (λ other. nat_eq other place) order ≡ t → false ≡ t
      by_test true e =
          let (at, stands) = any_stands order place e in
          absurd (beyond (same at rank (sym (ranked at place stands) ∙ noted)) (slice_get_within order at place stands))
        where
          beyond : {at : ℕ} → at ≡ rank → at < length order → ⊥
          beyond is within = omega (arith, is, within, past)
      by_test false e = refl

  -- A place that comes last has the next rank.
  pub ranked_next : AreRanked order ranks → list_any (λ other. nat_eq other place) order ≡ false → place < length ranks → AreRanked (order ++ place ∷ []) (set ranks place (length order))
  ranked_next ranked new within rank other at = elim (snoc_stands order place rank other at) [
    | inl before ↦ slice_get-set_other ranks place other (length order) (λ is. absurd (true≢false (sym (any_passes_from_place (λ other. nat_eq other place) order rank place (before ∙ ap Some (sym is)) (nat_eq_equiv.refl place)) ∙ new))) ∙ ranked rank other before
    | inr (last, is) ↦ ap (slice_get (set ranks place (length order))) is ∙ slice_get-set ranks place (length order) within ∙ ap Some (sym last)
  ]

-- ---- after all values are there

module _ {X : Type 0} (same : X → X → Bool) where
  -- More uses add values only at the end.
  noted_behind : (values more : List X) → (behind : List X) × (fold (note_value same) values more ≡ values ++ behind)
  noted_behind values [] = ([], sym (append-nil values))
  noted_behind values (x ∷ more) = by_test (list_any (λ y. same y x) values) (noted_behind values more) (noted_behind (values ++ x ∷ []) more)
    where
      by_test : (t : Bool) → (behind : List X) × (fold (note_value same) values more ≡ values ++ behind)
          → (behind : List X) × (fold (note_value same) (values ++ x ∷ []) more ≡ (values ++ x ∷ []) ++ behind)
          → (behind : List X) × (fold (note_value same) (cond t values (values ++ x ∷ [])) more ≡ values ++ behind)
      by_test true there new = there
      by_test false there new = (x ∷ new.0, new.1 ∙ append_assoc values (x ∷ []) new.0)

  module _ (laws : IsEquivalence same) where
    -- More uses give no fewer values; if there are no more, the values are the same.
    different_behind : (xs ys : List X) → (behind : List X) × (different same (xs ++ ys) ≡ different same xs ++ behind)
    different_behind xs ys =
        let (behind, is) = noted_behind (different same xs) ys in
        (behind, sym (different_more same laws xs ys) ∙ is)

    pub no_more_different : (xs ys : List X) → length (different same (xs ++ ys)) ≤ length (different same xs) → different same xs ≡ different same (xs ++ ys)
    no_more_different xs ys few =
        let (behind, is) = different_behind xs ys in
        sym (is ∙ ap (λ l. different same xs ++ l) (empty behind (omega (arith, few, ap length is, length-append (different same xs) behind))) ∙ append-nil (different same xs))
      where
        empty : (l : List X) → length l ≤ 0 → l ≡ []
        empty [] h = refl
        empty (x ∷ l) h = absurd (omega (arith, h))

    -- One more token adds its own uses.
    pub noted_at : {A : Type 0} (f : A → List X) (tokens : List A) (i : ℕ) (d : A) (before after : List X) → i < length tokens → before ≡ different same (flat_map f (take i tokens))
        → after ≡ fold (note_value same) before (f (get_or tokens i d)) → after ≡ different same (flat_map f (take (i + 1) tokens))
    noted_at f tokens i d before after within e g =
        noted_token same laws f tokens i (get_or tokens i d) before after within (get_or_default tokens i d (get_or tokens i d) within) e g

    -- If the first tokens use as many values as all tokens, they use all values.
    pub all_met : {A : Type 0} (f : A → List X) (tokens : List A) (i : ℕ) → length (different same (flat_map f tokens)) ≤ length (different same (flat_map f (take i tokens)))
        → different same (flat_map f (take i tokens)) ≡ different same (flat_map f tokens)
    all_met f tokens i few =
        no_more_different (flat_map f (take i tokens)) (flat_map f (drop i tokens)) (subst (λ uses. length (different same uses) ≤ length (different same (flat_map f (take i tokens)))) (sym parts) few)
        ∙ ap (different same) parts
      where
        parts : flat_map f (take i tokens) ++ flat_map f (drop i tokens) ≡ flat_map f tokens
        parts = sym (flat_map-append f (take i tokens) (drop i tokens)) ∙ ap (flat_map f) (take-append-drop i tokens)
