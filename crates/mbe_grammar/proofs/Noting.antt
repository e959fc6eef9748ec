-- How a unit that was tried is noted in the list.
use Rattle.std.proofs.Common.{◌≡◌, inl, inr, ◌≤◌, ◌<◌, ℕ, true, false, [], length, take, Some, None, Result, Ok, Err, IfOk, eqb-true, eq-eqb, refl, sym, subst, ap, ◌∙◌, arith}
use Rattle.std.proofs.lemmas.List.{length-take}
use Rattle.std.specs.List.{insert}
use Rattle.std.specs.Prelude.{◌⊎◌, slice_get, Option}
use Rattle.mbe_grammar.specs.declared.trying.Wanted.{Wanted}
use Rattle.mbe_grammar.specs.Tried.{rank_among, is_at, Counts, IsShort, IsNoted}
use Rattle.mbe_grammar.specs.Trying.{IsOneOf, IsListed, IsAscending}
use Rattle.mbe_grammar.proofs.Listing.{IsNew, placed, placed_by, ascending, no_others, new_fits, still_fits, some_placed, old_one}

-- The unit is listed already.
pub noted_before : (unit : ℕ) (old : Wanted) (k : ℕ) → slice_get old.units.items k ≡ Some unit → IsShort old → IsNoted (Some unit) old.passed old old
noted_before unit old k e short = record {
  held = λ one is. let same : unit ≡ one = cc is in inr (refl, inl (subst (IsOneOf old.units.items) same (old_one unit old.units.items k e)));
  more = λ one place h. h;
  less = λ one h. inr (h, refl);
  short = short;
  nothing = λ none. (none, refl);
}

-- The unit is added.
pub noted_now : (unit : ℕ) (old new : Wanted) → new.passed ≡ old.passed → new.units.items ≡ take 8 (insert old.units.items (rank_among unit old.units.items) unit)
    → IsNew unit old.units.items → IsShort old → IsNoted (Some unit) old.passed old new
noted_now unit old new place items is_new short =
    let all : new.units.items ≡ take 8 (placed unit old.units.items) = items ∙ ap (take 8) (placed_by unit old.units.items) in
    let length_of : length (take 8 (placed unit old.units.items)) ≤ 8 = omega (arith, length-take 8 (placed unit old.units.items)) in record {
      held = λ one is. let same : unit ≡ one = cc is in inr (sym place, subst (λ xs. IsListed xs one) (sym all) (subst (IsListed (take 8 (placed unit old.units.items))) same (new_fits 8 unit old.units.items)));
      more = λ one there h. counts all one there h;
      less = λ one h. others all one (no_others 8 unit old.units.items one (subst (λ xs. IsOneOf xs one) all h));
      short = (
        subst IsAscending (sym all) (ascending 8 unit old.units.items is_new short.0),
        subst (λ xs. length xs ≤ 8) (sym all) length_of,
      );
      nothing = λ none. absurd (some_placed 7 unit old.units.items (sym all ∙ none));
    }
  where
    counts : new.units.items ≡ take 8 (placed unit old.units.items) → (one there : ℕ) → Counts old one there → Counts new one there
    counts all one there (inl less) = inl (subst (λ p. there < p) (sym place) less)
    counts all one there (inr (same, listed)) =
        inr (same ∙ sym place, subst (λ xs. IsListed xs one) (sym all) (still_fits 8 unit old.units.items one is_new short.0 listed))

    others : new.units.items ≡ take 8 (placed unit old.units.items) → (one : ℕ) → (unit ≡ one) ⊎ IsOneOf old.units.items one
        → ((Some unit ≡ Some one) × (new.passed ≡ old.passed)) ⊎ (IsOneOf old.units.items one × (new.passed ≡ old.passed))
    others all one (inl e) = inl (ap Some e, place)
    others all one (inr h) = inr (h, place)

-- A unit that was tried after fewer trees does not count.
pub noted_behind : (unit passed : ℕ) (old : Wanted) → passed < old.passed → IsShort old → IsNoted (Some unit) passed old old
noted_behind unit passed old less short = record {
  held = λ one is. inl less;
  more = λ one place h. h;
  less = λ one h. inr (h, refl);
  short = short;
  nothing = λ none. (none, refl);
}

-- No unit was tried.
pub noted_none : (passed : ℕ) (old : Wanted) → IsShort old → IsNoted None passed old old
noted_none passed old short = record {
  held = λ one is. absurd (cc is);
  more = λ one place h. h;
  less = λ one h. inr (h, refl);
  short = short;
  nothing = λ none. (none, refl);
}

-- Other units that were tried after fewer trees do not count.
pub noted_farther : (unit passed : ℕ) (old middle new : Wanted) → old.passed < passed → middle.passed ≡ passed → middle.units.items ≡ [] → IsNoted (Some unit) middle.passed middle new
    → IsNoted (Some unit) passed old new
noted_farther unit passed old middle new less place none n = record {
  held = λ one is. subst (Counts new one) place (n.held one is);
  more = λ one there h. n.more one there (before one there h);
  less = λ one h. fewer one (n.less one h);
  short = n.short;
  nothing = λ empty. absurd (listed (n.nothing empty).1 empty (n.held unit refl));
}
  where
    before : (one there : ℕ) → Counts old one there → Counts middle one there
    before one there (inl h) = inl (omega (arith, h, less, place))
    before one there (inr h) = inl (omega (arith, h.0, less, place))

    fewer : (one : ℕ) → ((Some unit ≡ Some one) × (new.passed ≡ middle.passed)) ⊎ (IsOneOf middle.units.items one × (new.passed ≡ middle.passed))
        → ((Some unit ≡ Some one) × (new.passed ≡ passed)) ⊎ (IsOneOf old.units.items one × (new.passed ≡ old.passed))
    fewer one (inl h) = inl (h.0, h.1 ∙ place)
    fewer one (inr h) = absurd (subst (λ xs. IsOneOf xs one) none h.0)

    listed : new.passed ≡ middle.passed → new.units.items ≡ [] → Counts new unit middle.passed → ⊥
    listed same e (inl h) = absurd (omega (arith, h, same))
    listed same e (inr (place, inl h)) = subst (λ xs. IsOneOf xs unit) e h
    listed same e (inr (place, inr h)) = let few : 8 ≡ 0 = sym h.0 ∙ ap length e in absurd (cc few)

-- A number is one of an option.
pub at_yes : (it : Option ℕ) (unit : ℕ) → is_at it unit ≡ true → it ≡ Some unit
at_yes None unit e = absurd (cc e)
at_yes (Some one) unit e = ap Some (eqb-true one unit e)

pub at_no : (it : Option ℕ) (unit : ℕ) → is_at it unit ≡ false → it ≡ Some unit → ⊥
at_no None unit e h = absurd (cc h)
at_no (Some one) unit e h = let same : one ≡ unit = cc h in absurd (cc (sym e ∙ eq-eqb one unit same))

-- What holds if a call succeeds.
pub carried_ok : {T E : Type 0} (P Q : T → Type 0) → ((x : T) → P x → Q x) → (r : Result T E) → IfOk r P → IfOk r Q
carried_ok P Q f (Ok x) h = f x h
carried_ok P Q f (Err e) h = tt
