-- `==` of names is sameness, and what follows for lists of names.
use Rattle.std.proofs.Common.{◌≡◌, ◌+◌, ◌<◌, ◌≤◌, ◌&&◌, ℕ, zero, suc, Bool, true, false, cond, not, List, [], ◌∷◌, None, Some, length, get_or, map, bytes_eq, nat_lt, slice_get, option_map, refl, ap, sym, ◌∙◌, arith}
use Rattle.std.proofs.lemmas.Bool.Decides.{nat_tests}
use Rattle.std.specs.Prelude.{position}
use Rattle.std.specs.List.{position_or_len, zip}
use Rattle.tt.specs.Forest.{Forest, end}
use Rattle.tt.specs.Types.IdentIsRaw.{IdentIsRaw}
use Rattle.tt.specs.Types.IdentIsRaw.TheVariants.{No, Yes}
use Rattle.tt_base.specs.contracts.ident.IdentIsRawPartialEq.TheImpl as raw_impl
use Rattle.mbe_rule.specs.declared.variable.Name.{Name}
use Rattle.mbe_rule.specs.contracts.variable.NamePartialEq.TheImpl as name_impl
use Rattle.mbe_rule.specs.Instances.{bound_to}
use Rattle.mbe_rule.specs.Variables.{same_name, same_rawness}

-- The same for rawness.
raw_eq : (a b : IdentIsRaw) → (raw_impl.ghosts).eq a b ≡ same_rawness a b
raw_eq No No = refl
raw_eq No Yes = refl
raw_eq Yes No = refl
raw_eq Yes Yes = refl

-- `==` of names is sameness.
pub name_eq : (name_impl.ghosts).eq ≡ same_name
name_eq = λ i a b. bytes_eq a.text b.text && raw_eq a.is_raw b.is_raw i

-- A name that is not among the names is bound to nothing.
pub bound_missed : (name : Name) (names : List Name) (trees : List Forest) → length names ≤ position_or_len (same_name name) names
    → bound_to name (zip names trees) ≡ end
bound_missed name [] trees past = refl
bound_missed name (n ∷ names) [] past = refl
bound_missed name (n ∷ names) (t ∷ trees) past = by (same_name name n) past (bound_missed name names trees)
  where
    by : (b : Bool) → length (n ∷ names) ≤ cond (not b) (1 + position_or_len (same_name name) names) 0
        → (length names ≤ position_or_len (same_name name) names → bound_to name (zip names trees) ≡ end)
        → cond b t (bound_to name (zip names trees)) ≡ end
    by true h rest = absurd (omega (arith, h))
    by false h rest = rest (omega (arith, h))

-- A name is bound to the tree of its index.
pub bound_found : (name : Name) (names : List Name) (trees : List Forest) → position_or_len (same_name name) names < length names
    → bound_to name (zip names trees) ≡ get_or trees (position_or_len (same_name name) names) end
bound_found name [] trees among = absurd (omega (arith, among))
bound_found name (n ∷ names) [] among = refl
bound_found name (n ∷ names) (t ∷ trees) among = by (same_name name n) among (bound_found name names trees)
  where
    by : (b : Bool) → cond (not b) (1 + position_or_len (same_name name) names) 0 < length (n ∷ names)
        → (position_or_len (same_name name) names < length names → bound_to name (zip names trees) ≡ get_or trees (position_or_len (same_name name) names) end)
        → cond b t (bound_to name (zip names trees)) ≡ get_or (t ∷ trees) (cond (not b) (1 + position_or_len (same_name name) names) 0) end
    by true h rest = refl
    by false h rest =
        let next : suc (position_or_len (same_name name) names) ≡ 1 + position_or_len (same_name name) names = omega arith in
        rest (omega (arith, h)) ∙ ap (λ i. get_or (t ∷ trees) i end) next

-- The index of a name among names, if it is there.
index_of : (test : Name → Bool) (names : List Name) (i : ℕ) → position test names ≡ Some i → (position_or_len test names ≡ i) × (position_or_len test names < length names)
index_of test names i e = by (nat_lt (position_or_len test names) (length names)) refl e
  where
    by : (b : Bool) → nat_lt (position_or_len test names) (length names) ≡ b → cond b (Some (position_or_len test names)) None ≡ Some i
        → (position_or_len test names ≡ i) × (position_or_len test names < length names)
    by true lt same = (cc, grind (arith, nat_tests))
    by false lt same = absurd (cc same)

-- If it is not there.
index_none : (test : Name → Bool) (names : List Name) → position test names ≡ None → length names ≤ position_or_len test names
index_none test names e = by (nat_lt (position_or_len test names) (length names)) refl e
  where
    by : (b : Bool) → nat_lt (position_or_len test names) (length names) ≡ b → cond b (Some (position_or_len test names)) None ≡ None
        → length names ≤ position_or_len test names
    by true lt same = absurd (cc same)
    by false lt same = grind (arith, nat_tests)

-- The item at an index.
get_some : (trees : List Forest) (i : ℕ) (tree : Forest) → slice_get trees i ≡ Some tree → get_or trees i end ≡ tree
get_some [] i tree e = absurd (cc e)
get_some (t ∷ trees) zero tree e = cc
get_some (t ∷ trees) (suc i) tree e = get_some trees i tree e

get_none : (trees : List Forest) (i : ℕ) → slice_get trees i ≡ None → get_or trees i end ≡ end
get_none [] i e = refl
get_none (t ∷ trees) zero e = absurd (cc e)
get_none (t ∷ trees) (suc i) e = get_none trees i e

module _ (name : Name) (names : List Name) (trees : List Forest) where
  -- A name that `==` does not find is bound to nothing.
  pub not_bound : position ((name_impl.ghosts).eq name) names ≡ None → bound_to name (zip names trees) ≡ end
  not_bound e = bound_missed name names trees (index_none (same_name name) names (ap (λ eq. position (eq name) names) (sym name_eq) ∙ e))

  module _ (i : ℕ) (at : position ((name_impl.ghosts).eq name) names ≡ Some i) where
    -- the index, by sameness
    place : (position_or_len (same_name name) names ≡ i) × (position_or_len (same_name name) names < length names)
    place = index_of (same_name name) names i (ap (λ eq. position (eq name) names) (sym name_eq) ∙ at)

    -- A name that it finds is bound to the tree there.
    pub bound_at : (tree : Forest) → slice_get trees i ≡ Some tree → bound_to name (zip names trees) ≡ tree
    bound_at tree e = bound_found name names trees place.1 ∙ ap (λ k. get_or trees k end) place.0 ∙ get_some trees i tree e

    pub bound_past : slice_get trees i ≡ None → bound_to name (zip names trees) ≡ end
    bound_past e = bound_found name names trees place.1 ∙ ap (λ k. get_or trees k end) place.0 ∙ get_none trees i e

-- The item at an index of mapped items.
pub slice_get-map : {X Y : Type 0} (f : X → Y) (xs : List X) (i : ℕ) → slice_get (map f xs) i ≡ option_map f (slice_get xs i)
slice_get-map f [] i = refl
slice_get-map f (x ∷ xs) zero = refl
slice_get-map f (x ∷ xs) (suc i) = slice_get-map f xs i
