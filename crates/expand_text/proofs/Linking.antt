-- The last of a name, found by its place.
use Rattle.std.proofs.Common.{◌≡◌, ◌++◌, ◌<◌, ℕ, suc, Bool, true, false, List, [], ◌∷◌, length, map, cond, is_some, refl, sym, ap, ap₂, ◌∙◌, append_assoc, append-nil, length-append, arith, subst, Option, None, Some}
use Rattle.std.proofs.lemmas.Bool.{false≢true}
use Rattle.std.proofs.lemmas.List.{length-map, map-append}
use Rattle.std.proofs.lemmas.Option.{slice_get_within}
use Rattle.std.proofs.lemmas.Slice.Eq.{bytes_eq-Decides}
use Rattle.std.specs.Option.{option_flatten, option_to_list}
use Rattle.std.specs.Prelude.{slice_get, bytes_eq}
use Rattle.expand_text.specs.LastPlaces.{last_place, links_behind, links_of, place_or}
use Rattle.expand_text.specs.Scopes.{last_by, or_else}

-- One more name takes the place of the same names before it.
pub last_place-more : (names : List (List ℕ)) (more name : List ℕ) → last_place (names ++ more ∷ []) name ≡ cond (bytes_eq more name) (Some (length names)) (last_place names name)
last_place-more [] more name = by (bytes_eq more name)
  where
    by : (same : Bool) → place_or None same ≡ cond same (Some 0) None
    by true = refl
    by false = refl
last_place-more (first ∷ names) more name = ap (λ n. place_or n (bytes_eq first name)) (last_place-more names more name) ∙ by (bytes_eq more name)
  where
    by : (same : Bool) → place_or (cond same (Some (length names)) (last_place names name)) (bytes_eq first name)
        ≡ cond same (Some (suc (length names))) (place_or (last_place names name) (bytes_eq first name))
    by true = refl
    by false = refl

links_behind-more : (before names : List (List ℕ)) (more : List ℕ) → links_behind before (names ++ more ∷ []) ≡ links_behind before names ++ last_place (before ++ names) more ∷ []
links_behind-more before [] more = ap (λ ns. last_place ns more ∷ []) (sym (append-nil before))
links_behind-more before (name ∷ names) more =
    ap (λ ls. last_place before name ∷ ls) (links_behind-more (before ++ name ∷ []) names more
    ∙ ap (λ ns. links_behind (before ++ name ∷ []) names ++ last_place ns more ∷ []) (append_assoc before (name ∷ []) names))

-- The new name is linked to the last of them.
pub links_of-more : (names : List (List ℕ)) (more : List ℕ) → links_of (names ++ more ∷ []) ≡ links_of names ++ last_place names more ∷ []
links_of-more names more = links_behind-more [] names more

-- both are there, the one at the place that is the other, or neither is
abbrev pub IsAtPlace : {A : Type 0} → List A → Option ℕ → Option A → Type 0
IsAtPlace its None None = Unit {0}
IsAtPlace its None (Some it) = ⊥
IsAtPlace its (Some place) None = ⊥
IsAtPlace its (Some place) (Some it) = slice_get its place ≡ Some it

-- The last thing of a name is at the last place of that name.
pub last_at_place : {A : Type 0} (name_of : A → List ℕ) (name : List ℕ) (its : List A) → IsAtPlace its (last_place (map name_of its) name) (last_by name_of name its)
last_at_place name_of name [] = tt
last_at_place {A} name_of name (first ∷ its) = by (last_place (map name_of its) name) (last_by name_of name its) (bytes_eq (name_of first) name) (last_at_place name_of name its)
  where
    by : (place : Option ℕ) (found : Option A) (same : Bool) → IsAtPlace its place found
        → IsAtPlace (first ∷ its) (place_or place same) (or_else found (cond same (Some first) None))
    by None None true at_place = refl
    by None None false at_place = tt
    by None (Some it) same at_place = absurd at_place
    by (Some place) None same at_place = absurd at_place
    by (Some place) (Some it) same at_place = at_place

-- What is at the last place of a name is the last thing of it.
pub last_at : {A : Type 0} (name_of : A → List ℕ) (name : List ℕ) (its : List A) (place : ℕ) → last_place (map name_of its) name ≡ Some place
    → slice_get its place ≡ last_by name_of name its
last_at {A} name_of name its place is = by (last_by name_of name its) (subst (λ p. IsAtPlace its p (last_by name_of name its)) is (last_at_place name_of name its))
  where
    by : (found : Option A) → IsAtPlace its (Some place) found → slice_get its place ≡ found
    by None at_place = absurd at_place
    by (Some it) at_place = at_place

-- The last place of a name is a place among the things.
pub last_there : {A : Type 0} (name_of : A → List ℕ) (name : List ℕ) (its : List A) (place : ℕ) → last_place (map name_of its) name ≡ Some place → place < length its
last_there {A} name_of name its place is = by (last_by name_of name its) (subst (λ p. IsAtPlace its p (last_by name_of name its)) is (last_at_place name_of name its))
  where
    by : (found : Option A) → IsAtPlace its (Some place) found → place < length its
    by None at_place = absurd at_place
    by (Some it) at_place = slice_get_within its place it at_place

-- If a name has no last place, no thing has that name.
pub last_none : {A : Type 0} (name_of : A → List ℕ) (name : List ℕ) (its : List A) → last_place (map name_of its) name ≡ None → last_by name_of name its ≡ None
last_none {A} name_of name its is = by (last_by name_of name its) (subst (λ p. IsAtPlace its p (last_by name_of name its)) is (last_at_place name_of name its))
  where
    by : (found : Option A) → IsAtPlace its None found → found ≡ None
    by None at_place = refl
    by (Some it) at_place = absurd at_place

-- Lists that end with one more thing are the same only if the lists before it are.
more_same : {A : Type 0} (xs ys : List A) (x y : A) → xs ++ x ∷ [] ≡ ys ++ y ∷ [] → (xs ≡ ys) × (x ≡ y)
more_same [] [] x y e = (refl, cc e)
more_same [] (b ∷ ys) x y e = absurd (omega (arith, ap length e, length-append ys (y ∷ [])))
more_same (a ∷ xs) [] x y e = absurd (omega (arith, ap length e, length-append xs (x ∷ [])))
more_same (a ∷ xs) (b ∷ ys) x y e = let (same, last) = more_same xs ys x y (cc e) in (ap₂ (λ z zs. z ∷ zs) (cc e) same, last)

module _ {A : Type 0} (name_of : A → List ℕ) (its : List A) (it : A) where
  -- their names
  abbrev names : List (List ℕ)
  names = map name_of its

  names_more : map name_of (its ++ it ∷ []) ≡ names ++ name_of it ∷ []
  names_more = map-append name_of its (it ∷ [])

  place_more : (name : List ℕ) → last_place (map name_of (its ++ it ∷ [])) name ≡ cond (bytes_eq (name_of it) name) (Some (length its)) (last_place names name)
  place_more name =
      ap (λ ns. last_place ns name) names_more ∙ last_place-more names (name_of it) name
      ∙ ap (λ n. cond (bytes_eq (name_of it) name) (Some n) (last_place names name)) (length-map its name_of)

  -- One more thing is linked to the last of its name,
  pub linked_more : (before now : List (Option ℕ)) (place : Option ℕ) → before ≡ links_of names → place ≡ last_place names (name_of it) → now ≡ before ++ place ∷ []
      → now ≡ links_of (map name_of (its ++ it ∷ []))
  linked_more before now place linked last is = is ∙ ap₂ (λ ls p. ls ++ p ∷ []) linked last ∙ sym (links_of-more names (name_of it)) ∙ ap links_of (sym names_more)

  -- and takes its place.
  pub placed_more : (old new : List ℕ → Option ℕ) → ((name : List ℕ) → old name ≡ last_place names name)
      → ((name : List ℕ) → new name ≡ cond (bytes_eq (name_of it) name) (Some (length its)) (old name))
      → (name : List ℕ) → new name ≡ last_place (map name_of (its ++ it ∷ [])) name
  placed_more old new placed updates name =
      updates name ∙ ap (λ p. cond (bytes_eq (name_of it) name) (Some (length its)) p) (placed name) ∙ sym (place_more name)

  -- Without the last thing, the links are those of the others, and it was linked to the last of its name.
  pub linked_fewer : (before now : List (Option ℕ)) (place : Option (Option ℕ)) → before ≡ links_of (map name_of (its ++ it ∷ []))
      → before ≡ now ++ option_to_list place → (0 < length before → is_some place ≡ true)
      → (now ≡ links_of names) × (option_flatten place ≡ last_place names (name_of it))
  linked_fewer before now place linked parts there = by place parts there
    where
      more : before ≡ links_of names ++ last_place names (name_of it) ∷ []
      more = linked ∙ ap links_of names_more ∙ links_of-more names (name_of it)

      by : (place : Option (Option ℕ)) → before ≡ now ++ option_to_list place → (0 < length before → is_some place ≡ true)
          → (now ≡ links_of names) × (option_flatten place ≡ last_place names (name_of it))
      by None parts there = absurd (false≢true (there (omega (arith, ap length more, length-append (links_of names) (last_place names (name_of it) ∷ [])))))
      by (Some place) parts there = more_same now (links_of names) place (last_place names (name_of it)) (sym parts ∙ more)

  -- If the link is put back, the places are those of the others.
  pub placed_fewer : (old new : List ℕ → Option ℕ) → ((name : List ℕ) → old name ≡ last_place (map name_of (its ++ it ∷ [])) name)
      → ((name : List ℕ) → new name ≡ cond (bytes_eq (name_of it) name) (last_place names (name_of it)) (old name))
      → (name : List ℕ) → new name ≡ last_place names name
  placed_fewer old new placed updates name = updates name ∙ by (bytes_eq (name_of it) name) (bytes_eq-Decides (name_of it) name).0 (placed name ∙ place_more name)
    where
      by : (same : Bool) → (same ≡ true → name_of it ≡ name) → old name ≡ cond same (Some (length its)) (last_place names name)
          → cond same (last_place names (name_of it)) (old name) ≡ last_place names name
      by true same e = ap (last_place names) (same refl)
      by false same e = e

  -- A name has a place while it is among them.
  pub placed_there : (old : List ℕ → Option ℕ) → ((name : List ℕ) → old name ≡ last_place (map name_of (its ++ it ∷ [])) name) → is_some (old (name_of it)) ≡ true
  placed_there old placed =
      ap is_some (placed (name_of it) ∙ place_more (name_of it) ∙ ap (λ b. cond b (Some (length its)) (last_place names (name_of it))) ((bytes_eq-Decides (name_of it) (name_of it)).1 refl))
