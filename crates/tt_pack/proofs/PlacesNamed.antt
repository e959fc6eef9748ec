-- The values at the places of interned tokens are the values of the tokens that they mean.
use Rattle.std.proofs.Common.{◌≡◌, ℕ, zero, suc, ◌+◌, ◌<◌, inl, inr, Bool, true, false, not, cond, Some, All, List, [], ◌∷◌, ◌++◌, map, filter, length, nat_eq, get_or, take, slice_get, refl, ap, sym, subst, ◌∙◌, true≢false}
use Rattle.std.proofs.lemmas.Bool.{eqb-true}
use Rattle.std.proofs.lemmas.Cmp.{nat_eq_equiv}
use Rattle.std.proofs.lemmas.List.Elements.{All-nil, All-cons}
use Rattle.std.proofs.lemmas.List.{take_more}
use Rattle.std.proofs.lemmas.Option.{slice_get_within, slice_get_read, slice_get-map}
use Rattle.indexmap.proofs.SetLemmas.{AllZip-push}
use Rattle.std.specs.Option.{option_map}
use Rattle.std.specs.Cmp.{IsEquivalence}
use Rattle.std.specs.List.{AllZip, AllByRecursion, IsDistinct}
use Rattle.tt_base.specs.declared.leaf.Leaf.TheVariants as leaf
use Rattle.tt_base.specs.declared.span.SpanPart.{SpanPart}
use Rattle.tt_base.specs.declared.token_tree.TokenTree.{TokenTree}
use Rattle.tt_base.specs.declared.token_tree.TokenTree.TheVariants as token
use Rattle.tt_codec.specs.declared.entry.LeafEntry.TheVariants.{Punct as punct, Ident as ident, Literal as literal}
use Rattle.tt_tables.specs.declared.token.InternedToken.{InternedToken}
use Rattle.tt_tables.specs.declared.token.InternedToken.TheVariants as interned
use Rattle.tt_tables.specs.Held.{whole}
use Rattle.tt_tables.specs.Names.{Names, AllName}
use Rattle.tt_tables.specs.TableOrder.{index_in, different}
use Rattle.tt_tables.specs.Tables.{Tables}
use Rattle.tt_tables.specs.Uses.{token_parts, part_uses}
use Rattle.tt_tables.proofs.Members.{Member}
use Rattle.tt_pack.specs.Places.{token_places, part_places, IsWithin, IsAt}
use Rattle.tt_pack.proofs.TableFacts.{index_in-distinct}

-- ---- lists in pairs

module _ {X Y : Type 0} (R : X → Y → Type 0) where
  pub paired-append : (xs xs' : List X) (ys ys' : List Y) → AllZip R xs ys → AllZip R xs' ys' → AllZip R (xs ++ xs') (ys ++ ys')
  paired-append [] xs' [] ys' h k = k
  paired-append [] xs' (y ∷ ys) ys' h k = absurd h
  paired-append (x ∷ xs) xs' [] ys' h k = absurd h
  paired-append (x ∷ xs) xs' (y ∷ ys) ys' h k = (h.0, paired-append xs xs' ys ys' h.1 k)

  -- An item of the second list has its partner at the same index.
  pub partner_at : (xs : List X) (ys : List Y) (i : ℕ) (y : Y) → AllZip R xs ys → slice_get ys i ≡ Some y → (x : X) × (slice_get xs i ≡ Some x) × R x y
  partner_at xs [] i y h at = absurd (cc at)
  partner_at [] (b ∷ ys) i y h at = absurd h
  partner_at (a ∷ xs) (b ∷ ys) zero y h at = let is : b ≡ y = cc at in (a, refl, subst (R a) is h.0)
  partner_at (a ∷ xs) (b ∷ ys) (suc i) y h at = partner_at xs ys i y h.1 at

-- ---- values at places

module _ {X : Type 0} (values : List X) where
  some_same : (x y : X) → Some x ≡ Some y → x ≡ y
  some_same x y e = cc e

  -- The same places have the same values.
  pub values_alike : (places : List ℕ) (xs ys : List X) → AllZip (IsAt values) places xs → AllZip (IsAt values) places ys → xs ≡ ys
  values_alike [] [] [] h k = refl
  values_alike [] [] (y ∷ ys) h k = absurd k
  values_alike [] (x ∷ xs) ys h k = absurd h
  values_alike (p ∷ places) [] ys h k = absurd h
  values_alike (p ∷ places) (x ∷ xs) [] h k = absurd k
  values_alike (p ∷ places) (x ∷ xs) (y ∷ ys) h k =
      ap (λ z. z ∷ xs) (some_same x y (sym h.0 ∙ k.0)) ∙ ap (λ l. y ∷ l) (values_alike places xs ys h.1 k.1)

  -- Each place is less than the number of values.
  pub places_within : (places : List ℕ) (xs : List X) → AllZip (IsAt values) places xs → All (λ place. place < length values) places
  places_within [] [] h = All-nil (λ place. place < length values)
  places_within [] (x ∷ xs) h = absurd h
  places_within (p ∷ places) [] h = absurd h
  places_within (p ∷ places) (x ∷ xs) h = All-cons (λ place. place < length values) p places (slice_get_within values p x h.0) (places_within places xs h.1)

  -- One more value, which is at the next place.
  pub one_more_at : (places : List ℕ) (index : ℕ) (found more : List X) (x : X) → index < length places → All (λ place. place < length values) places
      → x ≡ get_or values (get_or places index 0) x → more ≡ found ++ x ∷ [] → AllZip (IsAt values) (take index places) found → AllZip (IsAt values) (take (index + 1) places) more
  one_more_at places index found more x within all read is before =
      subst (λ l. AllZip (IsAt values) (take (index + 1) places) l) (sym is)
      (subst (λ front. AllZip (IsAt values) front (found ++ x ∷ [])) (sym (take_more places index 0 within))
      (AllZip-push (IsAt values) (take index places) found (get_or places index 0) x before
      (slice_get_read values (length values) (get_or places index 0) x refl (all index 0 within) read)))

  -- The value of a function for each value is at the same place.
  pub mapped_at : {Y : Type 0} (f : X → Y) (places : List ℕ) (xs : List X) → AllZip (IsAt values) places xs → AllZip (IsAt (map f values)) places (map f xs)
  mapped_at f [] [] h = h
  mapped_at f [] (x ∷ xs) h = absurd h
  mapped_at f (p ∷ places) [] h = absurd h
  mapped_at f (p ∷ places) (x ∷ xs) h = (slice_get-map f values p ∙ ap (option_map f) h.0, mapped_at f places xs h.1)

  -- Values at places are among the values.
  pub member_at_place : (places : List ℕ) (xs : List X) → AllZip (IsAt values) places xs → (z : X) → Member z xs → Member z values
  member_at_place [] [] h z m = absurd m
  member_at_place [] (x ∷ xs) h z m = absurd h
  member_at_place (p ∷ places) [] h z m = absurd h
  member_at_place (p ∷ places) (x ∷ xs) h z (inl is) = subst (λ y. Member y values) (sym is) (stands values p x h.0)
    where
      stands : (values : List X) (p : ℕ) (x : X) → slice_get values p ≡ Some x → Member x values
      stands [] p x here = absurd (cc here)
      stands (v ∷ values) zero x here = inl (sym (same v x here))
        where
          same : (v x : X) → Some v ≡ Some x → v ≡ x
          same v x e = cc e
      stands (v ∷ values) (suc p) x here = inr (stands values p x here)
  member_at_place (p ∷ places) (x ∷ xs) h z (inr m) = member_at_place places xs h.1 z m

  module _ (same : X → X → Bool) (laws : IsEquivalence same) (sound : (x y : X) → same x y ≡ true → x ≡ y) (distinct : IsDistinct same values) where
    -- Places are equal, if the values are.
    same_places : (p q : ℕ) (x y : X) → IsAt values p x → IsAt values q y → nat_eq p q ≡ same x y
    same_places p q x y at there = by_test (same x y) refl
      where
        place : (p : ℕ) (x : X) → IsAt values p x → p ≡ index_in (same x) values
        place p x at = sym (index_in-distinct same laws values p x distinct at)

        by_test : (t : Bool) → same x y ≡ t → nat_eq p q ≡ t
        by_test true e = ap (λ n. nat_eq n q) (place p x at ∙ sym (place q x (there ∙ ap Some (sym (sound x y e))))) ∙ nat_eq_equiv.refl q
        by_test false e = apart (nat_eq p q) refl
          where
            apart : (s : Bool) → nat_eq p q ≡ s → nat_eq p q ≡ false
            apart true is = absurd (true≢false (sym (laws.refl x) ∙ ap (same x) (some_same x y (sym at ∙ ap (slice_get values) (eqb-true p q is) ∙ there)) ∙ e))
            apart false is = is

    -- The different places have the different values.
    pub different_at : (places : List ℕ) (xs : List X) → AllZip (IsAt values) places xs → AllZip (IsAt values) (different nat_eq places) (different same xs)
    different_at [] [] h = h
    different_at [] (x ∷ xs) h = absurd h
    different_at (p ∷ places) [] h = absurd h
    different_at (p ∷ places) (x ∷ xs) h = (h.0, others (different nat_eq places) (different same xs) (different_at places xs h.1))
      where
        others : (places : List ℕ) (xs : List X) → AllZip (IsAt values) places xs → AllZip (IsAt values) (filter (λ q. not (nat_eq p q)) places) (filter (λ y. not (same x y)) xs)
        others [] [] k = k
        others [] (y ∷ xs) k = absurd k
        others (q ∷ places) [] k = absurd k
        others (q ∷ places) (y ∷ xs) k = by_tests (nat_eq p q) (same x y) (same_places p q x y h.0 k.0) (others places xs k.1)
          where
            by_tests : (s t : Bool) → s ≡ t → AllZip (IsAt values) (filter (λ q. not (nat_eq p q)) places) (filter (λ y. not (same x y)) xs)
                → AllZip (IsAt values) (cond (not s) (q ∷ filter (λ q. not (nat_eq p q)) places) (filter (λ q. not (nat_eq p q)) places))
                (cond (not t) (y ∷ filter (λ y. not (same x y)) xs) (filter (λ y. not (same x y)) xs))
            by_tests true true e later = later
            by_tests true false e later = absurd (true≢false e)
            by_tests false true e later = absurd (true≢false (sym e))
            by_tests false false e later = (k.0, later)

-- ---- tokens

module _ (tables : Tables) where
  token_named : (it : InternedToken) (meant : TokenTree) → Names tables it (whole meant) → AllZip (IsAt tables.parts) (token_places it) (token_parts meant)
  token_named (interned.Leaf (punct char spacing numbers)) (token.Leaf (leaf.Punct it)) named = (named.0.0.part, tt)
  token_named (interned.Leaf (punct char spacing numbers)) (token.Leaf (leaf.Ident it)) named = absurd named.0
  token_named (interned.Leaf (punct char spacing numbers)) (token.Leaf (leaf.Literal it)) named = absurd named.0
  token_named (interned.Leaf (ident symbol raw numbers)) (token.Leaf (leaf.Punct it)) named = absurd named.0
  token_named (interned.Leaf (ident symbol raw numbers)) (token.Leaf (leaf.Ident it)) named = (named.0.0.part, tt)
  token_named (interned.Leaf (ident symbol raw numbers)) (token.Leaf (leaf.Literal it)) named = absurd named.0
  token_named (interned.Leaf (literal symbol kind suffix_len numbers)) (token.Leaf (leaf.Punct it)) named = absurd named.0
  token_named (interned.Leaf (literal symbol kind suffix_len numbers)) (token.Leaf (leaf.Ident it)) named = absurd named.0
  token_named (interned.Leaf (literal symbol kind suffix_len numbers)) (token.Leaf (leaf.Literal it)) named = (named.0.0.part, tt)
  token_named (interned.Leaf entry) (token.Subtree it) named = absurd named
  token_named (interned.Open kind numbers) meant named = absurd named
  token_named (interned.Header entry) (token.Leaf it) named = absurd named
  token_named (interned.Header entry) (token.Subtree it) named = (named.0.opening.part, (named.0.closing.part, tt))

  -- The places of tokens have the parts that the tokens use.
  pub places_named : (tokens : List InternedToken) (list : List TokenTree) → AllName tables tokens (map whole list) → AllZip (IsAt tables.parts) (part_places tokens) (part_uses list)
  places_named [] [] named = named
  places_named [] (it ∷ list) named = absurd named
  places_named (t ∷ tokens) [] named = absurd named
  places_named (t ∷ tokens) (it ∷ list) named =
      paired-append (IsAt tables.parts) (token_places t) (part_places tokens) (token_parts it) (part_uses list) (token_named t it named.0) (places_named tokens list named.1)

  within_named : (places : List ℕ) (parts : List SpanPart) → AllZip (IsAt tables.parts) places parts → AllByRecursion (λ place. place < length tables.parts) places
  within_named [] [] h = tt
  within_named [] (x ∷ parts) h = absurd h
  within_named (p ∷ places) [] h = absurd h
  within_named (p ∷ places) (x ∷ parts) h = (slice_get_within tables.parts p x h.0, within_named places parts h.1)

  -- The places of a token are less than the number of parts.
  pub token_within : (it : InternedToken) (meant : TokenTree) → Names tables it (whole meant) → IsWithin (length tables.parts) it
  token_within it meant named = within_named (token_places it) (token_parts meant) (token_named it meant named)

  pub all_within : (tokens : List InternedToken) (list : List TokenTree) → AllName tables tokens (map whole list) → All (IsWithin (length tables.parts)) tokens
  all_within [] [] named = All-nil (IsWithin (length tables.parts))
  all_within [] (it ∷ list) named = absurd named
  all_within (t ∷ tokens) [] named = absurd named
  all_within (t ∷ tokens) (it ∷ list) named =
      All-cons (IsWithin (length tables.parts)) t tokens (token_within t it named.0) (all_within tokens list named.1)

  -- A token at an index means the one there.
  pub named_at : (tokens : List InternedToken) (list : List TokenTree) (i : ℕ) (d : InternedToken) (it : TokenTree) → AllName tables tokens (map whole list)
      → slice_get list i ≡ Some it → Names tables (get_or tokens i d) (whole it)
  named_at tokens [] i d it named at = absurd (cc at)
  named_at [] (x ∷ list) i d it named at = absurd named
  named_at (t ∷ tokens) (x ∷ list) zero d it named at = let is : x ≡ it = cc at in subst (λ meant. Names tables t (whole meant)) is named.0
  named_at (t ∷ tokens) (x ∷ list) (suc i) d it named at = named_at tokens list i d it named.1 at
