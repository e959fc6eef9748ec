-- Two lists whose items are related one by one.
use Rattle.std.proofs.Common.{◌≡◌, ℕ, zero, suc, ◌<◌, List, [], ◌∷◌, length, get_or, sym, subst, arith}
use Rattle.std.proofs.lemmas.Slice.Zip.{AllZip-long}
use Rattle.std.specs.List.{AllZip}

module _ {X Y : Type 0} (R : X → Y → Type 0) where
  -- The lists have the same length.
  pub length-paired : (xs : List X) (ys : List Y) → AllZip R xs ys → length xs ≡ length ys
  length-paired xs ys h = sym (AllZip-long R xs ys h)

  -- The items at one index are related.
  pub paired_at : (xs : List X) (ys : List Y) (i : ℕ) (x : X) (y : Y) → AllZip R xs ys → i < length xs → x ≡ get_or xs i x → y ≡ get_or ys i y → R x y
  paired_at [] ys i x y h within e f = absurd (omega (arith, within))
  paired_at (a ∷ xs) [] i x y h within e f = absurd h
  paired_at (a ∷ xs) (b ∷ ys) zero x y h within e f = subst (λ z. R z y) (sym e) (subst (R a) (sym f) h.0)
  paired_at (a ∷ xs) (b ∷ ys) (suc i) x y h within e f = paired_at xs ys i x y h.1 (omega (arith, within)) e f

-- What follows from each relation follows for all pairs.
pub paired_map : {X Y : Type 0} (R S : X → Y → Type 0) (xs : List X) (ys : List Y) → ((x : X) (y : Y) → R x y → S x y) → AllZip R xs ys → AllZip S xs ys
paired_map R S [] [] f h = h
paired_map R S [] (y ∷ ys) f h = h
paired_map R S (x ∷ xs) [] f h = h
paired_map R S (x ∷ xs) (y ∷ ys) f h = (f x y h.0, paired_map R S xs ys f h.1)
