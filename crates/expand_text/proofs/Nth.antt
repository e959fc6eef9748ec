-- The item that an iterator returns after a number of items, if its state shows what is left.
use Rattle.std.proofs.Common.{◌≡◌, ◌++◌, ℕ, List, [], ◌∷◌, length, Option, None, Some, refl, sym, ap, ap₂, ◌∙◌, append-nil}
use Rattle.std.proofs.lemmas.Option.{slice_get_past}
use Rattle.std.specs.Iterator.{SkipsThenYields, Yields, YieldsFirst}
use Rattle.std.specs.Prelude.{slice_get}

-- the items returned so far precede what is left
given : {S A : Type 0} (rest : S → List A) (xs : List A) (s t : S) → Yields (YieldsFirst rest) s xs t → rest s ≡ xs ++ rest t
given rest [] s t same = ap rest same
given rest (x ∷ xs) s t (next, step, more) = step ∙ ap (λ l. x ∷ l) (given rest xs next t more)

-- an item follows a number of items
behind : {A : Type 0} (xs others : List A) (x : A) → slice_get (xs ++ x ∷ others) (length xs) ≡ Some x
behind [] others x = refl
behind (y ∷ xs) others x = behind xs others x

-- It is the item of that number among those that were left.
pub nth_is : {S A : Type 0} (rest : S → List A) (s t : S) (n : ℕ) (found : Option A) → SkipsThenYields (YieldsFirst rest) s n found t → found ≡ slice_get (rest s) n
nth_is rest s t n None (xs, (last, yields, (none, left)), few) =
    let all : rest s ≡ xs = given rest xs s last yields ∙ ap (λ l. xs ++ l) none ∙ append-nil xs in
    sym (ap (λ l. slice_get l n) all ∙ slice_get_past xs n few)
nth_is rest s t n (Some x) (xs, (last, yields, step), many) =
    sym (ap₂ slice_get (given rest xs s last yields ∙ ap (λ l. xs ++ l) step) (sym many) ∙ behind xs (rest t) x)
