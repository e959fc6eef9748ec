-- All results of an iterator whose state shows what is left.
use Rattle.std.proofs.Common.{◌≡◌, List, [], ◌∷◌, ap, sym, ◌∙◌}
use Rattle.std.specs.Iterator.{Drains, YieldsFirst}

-- All calls together return what was left.
pub all_drained : {S A : Type 0} (rest : S → List A) (xs : List A) (s : S) → Drains (YieldsFirst rest) s xs → xs ≡ rest s
all_drained rest [] s (u, (t, same, none)) = sym (ap rest same ∙ none.0)
all_drained rest (x ∷ xs) s (u, (t, (j, step, more), none)) = ap (λ l. x ∷ l) (all_drained rest xs j (u, (t, more, none))) ∙ sym step
