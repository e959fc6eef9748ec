-- How items are listed one by one, each by its text.
use Rattle.std.proofs.Common.{◌≡◌, ℕ, List, ◌∷◌, ◌++◌, ap, sym, ◌∙◌, append_assoc}
use Rattle.std.specs.Prelude.{codes}
use Rattle.std.specs.List.{flat_map}
use Rattle.app_console.specs.Answer.{line}
use Rattle.app_console.specs.ViewText.{listed}

-- one text more of those still to come
pub one_more : {A : Type 0} (text : A → List ℕ) (done all : List ℕ) (item : A) (items : List A) → done ++ flat_map text (item ∷ items) ≡ all
    → (done ++ text item) ++ flat_map text items ≡ all
one_more text done all item items e = append_assoc done (text item) (flat_map text items) ∙ e

-- one line more of a list that ends with `end`
pub one_line_more : {A : Type 0} (text : A → List ℕ) (done all : List ℕ) (item : A) (items : List A) → done ++ listed text (item ∷ items) ≡ all
    → (done ++ line (text item)) ++ listed text items ≡ all
one_line_more text done all item items e =
    append_assoc done (line (text item)) (listed text items)
    ∙ ap (λ t. done ++ t) (sym (append_assoc (line (text item)) (flat_map (λ i. line (text i)) items) (line (codes "end")))) ∙ e
