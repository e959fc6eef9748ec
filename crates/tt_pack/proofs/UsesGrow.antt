-- The uses of the first tokens, and of one more token.
use Rattle.std.proofs.Common.{◌≡◌, ℕ, ◌+◌, ◌<◌, List, [], ◌∷◌, ◌++◌, length, get_or, take, ap, sym, ◌∙◌}
use Rattle.std.specs.List.{flat_map}
use Rattle.std.proofs.lemmas.List.{take_more, flat_map_more}

-- One more token adds its own uses.
pub uses_grow : {X A : Type 0} (f : X → List A) (tokens : List X) (i : ℕ) (x : X) (before after : List A) → i < length tokens → x ≡ get_or tokens i x
    → before ≡ flat_map f (take i tokens) → after ≡ before ++ f x → after ≡ flat_map f (take (i + 1) tokens)
uses_grow f tokens i x before after within here e g =
    g ∙ ap (λ uses. uses ++ f x) e
    ∙ flat_map_more f [] (take i tokens) x
    ∙ ap (flat_map f) (sym (take_more tokens i x within ∙ ap (λ d. take i tokens ++ d ∷ []) (sym here)))
