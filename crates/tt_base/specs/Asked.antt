-- Calls of a callback, one after another.
use Rattle.std.specs.Prelude.{◌≡◌, List, [], ◌∷◌}

-- the callback was called with these values, once each and in order; it returned these answers, and its state went from p to q; `call`
-- says what one call may return, and which state it may leave
abbrev pub AsksAll : {F A B : Type 0} → (call : F → A → B → F → Type 0) → (p : F) → List A → List B → (q : F) → Type 0
AsksAll call p [] [] q = p ≡ q
AsksAll call p [] (answer ∷ answers) q = ⊥
AsksAll call p (it ∷ others) [] q = ⊥
AsksAll {F} call p (it ∷ others) (answer ∷ answers) q = (between : F) × call p it answer between × AsksAll call between others answers q
