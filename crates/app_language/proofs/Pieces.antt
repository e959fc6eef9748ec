-- How a text is read piece by piece.
use Rattle.std.proofs.Common.{◌≡◌, ◌≢◌, ℕ, List, [], ◌∷◌, ◌++◌, All, map, drop, refl, sym, ap, ◌∙◌, append_assoc, append-nil}
use Rattle.std.proofs.lemmas.List.{map-append}
use Rattle.std.proofs.lemmas.List.Elements.{All-head, All-tail}
use Rattle.app_language.specs.Reading.{IsTail, Lacks, spaced}
use Rattle.app_language.proofs.Cutting.{IsTail-spaced, word_unique}

-- the word and the tail after a first space are determined
pub next_unique : (text a b x y : List ℕ) → Lacks 32 a → Lacks 32 x → IsTail b → IsTail y → text ≡ 32 ∷ a ++ b → text ≡ 32 ∷ x ++ y → (a ≡ x) × (b ≡ y)
next_unique text a b x y p q s t d e = word_unique a b x y p q s t (ap (drop 1) (sym d ∙ e))

-- the text spells some values
abbrev pub HasPieces : {W : Type 0} → (W → List ℕ) → (W → Type 0) → List ℕ → Type 0
HasPieces {W} spelling Fits text = (values : List W) × All Fits values × (text ≡ spaced (map spelling values))

-- if it does, so does what follows its first piece
pub pieces_go_on : {W : Type 0} (spelling : W → List ℕ) (Fits : W → Type 0) → ((w : W) → Fits w → Lacks 32 (spelling w)) → (text more : List ℕ) (word : W)
    → text ≡ 32 ∷ spelling word ++ more → Fits word → IsTail more → HasPieces spelling Fits text → HasPieces spelling Fits more
pieces_go_on spelling Fits spaceless text more word e p t ([], fits, d) = cc
pieces_go_on spelling Fits spaceless text more word e p t (w ∷ ws, fits, d) =
    let u = next_unique text _ _ _ _ (spaceless word p) (spaceless w (All-head Fits w ws fits)) t (IsTail-spaced (map spelling ws)) e d in
    (ws, All-tail Fits w ws fits, u.1)

-- a text that is not empty and has no first piece spells no values
pub no_pieces : {W : Type 0} (spelling : W → List ℕ) (Fits : W → Type 0) (text : List ℕ) → text ≢ []
    → ((w : W) (rest : List ℕ) → Fits w → IsTail rest → text ≢ 32 ∷ spelling w ++ rest) → HasPieces spelling Fits text → ⊥
no_pieces spelling Fits text some none ([], fits, d) = some d
no_pieces spelling Fits text some none (w ∷ ws, fits, d) = none w _ (All-head Fits w ws fits) (IsTail-spaced (map spelling ws)) d

spaced-append : (xs ys : List (List ℕ)) → spaced (xs ++ ys) ≡ spaced xs ++ spaced ys
spaced-append [] ys = refl
spaced-append (x ∷ xs) ys = ap (λ t. 32 ∷ x ++ t) (spaced-append xs ys) ∙ sym (ap (λ t. 32 ∷ t) (append_assoc x (spaced xs) (spaced ys)))

-- one piece more is read
pub piece_read : {W : Type 0} (spelling : W → List ℕ) (text rest more : List ℕ) (done : List W) (word : W) → text ≡ spaced (map spelling done) ++ rest
    → rest ≡ 32 ∷ spelling word ++ more → text ≡ spaced (map spelling (done ++ word ∷ [])) ++ more
piece_read spelling text rest more done word e d =
    let front = spaced (map spelling done) in
    let last : spaced (map spelling (done ++ word ∷ [])) ≡ front ++ (32 ∷ (spelling word ++ [])) = ap spaced (map-append spelling done (word ∷ [])) ∙ spaced-append (map spelling done) (spelling word ∷ []) in
    e ∙ ap (λ r. front ++ r) (d ∙ ap (λ x. 32 ∷ x ++ more) (sym (append-nil (spelling word)))) ∙ sym (append_assoc front (32 ∷ (spelling word ++ [])) more) ∙ ap (λ x. x ++ more) (sym last)
