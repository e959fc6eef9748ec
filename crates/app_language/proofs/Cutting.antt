-- How a text is split at a byte.
use Rattle.std.proofs.Common.{◌≡◌, ◌≢◌, ℕ, List, [], ◌∷◌, ◌++◌, refl, sym, ◌∙◌}
use Rattle.std.proofs.lemmas.List.Elements.{All-head, All-tail}
use Rattle.app_language.specs.Reading.{IsTail, Lacks, spaced, words}

-- what precedes the first such byte, and what follows it, is determined
pub cut_unique : (byte : ℕ) (a b x y : List ℕ) → Lacks byte a → Lacks byte x → a ++ byte ∷ b ≡ x ++ byte ∷ y → (a ≡ x) × (b ≡ y)
cut_unique byte [] b [] y p q e = (refl, cc)
cut_unique byte [] b (c ∷ x) y p q e =
    let h = All-head (λ z. z ≢ byte) c x q in
    let same : c ≡ byte = cc in absurd (h same)
cut_unique byte (c ∷ a) b [] y p q e =
    let h = All-head (λ z. z ≢ byte) c a p in
    let same : c ≡ byte = cc in absurd (h same)
cut_unique byte (c ∷ a) b (d ∷ x) y p q e =
    let rest : a ++ byte ∷ b ≡ x ++ byte ∷ y = cc in
    let front : c ≡ d = cc in
    let r = cut_unique byte a b x y (All-tail (λ z. z ≢ byte) c a p) (All-tail (λ z. z ≢ byte) d x q) rest in
    (cc (r.0, front), r.1)

-- a text with a byte does not lack it
pub Lacks-apart : (byte : ℕ) (a b : List ℕ) → Lacks byte (a ++ byte ∷ b) → ⊥
Lacks-apart byte [] b p = All-head (λ z. z ≢ byte) byte b p refl
Lacks-apart byte (c ∷ a) b p = Lacks-apart byte a b (All-tail (λ z. z ≢ byte) c (a ++ byte ∷ b) p)

-- a text has one first word, and one rest
pub words_same : (text a b x y : List ℕ) → Lacks 32 a → Lacks 32 b → text ≡ words a x → text ≡ words b y → (a ≡ b) × (x ≡ y)
words_same text a b x y p q d e = cut_unique 32 a x b y p q (sym d ∙ e)

-- pieces, each after a space, are a tail
pub IsTail-spaced : (pieces : List (List ℕ)) → IsTail (spaced pieces)
IsTail-spaced [] = tt
IsTail-spaced (piece ∷ more) = refl

-- a text begins with one word only, and one tail follows it
pub word_unique : (a b x y : List ℕ) → Lacks 32 a → Lacks 32 x → IsTail b → IsTail y → a ++ b ≡ x ++ y → (a ≡ x) × (b ≡ y)
word_unique [] b [] y p q s t e = (refl, e)
word_unique [] [] (c ∷ x) y p q s t e = cc
word_unique [] (d ∷ b) (c ∷ x) y p q s t e =
    let h = All-head (λ z. z ≢ 32) c x q in
    let same : d ≡ c = cc in absurd (h (sym same ∙ s))
word_unique (c ∷ a) b [] [] p q s t e = cc
word_unique (c ∷ a) b [] (d ∷ y) p q s t e =
    let h = All-head (λ z. z ≢ 32) c a p in
    let same : c ≡ d = cc in absurd (h (same ∙ t))
word_unique (c ∷ a) b (d ∷ x) y p q s t e =
    let rest : a ++ b ≡ x ++ y = cc in
    let front : c ≡ d = cc in
    let r = word_unique a b x y (All-tail (λ z. z ≢ 32) c a p) (All-tail (λ z. z ≢ 32) d x q) s t rest in
    (cc (r.0, front), r.1)
