-- What may follow the first word of a line: values, the pieces that spell them, and that no two values are spelled alike.
use Rattle.std.proofs.Common.{ℕ, List, [], ◌∷◌, All, map, drop, refl, sym, ap, ◌∙◌, append-nil}
use Rattle.std.proofs.lemmas.List.Elements.{All-head, All-tail}
use Rattle.app_language.specs.Reading.{Lacks, spaced}
use Rattle.app_language.proofs.Cutting.{IsTail-spaced}
use Rattle.app_language.proofs.OneToOne.{IsOneToOne}
use Rattle.app_language.proofs.Pieces.{next_unique}

pub record Part : Type 1 where
  pub Values : Type 0
  pub pieces : Values → List (List ℕ)
  pub Fits : Values → Type 0
  pub one : IsOneToOne (λ v. spaced (pieces v)) Fits

-- nothing
abbrev pub nothing : Part
nothing = record { Values = Unit {0}; pieces = λ _. []; Fits = λ _. Unit {0}; one = λ a b p q e. refl }

pub one_word_more : {W V : Type 0} (spelling : W → List ℕ) (Fits : W → Type 0) (pieces : V → List (List ℕ)) (More : V → Type 0) → ((w : W) → Fits w → Lacks 32 (spelling w)) → IsOneToOne spelling Fits
    → IsOneToOne (λ v. spaced (pieces v)) More → IsOneToOne (λ (p : W × V). spaced (spelling p.0 ∷ pieces p.1)) (λ p. Fits p.0 × More p.1)
one_word_more spelling Fits pieces More spaceless one more (w, v) (x, y) p q e =
    let u = next_unique _ _ _ _ _ (spaceless w p.0) (spaceless x q.0) (IsTail-spaced (pieces v)) (IsTail-spaced (pieces y)) refl e in
    λ i. (one w x p.0 q.0 u.0 i, more v y p.1 q.1 u.1 i)

-- a word, and further parts
abbrev pub word_then : {W : Type 0} (spelling : W → List ℕ) (Fits : W → Type 0) → ((w : W) → Fits w → Lacks 32 (spelling w)) → IsOneToOne spelling Fits → Part → Part
word_then {W} spelling Fits spaceless one more = record {
  Values = W × more.Values;
  pieces = λ p. spelling p.0 ∷ more.pieces p.1;
  Fits = λ p. Fits p.0 × more.Fits p.1;
  one = one_word_more spelling Fits more.pieces more.Fits spaceless one more.one;
}

pub one_rest : {A : Type 0} (spelling : A → List ℕ) (Fits : A → Type 0) → IsOneToOne spelling Fits → IsOneToOne (λ a. spaced (spelling a ∷ [])) Fits
one_rest spelling Fits one a b p q e = one a b p q (sym (append-nil (spelling a)) ∙ ap (drop 1) e ∙ append-nil (spelling b))

-- a text that is the whole rest
abbrev pub rest_of_line : {A : Type 0} (spelling : A → List ℕ) (Fits : A → Type 0) → IsOneToOne spelling Fits → Part
rest_of_line {A} spelling Fits one = record { Values = A; pieces = λ a. spelling a ∷ []; Fits = Fits; one = one_rest spelling Fits one }

pub one_list : {W : Type 0} (spelling : W → List ℕ) (Fits : W → Type 0) → ((w : W) → Fits w → Lacks 32 (spelling w)) → IsOneToOne spelling Fits
    → IsOneToOne (λ ws. spaced (map spelling ws)) (All Fits)
one_list spelling Fits spaceless one [] [] p q e = refl
one_list spelling Fits spaceless one [] (x ∷ xs) p q e = cc
one_list spelling Fits spaceless one (w ∷ ws) [] p q e = cc
one_list spelling Fits spaceless one (w ∷ ws) (x ∷ xs) p q e =
    let w_fits = All-head Fits w ws p in
    let x_fits = All-head Fits x xs q in
    let u = next_unique _ _ _ _ _ (spaceless w w_fits) (spaceless x x_fits) (IsTail-spaced (map spelling ws)) (IsTail-spaced (map spelling xs)) refl e in
    λ i. one w x w_fits x_fits u.0 i ∷ one_list spelling Fits spaceless one ws xs (All-tail Fits w ws p) (All-tail Fits x xs q) u.1 i

-- any number of words of one kind
abbrev pub words_of : {W : Type 0} (spelling : W → List ℕ) (Fits : W → Type 0) → ((w : W) → Fits w → Lacks 32 (spelling w)) → IsOneToOne spelling Fits → Part
words_of {W} spelling Fits spaceless one = record { Values = List W; pieces = map spelling; Fits = All Fits; one = one_list spelling Fits spaceless one }
