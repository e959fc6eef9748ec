-- What is bound in the rounds of a repetition, one after the other.
use Rattle.std.proofs.Common.{◌≡◌, ℕ, zero, suc, List, [], ◌∷◌, ◌++◌, map, reverse, refl, ap, ap₂, sym, ◌∙◌}
use Rattle.std.proofs.lemmas.Grind.{reverse_onto}
use Rattle.std.proofs.lemmas.List.{map-append}
use Rattle.mbe_matcher.specs.Bindings.{Bound, Binding}
use Rattle.mbe_rules.specs.declared.taken.Round.{Round}
use Rattle.mbe_rules.specs.Transcribing.{first_of, others_of, in_round}
use Rattle.mbe_rules.specs.Rounds.{round_at, bound_in, binding_in, dones}
use Rattle.mbe_rules.specs.Filling.{later, bound_here}

-- Narrowing one way and then another, if that is the same as a third way.
in_rounds : (f g h : Bound → Bound) → ((bound : Bound) → f (g bound) ≡ h bound) → (binding : Binding) → map (in_round f) (map (in_round g) binding) ≡ map (in_round h) binding
in_rounds f g h same [] = refl
in_rounds f g h same (it ∷ others) = ap₂ (λ b l. record { variable = it.variable; bound = b } ∷ l) (same it.bound) (in_rounds f g h same others)

-- The first of the rounds from one on is that one, and the others are those from the next on.
first_later : (n : ℕ) (bound : Bound) → first_of (later n bound) ≡ round_at n bound
first_later zero bound = refl
first_later (suc n) bound = first_later n (others_of bound)

others_later : (n : ℕ) (bound : Bound) → others_of (later n bound) ≡ later (suc n) bound
others_later zero bound = refl
others_later (suc n) bound = others_later n (others_of bound)

-- A round in others.
in_more : (numbers : List ℕ) (n : ℕ) (bound : Bound) → round_at n (bound_in numbers bound) ≡ bound_in (numbers ++ n ∷ []) bound
in_more [] n bound = refl
in_more (m ∷ numbers) n bound = in_more numbers n (round_at m bound)

-- So this is bound in it.
pub bound_inside : (whole : Binding) (it : Round) (rounds : List Round) → map (in_round (round_at it.done)) (bound_here whole rounds) ≡ bound_here whole (it ∷ rounds)
bound_inside whole it rounds =
    in_rounds (round_at it.done) (bound_in (dones (reverse rounds))) (bound_in (dones (reverse rounds) ++ it.done ∷ [])) (in_more (dones (reverse rounds)) it.done) whole
    ∙ ap (λ l. binding_in l whole) (sym (ap dones (reverse_onto rounds it []) ∙ map-append (λ r. r.done) (reverse rounds) (it ∷ [])))

pub first_round : (n : ℕ) (binding : Binding) → map (in_round first_of) (map (in_round (later n)) binding) ≡ map (in_round (round_at n)) binding
first_round n binding = in_rounds first_of (later n) (round_at n) (first_later n) binding

pub other_rounds : (n : ℕ) (binding : Binding) → map (in_round others_of) (map (in_round (later n)) binding) ≡ map (in_round (later (suc n))) binding
other_rounds n binding = in_rounds others_of (later n) (later (suc n)) (others_later n) binding
