-- What is found in a pattern's program and the numbers of its parts is what the part of a number requires.
use Rattle.std.proofs.Common.{◌≡◌, ◌+◌, ◌<◌, ◌≤◌, inl, inr, ℕ, zero, suc, true, false, List, [], ◌∷◌, ◌++◌, drop, get_or, length, min, Some, None, refl, ap, ap₂, cond, sym, ◌∙◌, arith}
use Rattle.std.proofs.lemmas.Bool.{eq-eqb}
use Rattle.std.proofs.lemmas.Bool.Decides.{eqb_tells}
use Rattle.std.proofs.lemmas.List.{drop_more, drop_all, length-append, length-map}
use Rattle.std.specs.Option.{option_or}
use Rattle.std.specs.Prelude.{Bool, Option, nat_eq, slice_get}
use Rattle.mbe_matcher.specs.Parts.{place_count}
use Rattle.mbe_matcher.specs.Labels.{Label}
use Rattle.mbe_matcher.specs.Labels as label
use Rattle.mbe_matcher.specs.Marks.{step_count}
use Rattle.mbe_matcher.specs.Parts.{part_of, parts_of as labels_of}
use Rattle.mbe_pattern.specs.Patterns.{Pattern, nothing, variable, token, subtree, repetition}
use Rattle.mbe_program.specs.Labelling.{labelled, required_at, required_by}
use Rattle.mbe_program.specs.Moving.{instruction_of, instructions_of}
use Rattle.mbe_program.specs.Numbering.{parts_before, parts_of}
use Rattle.mbe_program.specs.Program.{Instruction, leave, close, again_at, instructions_before, program_of}
use Rattle.mbe_program.specs.declared.instruction.Instruction.{Instruction as Own}
use Rattle.mbe_program.proofs.CountSteps.{dropped}
use Rattle.mbe_program.proofs.Results.{less_or_not}

-- the label with that number, if the labels are numbered from `at` on
abbrev label_from : (at : ℕ) → (labels : List Label) → (number : ℕ) → Option Label
label_from at [] number = None
label_from at (it ∷ others) number = option_or (required_at (Some it) at number) (label_from (suc at) others number)

-- What is found first does not depend on how the choices are joined; one that finds nothing can be left out.
or_apart : (a b c : Option Label) → option_or (option_or a b) c ≡ option_or a (option_or b c)
or_apart None b c = refl
or_apart (Some it) b c = refl

or_both : (a b c d e : Option Label) → b ≡ None → d ≡ None → option_or b (option_or a (option_or d (option_or c e))) ≡ option_or (option_or a c) e
or_both None None c None e none also = refl
or_both (Some it) None c None e none also = refl
or_both a (Some it) c d e none also = absurd (cc none)
or_both a None c (Some it) e none also = absurd (cc also)

or_rounds : (a b c d e s : Option Label) → b ≡ None → d ≡ None → option_or s a ≡ option_or a s
    → option_or b (option_or s (option_or a (option_or d (option_or c e)))) ≡ option_or (option_or a (option_or s c)) e
or_rounds a None c None e None none also same = sym (or_apart a c e)
or_rounds None None c None e (Some it) none also same = refl
or_rounds (Some own) None c None e (Some it) none also same = same
or_rounds a (Some it) c d e s none also same = absurd (cc none)
or_rounds a None c (Some it) e s none also same = absurd (cc also)

or_none : (a : Option Label) → option_or a None ≡ a
or_none None = refl
or_none (Some it) = refl

-- An instruction with another number requires nothing, and neither does one that is no part.
other_number : (required : Option Label) (beside number : ℕ) → (beside ≡ number → ⊥) → required_at required beside number ≡ None
other_number required beside number other = elim (eqb_tells beside number) [
  | inl (b, same) ↦ absurd (other same)
  | inr (b, not) ↦ ap (λ b. cond b required None) b
]

same_number : (required : Option Label) (beside number : ℕ) → beside ≡ number → required_at required beside number ≡ required
same_number required beside number same = ap (λ b. cond b required None) (eq-eqb beside number same)

either_way : (b : Bool) (it : Option Label) → cond b it it ≡ it
either_way true it = refl
either_way false it = refl

no_part : (beside number : ℕ) → required_at None beside number ≡ None
no_part beside number = either_way (nat_eq beside number) None

-- Behind the last number there is no label.
from_after : (at : ℕ) (labels : List Label) (number : ℕ) → at + length labels ≤ number → label_from at labels number ≡ None
from_after at [] number more = refl
from_after at (it ∷ others) number more =
    ap₂ option_or (other_number (Some it) at number (λ same. omega (arith, same, more))) (from_after (suc at) others number (omega (arith, more)))

-- A separator has another number than the parts of its round, so it can be looked for first.
from_or : (at next : ℕ) (labels : List Label) (it : Option Label) (number : ℕ) → at + length labels ≡ next
    → option_or (required_at it next number) (label_from at labels number) ≡ option_or (label_from at labels number) (required_at it next number)
from_or at next labels it number ends =
    let own = required_at it next number in
    let others = label_from at labels number in
    elim (eqb_tells next number) [
      | inl (b, same) ↦ let none = from_after at labels number (omega (arith, ends, same)) in ap (option_or own) none ∙ or_none own ∙ sym (ap (λ o. option_or o own) none)
      | inr (b, other) ↦ let none = other_number it next number other in ap (λ o. option_or o others) none ∙ sym (or_none others) ∙ sym (ap (option_or others) none)
    ]

-- The labels of one list come before those of the list behind it.
from_append : (at next : ℕ) (labels more : List Label) (number : ℕ) → at + length labels ≡ next
    → label_from at (labels ++ more) number ≡ option_or (label_from at labels number) (label_from next more number)
from_append at next [] more number ends = ap (λ n. label_from n more number) (omega (arith, ends))
from_append at next (it ∷ others) more number ends =
    let own = required_at (Some it) at number in
    ap (option_or own) (from_append (suc at) next others more number (omega (arith, ends)))
    ∙ sym (or_apart own (label_from (suc at) others number) (label_from next more number))

-- A label is as far behind the first one as its number says.
from_get : (at : ℕ) (labels : List Label) (k number : ℕ) → number ≡ at + k → label_from at labels number ≡ slice_get labels k
from_get at [] k number is = refl
from_get at (it ∷ others) zero number is = ap (λ o. option_or o (label_from (suc at) others number)) (same_number (Some it) at number (omega (arith, is)))
from_get at (it ∷ others) (suc k) number is =
    ap (λ o. option_or o (label_from (suc at) others number)) (other_number (Some it) at number (λ same. omega (arith, same, is)))
    ∙ from_get (suc at) others k number (omega (arith, is))

-- A pattern has as many labels as places.
labels_length : (pattern : Pattern) → length (labels_of pattern) ≡ place_count pattern
labels_length nothing = refl
labels_length (variable it others) = ap suc (labels_length others)
labels_length (token its others) = ap suc (labels_length others)
labels_length (subtree kind inner others) =
    let own = labels_length inner in
    let rest = labels_length others in
    omega (arith, own, rest, length-append (labels_of inner) (label.leave ∷ labels_of others))
labels_length (repetition inner [] op others) =
    let own = labels_length inner in
    let rest = labels_length others in
    omega (arith, own, rest, length-append (labels_of inner) (labels_of others))
labels_length (repetition inner (it ∷ separator) op others) =
    let own = labels_length inner in
    let rest = labels_length others in
    omega (arith, own, rest, length-append (labels_of inner) (label.same (it ∷ separator) ∷ labels_of others))

-- A pattern's program holds the labels of the pattern's parts, each with its number, and then those behind it.
labels_before : (at : ℕ) (pattern : Pattern) (numbers : List ℕ) (behind : List Instruction) (number : ℕ)
    → labelled (instructions_before pattern behind) (parts_before at pattern numbers) number ≡ option_or (label_from at (labels_of pattern) number) (labelled behind numbers number)
labels_before at nothing numbers behind number = refl
labels_before at (variable it others) numbers behind number =
    let own = required_at (Some (label.take it)) at number in
    ap (option_or own) (labels_before (suc at) others numbers behind number)
    ∙ sym (or_apart own (label_from (suc at) (labels_of others) number) (labelled behind numbers number))
labels_before at (token its others) numbers behind number =
    let own = required_at (Some (label.same its)) at number in
    ap (option_or own) (labels_before (suc at) others numbers behind number)
    ∙ sym (or_apart own (label_from (suc at) (labels_of others) number) (labelled behind numbers number))
labels_before at (subtree kind inner others) numbers behind number =
    let ends = suc at + place_count inner in
    let own = required_at (Some (label.enter kind)) at number in
    let inside = label_from (suc at) (labels_of inner) number in
    let last = required_at (Some label.leave) ends number in
    let after = label_from (suc ends) (labels_of others) number in
    let rest = labelled behind numbers number in
    let whole = from_append (suc at) ends (labels_of inner) (label.leave ∷ labels_of others) number (ap (λ n. suc at + n) (labels_length inner)) in
    ap (option_or own)
    (labels_before (suc at) inner (ends ∷ parts_before (suc ends) others numbers) (leave ∷ instructions_before others behind) number
    ∙ ap (λ o. option_or inside (option_or last o)) (labels_before (suc ends) others numbers behind number)
    ∙ ap (option_or inside) (sym (or_apart last after rest)) ∙ sym (or_apart inside (option_or last after) rest)
    ∙ ap (λ o. option_or o rest) (sym whole))
    ∙ sym (or_apart own (label_from (suc at) (labels_of inner ++ label.leave ∷ labels_of others) number) rest)
labels_before at (repetition inner [] op others) numbers behind number =
    let next = at + place_count inner + 0 in
    let after = instructions_before others behind in
    let closing = close op (again_at [] (step_count inner) (length after)) in
    let later = parts_before next others numbers in
    let none = required_at None 0 number in
    let inside = label_from at (labels_of inner) number in
    let more = label_from next (labels_of others) number in
    let rest = labelled behind numbers number in
    let count = labels_length inner in
    let is_none = no_part 0 number in
    ap (option_or none)
    (labels_before at inner (0 ∷ later) (closing ∷ after) number ∙ ap (λ o. option_or inside (option_or none o)) (labels_before next others numbers behind number))
    ∙ or_both inside none more none rest is_none is_none
    ∙ ap (λ o. option_or o rest) (sym (from_append at next (labels_of inner) (labels_of others) number (omega (arith, count))))
labels_before at (repetition inner (it ∷ separator) op others) numbers behind number =
    let ends = at + place_count inner in
    let next = at + place_count inner + 1 in
    let after = instructions_before others behind in
    let closing = close op (again_at (it ∷ separator) (step_count inner) (length after)) in
    let later = parts_before next others numbers in
    let none = required_at None 0 number in
    let own = required_at (Some (label.same (it ∷ separator))) ends number in
    let inside = label_from at (labels_of inner) number in
    let more = label_from next (labels_of others) number in
    let rest = labelled behind numbers number in
    let count : at + length (labels_of inner) ≡ ends = ap (λ n. at + n) (labels_length inner) in
    let is_none = no_part 0 number in
    let whole = from_append at ends (labels_of inner) (label.same (it ∷ separator) ∷ labels_of others) number count in
    let is_next : suc ends ≡ next = omega arith in
    ap (λ o. option_or none (option_or own o))
    (labels_before at inner (0 ∷ later) (closing ∷ after) number ∙ ap (λ o. option_or inside (option_or none o)) (labels_before next others numbers behind number))
    ∙ or_rounds inside none more none rest own is_none is_none (from_or at ends (labels_of inner) (Some (label.same (it ∷ separator))) number count)
    ∙ ap (λ o. option_or (option_or inside (option_or own o)) rest) (sym (ap (λ n. label_from n (labels_of others) number) is_next))
    ∙ ap (λ o. option_or o rest) (sym whole)

-- So a whole program holds the part of each number.
pub labelled_part : (pattern : Pattern) (number : ℕ) → labelled (program_of pattern) (parts_of pattern) number ≡ part_of pattern number
labelled_part pattern number =
    let last = required_at (Some label.leave) (place_count pattern) number in
    let count : 0 + length (labels_of pattern) ≡ place_count pattern = let own = labels_length pattern in omega (arith, own) in
    labels_before 0 pattern (place_count pattern ∷ []) (leave ∷ []) number
    ∙ sym (from_append 0 (place_count pattern) (labels_of pattern) (label.leave ∷ []) number count)
    ∙ from_get 0 (labels_of pattern ++ label.leave ∷ []) number number (omega arith)

-- A search looks at one instruction before those behind it,
pub labelled_next : (program : List Own) (numbers : List ℕ) (number k : ℕ) (it : Own) → k < length program → k < length numbers → it ≡ get_or program k it
    → labelled (drop k (instructions_of program)) (drop k numbers) number
    ≡ option_or (required_at (required_by (instruction_of it)) (get_or numbers k 0) number) (labelled (drop (k + 1) (instructions_of program)) (drop (k + 1) numbers) number)
labelled_next program numbers number k it less also is =
    let next : suc k ≡ k + 1 = omega arith in
    ap₂ (λ place numbers. labelled place numbers number)
    (dropped program k it less is ∙ ap (λ n. instruction_of it ∷ drop n (instructions_of program)) next) (drop_more numbers k 0 also)

-- and finds nothing behind the last one.
no_number : (place : List Instruction) (number : ℕ) → labelled place [] number ≡ None
no_number [] number = refl
no_number (it ∷ rest) number = refl

pub labelled_past : (program : List Own) (numbers : List ℕ) (number k : ℕ) → min (length program) (length numbers) ≤ k
    → labelled (drop k (instructions_of program)) (drop k numbers) number ≡ None
labelled_past program numbers number k past = elim (less_or_not k (length program)) [
  | inl less ↦ ap (λ numbers. labelled (drop k (instructions_of program)) numbers number) (drop_all k numbers (omega (arith, past, less)))
      ∙ no_number (drop k (instructions_of program)) number
  | inr more ↦ ap (λ place. labelled place (drop k numbers) number) (drop_all k (instructions_of program) (omega (arith, more, length-map program instruction_of)))
]
