-- The notes of a reading bind to the variables of a pattern what the reading does.
use Rattle.std.proofs.Common.{◌≡◌, inl, inr, ◌+◌, ◌<◌, ◌≤◌, ◌∙◌, ℕ, suc, false, List, [], ◌∷◌, ◌++◌, map, length, refl, ap, sym, subst, arith, append_assoc}
use Rattle.std.proofs.lemmas.Bool.Decides.{nat_tests}
use Rattle.std.specs.Prelude.{◌⊎◌, nat_eq}
use Rattle.tt.specs.Forest.{Forest, end}
use Rattle.tt.specs.Gluing.{after_trees}
use Rattle.tt.specs.Moves.{after_tree}
use Rattle.tt.specs.Siblings.{children_of}
use Rattle.mbe_pattern.specs.declared.pattern.RepeatKind.{RepeatKind}
use Rattle.tt.specs.Types.Leaf.{Leaf}
use Rattle.mbe_matcher.specs.Bindings.{Named, Binding, behind_rounds}
use Rattle.mbe_matcher.specs.Fragments.{left_by}
use Rattle.mbe_matcher.specs.Grouping.{Where, held_in, variables_of, bounds_by}
use Rattle.mbe_matcher.specs.Marks.{Note, taken, begun, ended, step_count, notes_of_rounds, notes_before}
use Rattle.mbe_pattern.specs.Patterns.{Pattern, nothing, variable, token, subtree, repetition}
use Rattle.mbe_matcher.specs.Readings.{Reading, done, took, held, round, over, trees_taken, inside_of, more_of, Takes, AreRounds, AreOtherRounds}
use Rattle.mbe_matcher.proofs.GroupSteps.{number_of, Lacks, LacksAll, IsWhole, whole-append, whole-lacks, bounds_behind_others, bounds_before_others}

-- each number is between these bounds
abbrev pub AreFrom : (lo hi : ℕ) → List Note → Type 0
AreFrom lo hi [] = Unit {0}
AreFrom lo hi (it ∷ others) = ((lo ≤ number_of it) × (number_of it < hi)) × AreFrom lo hi others

abbrev pub NestFrom : (lo hi : ℕ) → List ℕ → Type 0
NestFrom lo hi [] = Unit {0}
NestFrom lo hi (it ∷ others) = ((lo ≤ it) × (it < hi)) × NestFrom lo hi others

abbrev pub VariablesFrom : (lo hi : ℕ) → List Where → Type 0
VariablesFrom lo hi [] = Unit {0}
VariablesFrom lo hi (it ∷ others) = ((lo ≤ it.number) × (it.number < hi) × NestFrom lo hi it.nest) × VariablesFrom lo hi others

-- What is between some bounds is between wider bounds.
nest_wider : (lo hi least most : ℕ) (nest : List ℕ) → least ≤ lo → hi ≤ most → NestFrom lo hi nest → NestFrom least most nest
nest_wider lo hi least most [] l h are = tt
nest_wider lo hi least most (it ∷ others) l h are = ((omega (arith, are.0.0, l), omega (arith, are.0.1, h)), nest_wider lo hi least most others l h are.1)

pub variables_wider : (lo hi least most : ℕ) (its : List Where) → least ≤ lo → hi ≤ most → VariablesFrom lo hi its → VariablesFrom least most its
variables_wider lo hi least most [] l h are = tt
variables_wider lo hi least most (it ∷ others) l h are =
    ((omega (arith, are.0.0, l), omega (arith, are.0.1, h), nest_wider lo hi least most it.nest l h are.0.2), variables_wider lo hi least most others l h are.1)

pub notes_wider : (lo hi least most : ℕ) (its : List Note) → least ≤ lo → hi ≤ most → AreFrom lo hi its → AreFrom least most its
notes_wider lo hi least most [] l h are = tt
notes_wider lo hi least most (it ∷ others) l h are = ((omega (arith, are.0.0, l), omega (arith, are.0.1, h)), notes_wider lo hi least most others l h are.1)

variables_both : (lo hi : ℕ) (its others : List Where) → VariablesFrom lo hi its → VariablesFrom lo hi others → VariablesFrom lo hi (its ++ others)
variables_both lo hi [] others a b = b
variables_both lo hi (it ∷ its) others a b = (a.0, variables_both lo hi its others a.1 b)

pub notes_both : (lo hi : ℕ) (its others : List Note) → AreFrom lo hi its → AreFrom lo hi others → AreFrom lo hi (its ++ others)
notes_both lo hi [] others a b = b
notes_both lo hi (it ∷ its) others a b = (a.0, notes_both lo hi its others a.1 b)

pub held_from : (lo hi r : ℕ) (its : List Where) → lo ≤ r → r < hi → VariablesFrom lo hi its → VariablesFrom lo hi (map (held_in r) its)
held_from lo hi r [] l h are = tt
held_from lo hi r (it ∷ its) l h are = ((are.0.0, are.0.1, ((l, h), are.0.2)), held_from lo hi r its l h are.1)

-- The numbers of a pattern's parts are the numbers of its steps.
pub variables_from : (pattern : Pattern) (behind : ℕ) → VariablesFrom behind (step_count pattern + behind) (variables_of pattern behind)
variables_from nothing behind = tt
variables_from (variable it others) behind =
    ((omega arith, omega arith, tt), variables_wider behind (step_count others + behind) behind (suc (step_count others) + behind) (variables_of others behind) (omega arith) (omega arith) (variables_from others behind))
variables_from (token its others) behind =
    variables_wider behind (step_count others + behind) behind (suc (step_count others) + behind) (variables_of others behind) (omega arith) (omega arith) (variables_from others behind)
variables_from (subtree kind inner others) behind =
    let inside = suc (step_count others + behind) in
    let most = step_count (subtree kind inner others) + behind in
    variables_both behind most (variables_of inner inside) (variables_of others behind)
    (variables_wider inside (step_count inner + inside) behind most (variables_of inner inside) (omega arith) (omega arith) (variables_from inner inside))
    (variables_wider behind (step_count others + behind) behind most (variables_of others behind) (omega arith) (omega arith) (variables_from others behind))
variables_from (repetition inner separator op others) behind =
    let number = step_count others + behind in
    let most = step_count (repetition inner separator op others) + behind in
    variables_both behind most (map (held_in number) (variables_of inner (suc number))) (variables_of others behind)
    (held_from behind most number (variables_of inner (suc number)) (omega arith) (omega arith)
    (variables_wider (suc number) (step_count inner + suc number) behind most (variables_of inner (suc number)) (omega arith) (omega arith) (variables_from inner (suc number))))
    (variables_wider behind (step_count others + behind) behind most (variables_of others behind) (omega arith) (omega arith) (variables_from others behind))

-- What rounds note, without what follows them.
abbrev pub rounds_only : (number : ℕ) → (One : Reading → List Note) → Reading → List Note
rounds_only number One done = []
rounds_only number One (took trees more) = []
rounds_only number One (held inside more) = []
rounds_only number One (round this others) = begun number ∷ (One this ++ rounds_only number One others)
rounds_only number One (over more) = ended number ∷ []

pub rounds_from : (lo hi number : ℕ) (One : Reading → List Note) → lo ≤ number → number < hi → ((this : Reading) → AreFrom lo hi (One this)) → (reading : Reading) → AreFrom lo hi (rounds_only number One reading)
rounds_from lo hi number One l h ones done = tt
rounds_from lo hi number One l h ones (took trees more) = tt
rounds_from lo hi number One l h ones (held inside more) = tt
rounds_from lo hi number One l h ones (round this others) =
    ((l, h), notes_both lo hi (One this) (rounds_only number One others) (ones this) (rounds_from lo hi number One l h ones others))
rounds_from lo hi number One l h ones (over more) = ((l, h), tt)

-- The notes of rounds, and then the notes after them.
module _ (number : ℕ) (One : Reading → List Note → List Note) (Behind : Reading → List Note) (op : RepeatKind) (separator : List Leaf) (Takes_one : Forest → Reading → Forest → Type 0)
    (Takes_behind : Forest → Reading → Type 0) (split : (input : Forest) (this : Reading) (rest : Forest) (left : List Note) → Takes_one input this rest → One this left ≡ One this [] ++ left) where
  abbrev rounds_of : Reading → List Note
  rounds_of = rounds_only number (λ this. One this [])

  others_split : (reading : Reading) (input : Forest) → AreOtherRounds op separator Takes_one Takes_behind input reading
      → notes_of_rounds number One Behind reading ≡ rounds_of reading ++ Behind (behind_rounds reading)
  others_split done input are = absurd are
  others_split (took trees more) input are = absurd are
  others_split (held inside more) input are = absurd are
  others_split (round this others) input (start, rest, may, separates, takes, are) =
      ap (λ l. begun number ∷ l)
      (split start this rest (notes_of_rounds number One Behind others) takes
      ∙ ap (λ l. One this [] ++ l) (others_split others rest are)
      ∙ sym (append_assoc (One this []) (rounds_of others) (Behind (behind_rounds others))))
  others_split (over more) input are = refl

  pub rounds_split : (reading : Reading) (input : Forest) → AreRounds op separator Takes_one Takes_behind input reading
      → notes_of_rounds number One Behind reading ≡ rounds_of reading ++ Behind (behind_rounds reading)
  rounds_split done input are = absurd are
  rounds_split (took trees more) input are = absurd are
  rounds_split (held inside more) input are = absurd are
  rounds_split (round this others) input (rest, takes, are) =
      ap (λ l. begun number ∷ l)
      (split input this rest (notes_of_rounds number One Behind others) takes
      ∙ ap (λ l. One this [] ++ l) (others_split others rest are)
      ∙ sym (append_assoc (One this []) (rounds_of others) (Behind (behind_rounds others))))
  rounds_split (over more) input are = refl

-- The parts after rounds take what they take.
module _ (op : RepeatKind) (separator : List Leaf) (Takes_one : Forest → Reading → Forest → Type 0) (Takes_behind : Forest → Reading → Type 0) where
  behind_others : (reading : Reading) (input : Forest) → AreOtherRounds op separator Takes_one Takes_behind input reading → (from : Forest) × Takes_behind from (behind_rounds reading)
  behind_others done input are = absurd are
  behind_others (took trees more) input are = absurd are
  behind_others (held inside more) input are = absurd are
  behind_others (round this others) input (start, rest, may, separates, takes, are) = behind_others others rest are
  behind_others (over more) input are = (input, are)

  pub behind_all : (reading : Reading) (input : Forest) → AreRounds op separator Takes_one Takes_behind input reading → (from : Forest) × Takes_behind from (behind_rounds reading)
  behind_all done input are = absurd are
  behind_all (took trees more) input are = absurd are
  behind_all (held inside more) input are = absurd are
  behind_all (round this others) input (rest, takes, are) = behind_others others rest are
  behind_all (over more) input are = (input, are.1)

-- The notes of a reading precede the others.
pub notes_split : (pattern : Pattern) (behind : ℕ) (input : Forest) (reading : Reading) (rest : Forest) (left : List Note) → Takes pattern input reading rest
    → notes_before pattern behind reading left ≡ notes_before pattern behind reading [] ++ left
notes_split nothing behind input reading rest left takes = refl
notes_split (variable it others) behind input reading rest left (more, is, takes, further) =
    ap (λ l. taken (step_count others + behind) (trees_taken reading) ∷ l)
    (subst (λ r. notes_before others behind (more_of r) left ≡ notes_before others behind (more_of r) [] ++ left) (sym is)
    (notes_split others behind (left_by it.fragment input) more rest left further))
notes_split (token its others) behind input reading rest left takes = notes_split others behind (after_trees (length its) input) reading rest left takes.1
notes_split (subtree kind inner others) behind input reading rest left (inside, more, is, node, takes, further) =
    let number = suc (step_count others + behind) in
    subst (λ r. notes_before inner number (inside_of r) (notes_before others behind (more_of r) left) ≡ notes_before inner number (inside_of r) (notes_before others behind (more_of r) []) ++ left) (sym is)
    (notes_split inner number (children_of input) inside end (notes_before others behind more left) takes
    ∙ ap (λ l. notes_before inner number inside [] ++ l) (notes_split others behind (after_tree input) more rest left further)
    ∙ sym (append_assoc (notes_before inner number inside []) (notes_before others behind more []) left)
    ∙ ap (λ l. l ++ left) (sym (notes_split inner number (children_of input) inside end (notes_before others behind more []) takes)))
notes_split (repetition inner separator op others) behind input reading rest left are =
    let number = step_count others + behind in
    let One = notes_before inner (suc number) in
    let split = λ (trees : Forest) (this : Reading) (middle : Forest) (left : List Note) (takes : Takes inner trees this middle). notes_split inner (suc number) trees this middle left takes in
    let R = rounds_only number (λ this. One this []) reading in
    let further = behind_all op separator (Takes inner) (λ trees more. Takes others trees more rest) reading input are in
    rounds_split number One (λ more. notes_before others behind more left) op separator (Takes inner) (λ trees more. Takes others trees more rest) split reading input are
    ∙ ap (λ l. R ++ l) (notes_split others behind further.0 (behind_rounds reading) rest left further.1)
    ∙ sym (append_assoc R (notes_before others behind (behind_rounds reading) []) left)
    ∙ ap (λ l. l ++ left) (sym (rounds_split number One (λ more. notes_before others behind more []) op separator (Takes inner) (λ trees more. Takes others trees more rest) split reading input are))

-- Their numbers are the numbers of the pattern's steps.
pub notes_from : (pattern : Pattern) (behind lo hi : ℕ) (reading : Reading) (left : List Note) → lo ≤ behind → step_count pattern + behind ≤ hi → AreFrom lo hi left
    → AreFrom lo hi (notes_before pattern behind reading left)
notes_from nothing behind lo hi reading left l h are = are
notes_from (variable it others) behind lo hi reading left l h are =
    ((omega (arith, l), omega (arith, h)), notes_from others behind lo hi (more_of reading) left l (omega (arith, h)) are)
notes_from (token its others) behind lo hi reading left l h are = notes_from others behind lo hi reading left l (omega (arith, h)) are
notes_from (subtree kind inner others) behind lo hi reading left l h are =
    notes_from inner (suc (step_count others + behind)) lo hi (inside_of reading) (notes_before others behind (more_of reading) left) (omega (arith, l)) (omega (arith, h))
    (notes_from others behind lo hi (more_of reading) left l (omega (arith, h)) are)
notes_from (repetition inner separator op others) behind lo hi reading left l h are =
    by
    (λ this more from. notes_from inner (suc (step_count others + behind)) lo hi this more (omega (arith, l)) (omega (arith, h)) from)
    (λ more. notes_from others behind lo hi more left l (omega (arith, h)) are)
    reading
  where
    by : ((this : Reading) (more : List Note) → AreFrom lo hi more → AreFrom lo hi (notes_before inner (suc (step_count others + behind)) this more))
        → ((more : Reading) → AreFrom lo hi (notes_before others behind more left)) → (reading : Reading)
        → AreFrom lo hi (notes_of_rounds (step_count others + behind) (notes_before inner (suc (step_count others + behind))) (λ more. notes_before others behind more left) reading)
    by in_round further done = tt
    by in_round further (took trees more) = tt
    by in_round further (held inside more) = tt
    by in_round further (round this more) = (
      (omega (arith, l), omega (arith, h)),
      in_round this (notes_of_rounds (step_count others + behind) (notes_before inner (suc (step_count others + behind))) (λ more. notes_before others behind more left) more)
          (by in_round further more),
    )
    by in_round further (over more) = ((omega (arith, l), omega (arith, h)), further more)

-- Numbers from separate ranges differ.
pub differ : (n k : ℕ) → (n < k) ⊎ (k < n) → nat_eq n k ≡ false
differ n k (inl lt) = grind (arith, nat_tests, lt)
differ n k (inr gt) = grind (arith, nat_tests, gt)

module _ (lo hi least most : ℕ) (apart : (hi ≤ least) ⊎ (most ≤ lo)) where
  apart_of : (k n : ℕ) → lo ≤ k → k < hi → least ≤ n → n < most → (n < k) ⊎ (k < n)
  apart_of k n l h l' h' = by apart
    where
      by : (hi ≤ least) ⊎ (most ≤ lo) → (n < k) ⊎ (k < n)
      by (inl le) = inr (omega (arith, h, l', le))
      by (inr le) = inl (omega (arith, l, h', le))

  pub lacks_apart : (k : ℕ) (notes : List Note) → lo ≤ k → k < hi → AreFrom least most notes → Lacks k notes
  lacks_apart k [] l h are = tt
  lacks_apart k (it ∷ others) l h are = (differ (number_of it) k (apart_of k (number_of it) l h are.0.0 are.0.1), lacks_apart k others l h are.1)

  pub lacks_all : (nest : List ℕ) (number : ℕ) (notes : List Note) → NestFrom lo hi nest → lo ≤ number → number < hi → AreFrom least most notes → LacksAll nest number notes
  lacks_all [] number notes nested l h are = lacks_apart number notes l h are
  lacks_all (it ∷ nest) number notes nested l h are = (lacks_apart it notes nested.0.0 nested.0.1 are, lacks_all nest number notes nested.1 l h are)

-- the notes bind to the variable exactly what it is named with
pub record Agrees (it : Where) (notes : List Note) (named : Named) : Type 0 where
  pub variable : it.variable ≡ named.variable
  pub bounds : bounds_by it.nest it.number notes ≡ named.bound ∷ []
  pub whole : IsWhole it.nest it.number notes

abbrev pub AllAgree : List Where → List Note → Binding → Type 0
AllAgree [] notes [] = Unit {0}
AllAgree [] notes (named ∷ others) = ⊥
AllAgree (it ∷ its) notes [] = ⊥
AllAgree (it ∷ its) notes (named ∷ others) = Agrees it notes named × AllAgree its notes others

pub agree_both : (its others : List Where) (notes : List Note) (a b : Binding) → AllAgree its notes a → AllAgree others notes b → AllAgree (its ++ others) notes (a ++ b)
agree_both [] others notes [] b x y = y
agree_both [] others notes (named ∷ a) b x y = absurd x
agree_both (it ∷ its) others notes [] b x y = absurd x
agree_both (it ∷ its) others notes (named ∷ a) b x y = (x.0, agree_both its others notes a b x.1 y)

module _ (lo hi least most : ℕ) (apart : (hi ≤ least) ⊎ (most ≤ lo)) (notes foreign : List Note) (are : AreFrom least most foreign) where
  -- Notes of other numbers before them change nothing.
  pub agree_behind : (its : List Where) (a : Binding) → VariablesFrom lo hi its → AllAgree its notes a → AllAgree its (foreign ++ notes) a
  agree_behind [] [] from x = tt
  agree_behind [] (named ∷ a) from x = absurd x
  agree_behind (it ∷ its) [] from x = absurd x
  agree_behind (it ∷ its) (named ∷ a) from x =
      let lacks = lacks_all lo hi least most apart it.nest it.number foreign from.0.2 from.0.0 from.0.1 are in (
        record {
          variable = x.0.variable;
          bounds = bounds_behind_others it.nest it.number foreign notes lacks ∙ x.0.bounds;
          whole = whole-append it.nest it.number foreign notes (whole-lacks it.nest it.number foreign lacks) x.0.whole;
        },
        agree_behind its a from.1 x.1,
      )

  -- Notes of other numbers after them change nothing either.
  pub agree_before : (its : List Where) (a : Binding) → VariablesFrom lo hi its → AllAgree its notes a → AllAgree its (notes ++ foreign) a
  agree_before [] [] from x = tt
  agree_before [] (named ∷ a) from x = absurd x
  agree_before (it ∷ its) [] from x = absurd x
  agree_before (it ∷ its) (named ∷ a) from x =
      let lacks = lacks_all lo hi least most apart it.nest it.number foreign from.0.2 from.0.0 from.0.1 are in (
        record {
          variable = x.0.variable;
          bounds = bounds_before_others it.nest it.number notes foreign x.0.whole lacks ∙ x.0.bounds;
          whole = whole-append it.nest it.number notes foreign x.0.whole (whole-lacks it.nest it.number foreign lacks);
        },
        agree_before its a from.1 x.1,
      )
