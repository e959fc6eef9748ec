-- What rounds bind, and so what a whole reading binds.
use Rattle.std.proofs.Common.{◌≡◌, inl, inr, ◌+◌, ◌<◌, ◌≤◌, ◌∙◌, ℕ, suc, true, List, [], ◌∷◌, ◌++◌, map, length, refl, ap, ap₂, sym, subst, arith, cond}
use Rattle.std.proofs.lemmas.Bool.Decides.{nat_tests}
use Rattle.std.proofs.Math.Seq.{take-length}
use Rattle.std.specs.Prelude.{nat_eq}
use Rattle.tt.specs.Forest.{Forest, end}
use Rattle.tt.specs.Gluing.{after_trees}
use Rattle.tt.specs.Moves.{after_tree}
use Rattle.tt.specs.Siblings.{children_of}
use Rattle.tt.specs.Types.Leaf.{Leaf}
use Rattle.mbe_pattern.specs.declared.pattern.RepeatKind.{RepeatKind}
use Rattle.mbe_pattern.specs.declared.pattern.Variable.{Variable}
use Rattle.mbe_matcher.specs.Bindings.{Bound, one, first, Named, Binding, variables_in, unbound, joined, of_rounds, behind_rounds, binding_of}
use Rattle.mbe_matcher.specs.Fragments.{left_by, taken as trees_of_fragment}
use Rattle.mbe_matcher.specs.Grouping.{Where, held_in, variables_of, taken_by, counts_by, listed, grouped, bounds_by, first_bound, binding_by}
use Rattle.mbe_matcher.specs.Marks.{Note, taken, begun, ended, step_count, notes_before, notes_of}
use Rattle.mbe_pattern.specs.Patterns.{Pattern, nothing, variable, token, subtree, repetition}
use Rattle.mbe_matcher.specs.Readings.{Reading, done, took, held, round, over, trees_taken, inside_of, more_of, Takes, AreRounds, AreOtherRounds, IsInstance}
use Rattle.mbe_matcher.proofs.Binds.{AreFrom, NestFrom, VariablesFrom, variables_from, variables_wider, rounds_only, rounds_from, rounds_split, behind_all, notes_split, notes_from, lacks_apart, lacks_all, AllAgree, agree_both, agree_behind, agree_before, held_from}
use Rattle.mbe_matcher.proofs.GroupSteps.{total, counted, Lacks, LacksAll, IsWhole, counts-append, counts-lacks, counted-append, counted-lacks, bounds-append, whole-append, whole-lacks, bounds-lacks, bounds_behind_others, taken-lacks}

-- A number is itself.
same_number : (n : ℕ) → nat_eq n n ≡ true
same_number n = grind (arith, nat_tests)

-- they are these variables
abbrev pub AreOf : List Where → List Variable → Type 0
AreOf [] [] = Unit {0}
AreOf [] (other ∷ those) = ⊥
AreOf (it ∷ its) [] = ⊥
AreOf (it ∷ its) (other ∷ those) = (it.variable ≡ other) × AreOf its those

of_both : (its others : List Where) (those more : List Variable) → AreOf its those → AreOf others more → AreOf (its ++ others) (those ++ more)
of_both [] others [] more x y = y
of_both [] others (other ∷ those) more x y = absurd x
of_both (it ∷ its) others [] more x y = absurd x
of_both (it ∷ its) others (other ∷ those) more x y = (x.0, of_both its others those more x.1 y)

of_held : (number : ℕ) (its : List Where) (those : List Variable) → AreOf its those → AreOf (map (held_in number) its) those
of_held number [] [] x = tt
of_held number [] (other ∷ those) x = absurd x
of_held number (it ∷ its) [] x = absurd x
of_held number (it ∷ its) (other ∷ those) x = (x.0, of_held number its those x.1)

-- The variables of a pattern are those in it.
variables_are : (pattern : Pattern) (behind : ℕ) → AreOf (variables_of pattern behind) (variables_in pattern)
variables_are nothing behind = tt
variables_are (variable it others) behind = (refl, variables_are others behind)
variables_are (token its others) behind = variables_are others behind
variables_are (subtree kind inner others) behind =
    of_both (variables_of inner (suc (step_count others + behind))) (variables_of others behind) (variables_in inner) (variables_in others)
    (variables_are inner (suc (step_count others + behind))) (variables_are others behind)
variables_are (repetition inner separator op others) behind =
    let number = step_count others + behind in
    of_both (map (held_in number) (variables_of inner (suc number))) (variables_of others behind) (variables_in inner) (variables_in others)
    (of_held number (variables_of inner (suc number)) (variables_in inner) (variables_are inner (suc number))) (variables_are others behind)

module _ (number hi : ℕ) where
  -- the notes of rounds bind to the variable the list of what each round binds, and exactly that list
  pub record IsListed (it : Where) (notes : List Note) (named : Named) : Type 0 where
    pub its : List Bound
    pub variable : it.variable ≡ named.variable
    pub bound : named.bound ≡ listed its
    pub bounds : bounds_by it.nest it.number notes ≡ its
    pub counts : (so_far : ℕ) → counts_by number so_far notes ≡ (so_far + length its) ∷ []
    pub none_counted : (so_far : ℕ) → counted number so_far notes ≡ 0
    pub whole : IsWhole it.nest it.number notes

  abbrev pub AreListed : List Where → List Note → Binding → Type 0
  AreListed [] notes [] = Unit {0}
  AreListed [] notes (named ∷ others) = ⊥
  AreListed (it ∷ its) notes [] = ⊥
  AreListed (it ∷ its) notes (named ∷ others) = IsListed it notes named × AreListed its notes others

  -- A note of the repetition itself says nothing about the variables in it.
  lacks_own : (it : Where) (note : Note) → (suc number ≤ it.number) × (it.number < hi) × NestFrom (suc number) hi it.nest → AreFrom number (suc number) (note ∷ [])
      → LacksAll it.nest it.number (note ∷ [])
  lacks_own it note from are = lacks_all (suc number) hi number (suc number) (inr (omega arith)) it.nest it.number (note ∷ []) from.2 from.0 from.1 are

  begun_own : AreFrom number (suc number) (begun number ∷ [])
  begun_own = ((omega arith, omega arith), tt)

  ended_own : AreFrom number (suc number) (ended number ∷ [])
  ended_own = ((omega arith, omega arith), tt)

  -- If there is no further round.
  over_listed : (its : List Where) (those : List Variable) → AreOf its those → VariablesFrom (suc number) hi its → AreListed its (ended number ∷ []) (map unbound those)
  over_listed [] [] x from = tt
  over_listed [] (other ∷ those) x from = absurd x
  over_listed (it ∷ its) [] x from = absurd x
  over_listed (it ∷ its) (other ∷ those) x from =
      let lacks = lacks_own it (ended number) from.0 ended_own in (
        record {
          its = [];
          variable = x.0;
          bound = refl;
          bounds = bounds-lacks it.nest it.number (ended number ∷ []) lacks;
          counts = λ so_far. let plus : so_far ≡ so_far + 0 = omega arith in ap (λ b. cond b (so_far ∷ []) []) (same_number number) ∙ ap (λ n. n ∷ []) plus;
          none_counted = λ so_far. ap (λ b. cond b 0 so_far) (same_number number);
          whole = whole-lacks it.nest it.number (ended number ∷ []) lacks;
        },
        over_listed its those x.1 from.1,
      )

  -- If there is one.
  round_listed : (its : List Where) (notes others : List Note) (a b : Binding) → Lacks number notes → VariablesFrom (suc number) hi its → AllAgree its notes a → AreListed its others b
      → AreListed its (begun number ∷ (notes ++ others)) (joined a b)
  round_listed [] notes others [] b lacks from x y = tt
  round_listed [] notes others (named ∷ a) b lacks from x y = absurd x
  round_listed (it ∷ its) notes others [] b lacks from x y = absurd x
  round_listed (it ∷ its) notes others (named ∷ a) [] lacks from x y = absurd y
  round_listed (it ∷ its) notes others (named ∷ a) (other ∷ b) lacks from x y =
      let own = lacks_own it (begun number) from.0 begun_own in (
        record {
          its = named.bound ∷ y.0.its;
          variable = x.0.variable;
          bound = ap (first named.bound) y.0.bound;
          bounds =
              bounds_behind_others it.nest it.number (begun number ∷ []) (notes ++ others) own
              ∙ bounds-append it.nest it.number notes others x.0.whole
              ∙ ap₂ (λ l m. l ++ m) x.0.bounds y.0.bounds;
          counts = λ so_far.
              let plus : suc so_far + length y.0.its ≡ so_far + suc (length y.0.its) = omega arith in
              ap (λ c. cond c (counts_by number (suc so_far) (notes ++ others)) (counts_by number so_far (notes ++ others))) (same_number number)
              ∙ counts-append number (suc so_far) notes others
              ∙ ap₂ (λ l n. l ++ counts_by number n others) (counts-lacks number (suc so_far) notes lacks) (counted-lacks number (suc so_far) notes lacks)
              ∙ y.0.counts (suc so_far)
              ∙ ap (λ n. n ∷ []) plus;
          none_counted = λ so_far.
              ap (λ c. cond c (counted number (suc so_far) (notes ++ others)) (counted number so_far (notes ++ others))) (same_number number)
              ∙ counted-append number (suc so_far) notes others
              ∙ y.0.none_counted (counted number (suc so_far) notes);
          whole =
              whole-append it.nest it.number (begun number ∷ []) (notes ++ others) (whole-lacks it.nest it.number (begun number ∷ []) own)
              (whole-append it.nest it.number notes others x.0.whole y.0.whole);
        },
        round_listed its notes others a b lacks from.1 x.1 y.1,
      )

  -- So a variable in the repetition is bound to its lists.
  held_agree : (its : List Where) (notes : List Note) (a : Binding) → AreListed its notes a → AllAgree (map (held_in number) its) notes a
  held_agree [] notes [] x = tt
  held_agree [] notes (named ∷ a) x = absurd x
  held_agree (it ∷ its) notes [] x = absurd x
  held_agree (it ∷ its) notes (named ∷ a) x =
      let same : length x.0.its ≡ length (bounds_by it.nest it.number notes) = ap length (sym x.0.bounds) in
      let plus : 0 + length x.0.its ≡ length x.0.its = omega arith in
      let counts : counts_by number 0 notes ≡ length x.0.its ∷ [] = x.0.counts 0 ∙ ap (λ n. n ∷ []) plus in (
        record {
          variable = x.0.variable;
          bounds = ap₂ grouped counts x.0.bounds ∙ ap (λ l. listed l ∷ []) (take-length x.0.its) ∙ ap (λ l. l ∷ []) (sym x.0.bound);
          whole = (ap total counts ∙ all_of (length x.0.its) (length (bounds_by it.nest it.number notes)) same, x.0.none_counted 0, x.0.whole);
        },
        held_agree its notes a x.1,
      )
    where
      all_of : (n m : ℕ) → n ≡ m → n + 0 ≡ m
      all_of n m is = omega (arith, is)

  -- All rounds of a repetition.
  module _ (its : List Where) (those : List Variable) (One : Reading → List Note) (binds : Reading → Binding) (op : RepeatKind) (separator : List Leaf)
      (Takes_one : Forest → Reading → Forest → Type 0) (Takes_behind : Forest → Reading → Type 0) (are_of : AreOf its those) (from : VariablesFrom (suc number) hi its)
      (lacks : (this : Reading) → Lacks number (One this)) (agree : (input : Forest) (this : Reading) (rest : Forest) → Takes_one input this rest → AllAgree its (One this) (binds this)) where
    others_listed : (reading : Reading) (input : Forest) → AreOtherRounds op separator Takes_one Takes_behind input reading
        → AreListed its (rounds_only number One reading) (of_rounds those binds reading)
    others_listed done input are = absurd are
    others_listed (took trees more) input are = absurd are
    others_listed (held inside more) input are = absurd are
    others_listed (round this others) input (start, rest, may, separates, takes, are) =
        round_listed its (One this) (rounds_only number One others) (binds this) (of_rounds those binds others) (lacks this) from (agree start this rest takes) (others_listed others rest are)
    others_listed (over more) input are = over_listed its those are_of from

    pub rounds_listed : (reading : Reading) (input : Forest) → AreRounds op separator Takes_one Takes_behind input reading
        → AreListed its (rounds_only number One reading) (of_rounds those binds reading)
    rounds_listed done input are = absurd are
    rounds_listed (took trees more) input are = absurd are
    rounds_listed (held inside more) input are = absurd are
    rounds_listed (round this others) input (rest, takes, are) =
        round_listed its (One this) (rounds_only number One others) (binds this) (of_rounds those binds others) (lacks this) from (agree input this rest takes) (others_listed others rest are)
    rounds_listed (over more) input are = over_listed its those are_of from

-- The same for all patterns.
pub all_agree : (pattern : Pattern) (behind : ℕ) (input : Forest) (reading : Reading) (rest : Forest) → Takes pattern input reading rest
    → AllAgree (variables_of pattern behind) (notes_before pattern behind reading []) (binding_of pattern reading)
all_agree nothing behind input reading rest takes = tt
all_agree (variable it others) behind input reading rest (more, is, takes, further) =
    let number = step_count others + behind in
    subst (λ r. AllAgree (variables_of (variable it others) behind) (taken number (trees_taken r) ∷ notes_before others behind (more_of r) []) (binding_of (variable it others) r)) (sym is) (
      record {
        variable = refl;
        bounds =
            ap (λ b. map one (cond b (trees_taken (took (trees_of_fragment it.fragment input) more) ∷ taken_by number (notes_before others behind more [])) (taken_by number (notes_before others behind more [])))) (same_number number)
            ∙ ap (λ l. one (trees_of_fragment it.fragment input) ∷ map one l)
            (taken-lacks number (notes_before others behind more [])
            (lacks_apart number (suc number) behind number (inr (omega arith)) number (notes_before others behind more []) (omega arith) (omega arith)
            (notes_from others behind behind number more [] (omega arith) (omega arith) tt)));
        whole = tt;
      },
      agree_behind behind number number (suc number) (inl (omega arith)) (notes_before others behind more []) (taken number (trees_of_fragment it.fragment input) ∷ [])
          ((omega arith, omega arith), tt) (variables_of others behind) (binding_of others more) (variables_from others behind)
          (all_agree others behind (left_by it.fragment input) more rest further),
    )
all_agree (token its others) behind input reading rest takes = all_agree others behind (after_trees (length its) input) reading rest takes.1
all_agree (subtree kind inner others) behind input reading rest (inside, more, is, node, takes, further) =
    let number = suc (step_count others + behind) in
    let most = step_count inner + number in
    let low = notes_before others behind more [] in
    let high = notes_before inner number inside [] in
    let low_from : AreFrom behind number low = notes_from others behind behind number more [] (omega arith) (omega arith) tt in
    let high_from : AreFrom number most high = notes_from inner number number most inside [] (omega arith) (omega arith) tt in
    let low_variables : VariablesFrom behind number (variables_of others behind) =
    variables_wider behind (step_count others + behind) behind number (variables_of others behind) (omega arith) (omega arith) (variables_from others behind) in
    subst (λ r. AllAgree (variables_of inner number ++ variables_of others behind) (notes_before inner number (inside_of r) (notes_before others behind (more_of r) [])) (binding_of inner (inside_of r) ++ binding_of others (more_of r))) (sym is)
    (subst (λ l. AllAgree (variables_of inner number ++ variables_of others behind) l (binding_of inner inside ++ binding_of others more))
    (sym (notes_split inner number (children_of input) inside end low takes))
    (agree_both (variables_of inner number) (variables_of others behind) (high ++ low) (binding_of inner inside) (binding_of others more)
    (agree_before number most behind number (inr (omega arith)) high low low_from (variables_of inner number) (binding_of inner inside) (variables_from inner number)
    (all_agree inner number (children_of input) inside end takes))
    (agree_behind behind number number most (inl (omega arith)) low high high_from (variables_of others behind) (binding_of others more) low_variables
    (all_agree others behind (after_tree input) more rest further))))
all_agree (repetition inner separator op others) behind input reading rest are =
    let number = step_count others + behind in
    let most = step_count inner + suc number in
    let One = λ (this : Reading). notes_before inner (suc number) this [] in
    let R = rounds_only number One reading in
    let further = behind_all op separator (Takes inner) (λ trees more. Takes others trees more rest) reading input are in
    let low = notes_before others behind (behind_rounds reading) [] in
    let low_from : AreFrom behind number low = notes_from others behind behind number (behind_rounds reading) [] (omega arith) (omega arith) tt in
    let R_from : AreFrom number most R =
    rounds_from number most number One (omega arith) (omega arith) (λ this. notes_from inner (suc number) number most this [] (omega arith) (omega arith) tt) reading in
    let inner_from : VariablesFrom (suc number) most (variables_of inner (suc number)) = variables_from inner (suc number) in
    let rounds : AllAgree (map (held_in number) (variables_of inner (suc number))) R (of_rounds (variables_in inner) (binding_of inner) reading) =
    held_agree number most (variables_of inner (suc number)) R (of_rounds (variables_in inner) (binding_of inner) reading)
    (rounds_listed number most (variables_of inner (suc number)) (variables_in inner) One (binding_of inner) op separator (Takes inner) (λ trees more. Takes others trees more rest)
    (variables_are inner (suc number)) inner_from
    (λ this. lacks_apart number (suc number) (suc number) most (inl (omega arith)) number (One this) (omega arith) (omega arith)
    (notes_from inner (suc number) (suc number) most this [] (omega arith) (omega arith) tt))
    (λ trees this middle takes. all_agree inner (suc number) trees this middle takes)
    reading input are) in
    let held_variables : VariablesFrom number most (map (held_in number) (variables_of inner (suc number))) =
    held_from number most number (variables_of inner (suc number)) (omega arith) (omega arith)
    (variables_wider (suc number) most number most (variables_of inner (suc number)) (omega arith) (omega arith) inner_from) in
    subst (λ l. AllAgree (map (held_in number) (variables_of inner (suc number)) ++ variables_of others behind) l (of_rounds (variables_in inner) (binding_of inner) reading ++ binding_of others (behind_rounds reading)))
    (sym (rounds_split number (notes_before inner (suc number)) (λ more. notes_before others behind more []) op separator (Takes inner) (λ trees more. Takes others trees more rest)
    (λ trees this middle left takes. notes_split inner (suc number) trees this middle left takes) reading input are))
    (agree_both (map (held_in number) (variables_of inner (suc number))) (variables_of others behind) (R ++ low) (of_rounds (variables_in inner) (binding_of inner) reading) (binding_of others (behind_rounds reading))
    (agree_before number most behind number (inr (omega arith)) R low low_from (map (held_in number) (variables_of inner (suc number))) (of_rounds (variables_in inner) (binding_of inner) reading) held_variables rounds)
    (agree_behind behind number number most (inl (omega arith)) low R R_from (variables_of others behind) (binding_of others (behind_rounds reading)) (variables_from others behind)
    (all_agree others behind further.0 (behind_rounds reading) rest further.1)))

-- If they agree, it is what is bound.
bound_as : (its : List Where) (notes : List Note) (a : Binding) → AllAgree its notes a → binding_by its notes ≡ a
bound_as [] notes [] x = refl
bound_as [] notes (named ∷ a) x = absurd x
bound_as (it ∷ its) notes [] x = absurd x
bound_as (it ∷ its) notes (named ∷ a) x =
    ap₂ (λ (n : Named) (others : Binding). n ∷ others)
    (ap₂ (λ (v : Variable) (b : Bound). record { variable = v; bound = b }) x.0.variable (ap first_bound x.0.bounds)) (bound_as its notes a x.1)

-- The notes of a reading bind what the reading binds.
pub binds : (pattern : Pattern) (input : Forest) (reading : Reading) → IsInstance pattern input reading
    → binding_by (variables_of pattern 1) (notes_of pattern reading) ≡ binding_of pattern reading
binds pattern input reading is = bound_as (variables_of pattern 1) (notes_of pattern reading) (binding_of pattern reading) (all_agree pattern 1 input reading end is)
