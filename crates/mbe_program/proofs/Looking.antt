-- One more position is looked into, and how many positions are still to come.
use Rattle.std.proofs.Common.{◌≡◌, ◌+◌, ◌-◌, ◌<◌, ◌≤◌, ℕ, zero, suc, List, [], ◌∷◌, ◌++◌, length, drop, ap, ap₂, sym, subst, ◌∙◌, arith}
use Rattle.std.proofs.lemmas.List.{length-append, drop-append-le}
use Rattle.std.specs.Prelude.{Contains}
use Rattle.tt.specs.Forest.{Forest, end, leaf, node, size}
use Rattle.tt.specs.Moves.{after_tree}
use Rattle.tt.specs.Types.Delimiter.{Delimiter}
use Rattle.tt.specs.Types.DelimiterKind.{DelimiterKind}
use Rattle.mbe_pattern.specs.Units.{IsNodeOf}
use Rattle.mbe_program.specs.Laying.{Spot, spot, spots_of, level_spots, places_in, places_inside, pending, IsSpot, AreLaid}
use Rattle.mbe_program.specs.Positions.{table_of}
use Rattle.mbe_program.specs.Program.{Instruction, enter}
use Rattle.mbe_program.specs.declared.positions.Positions.{Positions}
use Rattle.mbe_program.proofs.Laid.{spot_once, laid_none, laid_more}
use Rattle.mbe_program.proofs.LaidTable.{table_spot, spot_at, spots_count, in_table, own_spot}

pending_append : (xs ys : List Spot) → pending (xs ++ ys) ≡ pending xs + pending ys
pending_append [] ys = omega arith
pending_append (x ∷ xs) ys = let rest = pending_append xs ys in omega (arith, rest)

-- A level has its own positions, and those inside are still to come.
pub level_count : (outside behind : ℕ) (trees : Forest) → length (level_spots outside behind trees) + pending (level_spots outside behind trees) ≡ places_in trees
level_count outside behind end = omega arith
level_count outside behind (leaf it rest) = let more = level_count outside behind rest in omega (arith, more)
level_count outside behind (node delimiter children rest) = let more = level_count outside behind rest in omega (arith, more)

-- At first all but the outside and the first level are still to come.
pub first_count : (input : Forest) → length (spot 0 0 end ∷ level_spots 0 0 input) + pending (drop 1 (spot 0 0 end ∷ level_spots 0 0 input)) ≡ suc (places_in input)
first_count input = let level = level_count 0 0 input in omega (arith, level)

drop_here : (spots : List Spot) (n : ℕ) (it : Spot) → IsSpot spots n it → drop n spots ≡ it ∷ drop (suc n) spots
drop_here [] n it is = absurd is
drop_here (other ∷ others) zero it is = ap (λ first. first ∷ others) (sym is)
drop_here (other ∷ others) (suc n) it is = drop_here others n it is

-- So many are still to come when one more position was looked into.
pending_here : (spots : List Spot) (n : ℕ) (it : Spot) → IsSpot spots n it → pending (drop n spots) ≡ places_inside it.trees + pending (drop (suc n) spots)
pending_here spots n it is = ap pending (drop_here spots n it is)

module _ (old new : Positions) (number next : ℕ) (within : number < length old.all.items) (next_is : next ≡ suc number) where
  here : IsSpot (spots_of old) number (table_spot old number)
  here = spot_at old number within

  pub count_none : spots_of new ≡ spots_of old → length (spots_of new) + pending (drop next (spots_of new)) ≤ length (spots_of old) + pending (drop number (spots_of old))
  count_none same =
      let own = pending_here (spots_of old) number (table_spot old number) here in
      let now : length (spots_of new) + pending (drop next (spots_of new)) ≡ length (spots_of old) + pending (drop (suc number) (spots_of old)) =
      ap₂ (λ (spots : List Spot) (n : ℕ). length spots + pending (drop n spots)) same next_is in
      omega (arith, own, now)

  pub count_more : (outside behind : ℕ) (delimiter : Delimiter) (children rest : Forest) → (table_of old).trees number ≡ node delimiter children rest
      → spots_of new ≡ spots_of old ++ level_spots outside behind children
      → length (spots_of new) + pending (drop next (spots_of new)) ≤ length (spots_of old) + pending (drop number (spots_of old))
  count_more outside behind delimiter children rest trees more =
      let level = level_spots outside behind children in
      let own = pending_here (spots_of old) number (table_spot old number) here in
      let inside : places_inside ((table_of old).trees number) ≡ places_in children = ap places_inside trees in
      let count = spots_count old in
      let now : length (spots_of new) + pending (drop next (spots_of new)) ≡ length (spots_of old ++ level) + pending (drop (suc number) (spots_of old ++ level)) =
      ap₂ (λ (spots : List Spot) (n : ℕ). length spots + pending (drop n spots)) more next_is in
      let cut : pending (drop (suc number) (spots_of old ++ level)) ≡ pending (drop (suc number) (spots_of old) ++ level) =
      ap pending (drop-append-le (suc number) (spots_of old) level (omega (arith, within, count))) in
      let both = pending_append (drop (suc number) (spots_of old)) level in
      let lengths = length-append (spots_of old) level in
      let level_is = level_count outside behind children in
      omega (arith, own, inside, now, cut, both, lengths, level_is)

  module _ (program : List Instruction) (input : Forest) (some : 0 < number) (looked : length old.insides.items ≡ number) (laid : AreLaid program input (spots_of old) old.insides.items) where
    -- A first tree that the program does not enter holds nothing,
    pub look_none : spots_of new ≡ spots_of old → new.insides.items ≡ old.insides.items ++ 0 ∷ []
        → ((kind : DelimiterKind) → Contains program (enter kind) → IsNodeOf kind ((table_of old).trees number) → ⊥) → AreLaid program input (spots_of new) new.insides.items
    look_none same pushed none =
        subst (λ spots. AreLaid program input spots new.insides.items) (sym same)
        (subst (AreLaid program input (spots_of old)) (sym pushed)
        (laid_none program input (spots_of old) old.insides.items laid (table_spot old number) (subst (λ n. IsSpot (spots_of old) n (table_spot old number)) (sym looked) here) none))

    goes : (delimiter : Delimiter) (children rest : Forest) → (table_of old).trees number ≡ node delimiter children rest → (table_of old).trees number ≡ end → ⊥
    goes delimiter children rest trees none = let both : node delimiter children rest ≡ end = sym trees ∙ none in cc both

    next_within : (delimiter : Delimiter) (children rest : Forest) → (table_of old).trees number ≡ node delimiter children rest → suc number < length old.all.items
    next_within delimiter children rest trees =
        let found = laid.next number (table_spot old number) some here (goes delimiter children rest trees) in
        in_table old (suc number) found.0 found.1

    -- and what a subtree holds is laid behind all other positions.
    pub look_more : (delimiter : Delimiter) (children rest : Forest) → (table_of old).trees number ≡ node delimiter children rest
        → spots_of new ≡ spots_of old ++ level_spots next ((table_of old).left next) children → new.insides.items ≡ old.insides.items ++ length old.all.items ∷ []
        → AreLaid program input (spots_of new) new.insides.items
    look_more delimiter children rest trees more pushed =
        let after = suc (length old.insides.items) in
        let after_is : after ≡ next = omega (arith, looked, next_is) in
        let numbers : suc number ≡ after = omega (arith, looked) in
        let behind = table_spot old after in
        let there = subst (λ n. IsSpot (spots_of old) n (table_spot old number)) (sym looked) here in
        let next_there = spot_at old after (subst (λ n. n < length old.all.items) numbers (next_within delimiter children rest trees)) in
        let laid_now = laid_more program input (spots_of old) old.insides.items laid (table_spot old number) behind delimiter children rest (omega (arith, some, looked)) there trees next_there in
        subst (λ spots. AreLaid program input spots new.insides.items) (sym (more ∙ ap (λ n. spots_of old ++ level_spots n ((table_of old).left n) children) (sym after_is)))
        (subst (AreLaid program input (spots_of old ++ level_spots after behind.left children)) (sym (pushed ∙ ap (λ n. old.insides.items ++ n ∷ []) (sym (spots_count old)))) laid_now)

    -- The tokens at a subtree are its own one, those inside and those behind it.
    pub look_left : (delimiter : Delimiter) (children rest : Forest) → (table_of old).trees number ≡ node delimiter children rest
        → (table_of old).left number ≡ suc (size children + (table_of old).left next)
    look_left delimiter children rest trees =
        let found = laid.next number (table_spot old number) some here (goes delimiter children rest trees) in
        let around = laid.out number (table_spot old number) here in
        let outer = laid.out (suc number) found.0 found.1 in
        let same : around.0 ≡ outer.0 = spot_once (spots_of old) ((table_of old).outside number) around.0 outer.0 around.1 (subst (λ n. IsSpot (spots_of old) n outer.0) found.3 outer.1) in
        let own_left : (table_of old).left number ≡ size ((table_of old).trees number) + around.0.left = around.2 some in
        let own_size : size ((table_of old).trees number) ≡ suc (size children + size rest) = ap size trees in
        let next_left : found.0.left ≡ size found.0.trees + outer.0.left = outer.2 (omega arith) in
        let next_size : size found.0.trees ≡ size rest = ap size (found.2 ∙ ap after_tree trees) in
        let outer_left : around.0.left ≡ outer.0.left = ap (λ (it : Spot). it.left) same in
        let at_next : (table_of old).left next ≡ found.0.left =
        ap (table_of old).left next_is ∙ ap (λ (it : Spot). it.left) (own_spot old (suc number) found.0 found.1) in
        omega (arith, own_left, own_size, next_left, next_size, outer_left, at_next)

    -- The tokens at it and inside it show what is left behind it.
    pub look_behind : (delimiter : Delimiter) (children rest : Forest) → (table_of old).trees number ≡ node delimiter children rest → (left count : ℕ) → left ≡ (table_of old).left number
        → count ≡ size children → (suc count ≤ left) × (left - count - 1 ≡ (table_of old).left next)
    look_behind delimiter children rest trees left count left_is count_is =
        let own = look_left delimiter children rest trees in
        (omega (arith, own, left_is, count_is), omega (arith, own, left_is, count_is))
