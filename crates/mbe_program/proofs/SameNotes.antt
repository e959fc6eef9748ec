-- Two readings of the same trees with the same notes are the same.
use Rattle.std.proofs.Common.{◌≡◌, ◌+◌, ℕ, suc, List, [], ◌∷◌, length, ap, ap₂, sym, subst, ◌∙◌}
use Rattle.mbe_matcher.specs.Fragments.{taken, left_by}
use Rattle.mbe_matcher.specs.Marks.{step_count, Note, taken as took_by, begun, ended, notes_before, notes_of_rounds}
use Rattle.mbe_matcher.specs.Readings.{Reading, done, took, held, round, over, Separates, AreRounds, AreOtherRounds, Takes}
use Rattle.mbe_pattern.specs.Patterns.{Pattern, nothing, variable, token, subtree, repetition}
use Rattle.mbe_pattern.specs.declared.pattern.RepeatKind.{RepeatKind}
use Rattle.tt.specs.Forest.{Forest, end}
use Rattle.tt.specs.Gluing.{after_trees}
use Rattle.tt.specs.Moves.{after_tree}
use Rattle.tt.specs.Siblings.{children_of}
use Rattle.tt.specs.Types.Leaf.{Leaf}

-- they read the same, up to the same trees, and the notes after them are the same
pub record AreSame (one other : Reading) (rest end_other : Forest) (left right : List Note) : Type 0 where
  pub readings : one ≡ other
  pub rests : rest ≡ end_other
  pub notes : left ≡ right

-- Notes after the same note are the same.
behind_note : (one other : Note) (left right : List Note) → one ∷ left ≡ other ∷ right → left ≡ right
behind_note one other left right same = cc same

-- A separator is passed in only one way.
same_start : (separator : List Leaf) (input one other : Forest) → Separates separator input one → Separates separator input other → one ≡ other
same_start [] input one other is was = is ∙ sym was
same_start (it ∷ others) input one other is was = is.1 ∙ sym was.1

module _ (op : RepeatKind) (separator : List Leaf) (number : ℕ) (One Behind : Forest → Reading → Forest → Type 0) (notes_one notes_behind : Reading → List Note → List Note)
    (same_one : (input : Forest) (one other : Reading) (rest end_other : Forest) (left right : List Note) → One input one rest → One input other end_other
    → notes_one one left ≡ notes_one other right → AreSame one other rest end_other left right)
    (same_behind : (input : Forest) (one other : Reading) (rest end_other : Forest) (left right : List Note) → Behind input one rest → Behind input other end_other
    → notes_behind one left ≡ notes_behind other right → AreSame one other rest end_other left right) where
  abbrev Others : Forest → Reading → Forest → Type 0
  Others input reading rest = AreOtherRounds op separator One (λ trees more. Behind trees more rest) input reading

  abbrev All : Forest → Reading → Forest → Type 0
  All input reading rest = AreRounds op separator One (λ trees more. Behind trees more rest) input reading

  abbrev notes_from : Reading → List Note → List Note
  notes_from reading more = notes_of_rounds number notes_one (λ reading. notes_behind reading more) reading

  apart : (left right : List Note) → begun number ∷ left ≡ ended number ∷ right → ⊥
  apart left right same = cc same

  same_others : (one other : Reading) (input : Forest) (rest end_other : Forest) (left right : List Note) → Others input one rest → Others input other end_other
      → notes_from one left ≡ notes_from other right → AreSame one other rest end_other left right
  same_others done other input rest end_other left right is was same = absurd is
  same_others (took trees more) other input rest end_other left right is was same = absurd is
  same_others (held inside more) other input rest end_other left right is was same = absurd is
  same_others (round this more) done input rest end_other left right is was same = absurd was
  same_others (round this more) (took trees others) input rest end_other left right is was same = absurd was
  same_others (round this more) (held inside others) input rest end_other left right is was same = absurd was
  same_others (round this more) (round that others) input rest end_other left right (start, next, may, separates, is, are) (start_other, next_other, may_other, separates_other, was, were) same =
      let here = same_one start this that next next_other (notes_from more left) (notes_from others right) is
      (subst (λ trees. One trees that next_other) (same_start separator input start_other start separates_other separates) was)
      (behind_note (begun number) (begun number) (notes_one this (notes_from more left)) (notes_one that (notes_from others right)) same) in
      let then = same_others more others next rest end_other left right are (subst (λ trees. Others trees others end_other) (sym here.rests) were) here.notes in
      record { readings = ap₂ round here.readings then.readings; rests = then.rests; notes = then.notes }
  same_others (round this more) (over others) input rest end_other left right is was same = absurd (apart (notes_one this (notes_from more left)) (notes_behind others right) same)
  same_others (over more) done input rest end_other left right is was same = absurd was
  same_others (over more) (took trees others) input rest end_other left right is was same = absurd was
  same_others (over more) (held inside others) input rest end_other left right is was same = absurd was
  same_others (over more) (round that others) input rest end_other left right is was same = absurd (apart (notes_one that (notes_from others right)) (notes_behind more left) (sym same))
  same_others (over more) (over others) input rest end_other left right is was same =
      let then = same_behind input more others rest end_other left right is was (behind_note (ended number) (ended number) (notes_behind more left) (notes_behind others right) same) in
      record { readings = ap over then.readings; rests = then.rests; notes = then.notes }

  same_rounds : (one other : Reading) (input : Forest) (rest end_other : Forest) (left right : List Note) → All input one rest → All input other end_other
      → notes_from one left ≡ notes_from other right → AreSame one other rest end_other left right
  same_rounds done other input rest end_other left right is was same = absurd is
  same_rounds (took trees more) other input rest end_other left right is was same = absurd is
  same_rounds (held inside more) other input rest end_other left right is was same = absurd is
  same_rounds (round this more) done input rest end_other left right is was same = absurd was
  same_rounds (round this more) (took trees others) input rest end_other left right is was same = absurd was
  same_rounds (round this more) (held inside others) input rest end_other left right is was same = absurd was
  same_rounds (round this more) (round that others) input rest end_other left right (next, is, are) (next_other, was, were) same =
      let here = same_one input this that next next_other (notes_from more left) (notes_from others right) is was
      (behind_note (begun number) (begun number) (notes_one this (notes_from more left)) (notes_one that (notes_from others right)) same) in
      let then = same_others more others next rest end_other left right are (subst (λ trees. Others trees others end_other) (sym here.rests) were) here.notes in
      record { readings = ap₂ round here.readings then.readings; rests = then.rests; notes = then.notes }
  same_rounds (round this more) (over others) input rest end_other left right is was same = absurd (apart (notes_one this (notes_from more left)) (notes_behind others right) same)
  same_rounds (over more) done input rest end_other left right is was same = absurd was
  same_rounds (over more) (took trees others) input rest end_other left right is was same = absurd was
  same_rounds (over more) (held inside others) input rest end_other left right is was same = absurd was
  same_rounds (over more) (round that others) input rest end_other left right is was same = absurd (apart (notes_one that (notes_from others right)) (notes_behind more left) (sym same))
  same_rounds (over more) (over others) input rest end_other left right (may, is) (may_other, was) same =
      let then = same_behind input more others rest end_other left right is was (behind_note (ended number) (ended number) (notes_behind more left) (notes_behind others right) same) in
      record { readings = ap over then.readings; rests = then.rests; notes = then.notes }

-- Two readings of a pattern with the same notes are the same.
pub same_readings : (pattern : Pattern) (number : ℕ) (input : Forest) (one other : Reading) (rest end_other : Forest) (left right : List Note)
    → Takes pattern input one rest → Takes pattern input other end_other
    → notes_before pattern number one left ≡ notes_before pattern number other right → AreSame one other rest end_other left right
same_readings nothing number input one other rest end_other left right is was same =
    record { readings = is.0 ∙ sym was.0; rests = is.1 ∙ sym was.1; notes = same }
same_readings (variable it others) number input one other rest end_other left right (more, reading_is, takes, is) (more_other, other_is, takes_other, was) same =
    let own : took_by (step_count others + number) (taken it.fragment input) ∷ notes_before others number more left ≡ took_by (step_count others + number) (taken it.fragment input) ∷ notes_before others number more_other right =
    sym (ap (λ reading. notes_before (variable it others) number reading left) reading_is) ∙ same ∙ ap (λ reading. notes_before (variable it others) number reading right) other_is in
    let then = same_readings others number (left_by it.fragment input) more more_other rest end_other left right is was (behind_note (took_by (step_count others + number) (taken it.fragment input)) (took_by (step_count others + number) (taken it.fragment input)) (notes_before others number more left) (notes_before others number more_other right) own) in
    record { readings = reading_is ∙ ap (took (taken it.fragment input)) then.readings ∙ sym other_is; rests = then.rests; notes = then.notes }
same_readings (token its others) number input one other rest end_other left right is was same =
    same_readings others number (after_trees (length its) input) one other rest end_other left right is.1 was.1 same
same_readings (subtree kind inner others) number input one other rest end_other left right (inside, more, reading_is, node, own, is) (inside_other, more_other, other_is, node_other, own_other, was) same =
    let inner_number = suc (step_count others + number) in
    let held_same = same_readings inner inner_number (children_of input) inside inside_other end end (notes_before others number more left) (notes_before others number more_other right) own own_other
    (sym (ap (λ reading. notes_before (subtree kind inner others) number reading left) reading_is) ∙ same ∙ ap (λ reading. notes_before (subtree kind inner others) number reading right) other_is) in
    let then = same_readings others number (after_tree input) more more_other rest end_other left right is was held_same.notes in
    record { readings = reading_is ∙ ap₂ held held_same.readings then.readings ∙ sym other_is; rests = then.rests; notes = then.notes }
same_readings (repetition inner separator op others) number input one other rest end_other left right is was same =
    same_rounds op separator (step_count others + number) (Takes inner) (Takes others) (notes_before inner (suc (step_count others + number))) (notes_before others number)
    (same_readings inner (suc (step_count others + number))) (same_readings others number)
    one other input rest end_other left right is was same
