-- The numbers that are found from the program of a pattern are those of its parts.
use Rattle.std.proofs.Common.{◌≡◌, ◌+◌, ℕ, suc, true, false, List, [], ◌∷◌, ◌++◌, length, nat_lt, set, cond, refl, ap, ap₂, sym, ◌∙◌, arith, append_assoc, append-nil}
use Rattle.std.proofs.Math.Seq.{set-append_seam}
use Rattle.std.proofs.lemmas.Bool.{le-ltb, lt-ltb}
use Rattle.std.proofs.lemmas.List.{length-append}
use Rattle.std.specs.Prelude.{◌-◌}
use Rattle.mbe_matcher.specs.Parts.{place_count}
use Rattle.mbe_matcher.specs.Marks.{step_count}
use Rattle.mbe_pattern.specs.Patterns.{Pattern, nothing, variable, token, subtree, repetition}
use Rattle.mbe_pattern.specs.declared.pattern.RepeatKind.{RepeatKind}
use Rattle.tt.specs.Types.Leaf.{Leaf}
use Rattle.mbe_program.specs.Counting.{Count, counted, is_separated, nothing_counted, with_none, with_separator}
use Rattle.mbe_program.specs.Numbering.{parts_before, parts_of}
use Rattle.mbe_program.specs.Program.{Instruction, take, pass, enter, leave, again_at, place_at, instructions_before, program_of}
use Rattle.mbe_program.proofs.Beside.{parts_even}
use Rattle.mbe_program.proofs.Placed.{IsPlace, behind_first, behind_pattern, jumps_to, length_is, separator_length}
use Rattle.mbe_program.proofs.Rounds.{begin_place, close_place, round_place, is_round, is_after}

around : (at : ℕ) (pattern : Pattern) (number : ℕ) (long short numbers : List ℕ) → ((numbers : List ℕ) → parts_before at pattern numbers ≡ parts_before at pattern [] ++ numbers)
    → long ≡ short ++ numbers → parts_before at pattern (number ∷ long) ≡ parts_before at pattern (number ∷ short) ++ numbers
around at pattern number long short numbers all same =
    all (number ∷ long) ∙ ap (λ l. parts_before at pattern [] ++ number ∷ l) same ∙ sym (append_assoc (parts_before at pattern []) (number ∷ short) numbers)
    ∙ ap (λ l. l ++ numbers) (sym (all (number ∷ short)))

-- The numbers of a pattern precede those of what follows it.
parts_apart : (at : ℕ) (pattern : Pattern) (numbers : List ℕ) → parts_before at pattern numbers ≡ parts_before at pattern [] ++ numbers
parts_apart at nothing numbers = refl
parts_apart at (variable it others) numbers = ap (λ l. at ∷ l) (parts_apart (suc at) others numbers)
parts_apart at (token its others) numbers = ap (λ l. at ∷ l) (parts_apart (suc at) others numbers)
parts_apart at (subtree kind inner others) numbers =
    let ends = suc at + place_count inner in
    ap (λ l. at ∷ l) (around (suc at) inner ends (parts_before (suc ends) others numbers) (parts_before (suc ends) others []) numbers
    (parts_apart (suc at) inner) (parts_apart (suc ends) others numbers))
parts_apart at (repetition inner [] op others) numbers =
    let next = at + place_count inner + 0 in
    ap (λ l. 0 ∷ l) (around at inner 0 (parts_before next others numbers) (parts_before next others []) numbers (parts_apart at inner) (parts_apart next others numbers))
parts_apart at (repetition inner (it ∷ separator) op others) numbers =
    let next = at + place_count inner + 1 in
    ap (λ l. 0 ∷ (at + place_count inner) ∷ l)
    (around at inner 0 (parts_before next others numbers) (parts_before next others []) numbers (parts_apart at inner) (parts_apart next others numbers))

-- So they are as many as its steps.
own_length : (at : ℕ) (pattern : Pattern) → length (parts_before at pattern []) ≡ step_count pattern
own_length at pattern =
    let even = parts_even at pattern [] [] refl in
    let count = length_is pattern [] in
    omega (arith, even, count)

joined : (numbers own later whole : List ℕ) (x y : ℕ) → whole ≡ own ++ y ∷ later → (((numbers ++ x ∷ []) ++ own) ++ y ∷ []) ++ later ≡ numbers ++ x ∷ whole
joined numbers own later whole x y same =
    append_assoc ((numbers ++ x ∷ []) ++ own) (y ∷ []) later ∙ append_assoc (numbers ++ x ∷ []) own (y ∷ later) ∙ append_assoc numbers (x ∷ []) (own ++ y ∷ later)
    ∙ ap (λ l. numbers ++ x ∷ l) (sym same)

joined_more : (numbers own later whole : List ℕ) (x y z : ℕ) → whole ≡ own ++ z ∷ later
    → (((numbers ++ x ∷ []) ++ y ∷ own) ++ z ∷ []) ++ later ≡ numbers ++ x ∷ y ∷ whole
joined_more numbers own later whole x y z same =
    append_assoc ((numbers ++ x ∷ []) ++ y ∷ own) (z ∷ []) later ∙ append_assoc (numbers ++ x ∷ []) (y ∷ own) (z ∷ later)
    ∙ append_assoc numbers (x ∷ []) (y ∷ (own ++ z ∷ later)) ∙ ap (λ l. numbers ++ x ∷ y ∷ l) (sym same)

-- The number of a separator comes into its place.
put : (first own : List ℕ) (index number : ℕ) → index ≡ length first → set ((first ++ 0 ∷ []) ++ own) index number ≡ first ++ number ∷ own
put first own index number same =
    ap₂ (λ its n. set its n number) (append_assoc first (0 ∷ []) own) same ∙ set-append_seam first 0 own number

module _ (program : List Instruction) where
  abbrev so_far : (numbers : List ℕ) → (next : ℕ) → Count
  so_far numbers next = record { numbers = numbers; next = next; separates = false }

  alike : (place : List Instruction) (a b : List ℕ) (x y : ℕ) → a ≡ b → x ≡ y → counted program place (so_far a x) ≡ counted program place (so_far b y)
  alike place a b x y same also = ap₂ (λ numbers next. counted program place (so_far numbers next)) same also

  -- A repetition begins before the place to which its rounds jump.
  begins : (inner : Pattern) (separator : List Leaf) (op : RepeatKind) (after : List Instruction) → IsPlace program (begin_place inner separator op after)
      → place_at program (suc (again_at separator (step_count inner) (length after))) ≡ begin_place inner separator op after
  begins inner separator op after is =
      let count = separator_length separator (round_place inner separator op after) in
      let own = length_is inner (close_place inner separator op after) in
      jumps_to program (begin_place inner separator op after) (suc (again_at separator (step_count inner) (length after))) is (omega (arith, count, own))

  -- The parts of a pattern are numbered one by one.
  counts : (at : ℕ) (pattern : Pattern) (behind : List Instruction) (numbers : List ℕ) → IsPlace program (instructions_before pattern behind)
      → length numbers + length (instructions_before pattern behind) ≡ length program
      → counted program (instructions_before pattern behind) (so_far numbers at) ≡ counted program behind (so_far (numbers ++ parts_before at pattern []) (at + place_count pattern))
  counts at nothing behind numbers is full = alike behind numbers (numbers ++ []) at (at + 0) (sym (append-nil numbers)) (omega arith)
  counts at (variable it others) behind numbers is full =
      let own = parts_before (suc at) others [] in
      counts (suc at) others behind (numbers ++ at ∷ []) (behind_first program (take it) (instructions_before others behind) is) (omega (arith, full, length-append numbers (at ∷ [])))
      ∙ alike behind ((numbers ++ at ∷ []) ++ own) (numbers ++ at ∷ own) (suc at + place_count others) (at + suc (place_count others)) (append_assoc numbers (at ∷ []) own) (omega arith)
  counts at (token its others) behind numbers is full =
      let own = parts_before (suc at) others [] in
      counts (suc at) others behind (numbers ++ at ∷ []) (behind_first program (pass its) (instructions_before others behind) is) (omega (arith, full, length-append numbers (at ∷ [])))
      ∙ alike behind ((numbers ++ at ∷ []) ++ own) (numbers ++ at ∷ own) (suc at + place_count others) (at + suc (place_count others)) (append_assoc numbers (at ∷ []) own) (omega arith)
  counts at (subtree kind inner others) behind numbers is full =
      let after = instructions_before others behind in
      let ends = suc at + place_count inner in
      let own = parts_before (suc at) inner [] in
      let later = parts_before (suc ends) others [] in
      let first = numbers ++ at ∷ [] in
      let is_inside = behind_first program (enter kind) (instructions_before inner (leave ∷ after)) is in
      let one = length-append numbers (at ∷ []) in
      let within = length_is inner (leave ∷ after) in
      counts (suc at) inner (leave ∷ after) first is_inside (omega (arith, full, one))
      ∙ counts (suc ends) others behind ((first ++ own) ++ ends ∷ []) (behind_first program leave after (behind_pattern program inner (leave ∷ after) is_inside))
      (omega (arith, full, one, within, own_length (suc at) inner, length-append first own, length-append (first ++ own) (ends ∷ [])))
      ∙ alike behind (((first ++ own) ++ ends ∷ []) ++ later) (numbers ++ at ∷ parts_before (suc at) inner (ends ∷ later)) (suc ends + place_count others)
      (at + suc (place_count inner + suc (place_count others))) (joined numbers own later (parts_before (suc at) inner (ends ∷ later)) at ends (parts_apart (suc at) inner (ends ∷ later))) (omega arith)
  counts at (repetition inner [] op others) behind numbers is full =
      let after = instructions_before others behind in
      let ends = close_place inner [] op after in
      let round = round_place inner [] op after in
      let start = step_count inner + suc (length after) in
      let again = again_at [] (step_count inner) (length after) in
      let next = at + place_count inner + 0 in
      let own = parts_before at inner [] in
      let later = parts_before next others [] in
      let first = numbers ++ 0 ∷ [] in
      let whole = (first ++ own) ++ 0 ∷ [] in
      let one = length-append numbers (0 ∷ []) in
      let within = length_is inner ends in
      let flag : nat_lt start (length round) ≡ false = le-ltb start (length round) (omega (arith, within)) in
      let closed : is_separated (place_at program (suc again)) again ≡ false =
      ap (λ place. is_separated place again) (begins inner [] op after is) ∙ le-ltb start again (omega arith) in
      ap (λ b. counted program round (record { numbers = first; next = at; separates = b })) flag
      ∙ counts at inner ends first (is_round inner [] op after program is) (omega (arith, full, one))
      ∙ ap (λ b. counted program after (cond b (with_separator (length program - again) (so_far (first ++ own) (at + place_count inner))) (with_none false (so_far (first ++ own) (at + place_count inner))))) closed
      ∙ alike after whole whole (at + place_count inner) next refl (omega arith)
      ∙ counts next others behind whole (is_after inner [] op after program is)
      (omega (arith, full, one, within, own_length at inner, length-append first own, length-append (first ++ own) (0 ∷ [])))
      ∙ alike behind (whole ++ later) (numbers ++ 0 ∷ parts_before at inner (0 ∷ later)) (next + place_count others)
      (at + (place_count inner + (0 + place_count others))) (joined numbers own later (parts_before at inner (0 ∷ later)) 0 0 (parts_apart at inner (0 ∷ later))) (omega arith)
  counts at (repetition inner (it ∷ separator) op others) behind numbers is full =
      let after = instructions_before others behind in
      let ends = close_place inner (it ∷ separator) op after in
      let round = round_place inner (it ∷ separator) op after in
      let start = step_count inner + suc (length after) in
      let again = again_at (it ∷ separator) (step_count inner) (length after) in
      let number = at + place_count inner in
      let next = at + place_count inner + 1 in
      let own = parts_before at inner [] in
      let later = parts_before next others [] in
      let first = numbers ++ 0 ∷ [] in
      let so = (first ++ 0 ∷ []) ++ own in
      let whole = (first ++ number ∷ own) ++ 0 ∷ [] in
      let one = length-append numbers (0 ∷ []) in
      let two = length-append first (0 ∷ []) in
      let within = length_is inner ends in
      let flag : nat_lt start (suc (length round)) ≡ true = lt-ltb start (suc (length round)) (omega (arith, within)) in
      let closed : is_separated (place_at program (suc again)) again ≡ true =
      ap (λ place. is_separated place again) (begins inner (it ∷ separator) op after is) ∙ lt-ltb start again (omega arith) in
      ap (λ b. counted program (pass (it ∷ separator) ∷ round) (record { numbers = first; next = at; separates = b })) flag
      ∙ counts at inner ends (first ++ 0 ∷ []) (is_round inner (it ∷ separator) op after program is) (omega (arith, full, one, two))
      ∙ ap (λ b. counted program after (cond b (with_separator (length program - again) (so_far so number)) (with_none false (so_far so number)))) closed
      ∙ alike after (set so (length program - again) number ++ 0 ∷ []) whole (suc number) next
      (ap (λ l. l ++ 0 ∷ []) (put first own (length program - again) number (omega (arith, full, one, within)))) (omega arith)
      ∙ counts next others behind whole (is_after inner (it ∷ separator) op after program is)
      (omega (arith, full, one, within, own_length at inner, length-append first (number ∷ own), length-append (first ++ number ∷ own) (0 ∷ [])))
      ∙ alike behind (whole ++ later) (numbers ++ 0 ∷ number ∷ parts_before at inner (0 ∷ later)) (next + place_count others)
      (at + (place_count inner + (1 + place_count others))) (joined_more numbers own later (parts_before at inner (0 ∷ later)) 0 number 0 (parts_apart at inner (0 ∷ later))) (omega arith)

-- So the numbers that are found are those of the parts.
pub counted_parts : (pattern : Pattern) → (counted (program_of pattern) (program_of pattern) nothing_counted).numbers ≡ parts_of pattern
counted_parts pattern =
    let own = parts_before 0 pattern [] in
    ap (λ (it : Count). it.numbers) (counts (program_of pattern) 0 pattern (leave ∷ []) [] ([], refl) (omega arith))
    ∙ ap (λ n. own ++ n ∷ []) (let none : 0 + place_count pattern ≡ place_count pattern = omega arith in none)
    ∙ sym (parts_apart 0 pattern (place_count pattern ∷ []))
