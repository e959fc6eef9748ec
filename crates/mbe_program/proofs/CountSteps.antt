-- One instruction more is counted.
use Rattle.std.proofs.Common.{◌≡◌, ◌+◌, ◌-◌, ◌<◌, ◌≤◌, ℕ, zero, suc, Bool, true, false, List, [], ◌∷◌, drop, get_or, length, nat_lt, set, ap, ap₂, cond, sym, ◌∙◌, arith}
use Rattle.std.proofs.lemmas.List.{length-append, length-drop, length-map, length-set}
use Rattle.mbe_program.specs.Counting.{Count, counted, counted_on, is_separated, starts_later, with_none, with_part, with_separator}
use Rattle.mbe_program.specs.Moving.{instruction_of, instructions_of}
use Rattle.mbe_program.specs.Program.{Instruction, take, pass, enter, leave, begin, close, place_at}
use Rattle.mbe_program.specs.declared.instruction.Instruction.{Instruction as Own}

pub dropped : (program : List Own) (k : ℕ) (it : Own) → k < length program → it ≡ get_or program k it → drop k (instructions_of program) ≡ instruction_of it ∷ drop (suc k) (instructions_of program)
dropped [] k it less is = absurd (omega (arith, less))
dropped (own ∷ program) zero it less is = ap (λ (first : Own). instruction_of first ∷ instructions_of program) (sym is)
dropped (own ∷ program) (suc k) it less is = dropped program k it (omega (arith, less)) is

-- The instruction before a place shows whether a separator is there.
pub separated_at : (program : List Own) (again k : ℕ) (it : Own) → k ≡ length program - suc again → k < length program → it ≡ get_or program k it
    → is_separated (place_at (instructions_of program) (suc again)) again ≡ starts_later (instruction_of it) again
separated_at program again k it same less is =
    let count = length-map program instruction_of in
    let skipped : length (instructions_of program) - suc again ≡ k = omega (arith, same, count) in
    ap (λ place. is_separated place again) (ap (λ k. drop k (instructions_of program)) skipped ∙ dropped program k it less is)

-- The rest is counted from there on.
pub counted_next : (program : List Own) (k behind : ℕ) (it : Own) (its new whole : Count) → k < length program → it ≡ get_or program k it → behind ≡ length program - suc k
    → new ≡ counted_on (instructions_of program) (instruction_of it) behind its → counted (instructions_of program) (drop k (instructions_of program)) its ≡ whole
    → counted (instructions_of program) (drop (k + 1) (instructions_of program)) new ≡ whole
counted_next program k behind it its new whole less is count on all =
    let own = instructions_of program in
    let next : k + 1 ≡ suc k = omega arith in
    let rest_count = length-drop (suc k) own in
    let same : behind ≡ length (drop (suc k) own) = omega (arith, count, rest_count, length-map program instruction_of) in
    ap₂ (λ k new. counted own (drop k own) new) next (on ∙ ap (λ n. counted_on own (instruction_of it) n its) same)
    ∙ ap (λ place. counted own place its) (sym (dropped program k it less is)) ∙ all

-- No more parts are counted than instructions.
few_part : (its : Count) → its.next ≤ length its.numbers → (with_part its).next ≤ length (with_part its).numbers
few_part its few = omega (arith, few, length-append its.numbers (its.next ∷ []))

few_none : (separates : Bool) (its : Count) → its.next ≤ length its.numbers → (with_none separates its).next ≤ length (with_none separates its).numbers
few_none separates its few = omega (arith, few, length-append its.numbers (0 ∷ []))

few_either : (b : Bool) (one other : Count) → one.next ≤ length one.numbers → other.next ≤ length other.numbers → (cond b one other).next ≤ length (cond b one other).numbers
few_either true one other few too = few
few_either false one other few too = too

pub few_counted : (program : List Instruction) (it : Instruction) (behind : ℕ) (its : Count) → its.next ≤ length its.numbers
    → (counted_on program it behind its).next ≤ length (counted_on program it behind its).numbers
few_counted program (take which) behind its few = few_part its few
few_counted program (pass leaves) behind its few = few_either its.separates (with_none false its) (with_part its) (few_none false its few) (few_part its few)
few_counted program (enter kind) behind its few = few_part its few
few_counted program leave behind its few = few_part its few
few_counted program (begin op first after) behind its few = few_none (nat_lt first behind) its few
few_counted program (close op again) behind its few =
    few_either (is_separated (place_at program (suc again)) again) (with_separator (length program - again) its) (with_none false its)
    (omega (arith, few, length-set its.numbers (length program - again) its.next, length-append (set its.numbers (length program - again) its.next) (0 ∷ []))) (few_none false its few)
