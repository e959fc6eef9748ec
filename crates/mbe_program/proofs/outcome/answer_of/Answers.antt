use Rattle.std.proofs.Common.{◌≡◌, ◌-◌, ◌<◌, ℕ, suc, map, length, ap, sym, subst, ◌∙◌, arith}
use Rattle.std.proofs.lemmas.Result.{err_from_is_err_and}
use Rattle.mbe_matcher.specs.Marks.{Note, note_of}
use Rattle.tt.specs.Forest.{size}
use Rattle.mbe_program.specs.Positions.{table_of}
use Rattle.mbe_program.specs.Searching.{coming_of, log_of, EndsAt, IsFewest}
use Rattle.mbe_program.specs.Ways.{IsAt, Traces}
use Rattle.mbe_program.specs.declared.cell.Cell.{Cell}
use Rattle.mbe_program.proofs.Answered.{not_often, no_run, one_run, two_runs, farthest}
use Rattle.mbe_program.proofs.Results.{if_err}
use Rattle.mbe_program.proofs.outcome.answer_of.Goals as goal

pub overflow_sub-result : goal.overflow_sub-result
overflow_sub-result c = c.fewest_left-left.ensures.upto

pub returns-in_default : goal.returns-in_default
returns-in_default c = λ program input is gone whole.
    let search = c.args.search.now in
    let table = table_of c.args.positions.now in
    let left = c.fewest_left-left.result in
    let log : map coming_of c.deref.result.now ≡ log_of search = ap (map coming_of) c.deref.ensures.value in
    let log_too : map coming_of c.deref-in_default.result.now ≡ log_of search = ap (map coming_of) c.deref-in_default.ensures.value in
    let none : (k : ℕ) → EndsAt (log_of search) k → ⊥ = λ k ends. c.in_default.ensures k (subst (λ log. EndsAt log k) (sym log) ends) in
    let fewest : IsFewest table (size input) (log_of search) left =
    subst (λ most. IsFewest table most (log_of search) left) (sym whole) (subst (λ log. IsFewest table c.args.count log left) log_too c.fewest_left-left.ensures) in
    let upto = c.fewest_left-left.ensures.upto in
    (no_run program input table is search gone none, farthest program input table is search gone left (c.args.count - left) fewest (omega (arith, upto, whole)))

pub marks_to-requires : goal.marks_to-requires
marks_to-requires c =
    let same : c.deref.result.now ≡ c.deref-in-Unseen.result.now = c.deref.ensures.value ∙ sym c.deref-in-Unseen.ensures.value in
    record {
      within = subst (λ log. c.in-Some.last < length log) same c.in-Some.ensures.0;
      in_order = λ k it there. c.requires.in_order k it (subst (λ log. IsAt Cell Note (map coming_of log) k it) c.deref-in-Unseen.ensures.value there);
    }

pub returns-in_err-marks_to-in-Unseen : goal.returns-in_err-marks_to-in-Unseen
returns-in_err-marks_to-in-Unseen c = let fault = err_from_is_err_and c.from_residual.result c.from_residual.ensures.1 in if_err _ c.from_residual.result fault.0 fault.1

pub returns-in-Often : goal.returns-in-Often
returns-in-Often c = λ program input is gone whole. two_runs program input (table_of c.args.positions.now) is c.args.search.now gone (sym c.in-Often.ensures)

pub returns-in_ok-marks_to-in-Unseen : goal.returns-in_ok-marks_to-in-Unseen
returns-in_ok-marks_to-in-Unseen c = λ program input is gone whole.
    let search = c.args.search.now in
    let last = c.in-Some.last in
    let marks = c.in_ok-marks_to-in-Unseen.field-0.items in
    let it = c.in-Some.ensures.1.0 in
    let log : map coming_of c.deref.result.now ≡ log_of search = ap (map coming_of) c.deref.ensures.value in
    let log_too : map coming_of c.deref-in-Unseen.result.now ≡ log_of search = ap (map coming_of) c.deref-in-Unseen.ensures.value in
    let there : IsAt Cell Note (log_of search) last it = subst (λ log. IsAt Cell Note log last it) log c.in-Some.ensures.1.1 in
    let m = c.in_ok-marks_to-in-Unseen.ensures.0 in
    let traces : Traces Cell Note (log_of search) m (suc last) (map note_of marks) = subst (λ log. Traces Cell Note log m (suc last) (map note_of marks)) log_too c.in_ok-marks_to-in-Unseen.ensures.1 in
    one_run program input (table_of c.args.positions.now) is search gone last it there c.in-Some.ensures.1.2 (λ same. not_often c.way.result c.in-Unseen.is (c.way.ensures ∙ same)) m (map note_of marks) traces
