use Rattle.std.proofs.Common.{◌≡◌, ◌+◌, ◌*◌, suc, length, ap, subst, arith}
use Rattle.std.proofs.lemmas.List.{length-map}
use Rattle.std.proofs.lemmas.Result.{err_from_is_err_and}
use Rattle.mbe_program.specs.Moving.{instruction_of, instructions_of}
use Rattle.mbe_program.specs.Positions.{table_of}
use Rattle.mbe_program.specs.Searching.{coming_of, log_of, HaveGoneOn}
use Rattle.mbe_program.proofs.Beginning.{log_bound}
use Rattle.mbe_program.proofs.Results.{if_err}
use Rattle.mbe_program.proofs.search.search_all.Goals as goal

pub begin-requires : goal.begin-requires
begin-requires c = c.requires

pub returns-in_err-search-clause-all : goal.returns-in_err-search-clause-all
returns-in_err-search-clause-all c = let fault = err_from_is_err_and c.from_residual.result c.from_residual.ensures.1 in if_err _ c.from_residual.result fault.0 fault.1

pub returns-in_err-search-clause-few : goal.returns-in_err-search-clause-few
returns-in_err-search-clause-few c = let fault = err_from_is_err_and c.from_residual.result c.from_residual.ensures.1 in if_err _ c.from_residual.result fault.0 fault.1

pub loop-number-init : goal.loop-number-init
loop-number-init c = c.in_ok-search.ensures

pub go_on-requires-clause-number : goal.go_on-requires-clause-number
go_on-requires-clause-number c = omega (arith, c.loop-number-test.true, c.len.ensures, c.loop-number.search.log.ok.0)

pub go_on-requires-clause-table : goal.go_on-requires-clause-table
go_on-requires-clause-table c = c.requires

pub go_on-requires-clause-gone_on : goal.go_on-requires-clause-gone_on
go_on-requires-clause-gone_on c = c.loop-number.invariant

pub returns-in_err-go_on-clause-all : goal.returns-in_err-go_on-clause-all
returns-in_err-go_on-clause-all c =
    let fault = err_from_is_err_and c.from_residual-in_err-go_on.result c.from_residual-in_err-go_on.ensures.1 in if_err _ c.from_residual-in_err-go_on.result fault.0 fault.1

pub returns-in_err-go_on-clause-few : goal.returns-in_err-go_on-clause-few
returns-in_err-go_on-clause-few c =
    let fault = err_from_is_err_and c.from_residual-in_err-go_on.result c.from_residual-in_err-go_on.ensures.1 in if_err _ c.from_residual-in_err-go_on.result fault.0 fault.1

pub overflow_add-number : goal.overflow_add-number
overflow_add-number c = omega (arith, c.loop-number-test.true, c.len.type_inv)

pub loop-number-smaller : goal.loop-number-smaller
loop-number-smaller c =
    let search = c.loop-number.search in
    let few = log_bound (instructions_of c.args.program.now) (table_of c.args.positions.now) c.requires.0 c.requires.1 c.loop-number.number search c.loop-number.invariant in
    let count = length-map search.log.items coming_of in
    omega (arith, few, count, c.loop-number-test.true, c.len.ensures, search.log.ok.0)

pub loop-number-preserved : goal.loop-number-preserved
loop-number-preserved c =
    let next : suc c.loop-number.number ≡ c.loop-number.number + 1 = omega arith in
    subst (λ n. HaveGoneOn (instructions_of c.args.program.now) (table_of c.args.positions.now) n c.go_on.new.self) next c.in_ok-go_on.ensures

pub returns-clause-all : goal.returns-clause-all
returns-clause-all c =
    let search = c.loop-number.search in
    let gone = c.loop-number.invariant in
    let upto = gone.upto in
    let count = length-map search.log.items coming_of in
    let all : c.loop-number.number ≡ length (log_of search) = omega (arith, upto, count, c.loop-number-test.false, c.len.ensures, search.log.ok.0) in
    subst (λ n. HaveGoneOn (instructions_of c.args.program.now) (table_of c.args.positions.now) n search) all gone

pub returns-clause-few : goal.returns-clause-few
returns-clause-few c =
    let search = c.loop-number.search in
    let positions = length c.args.positions.now.all.items in
    let few = log_bound (instructions_of c.args.program.now) (table_of c.args.positions.now) c.requires.0 c.requires.1 c.loop-number.number search c.loop-number.invariant in
    let count = length-map search.log.items coming_of in
    let most : (suc (length (instructions_of c.args.program.now)) + suc (length (instructions_of c.args.program.now))) * positions
    ≡ (suc (length c.args.program.now) + suc (length c.args.program.now)) * positions = ap (λ n. (suc n + suc n) * positions) (length-map c.args.program.now instruction_of) in
    omega (arith, few, count, most)
