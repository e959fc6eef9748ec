-- A search is short: how many arrivals it has, and how many positions an input has.
use Rattle.std.proofs.Common.{◌+◌, ◌*◌, ◌≤◌, suc, List, length, arith}
use Rattle.tt.specs.Forest.{Forest, end, leaf, node, size}
use Rattle.mbe_program.specs.Laying.{places_in}
use Rattle.mbe_program.specs.Program.{Instruction}
use Rattle.mbe_program.specs.Searching.{log_of, HaveAllGoneOn}
use Rattle.mbe_program.specs.Tables.{Table, IsTableOf}
use Rattle.mbe_program.specs.declared.search.Search.{Search}
use Rattle.mbe_program.proofs.Beginning.{log_bound}

pub few_arrivals : (program : List Instruction) (input : Forest) (table : Table) (search : Search) → IsTableOf program input table → HaveAllGoneOn program table search
    → length (log_of search) ≤ 2 * (suc (length program) * table.count)
few_arrivals program input table search is gone = let few = log_bound program table input is (length (log_of search)) search gone in omega (arith, few)

few_places : (input : Forest) → places_in input ≤ suc (size input + size input)
few_places end = omega arith
few_places (leaf it rest) = let more = few_places rest in omega (arith, more)
few_places (node delimiter children rest) = let inside = few_places children in let more = few_places rest in omega (arith, inside, more)

pub few_positions : (input : Forest) → suc (places_in input) ≤ 2 * suc (size input)
few_positions input = let few = few_places input in omega (arith, few)
