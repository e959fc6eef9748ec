-- How a list of predicates is read, one after the other.
use Rattle.std.specs.Prelude.{ℕ, ◌+◌, ◌<◌, Bool, true, false, List, [], Option, None, Some, if◌then◌else◌}
use Rattle.tt.specs.Forest.{Forest, size}
use Rattle.tt.specs.Iters.{rest_of}
use Rattle.expand_items.specs.Cfg.{Known}
use Rattle.expand_items.specs.Predicates.{applied_if, both, either, listed, negated, predicate, predicates}
use Rattle.expand_items.specs.declared.predicate.Level.{Level}
use Rattle.expand_items.specs.declared.predicate.Operand.{Operand}
use Rattle.expand_items.specs.declared.predicate.Operand.TheVariants as operand
use Rattle.expand_items.specs.declared.predicate.Operator.{Operator}
use Rattle.expand_items.specs.declared.predicate.Operator.TheVariants as operator

-- what an operator makes of no operand
abbrev pub begun_by : Operator → Option Bool
begun_by operator.All = Some true
begun_by operator.Any = Some false
begun_by operator.Not = None
begun_by operator.Only = None
begun_by operator.Unknown = None

-- what it makes of the operands so far and one more
abbrev pub with_operand : Operator → (is_first : Bool) → (so_far it : Option Bool) → Option Bool
with_operand operator.All is_first so_far it = both so_far it
with_operand operator.Any is_first so_far it = either so_far it
with_operand operator.Not is_first so_far it = if is_first then negated it else None
with_operand operator.Only is_first so_far it = if is_first then it else None
with_operand operator.Unknown is_first so_far it = None

-- a list of which one operand more is read
abbrev pub with_one : Option Bool → Level → Level
with_one it level = record level { is_first = false; says = with_operand level.operator level.is_first level.says it }

-- all of a list, by what is read first of it and what the rest says
abbrev pub behind_operand : Known → Operand → (rest : Option (List (Option Bool))) → Option (List (Option Bool))
behind_operand known (operand.Value says) rest = listed says rest
behind_operand known (operand.List its inside) rest = listed (applied_if its (predicates known predicate (rest_of inside))) rest
behind_operand known (operand.End is_list) rest = if is_list then Some [] else None

-- what is left of a list is less than that many tokens, with what an operand contains; at the end it need not be
abbrev pub IsBelow : Operand → (tokens : ℕ) → (new : Forest) → Type 0
IsBelow (operand.Value says) tokens new = size new < tokens
IsBelow (operand.List its inside) tokens new = size (rest_of inside) + size new < tokens
IsBelow (operand.End is_list) tokens new = Unit {0}
