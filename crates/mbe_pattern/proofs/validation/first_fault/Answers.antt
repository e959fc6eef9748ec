use Rattle.std.proofs.Common.{rules, ◌≡◌, [], ◌∷◌, ◌++◌, ap, sym, ◌∙◌}
use Rattle.tt.specs.Iters.{rest_of}
use Rattle.mbe_pattern.specs.Validating.{level_left, levels_left, State, state_of, level_of, stepped, with_level}
use Rattle.mbe_pattern.specs.Placed.{placed_until}
use Rattle.mbe_pattern.proofs.ValidateSteps.{fault_left, levels_last, validated_step}
use Rattle.mbe_pattern.proofs.validation.first_fault.Goals as goal

pub loop-level-preserved : goal.loop-level-preserved
loop-level-preserved c =
    let old = c.loop-level.validated in
    let popped = c.pop.new.self.items in
    let level = c.in-Some.level in
    let rest = rest_of c.next_first.new.trees in
    let whole = placed_until level.until (rest_of level.rest) in
    let found = c.in_ok-first.first in
    let was : old.levels.items ≡ popped ++ level ∷ [] = search rules in
    let left : levels_left old.levels.items ≡ level_left level ∷ levels_left popped = ap levels_left was ∙ levels_last popped level in
    let before : State = record { names = old.names.keys; fault = old.fault; levels = levels_left popped } in
    let made : state_of c.take.new.self ≡ stepped found (level_of (placed_until level.until rest) level.closing level.is_open) before = search rules in
    let same : fault_left (state_of old) ≡ fault_left (with_level (level_of whole level.closing level.is_open) before) =
    ap (λ levels. fault_left (record { names = old.names.keys; fault = old.fault; levels = levels })) left in
    ap fault_left made ∙ validated_step old.names.keys old.fault (levels_left popped) level.closing level.is_open level.until (rest_of level.rest) rest found c.in_ok-first.ensures.part ∙ sym same ∙ c.loop-level.invariant
