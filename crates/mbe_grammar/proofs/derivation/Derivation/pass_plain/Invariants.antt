-- The events of the entries so far are in the list, which has room for the others.
use Rattle.std.proofs.Common.{◌+◌, ◌-◌, ◌≤◌, length, reverse}
use Rattle.std.specs.Prelude.{vec_capacity, vec_len}
use Rattle.mbe_grammar.specs.Deriving.{left_by}
use Rattle.mbe_grammar.proofs.Ahead.{Adds, Brings}
use Rattle.mbe_grammar.proofs.derivation.Derivation.pass_plain.Given as goal

abbrev pub invariant-loop-event : goal.invariant-loop-event
invariant-loop-event l =
    let it = l.self in
    let older = reverse it.around.items in
    Adds l.initial.events.items l.events.items
    (λ passed. Brings it.table.rules.now it.level (left_by it.level it.log.items it.inner older) passed it.level (left_by it.level it.log.items (record { since = it.inner.since; next = l.at; stop = it.inner.stop }) older))
    (vec_len l.events + (length it.log.items - l.at) ≤ vec_capacity l.events)

abbrev pub decreases-loop-event : goal.decreases-loop-event
decreases-loop-event l = length l.self.log.items - l.at
