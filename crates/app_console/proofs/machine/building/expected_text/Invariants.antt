use Rattle.std.proofs.Common.{◌≡◌, ◌++◌}
use Rattle.std.specs.Prelude.{codes, string_bytes}
use Rattle.std.specs.List.{flat_map}
use Rattle.tt.specs.Building.{open_kinds}
use Rattle.tt.specs.Points.{kinds_left}
use Rattle.app_console.specs.Building.{expected_kind}
use Rattle.app_console.proofs.machine.building.expected_text.Given as goal

abbrev pub invariant-loop-kind : goal.invariant-loop-kind
invariant-loop-kind l =
    (goal.iterator-loop-kind).can_next l.kind-iterator
    × (goal.iterator-loop-kind).is_finite l.kind-iterator
    × (string_bytes l.text ++ flat_map expected_kind (kinds_left l.kind-iterator) ≡ codes "expected" ++ flat_map expected_kind (open_kinds l.builder.stack))
