use Rattle.std.proofs.Common.{rules, sym, subst}
use Rattle.mbe_pattern.specs.Units.{IsNodeOf}
use Rattle.mbe_program.specs.Positions.{table_of}
use Rattle.mbe_program.proofs.Moved.{enter_none}
use Rattle.mbe_program.proofs.moves.enter_from.Goals as goal
use Rattle.tt.specs.Types.DelimiterKind.{DelimiterKind as Kind}
use Rattle.tt.specs.Views.{trees_of}

pub returns-in_default : goal.returns-in_default
returns-in_default c =
    let none : (kind : Kind) → IsNodeOf kind (trees_of c.trees.result) → ⊥ = search rules in
    λ program rest count.
    enter_none program (table_of c.args.positions.now) rest c.args.number c.args.behind count c.args.kind (λ node_is. none c.args.kind (subst (IsNodeOf c.args.kind) (sym c.trees.ensures) node_is))
