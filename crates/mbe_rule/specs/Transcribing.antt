-- What is placed for one leaf of a template.
use Rattle.std.specs.Prelude.{◌≡◌, ◌≤◌}
use Rattle.tt.specs.Building.{BuilderState, extended, IsGrowthFault}
use Rattle.tt.specs.Forest.{Forest, leaf, join, size}
use Rattle.tt.specs.Types.Leaf.{Leaf}
use Rattle.tt.specs.Types.TtFault.{TtFault}
use Rattle.mbe_rule.specs.Instances.{Binding, filled}

-- trees are appended that, together with the rest filled, are the leaf and its siblings filled
pub record Places (binding : Binding) (it : Leaf) (siblings : Forest) (old : BuilderState) (rest : Forest) (new : BuilderState) : Type 0 where
  pub trees : Forest
  pub placed : new ≡ extended trees old
  pub whole : filled binding (leaf it siblings) ≡ join trees (filled binding rest)
  pub smaller : size rest ≤ size siblings

-- no trees are appended: memory ran out, or those trees are too many
pub record IsPlaceFault (binding : Binding) (it : Leaf) (siblings : Forest) (old : BuilderState) (fault : TtFault) : Type 0 where
  pub trees : Forest
  pub rest : Forest
  pub whole : filled binding (leaf it siblings) ≡ join trees (filled binding rest)
  pub refused : IsGrowthFault (size trees) old fault
