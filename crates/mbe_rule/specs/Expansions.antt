-- What a pattern and a template make of an input.
use Rattle.std.specs.Prelude.{◌≡◌, ◌⊎◌}
use Rattle.tt.specs.Forest.{Forest, Root}
use Rattle.tt.specs.TreeFault.{IsTreeFault}
use Rattle.tt.specs.Types.TtFault.{TtFault}
use Rattle.tt.specs.Types.TtFault.TheVariants.{Memory}
use Rattle.mbe_rule.specs.Instances.{Binding, IsInstance, pattern_of, expansion}

-- the input is no instance of the pattern, for any binding
abbrev pub IsNoInstance : Forest → (input : Forest) → Type 0
IsNoInstance pattern input = (binding : Binding) → IsInstance (pattern_of pattern) input binding → ⊥

-- the input is an instance of the pattern by this binding, and by no other
pub record IsBoundBy (pattern : Forest) (input : Forest) (binding : Binding) : Type 0 where
  pub holds : IsInstance (pattern_of pattern) input binding
  pub alone : (other : Binding) → IsInstance (pattern_of pattern) input other → other ≡ binding

-- the tree is the template under the one binding
abbrev pub IsExpansion : (pattern : Forest) → (template : Root) → (input : Forest) → Root → Type 0
IsExpansion pattern template input tree = (binding : Binding) × IsBoundBy pattern input binding × (tree ≡ expansion template binding)

-- why an input is not expanded: memory ran out, or it is an instance and the template under the one binding exceeds that limit
abbrev pub IsExpandFault : (pattern : Forest) → (template : Root) → (input : Forest) → TtFault → Type 0
IsExpandFault pattern template input fault =
    (fault ≡ Memory) ⊎ ((binding : Binding) × IsBoundBy pattern input binding × IsTreeFault (expansion template binding) fault)
