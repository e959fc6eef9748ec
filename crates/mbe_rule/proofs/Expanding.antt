-- What is made of the trees that a pattern takes.
use Rattle.std.proofs.Common.{◌≡◌, inr, List, ap₂, sym, subst, ◌∙◌}
use Rattle.std.specs.List.{zip}
use Rattle.tt.specs.Forest.{Forest, Root}
use Rattle.tt.specs.TreeFault.{IsTreeFault}
use Rattle.tt.specs.Types.TtFault.{TtFault}
use Rattle.mbe_rule.specs.declared.variable.Name.{Name}
use Rattle.mbe_rule.specs.Expansions.{IsNoInstance, IsBoundBy, IsExpansion, IsExpandFault}
use Rattle.mbe_rule.specs.Instances.{pattern_of, expansion}
use Rattle.mbe_rule.specs.Matching.{Matches, trees_bound}
use Rattle.mbe_rule.specs.Variables.{names_in}
use Rattle.mbe_rule.proofs.Bindings.{binding_of, bound_so, instance_of, names_found}

-- What does not match is no instance.
pub no_instance : (pattern input : Forest) → (Matches (pattern_of pattern) input → ⊥) → IsNoInstance pattern input
no_instance pattern input none binding is = none (bound_so (pattern_of pattern) input binding is).0

module _ (pattern input : Forest) (names : List Name) (taken : List Forest) (named : names ≡ names_in pattern)
    (matches : Matches (pattern_of pattern) input) (bound : taken ≡ trees_bound (pattern_of pattern) input) where
  -- the binding, made of the names and of what was taken
  is_binding : zip names taken ≡ binding_of (pattern_of pattern) input
  is_binding = ap₂ (λ n t. zip n t) (named ∙ names_found pattern) bound

  -- The input has this binding and no other.
  pub bound_by : IsBoundBy pattern input (zip names taken)
  bound_by =
      subst (IsBoundBy pattern input) (sym is_binding)
      (record {
        holds = instance_of (pattern_of pattern) input matches;
        alone = λ other is. (bound_so (pattern_of pattern) input other is).1;
      })

  pub expanded : (template tree : Root) → tree ≡ expansion template (zip names taken) → IsExpansion pattern template input tree
  expanded template tree is = (zip names taken, bound_by, is)

  pub not_expanded : (template : Root) (fault : TtFault) → IsTreeFault (expansion template (zip names taken)) fault → IsExpandFault pattern template input fault
  not_expanded template fault refused = inr (zip names taken, bound_by, refused)
