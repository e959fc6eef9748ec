use Rattle.std.proofs.Common.{◌≡◌, false, List, map, length}
use Rattle.tt_base.specs.Forest.{Forest, join}
use Rattle.tt_base.specs.Siblings.{list_of}
use Rattle.tt_view.specs.Views.{trees_of}
use Rattle.tt_view.specs.Iters.{rest_of, saved_of, tree_of, IsCounted}
use Rattle.tt_view.specs.declared.iter.TtElement.{TtElement}
use Rattle.std.specs.List.{AllByRecursion}
use Rattle.tt_view.specs.Pieces.{SaysNo}
use Rattle.tt_view.proofs.split.SplitIterator.next.Given as goal

abbrev pub invariant-loop-element : goal.invariant-loop-element
invariant-loop-element g l =
    goal.F-IsAlwaysCallable g l.self.is_separator
    × (l.self.done ≡ false)
    × (saved_of l.start ≡ rest_of l.initial.self.rest)
    × (trees_of l.before ≡ rest_of l.self.rest)
    × ((asked : List TtElement) × (given : Forest) × (saved_of l.start ≡ join given (rest_of l.self.rest)) × (map tree_of asked ≡ list_of given) × AllByRecursion IsCounted asked × SaysNo (goal.F-step g) l.initial.self.is_separator asked l.self.is_separator)

abbrev pub decreases-loop-element : goal.decreases-loop-element
decreases-loop-element g l = length (list_of (rest_of l.self.rest))
