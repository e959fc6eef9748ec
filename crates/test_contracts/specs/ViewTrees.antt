-- The trees of a view one by one.
use Rattle.std.specs.Prelude.{List}
use Rattle.tt.specs.Siblings.{Tree, list_of}
use Rattle.tt.specs.Types.TokenTreesView.{TokenTreesView}
use Rattle.tt.specs.Views.{trees_of}

abbrev pub view_trees : TokenTreesView → List Tree
view_trees view = list_of (trees_of view)
