-- The unit that a grammar sees has as many trees.
use Rattle.std.proofs.Common.{rules, ◌≡◌, ap, ◌∙◌}
use Rattle.tt.specs.Views.{trees_of}
use Rattle.mbe_grammar.proofs.Shrinking.{unit_size_told}
use Rattle.mbe_grammar.specs.Units.{first_unit, size_of_unit}
use Rattle.mbe_program.proofs.moves.size_of_first.Goals as goal

pub returns : goal.returns
returns c =
    let unit : c.take.result ≡ first_unit (trees_of c.args.trees) = search rules in
    c.size.ensures ∙ ap size_of_unit unit ∙ unit_size_told (trees_of c.args.trees)
