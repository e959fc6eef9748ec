-- The unit begins after that many trees.
use Rattle.std.proofs.Common.{rules, ◌≡◌, Some, ap, sym, ◌∙◌}
use Rattle.std.proofs.lemmas.Option.{slice_get-get_or}
use Rattle.std.specs.Prelude.{get_or, slice_get}
use Rattle.tt.specs.Views.{trees_of}
use Rattle.mbe_grammar.specs.Places.{trees_in}
use Rattle.mbe_grammar.proofs.Decoding.{decoded_at}
use Rattle.mbe_grammar.proofs.units.Units.here.Goals as goal

pub returns : goal.returns
returns c =
    let items = c.args.self.now.reached.items in
    let it = c.index.result.now in
    let read : it ≡ get_or items c.args.passed it = search rules in
    let is : slice_get items c.args.passed ≡ Some it = slice_get-get_or items c.args.passed it c.requires.within ∙ ap Some (sym read) in
    decoded_at (trees_in c.args.self.now) (trees_of c.args.self.now.behind) items c.args.passed it c.args.self.now.are_decoded is
