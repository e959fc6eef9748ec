-- One unit more is decoded.
use Rattle.std.proofs.Common.{rules, ◌≡◌, refl, subst, sym}
use Rattle.tt.specs.Moves.{after_tree}
use Rattle.tt.specs.Views.{trees_of}
use Rattle.mbe_grammar.specs.Decoded.{AreDecoded}
use Rattle.mbe_grammar.specs.Places.{trees_in}
use Rattle.mbe_grammar.proofs.Decoding.{decoded_more}
use Rattle.mbe_grammar.proofs.units.Units.decode.Goals as goal

pub invariant_of-self-2 : goal.invariant_of-self-2
invariant_of-self-2 c =
    let rest = c.args.self.now.behind in
    let more = c.in_ok-put.ensures.items in
    let further : trees_of c.remaining-self.result ≡ after_tree (trees_of rest) = search rules in
    record {
      fits = c.args.self.now.fits;
      are_decoded = subst (λ items. AreDecoded (trees_in c.args.self.now) items (trees_of c.remaining-self.result)) (sym more)
          (decoded_more (trees_in c.args.self.now) (trees_of rest) (trees_of c.remaining-self.result) c.args.self.now.reached.items _ c.args.self.now.are_decoded refl further);
    }
