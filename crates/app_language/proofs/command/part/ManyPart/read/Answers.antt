use Rattle.std.proofs.Common.{◌≢◌, [], rules}
use Rattle.std.proofs.lemmas.List.Elements.{All-push}
use Rattle.app_language.proofs.Pieces.{pieces_go_on, no_pieces, piece_read}
use Rattle.app_language.proofs.command.part.ManyPart.read.Goals as goal

pub returns-in_default-clause-reads : goal.returns-in_default-clause-reads
returns-in_default-clause-reads g c =
    let some : c.loop-rest.rest.now ≢ [] = search rules in
    λ values fits e. no_pieces g.W.Word.spelling g.W.Word.fits _ some c.in_default.ensures (c.loop-rest.invariant.goes_on values fits e)

pub loop-rest-preserved : goal.loop-rest-preserved
loop-rest-preserved g c =
    let pushed = c.in_ok-push.ensures.items in
    record {
      read = rw pushed (piece_read g.W.Word.spelling _ _ _ _ _ c.loop-rest.invariant.read c.in-Some.ensures.0);
      fits = rw pushed (All-push g.W.Word.fits _ _ c.loop-rest.invariant.fits c.in-Some.ensures.1);
      goes_on = λ all fits e. pieces_go_on g.W.Word.spelling g.W.Word.fits g.W.Word.has_no_space _ _ _ c.in-Some.ensures.0 c.in-Some.ensures.1 c.in-Some.ensures.2 (c.loop-rest.invariant.goes_on all fits e);
    }
