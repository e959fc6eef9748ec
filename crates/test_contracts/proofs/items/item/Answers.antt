use Rattle.std.proofs.Common.{rules, ◌≡◌, ap, sym, ◌∙◌}
use Rattle.tt.specs.Forest.{join}
use Rattle.tt.specs.Iters.{rest_of, saved_of}
use Rattle.tt.specs.Moves.{after_tree}
use Rattle.test_contracts.specs.Commas.{after_comma}
use Rattle.test_contracts.proofs.Passing.{item_passed}
use Rattle.test_contracts.proofs.items.item.Goals as goal

pub from_savepoint-requires : goal.from_savepoint-requires
from_savepoint-requires c =
    let (given, passed) = item_passed (rest_of c.args.siblings.now) in
    let saved : saved_of c.savepoint-start.result ≡ rest_of c.args.siblings.now = search rules in
    let left : rest_of c.pass_comma.new.siblings ≡ after_comma (after_tree (rest_of c.args.siblings.now)) = search rules in
    (given, saved ∙ passed ∙ ap (join given) (sym left))
