use Rattle.std.proofs.Common.{◌≡◌, None, rules}
use Rattle.syntax_layout.proofs.Recognized.{hashes_left}
use Rattle.syntax_layout.proofs.attribute.behind_hashes.Goals as goal

pub returns-in_err-rest : goal.returns-in_err-rest
returns-in_err-rest c =
    let failed : c.from_residual.result ≡ None = search rules in
    rw failed (λ behind e.
    let (next, is) = hashes_left c.args.text.now c.loop-number.rest.now behind c.loop-number._number c.args.hashes c.loop-number-test.true c.loop-number.invariant.1 e in
    c.in_err-rest.ensures next is)
