use Rattle.std.proofs.Common.{◌≡◌, ◌<◌, ◌∷◌, Err, rules}
use Rattle.tt_base.specs.declared.token_tree.TokenTree.TheVariants as token
use Rattle.tt_view.specs.PackFault.{IsPackFault}
use Rattle.tt.proofs.Results.{result_fault}
use Rattle.tt.proofs.transform.stored.Goals as goal

pub returns-in_err-from_serialized-in-Some-Subtree-default-clause-fault : goal.returns-in_err-from_serialized-in-Some-Subtree-default-clause-fault
returns-in_err-from_serialized-in-Some-Subtree-default-clause-fault c =
    let s = c.in-Some-Subtree-default.top in
    let fits : s.len < 4294967296 = search rules in
    let rest = c.in-Some-Subtree-default.field-0-1.now in
    let begins : c.args.list.items ≡ token.Subtree s ∷ rest = search (rules, c.in-Some-Subtree-default.ensures.cases.0) in
    let cause : IsPackFault c.args.list.items c.in_err-from_serialized-in-Some-Subtree-default.field-0.0.fault = search rules in
    let is : c.from_residual.result ≡ Err c.in_err-from_serialized-in-Some-Subtree-default.field-0.0.fault = search rules in
    rw is (λ trees flats. result_fault trees _ s rest _ flats begins fits cause)
