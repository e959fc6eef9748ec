use Rattle.std.proofs.Common.{◌≡◌, ◌++◌, length, rules}
use Rattle.tt_base.proofs.Literals.{cuts_at_seam}
use Rattle.tt_base.proofs.literal.Literal.new.Goals as goal

pub invariant_of-result : goal.invariant_of-result
invariant_of-result c =
    let joined : c.in_ok-new.field-0 ≡ c.args.text.now ++ c.args.suffix.now = search rules in
    let counted : c.in-Ok.suffix_len ≡ length c.args.suffix.now = search rules in
    rw counted (let cut = cuts_at_seam _ _ _ joined c.utf8.suffix in (record { fits = cut.0; cuts = cut.1 }))
