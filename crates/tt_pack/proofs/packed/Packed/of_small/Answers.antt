use Rattle.std.proofs.Common.{◌≡◌, ◌∷◌, Err, inl, subst, arith, rules}
use Rattle.tt_base.specs.declared.delimiter.Subtree.{Subtree}
use Rattle.tt_base.specs.Forest.{header}
use Rattle.tt_tables.specs.PackFault.{IsPackFault}
use Rattle.tt_pack.specs.Packed.{IsTableFault}
use Rattle.tt_pack.proofs.Storing.{refused_list}
use Rattle.tt_pack.proofs.packed.Packed.of_small.Goals as goal

pub returns-in_err-tables-clause-err : goal.returns-in_err-tables-clause-err
returns-in_err-tables-clause-err c =
    let list = c.args.below in
    let top : Subtree = record { delimiter = c.args.top; len = c.len.result } in
    let told : IsTableFault list c.in_err-tables.field-0.0 = search rules in
    let is : c.from_residual-in_err-tables.result ≡ Err c.in_err-tables.field-0.0 = search rules in
    let refused = refused_list top list c.len.ensures (omega (arith, c.len.ensures, c.requires.few)) _ (inl told) in
    rw is (subst (λ n. IsPackFault (header c.args.top n ∷ list) c.in_err-tables.field-0.0) c.len.ensures refused)
