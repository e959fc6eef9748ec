use Rattle.std.proofs.Common.{◌≡◌, ◌≤◌, ◌∷◌, length, Err, IfOk, IfErr, inl, ap, ap₂, sym, subst, ◌∙◌, arith, rules}
use Rattle.tt_base.specs.declared.delimiter.Subtree.{Subtree}
use Rattle.tt_base.specs.Forest.{size, header, flat_root}
use Rattle.tt_tables.specs.ListOf.{list_of}
use Rattle.tt_tables.specs.PackFault.{IsPackFault}
use Rattle.tt_tables.specs.Stored.{most_tokens, IsWithinLimits}
use Rattle.tt_pack.specs.Packed.{IsTableFault}
use Rattle.tt_pack.proofs.Storing.{refused_list}
use Rattle.tt_pack.proofs.packed.Packed.of_interned.Goals as goal

pub returns-in_err-tables-clause-err : goal.returns-in_err-tables-clause-err
returns-in_err-tables-clause-err c =
    let list = list_of c.args.below in
    let top : Subtree = record { delimiter = c.args.top; len = c.len.result } in
    let told : IsTableFault list c.in_err-tables.field-0.0 = search rules in
    let is : c.from_residual.result ≡ Err c.in_err-tables.field-0.0 = search rules in
    let refused = refused_list top list c.len.ensures (omega (arith, c.len.ensures, c.requires.few)) _ (inl told) in
    rw is (subst (λ n. IsPackFault (header c.args.top n ∷ list) c.in_err-tables.field-0.0) c.len.ensures refused)

pub of_numbered-requires-clause-counted : goal.of_numbered-requires-clause-counted
of_numbered-requires-clause-counted c = c.len.ensures ∙ ap length (sym c.in_ok-tables.ensures.ok.same)

pub returns-clause-ok : goal.returns-clause-ok
returns-clause-ok c =
    let same = c.in_ok-tables.ensures.ok.same in
    subst (λ l. IfOk c.of_numbered.result (λ stored. (l ≡ flat_root stored) × (size stored.children ≤ most_tokens) × IsWithinLimits stored))
    (ap₂ (λ n l. header c.args.top n ∷ l) c.len.ensures same) c.of_numbered.ensures.ok

pub returns-clause-err : goal.returns-clause-err
returns-clause-err c =
    let same = c.in_ok-tables.ensures.ok.same in
    subst (λ l. IfErr c.of_numbered.result (IsPackFault l)) (ap₂ (λ n l. header c.args.top n ∷ l) c.len.ensures same) c.of_numbered.ensures.err
