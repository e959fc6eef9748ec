use Rattle.std.proofs.Common.{◌≡◌, ◌<◌, ◌^◌, ◌++◌, ◌∷◌, [], length, Err, sym, subst, ap, ◌∙◌, arith, rules}
use Rattle.std.specs.List.{AllByRecursion}
use Rattle.tt_codec.specs.Header.{top_entry}
use Rattle.tt_back_buf.specs.Bytes.{bytes_of}
use Rattle.tt_base.specs.Span.{part_of}
use Rattle.tt_tables.specs.Tables.{Knows, tables_for, tables_from, part_table}
use Rattle.tt_pack.specs.Writing.{byte_count}
use Rattle.tt_pack.proofs.Storing.{tables_for_know, write_fault_is, is_stored}
use Rattle.tt_pack.proofs.Writing.{IsWriteFault}
use Rattle.tt_pack.proofs.pack.write_tree.Goals as goal

pub write_all-requires-clause-known : goal.write_all-requires-clause-known
write_all-requires-clause-known g c =
    let list = g.N.Numbered.list c.args.numbers in
    subst (λ t. AllByRecursion (Knows t) list) (sym c.requires.tables.are) (tables_for_know list)

pub returns-in_err-writer-clause-err : goal.returns-in_err-writer-clause-err
returns-in_err-writer-clause-err g c =
    let are = c.requires.tables in
    let told : IsWriteFault (byte_count (g.N.Numbered.tables c.args.numbers) (g.N.Numbered.list c.args.numbers)) c.in_err-writer.field-0.0 = search rules in
    let is : c.from_residual.result ≡ Err c.in_err-writer.field-0.0 = search rules in
    rw is (write_fault_is _ _ _ are.are are.whole are.few_parts are.few_symbols told)

pub with_top-requires-clause-parts : goal.with_top-requires-clause-parts
with_top-requires-clause-parts g c = omega (arith, ap (λ t. length t.parts) (c.into_tables-parts.ensures ∙ c.requires.tables.are), c.requires.tables.few_parts)

pub returns-clause-ok : goal.returns-clause-ok
returns-clause-ok g c =
    let list = g.N.Numbered.list c.args.numbers in
    let top = c.args.top in
    let are = c.requires.tables in
    let made : tables_from c.into_tables-parts.result.0.items c.into_tables-parts.result.1.items ≡ tables_for list = c.into_tables-parts.ensures ∙ are.are in
    let parts : c.into_tables-parts.result.0.items ≡ part_table list = ap (λ t. t.parts) made in
    let bound : top.len < 2 ^ 32 = search rules in
    is_stored top list are.whole c.requires.counted _ _ _ _ _ _ _ _
    bound are.are are.few_parts are.few_symbols c.in_ok-writer.ensures.ok c.in_ok-bytes.ensures.range
    (ap (λ l. top_entry (length l) top.delimiter top.len (length (bytes_of c.in_ok-writer.writer.bytes))) parts)
    c.in_ok-bytes.ensures.bytes
    (c.in_ok-bytes.ensures.parts ∙ ap (λ l. l ++ part_of top.delimiter.open_span ∷ part_of top.delimiter.close ∷ []) parts)
    (ap (λ t. t.symbols) made) (omega (arith, c.requires.counted))
