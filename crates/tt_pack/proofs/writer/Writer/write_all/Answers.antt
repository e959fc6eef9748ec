use Rattle.std.proofs.Common.{◌≡◌, ◌-◌, Err, drop, ap, sym, subst, arith, rules}
use Rattle.std.proofs.lemmas.List.{drop_all, take_all}
use Rattle.tt_base.proofs.WholeLists.{end_piece}
use Rattle.tt_pack.specs.Room.{most_list_bytes}
use Rattle.tt_pack.specs.Writing.{byte_count}
use Rattle.tt_pack.specs.WriterOf.{HasWritten}
use Rattle.tt_pack.proofs.Writing.{IsWriteFault, too_many_in_all}
use Rattle.tt_pack.proofs.writer.Writer.write_all.Goals as goal

pub loop-index-init : goal.loop-index-init
loop-index-init g c =
    let list = g.N.Numbered.list c.args.numbers.now in
    let tables = g.N.Numbered.tables c.args.numbers.now in
    let none = drop_all c.args.len list (omega (arith, c.requires.len)) in
    let all = take_all c.args.len list (omega (arith, c.requires.len)) in (
      omega (arith, c.requires.len),
      subst (λ l. HasWritten tables l c.in_ok-writer.writer) (sym none) (c.in_ok-writer.ensures.ok tables),
      omega (arith, ap most_list_bytes all, c.room.ensures, c.in_ok-writer.ensures.room),
    )

pub put_next-requires-clause-whole : goal.put_next-requires-clause-whole
put_next-requires-clause-whole g c = end_piece (c.loop-index.index - 1) (g.N.Numbered.list c.args.numbers.now) c.requires.whole

pub returns-in_err-put_next-clause-err : goal.returns-in_err-put_next-clause-err
returns-in_err-put_next-clause-err g c =
    let list = g.N.Numbered.list c.args.numbers.now in
    let tables = g.N.Numbered.tables c.args.numbers.now in
    let told : IsWriteFault (byte_count tables (drop (c.loop-index.index - 1) list)) c.in_err-put_next.field-0.0 = search rules in
    let is : c.from_residual-in_err-put_next.result ≡ Err c.in_err-put_next.field-0.0 = search rules in
    rw is (too_many_in_all tables (c.loop-index.index - 1) list _ c.requires.whole told)
