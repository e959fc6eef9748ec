use Rattle.std.proofs.Common.{◌≡◌, ap, ◌∙◌, arith}
use Rattle.tt_codec.specs.Entry.{most_entry_bytes}
use Rattle.tt_pack.specs.Room.{most_token_bytes}
use Rattle.tt_pack.proofs.Joined.{on_ok, if_err}
use Rattle.tt_pack.proofs.MostBytes.{most_more, most_in_numbers}
use Rattle.tt_pack.proofs.Writing.{put_fault, one_put}
use Rattle.tt_pack.proofs.writer.Writer.put_next.Goals as goal

pub returns-clause-err : goal.returns-clause-err
returns-clause-err g c =
    if_err c.put.result (put_fault _ (g.N.Numbered.list c.args.numbers.now) c.args.index _ c.requires.index c.requires.whole c.entry-entry.ensures _ _ c.requires.written) c.put.ensures.err

pub returns-clause-ok : goal.returns-clause-ok
returns-clause-ok g c =
    on_ok c.put.result
    (λ put. one_put _ (g.N.Numbered.list c.args.numbers.now) c.args.index _ c.requires.index c.requires.whole c.entry-entry.ensures _ _ c.requires.written _ _ put.bytes put.few put.sums) c.put.ensures.ok

pub returns-clause-room : goal.returns-clause-room
returns-clause-room g c =
    let at = c.entry-entry.ensures in
    let more = most_more (g.N.Numbered.list c.args.numbers.now) c.args.index at.it c.requires.index at.read in
    let numbers : most_entry_bytes c.entry-entry.result ≡ most_token_bytes at.it = ap most_entry_bytes at.named.is ∙ most_in_numbers _ at.it _ in
    on_ok c.put.result (λ put. omega (arith, more, numbers, put.room, c.requires.room)) c.put.ensures.ok
