use Rattle.std.proofs.Common.{rules}
use Rattle.tt_tables.specs.Interner.{entries_of}
use Rattle.tt_tables.specs.OneSmall.{small_seen}
use Rattle.tt_tables.specs.OnePart.{HeadersHave, LeavesHave}
use Rattle.tt_tables.proofs.SmallRead.{one_part_of}
use Rattle.tt_tables.proofs.small_tokens.SmallTokens.one_part.Goals as goal

pub returns-then-leaves_have : goal.returns-then-leaves_have
returns-then-leaves_have c =
    let is = small_seen _ _ _ _ _ c.self.inside.held _ c.self.view_is in
    let headers : HeadersHave c.self.inside.part c.self.inside.headers.items = search rules in
    let leaves : LeavesHave c.self.inside.part c.self.inside.leaves.items = search rules in
    one_part_of c.self.inside.part (entries_of c.self.inside.symbols) c.self.inside.headers.items c.self.inside.leaves.items headers leaves c.self.inside.tokens.items c.args.self.now is.means
