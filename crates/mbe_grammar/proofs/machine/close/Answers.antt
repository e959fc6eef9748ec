-- A name that took nothing leaves no entry.
use Rattle.std.proofs.Common.{rules, ◌≡◌, suc, length, take}
use Rattle.mbe_grammar.proofs.Closing.{closed_cut}
use Rattle.mbe_grammar.proofs.machine.close.Goals as goal

pub returns-then-len-since-eq1-clause-closed : goal.returns-then-len-since-eq1-clause-closed
returns-then-len-since-eq1-clause-closed c =
    let count : length c.args.log.now.items ≡ suc c.args.since = search rules in
    let part : c.truncate.new.self.items ≡ take c.args.since c.args.log.now.items = search rules in
    closed_cut c.args.since c.args.log.now.items c.truncate.new.self.items count part
