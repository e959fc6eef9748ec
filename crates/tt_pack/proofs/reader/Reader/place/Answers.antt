use Rattle.tt_pack.specs.ReaderOf.{tables_of, bytes_of, offset_of, ahead_of}
use Rattle.tt_pack.proofs.Moves.{inside, outside_top}
use Rattle.tt_pack.proofs.reader.Reader.place.Goals as goal

pub returns-clause-inside : goal.returns-clause-inside
returns-clause-inside c =
    let self = c.args.self.now in
    inside (tables_of self) (bytes_of self) (offset_of self) (ahead_of self) self.ahead.1

pub returns-clause-top : goal.returns-clause-top
returns-clause-top c =
    let self = c.args.self.now in
    outside_top (tables_of self) (bytes_of self) (offset_of self) (ahead_of self) self.ahead.1
