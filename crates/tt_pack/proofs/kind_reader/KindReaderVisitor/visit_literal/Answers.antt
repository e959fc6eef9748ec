use Rattle.std.proofs.Common.{refl}
use Rattle.tt_pack.proofs.KindDecoded.{literal_given}
use Rattle.tt_pack.proofs.kind_reader.KindReaderVisitor.visit_literal.Goals as goal

pub returns : goal.returns
returns c = (λ it found. literal_given _ c.args.symbol c.args.kind c.args.suffix_len c.args.span it found, refl, refl)
