use Rattle.std.proofs.Common.{refl}
use Rattle.tt_pack.proofs.KindDecoded.{punct_given}
use Rattle.tt_pack.proofs.kind_reader.KindReaderVisitor.visit_punct.Goals as goal

pub returns : goal.returns
returns c = (λ it found. punct_given _ c.args.char c.args.spacing c.args.span it found, refl, refl)
