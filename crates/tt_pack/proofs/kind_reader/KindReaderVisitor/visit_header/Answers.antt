use Rattle.std.proofs.Common.{refl}
use Rattle.tt_pack.proofs.kind_reader.KindReaderVisitor.visit_header.Goals as goal

pub returns : goal.returns
returns c = (λ it found. (found.kind, found.len), refl, refl)
