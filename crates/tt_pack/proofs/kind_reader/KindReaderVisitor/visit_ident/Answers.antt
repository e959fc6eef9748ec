use Rattle.std.proofs.Common.{refl}
use Rattle.tt_pack.proofs.kind_reader.KindReaderVisitor.visit_ident.Goals as goal

pub returns : goal.returns
returns c = (λ it found. c.ident_kind-self.ensures c.args.span it found, refl, refl)
