use Rattle.std.proofs.Common.{rules, ◌≡◌, Err, refl}
use Rattle.tt.specs.Building.{opened, HasRoom, IsGrowthFault}
use Rattle.mbe_rules.specs.declared.transcribe_error.TranscribeError.TheVariants.{Tree}
use Rattle.mbe_rules.proofs.Growing.{opens_by, taking_wants, growth_wants}
use Rattle.mbe_rules.proofs.transcribe.Transcriber.open.Goals as goal

pub returns-in_err-self-clause-err : goal.returns-in_err-self-clause-err
returns-in_err-self-clause-err c =
    let error = c.in_err-self.field-0.0 in
    let failed : c.from_residual.result ≡ Err error = search rules in
    rw failed (taking_wants 1 c.args.self.now error c.in_err-self.ensures.err)

pub returns-in_err-open-clause-err : goal.returns-in_err-open-clause-err
returns-in_err-open-clause-err c =
    let old = c.args.self.now in
    let fault = c.in_err-open.field-0.0 in
    let failed : c.from_residual-in_err-open.result ≡ Err (Tree fault) = search rules in
    let refused : IsGrowthFault 1 old.builder fault = search rules in
    rw failed (growth_wants 1 old c.in_ok-self.field-0 fault c.in_ok-self.ensures.ok refused)

pub returns-clause-ok : goal.returns-clause-ok
returns-clause-ok c =
    let old = c.args.self.now in
    let opens : c.open.new.self ≡ opened c.args.kind c.args.open_span old.builder = search rules in
    let room : HasRoom 1 old.builder = search rules in
    opens_by c.args.kind c.args.open_span old _ opens room c.in_ok-self.ensures.ok refl refl
