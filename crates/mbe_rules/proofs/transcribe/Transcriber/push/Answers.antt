use Rattle.std.proofs.Common.{rules, ◌≡◌, Err, refl, ap, ◌∙◌}
use Rattle.tt.specs.Building.{extended, HasRoom, IsGrowthFault}
use Rattle.tt.specs.Forest.{end, leaf}
use Rattle.mbe_rules.specs.declared.transcribe_error.TranscribeError.TheVariants.{Tree}
use Rattle.mbe_rules.proofs.Growing.{grows_by, taking_wants, growth_wants}
use Rattle.mbe_rules.proofs.transcribe.Transcriber.push.Goals as goal

pub returns-in_err-self-clause-err : goal.returns-in_err-self-clause-err
returns-in_err-self-clause-err c =
    let error = c.in_err-self.field-0.0 in
    let failed : c.from_residual.result ≡ Err error = search rules in
    rw failed (taking_wants 1 c.args.self.now error c.in_err-self.ensures.err)

pub returns-in_err-push-clause-err : goal.returns-in_err-push-clause-err
returns-in_err-push-clause-err c =
    let old = c.args.self.now in
    let fault = c.in_err-push.field-0.0.fault in
    let failed : c.from_residual-in_err-push.result ≡ Err (Tree fault) = search rules in
    let refused : IsGrowthFault 1 old.builder fault = search rules in
    rw failed (growth_wants 1 old c.in_ok-self.field-0 fault c.in_ok-self.ensures.ok refused)

pub returns-clause-ok : goal.returns-clause-ok
returns-clause-ok c =
    let old = c.args.self.now in
    let copy : c.in_ok-leaf.leaf ≡ c.args.leaf.now = search rules in
    let grown : c.push.new.self ≡ extended (leaf c.in_ok-leaf.leaf end) old.builder = search rules in
    let room : HasRoom 1 old.builder = search rules in
    grows_by (leaf c.args.leaf.now end) old _ (grown ∙ ap (λ it. extended (leaf it end) old.builder) copy) room c.in_ok-self.ensures.ok refl refl
