use Rattle.std.proofs.Common.{rules, ◌≡◌, Err, refl, subst, sym}
use Rattle.tt.specs.Building.{alone, extended, HasRoom, IsGrowthFault}
use Rattle.tt.specs.Forest.{size}
use Rattle.tt.specs.Views.{trees_of}
use Rattle.mbe_rules.specs.declared.transcribe_error.TranscribeError.TheVariants.{OverLimit, Tree}
use Rattle.mbe_rules.specs.Filling.{IsWant}
use Rattle.mbe_rules.specs.Limits.{IsOver}
use Rattle.mbe_rules.proofs.Growing.{IsTaken, grows_by, taking_wants, growth_wants, size-alone}
use Rattle.mbe_rules.proofs.transcribe.Transcriber.append.Goals as goal

pub returns-in_err-self-clause-err : goal.returns-in_err-self-clause-err
returns-in_err-self-clause-err c =
    let old = c.args.self.now in
    let trees = trees_of c.args.trees in
    let error = c.in_err-self.field-0.0 in
    let failed : c.from_residual.result ≡ Err error = search rules in
    let over : (error ≡ OverLimit) × IsOver old.left (size trees) = subst (λ n. (error ≡ OverLimit) × IsOver old.left n) c.len.ensures c.in_err-self.ensures.err in
    rw failed (subst (λ n. IsWant n old error) (sym (size-alone trees)) (taking_wants (size trees) old error over))

pub returns-in_err-extend_with_tt_alone-clause-err : goal.returns-in_err-extend_with_tt_alone-clause-err
returns-in_err-extend_with_tt_alone-clause-err c =
    let old = c.args.self.now in
    let trees = trees_of c.args.trees in
    let rest = c.in_ok-self.field-0 in
    let fault = c.in_err-extend_with_tt_alone.field-0.0 in
    let failed : c.from_residual-in_err-extend_with_tt_alone.result ≡ Err (Tree fault) = search rules in
    let refused : IsGrowthFault (size trees) old.builder fault = search rules in
    let taken : IsTaken (size trees) old.left rest = subst (λ n. IsTaken n old.left rest) c.len.ensures c.in_ok-self.ensures.ok in
    rw failed (subst (λ n. IsWant n old (Tree fault)) (sym (size-alone trees)) (growth_wants (size trees) old rest fault taken refused))

pub returns-clause-ok : goal.returns-clause-ok
returns-clause-ok c =
    let old = c.args.self.now in
    let trees = trees_of c.args.trees in
    let rest = c.in_ok-self.field-0 in
    let grown : c.extend_with_tt_alone.new.self ≡ extended (alone trees) old.builder = search rules in
    let room : HasRoom (size trees) old.builder = search rules in
    let taken : IsTaken (size trees) old.left rest = subst (λ n. IsTaken n old.left rest) c.len.ensures c.in_ok-self.ensures.ok in
    grows_by (alone trees) old _ grown (subst (λ n. HasRoom n old.builder) (sym (size-alone trees)) room)
    (subst (λ n. IsTaken n old.left rest) (sym (size-alone trees)) taken) refl refl
