use Rattle.std.proofs.Common.{rules, ◌≡◌, ◌<◌, Err, length, get_or}
use Rattle.tt.specs.Forest.{end, leaf}
use Rattle.mbe_rules.specs.Filling.{Grows, IsWant}
use Rattle.mbe_rules.proofs.Growing.{grows_none, grows_more, wants_more}
use Rattle.mbe_rules.proofs.transcribe.Transcriber.separate.Goals as goal

pub loop-leaf-init : goal.loop-leaf-init
loop-leaf-init c = grows_none c.args.self.now

pub returns-in_err-push-clause-err : goal.returns-in_err-push-clause-err
returns-in_err-push-clause-err c =
    let within : c.loop-leaf.leaf-index < length c.args.separator.now = search rules in
    let want : IsWant 1 c.loop-leaf.self c.in_err-push.field-0.0 = search rules in
    let failed : c.from_residual.result ≡ Err c.in_err-push.field-0.0 = search rules in
    rw failed (wants_more c.args.separator.now c.loop-leaf.leaf-index c.args.self.now c.loop-leaf.self c.in_err-push.field-0.0 within c.loop-leaf.invariant want)

pub loop-leaf-preserved : goal.loop-leaf-preserved
loop-leaf-preserved c =
    let it = c.leaf-item.result in
    let within : c.loop-leaf.leaf-index < length c.args.separator.now = search rules in
    let there : it ≡ get_or c.args.separator.now c.loop-leaf.leaf-index it = search rules in
    let grown : Grows (leaf it end) c.loop-leaf.self c.push.new.self = search rules in
    grows_more c.args.separator.now c.loop-leaf.leaf-index it c.args.self.now c.loop-leaf.self c.push.new.self within there c.loop-leaf.invariant grown
