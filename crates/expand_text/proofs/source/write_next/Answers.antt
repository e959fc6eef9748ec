use Rattle.std.proofs.Common.{rules, ◌≡◌, true, refl, sym, subst}
use Rattle.std.specs.Prelude.{Err}
use Rattle.expand_text.specs.Contexts.{config_of}
use Rattle.expand_text.specs.Events.{IsNext}
use Rattle.expand_text.specs.Stops.{IsEventFirst, IsStop}
use Rattle.expand_text.specs.declared.next.Event.TheVariants as event
use Rattle.expand_text.specs.Walks.{first_level, outer_of, levels_of, front_in, past_in}
use Rattle.expand_text.specs.Writing.{IsWrittenOn}
use Rattle.syntax_edit.specs.Texts.{writing_of}
use Rattle.expand_text.proofs.Replacing.{writes_leaf, writes_stay, writes_subtree, writes_end, writes_invocation}
use Rattle.expand_text.proofs.source.write_next.Goals as goal

pub returns-in-End-clause-written : goal.returns-in-End-clause-written
returns-in-End-clause-written c before is =
    let config = config_of c.args.config.now in
    let levels = levels_of c.args.walk.now in
    let (others, then, next) = c.in_ok-next.ensures.next before is in
    (others, then, (subst (λ e. IsNext config true c.args.limit levels before e (levels_of c.next.new.walk) others) c.in-End.is (next true), refl))

pub returns-in-Leaf-clause-written : goal.returns-in-Leaf-clause-written
returns-in-Leaf-clause-written c before is =
    let config = config_of c.args.config.now in
    let walk = c.args.walk.now in
    let here = levels_of c.next.new.walk in
    let (others, then, next) = c.in_ok-next.ensures.next before is in (
      others,
      then,
      writes_leaf config c.args.limit (first_level walk) (outer_of walk) here (writing_of c.args.output.now) before others c.in-Leaf._leaf
          (subst (λ e. IsNext config true c.args.limit (levels_of walk) before e here others) c.in-Leaf.is (next true)),
    )

pub returns-in-Opens-clause-written : goal.returns-in-Opens-clause-written
returns-in-Opens-clause-written c before is =
    let config = config_of c.args.config.now in
    let walk = c.args.walk.now in
    let here = levels_of c.next.new.walk in
    let (others, then, next) = c.in_ok-next.ensures.next before is in (
      others,
      then,
      writes_subtree config c.args.limit (first_level walk) (outer_of walk) here (writing_of c.args.output.now) before others c.in-Opens._header.delimiter
          (subst (λ e. IsNext config true c.args.limit (levels_of walk) before e here others) c.in-Opens.is (next true)),
    )

pub returns-in-Closes-clause-written : goal.returns-in-Closes-clause-written
returns-in-Closes-clause-written c before is =
    let config = config_of c.args.config.now in
    let walk = c.args.walk.now in
    let here = levels_of c.next.new.walk in
    let (others, then, next) = c.in_ok-next.ensures.next before is in (
      others,
      then,
      writes_end config c.args.limit (first_level walk) (outer_of walk) here (writing_of c.args.output.now) before others
          (subst (λ e. IsNext config true c.args.limit (levels_of walk) before e here others) c.in-Closes.is (next true)),
    )

pub returns-in-Stays-clause-written : goal.returns-in-Stays-clause-written
returns-in-Stays-clause-written c before is =
    let config = config_of c.args.config.now in
    let walk = c.args.walk.now in
    let here = levels_of c.next.new.walk in
    let part = c.in-Stays.part in
    let text = writing_of c.args.output.now in
    let (others, then, next) = c.in_ok-next.ensures.next before is in (
      others,
      then,
      subst (λ ls. IsWrittenOn config c.args.limit (levels_of walk) ls text text before others) (sym c.pass.ensures)
          (writes_stay config c.args.limit (first_level walk) (outer_of walk) (past_in part here) text before others (front_in part here)
          (subst (λ e. IsNext config true c.args.limit (levels_of walk) before e here others) c.in-Stays.is (next true))),
    )

pub returns-in_err-write_call-in-Invocation-clause-stop : goal.returns-in_err-write_call-in-Invocation-clause-stop
returns-in_err-write_call-in-Invocation-clause-stop c =
    let config = config_of c.args.config.now in
    let levels = levels_of c.args.walk.now in
    let first : IsEventFirst config levels (event.Invocation c.in-Invocation.call c.in-Invocation.tree) = subst (IsEventFirst config levels) c.in-Invocation.is c.in_ok-next.ensures.first in
    let failed : c.from_residual-in_err-write_call-in-Invocation.result ≡ Err c.in_err-write_call-in-Invocation.field-0.0 = search rules in
    rw failed (subst (IsStop config levels) (sym c.in_err-write_call-in-Invocation.ensures.stop) first)

pub returns-in_ok-write_call-in-Invocation-clause-written : goal.returns-in_ok-write_call-in-Invocation-clause-written
returns-in_ok-write_call-in-Invocation-clause-written c before is =
    let config = config_of c.args.config.now in
    let walk = c.args.walk.now in
    let here = levels_of c.next.new.walk in
    let call = c.in-Invocation.call in
    let old = writing_of c.args.output.now in
    let new = writing_of c.write_call.new.output in
    let (others, then, next) = c.in_ok-next.ensures.next before is in
    let (after, ready, written) = c.in_ok-write_call-in-Invocation.ensures.written others then in (
      after,
      ready,
      subst (λ ls. IsWrittenOn config c.args.limit (levels_of walk) ls old new before after) (sym c.in_ok-write_call-in-Invocation.ensures.walk)
          (writes_invocation config c.args.limit (first_level walk) (outer_of walk) old new before others after call c.in-Invocation.tree here
          (subst (λ e. IsNext config true c.args.limit (levels_of walk) before e here others) c.in-Invocation.is (next true)) written),
    )
