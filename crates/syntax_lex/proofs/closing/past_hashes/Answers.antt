use Rattle.std.proofs.Common.{◌∙◌, sym, arith}
use Rattle.std.specs.Str.{chars}
use Rattle.syntax_lex.proofs.ClosingFacts.{hash_step}
use Rattle.syntax_lex.proofs.closing.past_hashes.Goals as goal

pub loop-count-preserved : goal.loop-count-preserved
loop-count-preserved c =
    let step = hash_step c.loop-count.count (chars c.args.text.now) (chars c.loop-count.rest.now) (chars c.skip-rest.result.now) (sym c.first.ensures ∙ c.if-first-ne35.false) c.skip-rest.ensures.rest c.loop-count.invariant.1 c.loop-count.invariant.2 in
    (c.skip-rest.utf8, step.0, step.1, omega arith, omega arith)
