use Rattle.std.proofs.Common.{subst}
use Rattle.expand_text.specs.Contexts.{config_of}
use Rattle.expand_text.specs.Expansion.{IsInvocationWritten}
use Rattle.syntax_edit.specs.Texts.{writing_of}
use Rattle.expand_text.proofs.source.write_call.Goals as goal

pub returns-in-Ok-clause-written : goal.returns-in-Ok-clause-written
returns-in-Ok-clause-written c before is =
    let (after, ready, written) = c.in-Ok.ensures before is in (
      after,
      ready,
      subst (λ whole. IsInvocationWritten (config_of c.args.config.now) c.args.limit c.args.call whole c.args.tree (writing_of c.args.output.now) (writing_of c.write_invocation.new.output) before after)
          c.front-whole.ensures written,
    )
