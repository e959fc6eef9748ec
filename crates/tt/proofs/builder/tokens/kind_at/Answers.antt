use Rattle.std.proofs.Common.{sym, ◌∙◌, arith}
use Rattle.tt.proofs.NamedKinds.{named_kind_there, no_named_kind}
use Rattle.tt.proofs.builder.tokens.kind_at.Goals as goal

pub returns-then-place-tokens : goal.returns-then-place-tokens
returns-then-place-tokens c = c.kind_of.ensures ∙ sym (named_kind_there c.args.tokens.now c.args.place _ c.if-place-tokens.true)

pub returns-else-place-tokens : goal.returns-else-place-tokens
returns-else-place-tokens c = sym (no_named_kind c.args.tokens.now c.args.place (omega (arith, c.if-place-tokens.false)))
