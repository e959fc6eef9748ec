use Rattle.std.proofs.Common.{◌==◌, ◌↔◌, ◌∙◌, IsTrue, subst}
use Rattle.std.specs.List.{IsDistinct}
use Rattle.tt_bytes.proofs.distinct.digests_differ.Goals as goal

pub returns : goal.returns
returns c = subst (λ numbers. IsTrue c.few_differ.result ↔ IsDistinct ◌==◌ numbers) (c.deref.ensures.value ∙ c.in_ok-digests.ensures) c.few_differ.ensures
