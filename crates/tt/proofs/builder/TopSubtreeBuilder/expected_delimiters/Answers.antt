use Rattle.std.proofs.Common.{refl, ◌∙◌, ap₂}
use Rattle.tt.specs.InternedKinds.{named_kinds_at}
use Rattle.tt.proofs.NamedKinds.{kinds_named}
use Rattle.tt.proofs.OpenKinds.{kinds_open}
use Rattle.tt.proofs.Steps.{keeps}
use Rattle.tt.proofs.builder.TopSubtreeBuilder.expected_delimiters.Goals as goal

pub returns : goal.returns
returns c =
    let is = keeps _ _ _ _ _ _ c.self.inside.state c.self.inside.open_headers _ c.self.view_is in
    ap₂ named_kinds_at refl c.deref.ensures.value ∙ kinds_named c.self.inside.top c.tokens.result.now c.self.inside.held c.self.inside.headers.items c.tokens.ensures is.opens ∙ kinds_open _ _ _ _ _ _ is.state
