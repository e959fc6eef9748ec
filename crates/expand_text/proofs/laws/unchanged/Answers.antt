use Rattle.std.proofs.Common.{ap, ◌∙◌}
use Rattle.syntax_edit.specs.Texts.{begun, with_all}
use Rattle.expand_text.proofs.Undefined.{nothing_comes}
use Rattle.syntax_edit.specs.Splices.{replacements_of}
use Rattle.expand_text.proofs.laws.unchanged.Goals as goal

pub returns : goal.returns
returns c = λ options source it is lacks.
    let quiet = nothing_comes is.exports is.expands_to is.are (lacks is.tree is.read) in
    (is.text ∙ ap (λ its. with_all (replacements_of its) (begun source)) quiet.0, is.findings ∙ quiet.1)
