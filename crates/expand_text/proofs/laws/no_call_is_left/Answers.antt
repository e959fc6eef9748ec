use Rattle.std.proofs.Common.{refl, sym, ◌∙◌}
use Rattle.expand_text.proofs.NoneLeft.{none_left}
use Rattle.expand_text.proofs.laws.no_call_is_left.Goals as goal

pub returns : goal.returns
returns c = λ options source it is none. (none_left is.expands_to refl (sym is.findings ∙ none)).0
