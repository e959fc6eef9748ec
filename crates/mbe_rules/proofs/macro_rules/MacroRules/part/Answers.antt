use Rattle.std.proofs.Common.{rules, ◌≡◌, ◌<◌, ◌≤◌, ◌∙◌, None, Some, MatchOption, length, get_or, ap, sym, subst}
use Rattle.std.proofs.lemmas.Option.{slice_get-get_or, slice_get_past}
use Rattle.std.specs.Prelude.{slice_get}
use Rattle.mbe_program.specs.Labelling.{label_of}
use Rattle.mbe_rules.proofs.Waiting.{part_at, part_none}
use Rattle.mbe_rules.proofs.macro_rules.MacroRules.part.Goals as goal

pub returns-in_err-arm : goal.returns-in_err-arm
returns-in_err-arm c arms are =
    let its = c.args.self.now.arms.items in
    let number = c.args.it.arm in
    let same : c.deref.result.now ≡ its = search rules in
    let none : c.from_residual.result ≡ None = search rules in
    let beyond : length c.deref.result.now ≤ number = search rules in
    rw none (part_none arms its number c.args.it.part are (slice_get_past its number (subst (λ l. length l ≤ number) same beyond)))

pub returns : goal.returns
returns c arms are =
    let its = c.args.self.now.arms.items in
    let number = c.args.it.arm in
    let it = c.in_ok-arm.arm.now in
    let same : c.deref.result.now ≡ its = search rules in
    let lt : number < length c.deref.result.now = search rules in
    let there : it ≡ get_or c.deref.result.now number it = search rules in
    let found = part_at arms its number c.args.it.part it are
    (subst (λ l. slice_get l number ≡ Some it) same (slice_get-get_or c.deref.result.now number it lt ∙ ap Some (sym there))) in
    subst (λ p. MatchOption c.part.result (p ≡ None) (λ part. p ≡ Some (label_of part))) (sym found.2) (c.part.ensures found.0 found.1)
