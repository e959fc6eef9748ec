use Rattle.std.proofs.Common.{rules, ◌≡◌, ◌<◌, ◌≤◌, length, get_or, Some, ap, sym, ◌∙◌}
use Rattle.std.proofs.lemmas.Option.{slice_get_past, slice_get-get_or}
use Rattle.std.specs.Prelude.{slice_get}
use Rattle.mbe_rules.specs.Rounds.{fragment_of}
use Rattle.mbe_rules.proofs.Seeing.{taken_at, none_at}
use Rattle.mbe_rules.proofs.taken.fragment_of.Goals as goal

pub returns-in-Some : goal.returns-in-Some
returns-in-Some c binding are =
    let its = c.args.taken.now in
    let number = c.args.number in
    let it = c.in-Some.taken.now in
    let lt : number < length its = search rules in
    let there : it ≡ get_or its number it = search rules in
    let found : slice_get its number ≡ Some it = slice_get-get_or its number it lt ∙ ap Some (sym there) in
    let (named, at, is) = taken_at binding its number it are found in
    ap Some (sym is.fragment) ∙ sym (ap fragment_of at)

pub returns-in-None : goal.returns-in-None
returns-in-None c binding are =
    let its = c.args.taken.now in
    let number = c.args.number in
    let beyond : length its ≤ number = search rules in
    sym (ap fragment_of (none_at binding its number are (slice_get_past its number beyond)))
