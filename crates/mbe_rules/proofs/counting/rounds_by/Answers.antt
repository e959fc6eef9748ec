use Rattle.std.proofs.Common.{rules, ◌≡◌, refl, ap₂}
use Rattle.mbe_pattern.specs.declared.pattern.RepeatKind.TheVariants.{OneOrMore}
use Rattle.mbe_rules.specs.declared.counting.Count.TheVariants.{Unknown, Same, Differ}
use Rattle.mbe_rules.specs.Counting.{rounds_by}
use Rattle.mbe_rules.specs.Transcribing.{nothing_repeats, lengths_differ, no_round}
use Rattle.mbe_rules.proofs.counting.rounds_by.Goals as goal

pub returns-in-Unknown-default-clause-err : goal.returns-in-Unknown-default-clause-err
returns-in-Unknown-default-clause-err c =
    let count : c.args.count ≡ Unknown = search rules in
    (nothing_repeats c.args.at, ap₂ (rounds_by c.args.at) refl count, refl)

pub returns-in-Same-eq0-OneOrMore-clause-err : goal.returns-in-Same-eq0-OneOrMore-clause-err
returns-in-Same-eq0-OneOrMore-clause-err c =
    let kind : c.args.kind ≡ OneOrMore = search rules in
    let count : c.args.count ≡ Same 0 = search rules in
    (no_round c.args.at, ap₂ (rounds_by c.args.at) kind count, refl)

pub returns-in-Differ-default-clause-err : goal.returns-in-Differ-default-clause-err
returns-in-Differ-default-clause-err c =
    let count : c.args.count ≡ Differ = search rules in
    (lengths_differ c.args.at, ap₂ (rounds_by c.args.at) refl count, refl)
