-- Trees that are no file are refused at a level, and this is what is wanted there.
use Rattle.std.proofs.Common.{rules, ◌≡◌, subst}
use Rattle.tt.specs.Views.{trees_of}
use Rattle.mbe_grammar.specs.declared.derivation.Derived.TheVariants as derived
use Rattle.mbe_grammar.specs.Derivations.{IsDerived, Refuses, place, whole}
use Rattle.mbe_grammar.specs.Names.{items, start}
use Rattle.mbe_grammar.specs.Positions.{first_position}
use Rattle.mbe_grammar.specs.Table.{rust_rules}
use Rattle.mbe_grammar.specs.Trying.{IsFarthest}
use Rattle.mbe_grammar.proofs.file.parse_file.Goals as goal

pub returns-in_ok-wanted-in-Refused : goal.returns-in_ok-wanted-in-Refused
returns-in_ok-wanted-in-Refused c =
    let trees = trees_of c.args.trees in
    let is : c.in_ok-events.field-0 ≡ derived.Refused c.in-Refused.level = search rules in
    let judged : IsDerived rust_rules (start items) trees (derived.Refused c.in-Refused.level) =
    subst (IsDerived rust_rules (start items) trees) is (subst (λ r. IsDerived r (start items) trees c.in_ok-events.field-0) c.rust_table.ensures c.in_ok-events.ensures) in
    let refused : Refuses rust_rules (whole (start items) trees) (place c.in-Refused.level) = judged in
    let farthest =
    subst (λ r. IsFarthest r c.in-Refused.level.name (first_position (trees_of c.in-Refused.level.trees)) c.in_ok-wanted-in-Refused.wanted.passed c.in_ok-wanted-in-Refused.wanted.units.items)
    c.rust_table-in-Refused.ensures c.in_ok-wanted-in-Refused.ensures in
    (refused, farthest)
