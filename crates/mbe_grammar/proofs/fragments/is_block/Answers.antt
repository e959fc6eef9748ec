-- The trees have a derivation, or are refused somewhere.
use Rattle.std.proofs.Common.{rules, ◌≡◌, subst}
use Rattle.tt.specs.Views.{trees_of}
use Rattle.mbe_grammar.specs.declared.derivation.Derived.TheVariants as derived
use Rattle.mbe_grammar.specs.Derivations.{IsDerived, place}
use Rattle.mbe_grammar.specs.Names.{start, statements}
use Rattle.mbe_grammar.specs.Table.{rust_rules}
use Rattle.mbe_grammar.proofs.fragments.is_block.Goals as goal

pub returns-in-Whole : goal.returns-in-Whole
returns-in-Whole c =
    let is : c.in_ok-_events.field-0 ≡ derived.Whole c.in-Whole._events = search rules in
    let it : IsDerived rust_rules (start statements) (trees_of c.args.trees) (derived.Whole c.in-Whole._events) =
    subst (IsDerived rust_rules (start statements) (trees_of c.args.trees)) is (subst (λ r. IsDerived r (start statements) (trees_of c.args.trees) c.in_ok-_events.field-0) c.rust_table.ensures c.in_ok-_events.ensures) in
    (c.in-Whole._events.items, it)

pub returns-in-Refused : goal.returns-in-Refused
returns-in-Refused c =
    let is : c.in_ok-_events.field-0 ≡ derived.Refused c.in-Refused.field-0 = search rules in
    let it : IsDerived rust_rules (start statements) (trees_of c.args.trees) (derived.Refused c.in-Refused.field-0) =
    subst (IsDerived rust_rules (start statements) (trees_of c.args.trees)) is (subst (λ r. IsDerived r (start statements) (trees_of c.args.trees) c.in_ok-_events.field-0) c.rust_table.ensures c.in_ok-_events.ensures) in
    (place c.in-Refused.field-0, it)
