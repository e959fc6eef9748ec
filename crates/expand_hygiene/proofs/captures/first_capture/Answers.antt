use Rattle.std.proofs.Common.{◌≡◌, subst}
use Rattle.tt.specs.Forest.{flat}
use Rattle.tt.specs.Iters.{rest_of}
use Rattle.tt.specs.Views.{trees_of}
use Rattle.mbe_grammar.specs.declared.derivation.Derived.TheVariants as derived
use Rattle.mbe_grammar.specs.Derivations.{whole, IsDerived}
use Rattle.mbe_grammar.specs.Names.{start}
use Rattle.expand_hygiene.specs.Binders.{binders_in}
use Rattle.expand_hygiene.specs.Captures.{name_of, first_capture}
use Rattle.expand_hygiene.specs.Given.{IsGiven}
use Rattle.expand_hygiene.specs.Mentions.{mentions_in}
use Rattle.expand_hygiene.specs.Walks.{AreUncaptured}
use Rattle.expand_hygiene.proofs.Walking.{judged, derived_captures, refused_captures}
use Rattle.expand_hygiene.proofs.captures.first_capture.Goals as goal

pub returns-then-not-may_capture : goal.returns-then-not-may_capture
returns-then-not-may_capture c =
    let input = rest_of c.args.input in
    let expansion = rest_of c.args.expansion in
    let given : IsGiven c.in_ok-given.given (mentions_in input) = subst (λ trees. IsGiven c.in_ok-given.given (mentions_in trees)) c.remaining.ensures c.in_ok-given.ensures in
    let none : AreUncaptured (mentions_in input) (flat expansion) =
    subst (λ trees. AreUncaptured (mentions_in input) (flat trees)) c.remaining-trees.ensures (c.may_capture.ensures c.if-not-may_capture.true (mentions_in input) given) in
    judged c.args.expand_to input expansion none (c.are_judged.ensures (whole (start (name_of c.args.expand_to)) expansion))

pub returns-in-Whole : goal.returns-in-Whole
returns-in-Whole c =
    let given : IsGiven c.in_ok-given.given (mentions_in (rest_of c.args.input)) =
    subst (λ trees. IsGiven c.in_ok-given.given (mentions_in trees)) c.remaining.ensures c.in_ok-given.ensures in
    let events = c.in-Whole.events.items in
    let read : IsDerived c.rust_table.result.rules.now c.start_of.result (trees_of c.remaining-trees.result) (derived.Whole c.in-Whole.events) =
    subst (IsDerived c.rust_table.result.rules.now c.start_of.result (trees_of c.remaining-trees.result)) c.in-Whole.is c.in_ok-events.ensures in
    let found : c.in_ok-found-in-Whole.found ≡ first_capture (mentions_in (rest_of c.args.input)) (binders_in (trees_of c.remaining-trees.result) events) =
    subst (λ all. c.in_ok-found-in-Whole.found ≡ first_capture (mentions_in (rest_of c.args.input)) (binders_in (trees_of c.remaining-trees.result) all)) c.deref.ensures.value
    (c.in_ok-found-in-Whole.ensures (mentions_in (rest_of c.args.input)) given) in
    derived_captures c.args.expand_to (rest_of c.args.input) _ _ _ _ events _ c.rust_table.ensures c.start_of.ensures c.remaining-trees.ensures read found

pub returns : goal.returns
returns c =
    let trees = trees_of c.remaining-trees.result in
    let read : IsDerived c.rust_table.result.rules.now c.start_of.result trees (derived.Refused c.in-Refused.field-0) =
    subst (IsDerived c.rust_table.result.rules.now c.start_of.result trees) c.in-Refused.is c.in_ok-events.ensures in
    refused_captures c.args.expand_to (rest_of c.args.input) _ _ _ _ _ c.rust_table.ensures c.start_of.ensures c.remaining-trees.ensures read
