-- The machine's answer is how far the fragment reaches.
use Rattle.std.proofs.Common.{rules, ◌≡◌, false, [], subst}
use Rattle.std.specs.Prelude.{option_map}
use Rattle.tt.specs.Iters.{rest_of}
use Rattle.mbe_grammar.specs.Fragments.{name_of}
use Rattle.mbe_grammar.specs.Names.{start}
use Rattle.mbe_grammar.specs.Parses.{Parses}
use Rattle.mbe_grammar.specs.Places.{position_of, trees_in}
use Rattle.mbe_grammar.specs.Positions.{first_position}
use Rattle.mbe_grammar.proofs.Reached.{reached_some}
use Rattle.mbe_grammar.proofs.fragments.reach.Goals as goal

pub returns : goal.returns
returns c =
    let trees = rest_of c.args.trees in
    let which = c.args.fragment in
    let none : c.new-log.result.items ≡ [] = search rules in
    let same : trees_in c.in_ok-units.units ≡ trees = search rules in
    let log = c.parse.new.log.items in
    let count = c.in_ok-taken.taken in
    let at = c.start_of.ensures in
    reached_some which trees log count
    (subst (λ r. Parses false r (start (name_of which)) (first_position trees) (option_map (position_of trees log) count)) c.rust_table.ensures
    (subst (λ n. Parses false c.rust_table.result.rules.now n (first_position trees) (option_map (position_of trees log) count)) at
    (subst (λ l. Parses false c.rust_table.result.rules.now c.start_of.result (position_of trees l 0) (option_map (position_of trees log) count)) none
    (subst (λ t. Parses false c.rust_table.result.rules.now c.start_of.result (position_of t c.new-log.result.items 0) (option_map (position_of t log) count)) same c.in_ok-taken.ensures.parses))))
