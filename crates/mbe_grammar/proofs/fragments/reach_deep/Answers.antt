-- The table is Rust's, and the trees are those of the iterator.
use Rattle.std.proofs.Common.{rules, ◌≡◌, IfOk, subst}
use Rattle.tt.specs.Iters.{rest_of}
use Rattle.tt.specs.Views.{trees_of}
use Rattle.mbe_grammar.specs.Derivations.{TakesDeep}
use Rattle.mbe_grammar.specs.Fragments.{name_of}
use Rattle.mbe_grammar.specs.Names.{start}
use Rattle.mbe_grammar.proofs.fragments.reach_deep.Goals as goal

pub returns : goal.returns
returns c =
    let trees : trees_of c.remaining.result ≡ rest_of c.args.trees = search rules in
    subst (λ r. IfOk c.take_deep.result (λ count. TakesDeep r (start (name_of c.args.fragment)) (rest_of c.args.trees) count)) c.rust_table.ensures
    (subst (λ n. IfOk c.take_deep.result (λ count. TakesDeep c.rust_table.result.rules.now n (rest_of c.args.trees) count)) c.start_of.ensures
    (subst (λ t. IfOk c.take_deep.result (λ count. TakesDeep c.rust_table.result.rules.now c.start_of.result t count)) trees c.take_deep.ensures))
