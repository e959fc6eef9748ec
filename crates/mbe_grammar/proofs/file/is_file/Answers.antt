-- The table is Rust's.
use Rattle.std.proofs.Common.{IfOk, subst}
use Rattle.tt.specs.Views.{trees_of}
use Rattle.mbe_grammar.specs.Derivations.{IsJudged}
use Rattle.mbe_grammar.specs.Names.{items, start}
use Rattle.mbe_grammar.proofs.file.is_file.Goals as goal

pub returns : goal.returns
returns c =
    subst (λ r. IfOk c.is_whole.result (λ answer. IsJudged r (start items) (trees_of c.args.trees) answer)) c.rust_table.ensures c.is_whole.ensures
