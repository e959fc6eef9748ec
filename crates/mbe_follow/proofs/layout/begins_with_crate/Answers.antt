use Rattle.std.proofs.Common.{rules, ◌≡◌, sym, ◌∙◌}
use Rattle.tt.specs.Iters.{rest_of}
use Rattle.mbe_pattern.specs.Spelling.{is_crate_in}
use Rattle.mbe_follow.proofs.CrateFirst.{crate_first}
use Rattle.mbe_follow.proofs.layout.begins_with_crate.Goals as goal

pub returns : goal.returns
returns c =
    let is : c.is_crate_in.result ≡ is_crate_in (rest_of c.args.trees) = search rules in
    is ∙ sym (crate_first (rest_of c.args.trees))
