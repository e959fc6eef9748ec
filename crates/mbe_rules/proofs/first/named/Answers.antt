use Rattle.std.proofs.Common.{rules, tests, ◌≡◌, sym, ◌∙◌}
use Rattle.std.specs.List.{position}
use Rattle.std.proofs.lemmas.Iterator.{YieldsList-from_slice}
use Rattle.std.proofs.lemmas.Iterator.Search.{position_from_yields_List}
use Rattle.mbe_matcher.specs.Binders.{where_of}
use Rattle.mbe_rules.specs.Spelling.{has_name}
use Rattle.mbe_rules.proofs.Naming.{position_made}
use Rattle.mbe_rules.proofs.first.named.Goals as goal

pub returns : goal.returns
returns c =
    let found : c.position.result ≡ position (λ it. has_name c.args.name.now (where_of it)) c.args.binders.now =
    position_from_yields_List (λ it. has_name c.args.name.now (where_of it)) _ _ _ c.position.ensures.ran (YieldsList-from_slice c.args.binders.now cc) (λ x b q k. search (rules, tests)) in
    found ∙ sym (position_made where_of (has_name c.args.name.now) c.args.binders.now)
