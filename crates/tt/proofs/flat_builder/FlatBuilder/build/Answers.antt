use Rattle.std.proofs.Common.{◌≡◌, ◌-◌, length, sym, ◌∙◌}
use Rattle.std.proofs.lemmas.Result.{IfErr-weaker, IfOk-weaker}
use Rattle.tt_base.specs.Forest.{flat_root}
use Rattle.tt_base.specs.Unflat.{flat_root-injective}
use Rattle.tt.proofs.FlatBuilt.{built_list, few_below, has_top, is_whole}
use Rattle.tt.proofs.flat_builder.FlatBuilder.build.Goals as goal
use Rattle.tt.specs.FlatFields.{counted}
use Rattle.tt.specs.FlatHeld.{built}
use Rattle.tt.specs.OneFlatHeld.{seen}
use Rattle.tt_view.proofs.TreeFaults.{tree_fault}
use Rattle.tt_view.specs.PackFault.{IsPackFault}
use Rattle.tt_view.specs.TreeFault.{IsTreeFault}

pub build-requires-clause-top : goal.build-requires-clause-top
build-requires-clause-top c = (c.args.self.top, has_top _ _ _ (seen _ _ c.self.inside.state _ c.self.view_is) c.requires)

pub build-requires-clause-whole : goal.build-requires-clause-whole
build-requires-clause-whole c = is_whole _ _ _ (seen _ _ c.self.inside.state _ c.self.view_is) c.requires

pub returns-clause-ok : goal.returns-clause-ok
returns-clause-ok c =
    let is = seen _ _ c.self.inside.state _ c.self.view_is in
    IfOk-weaker c.build.result (λ tree. counted (length c.self.inside.tokens - 1) c.self.inside.tokens ≡ flat_root tree) (λ tree. tree ≡ built c.args.self)
    (λ tree list. flat_root-injective tree (built c.args.self) (sym list ∙ built_list _ _ _ is c.requires)) c.build.ensures.ok

pub returns-clause-fault : goal.returns-clause-fault
returns-clause-fault c =
    let is = seen _ _ c.self.inside.state _ c.self.view_is in
    let list = counted (length c.self.inside.tokens - 1) c.self.inside.tokens in
    IfErr-weaker c.build.result (IsPackFault list) (IsTreeFault (built c.args.self))
    (λ fault cause. tree_fault (built c.args.self) list (built_list _ _ _ is c.requires) (few_below _ _ _ is c.requires) fault cause) c.build.ensures.err
