use Rattle.std.proofs.Common.{◌≡◌, Some, None, inl, rules}
use Rattle.tt.specs.Building.{built_skipping}
use Rattle.app_console.specs.State.{State}
use Rattle.app_console.proofs.BuilderSteps.{kept_in}
use Rattle.app_console.proofs.machine.Machine.skip.Goals as goal

pub returns : goal.returns
returns c =
    let inside : State = record { slots = c.self.inside.slots; list = c.self.inside.list.items; builder = c.self.inside.builder } in
    let there : c.self.inside.builder ≡ Some c.in-Some.builder = search rules in
    let gone : c.take.new.self ≡ None = search rules in
    let none = rw c.if-is_open.false at c.is_open.ensures in
    inl (kept_in built_skipping c.args.slot inside _ c.in-Some.builder c.build_skip_top_subtree.result _ _ c.self.view_is there none c.build_skip_top_subtree.ensures.ok c.build_skip_top_subtree.ensures.limits c.build_skip_top_subtree.ensures.fault c.build_skip_top_subtree.ensures.value
    (rw gone at c.keep_built.ensures.tree) c.keep_built.ensures.builder)
