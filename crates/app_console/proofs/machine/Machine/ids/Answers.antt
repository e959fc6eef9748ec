use Rattle.std.proofs.Common.{◌≡◌, ℕ, List, inl, Some, sym, ap, ◌∙◌, subst, rules}
use Rattle.tt.specs.AstIds.{ids_changed}
use Rattle.tt.specs.TreeFault.{IsTreeFault}
use Rattle.app_console.specs.Editing.{ChangesIds, ids_of}
use Rattle.app_console.specs.State.{tree_in}
use Rattle.app_console.proofs.Editing.{stored, refused}
use Rattle.app_console.proofs.Following.{ids_are, ids_refused}
use Rattle.app_console.proofs.machine.Machine.ids.Goals as goal

pub returns-in-Err : goal.returns-in-Err
returns-in-Err c =
    let at : tree_in c.args.self.now c.args.slot ≡ Some c.in-Some.tree = sym c.take.ensures.tree ∙ c.in-Some.is in
    let why : IsTreeFault (ids_changed (ids_of c.as_slice-rest.result.now) c.in-Some.tree) c.in-Err.fault =
    ids_refused _ (λ p. p.0.now) (λ p x y q k. search rules) (record { 0 = c.as_slice-rest.result }) c.in-Some.tree c.in-Err.fault c.in-Err.ensures.fault in
    let given = λ (list : List ℕ). ids_changed (ids_of list) c.in-Some.tree in
    let cause : IsTreeFault (given c.args.ids) c.in-Err.fault = subst (λ list. IsTreeFault (given list) c.in-Err.fault) c.as_slice-rest.ensures why in
    let same : c.change_every_ast_id-changed.new.self ≡ c.in-Some.tree = c.in-Err.ensures.err in
    inl (subst (λ found. ChangesIds c.args.self.now c.args.slot c.args.ids found c.fault.result c.put.new.self) (sym at)
    (refused (IsTreeFault (given c.args.ids)) _ c.args.self.now c.take.new.self c.put.new.self c.args.slot c.in-Some.tree c.change_every_ast_id-changed.new.self c.in-Err.fault c.fault.result
    at c.take.ensures.state cause same c.put.ensures c.fault.ensures))

pub returns : goal.returns
returns c =
    let at : tree_in c.args.self.now c.args.slot ≡ Some c.in-Some.tree = sym c.take.ensures.tree ∙ c.in-Some.is in
    let is : c.change_every_ast_id-changed.new.self ≡ ids_changed (ids_of c.as_slice-rest.result.now) c.in-Some.tree =
    ids_are _ (λ p. p.0.now) (λ p x y q k. search rules) (record { 0 = c.as_slice-rest.result }) c.in-Some.tree c.change_every_ast_id-changed.new.self c.in_default-changed.ensures.ok in
    let tree : c.change_every_ast_id-changed.new.self ≡ ids_changed (ids_of c.args.ids) c.in-Some.tree =
    is ∙ ap (λ list. ids_changed (ids_of list) c.in-Some.tree) c.as_slice-rest.ensures in
    inl (subst (λ found. ChangesIds c.args.self.now c.args.slot c.args.ids found c.ok.result c.put-2.new.self) (sym at)
    (stored _ _ c.args.self.now c.take.new.self c.put-2.new.self c.args.slot c.change_every_ast_id-changed.new.self c.ok.result
    c.take.ensures.state tree c.in_default-changed.ensures.limits c.put-2.ensures c.ok.ensures))
