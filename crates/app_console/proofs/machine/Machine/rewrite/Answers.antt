use Rattle.std.proofs.Common.{◌≡◌, ◌⊎◌, inl, Some, None, refl, sym, ap, ◌∙◌, subst}
use Rattle.tt.specs.OneRoot.{one_root}
use Rattle.tt.specs.Rewrites.{IsResultFault}
use Rattle.tt_base.specs.declared.fault.TtFault.TheVariants.{Memory}
use Rattle.app_console.specs.Editing.{first_refusal, rewritten_by}
use Rattle.app_console.specs.State.{tree_in}
use Rattle.app_console.proofs.Putting.{rewrite_refused, rewrite_stored, rewrite_failed}
use Rattle.app_console.proofs.machine.Machine.rewrite.Goals as goal

pub returns-in-Some-first_refusal : goal.returns-in-Some-first_refusal
returns-in-Some-first_refusal c =
    let at : tree_in c.args.self.now c.args.slot ≡ Some c.in-Some.tree = sym c.take.ensures.tree ∙ c.in-Some.is in
    let is : first_refusal c.take.new.self c.args.slot c.args.actions ≡ Some c.in-Some-first_refusal.answer =
    ap (λ l. first_refusal c.take.new.self c.args.slot l) (sym c.as_slice.ensures) ∙ sym c.first_refusal.ensures ∙ c.in-Some-first_refusal.is in
    inl (rewrite_refused c.args.self.now c.take.new.self c.put.new.self c.args.slot c.args.actions c.in-Some.tree _ c.in-Some-first_refusal.answer
    at c.take.ensures.state is refl c.put.ensures)

pub returns-in-Err : goal.returns-in-Err
returns-in-Err c =
    let at : tree_in c.args.self.now c.args.slot ≡ Some c.in-Some.tree = sym c.take.ensures.tree ∙ c.in-Some.is in
    let none : first_refusal c.take.new.self c.args.slot c.args.actions ≡ None =
    ap (λ l. first_refusal c.take.new.self c.args.slot l) (sym c.as_slice.ensures) ∙ sym c.first_refusal.ensures ∙ c.in_default-first_refusal.is in
    let why : (c.in-Err.fault ≡ Memory) ⊎ IsResultFault (rewritten_by c.take.new.self c.args.actions c.in-Some.tree) c.in-Err.fault =
    subst (λ l. (c.in-Err.fault ≡ Memory) ⊎ IsResultFault (rewritten_by c.take.new.self l c.in-Some.tree) c.in-Err.fault) c.as_slice-2.ensures c.in-Err.ensures.fault in
    rewrite_failed c.args.self.now c.take.new.self c.put-in-Err.new.self c.args.slot c.args.actions c.in-Some.tree c.rewrite_tree.new.tree c.in-Err.fault c.fault.result
    at c.take.ensures.state none why c.in-Err.ensures.err c.put-in-Err.ensures c.fault.ensures

pub returns : goal.returns
returns c =
    let at : tree_in c.args.self.now c.args.slot ≡ Some c.in-Some.tree = sym c.take.ensures.tree ∙ c.in-Some.is in
    let none : first_refusal c.take.new.self c.args.slot c.args.actions ≡ None =
    ap (λ l. first_refusal c.take.new.self c.args.slot l) (sym c.as_slice.ensures) ∙ sym c.first_refusal.ensures ∙ c.in_default-first_refusal.is in
    let gives : one_root (rewritten_by c.take.new.self c.args.actions c.in-Some.tree) ≡ Some c.rewrite_tree.new.tree =
    ap (λ l. one_root (rewritten_by c.take.new.self l c.in-Some.tree)) (sym c.as_slice-2.ensures) ∙ c.in_default-rewrite_tree.ensures.ok in
    inl (rewrite_stored c.args.self.now c.take.new.self c.put-2.new.self c.args.slot c.args.actions c.in-Some.tree c.rewrite_tree.new.tree c.ok.result
    at c.take.ensures.state none gives c.in_default-rewrite_tree.ensures.limits c.put-2.ensures c.ok.ensures)
