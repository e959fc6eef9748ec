-- `into_box` calls `Box::from_raw`. Assumes `Logic`.
use Rattle.std.proofs.Common.{◌≡◌, List, [], ◌∷◌, ◌++◌, refl, sym, ap, subst}
use base.Logic.{SProp, ent, id⊢}
use base.Fml.{ftrue, flft}
use contract.BorrowLft.{◌⊑◌}
use contract.Monad.{fact}
use contract.Running.{tables}
use mir.MapTy.{inst_fn}
use mir.Syntax.{a_type, dcons, dnil}
use mir.Val.{Val, vptr}
use prog.Wp.{WpFn}
use types.ByLocal.{alloc_all, pass_all, free_all, look_at, get, get_in, sets, lands_last, env}
use types.Kit.{Item, ‵, raw, ◌⊛◌, some, later, at_ret, ◌$◌, ◌∵◌, !, qed, by, move, keep, drop, split, split3, join, fsplit, fjoin, pick, suffices, use1, await, rewrite, feq_i}
use types.Part.{sub, whole}
use types.Run.{stop, fld, of_opd, no_more, and_then, first, blocks, exec, returns, enter}
use denote.Exit.{no}
use denote.Param.{param, layout, bounded}
use denote.Param.Laws.{param_laws}
use denote.RattleType.{RattleType, owns}
use denote.RawPtr.{block_ptr}
use denote.Signature.{types_at, plain}
use denote.Steps.{nothing, only}
use denote.Triple.Call.{calls_at_last}
use denote.Triple.Clauses.{Lasts, lasts}
use denote.Triple.Spec.{triple_of}
use denote.Triple.Table.{framed}
use denote.Triple.Walked.{Stays, stay_dropped, walk_of}
use Rattle.core.proofs.alloc.Calls.{Goes-blank}
use Rattle.core.proofs.alloc.Shapes.{after}
use Rattle.core.proofs.cell.Inside.{Good}
use Rattle.std.proofs.raw_atomic.Walks.{proved_at, leaves}
use Rattle.std_alloc.proofs.BoxSteps.Form as box
use Rattle.std_alloc.proofs.BoxSteps.Steps.{box_out, box_in}
use Rattle.std_alloc.proofs.boxed.Box.from_raw.Met.{met}
use Rattle.std_alloc.specs.contracts.boxed.Box.from_raw as callee
use Rattle.tt_shared.proofs.BlockSteps.{two, two_good, Block, block_out}
use Rattle.tt_shared.specs.contracts.block.Block.into_box.{ended, clauses}
use Rattle.tt_shared.specs.contracts.block.Block.into_box.Key.{name as #self}
use Rattle.tt_shared.proofs.block.Block.into_box.Statement.{statement}
use Rattle.tt_shared.proofs.block.Block.into_box.Code as code

pub into_box_spec : {M : Type 1} → statement M
into_box_spec 𝓤 𝓛 𝓜 𝓡 wired X Y LX LY g d freed allocates frees_well =
    let H = 𝓛.H in let 𝓣 = tables 𝓤 H 𝓜 𝓡 𝓡.env in let R : RattleType = param 0 X in let Z : RattleType = param 1 Y in let LZ = param_laws 1 Y LY in
    let E : box.Bx = record { row = X; laws = LX; al = record { row = Y; laws = LY; g = g; d = d; drops = freed } } in let B : RattleType = box.B E in let From : RattleType = Block R Z LZ g in
    let given = bounded (a_type ∷ a_type ∷ []) (X, (Y, tt)) (dcons d (dcons freed dnil)) in let fn = inst_fn given code.function in
    let En = ended X Y g d freed in let c = clauses X Y g d freed 𝓛 𝓜.mem 𝓡.returns in let hs : Stays En.signature.params En.kept = (stay_dropped (plain (λ _. From)) no, tt) in
    let Ce = callee.ended X Y g d freed in let Boxes = triple_of 𝓛 (callee.signature X Y g d freed) (callee.spec X Y g d freed 𝓛 𝓜.mem 𝓡.returns) in
    let known = met 𝓤 𝓛 𝓜 𝓡 (code.calls-std_alloc::boxed::Box::from_raw 𝓡.env wired) X Y LX LY g d freed allocates frees_well in
    proved_at 𝓛 En hs c 𝓜 𝓡 (Goes-blank 𝓛 2 (plain (λ _. From)) no (λ κs x f. tt), tt) (#self given) fn (code.unfolded 𝓤 H 𝓜 𝓡 wired (X, (Y, tt)) d freed) (λ z are.
    let κs = z.0.0 in let qs = z.0.1 in let v = z.0.3.0 in let x : X.Denot = v.value in let Post : Val → SProp 𝓤 = (walk_of 𝓛 En hs c).post z in let Run : List Val → SProp 𝓤 = λ ws. WpFn 𝓤 H 𝓣.C 𝓣.Λ fn ws Post in
    let tokens : Item 𝓤 = ‵ (flft κs.0 qs.0) ⊛ ‵ (flft κs.1.0 qs.1.0) ⊛ ‵ ftrue in let inX = κs.0 ⊑ X.lives in let inY = κs.1.0 ⊑ Y.lives in
    qed 𝓛 ((tokens ⊛ ‵ (owns (types_at En.signature.params κs) z.0.3 z.0.4)) ∷ (raw (fact 𝓤 inX) ⊛ raw (fact 𝓤 inY) ⊛ ‵ ftrue) ∷ []) ∵ split ! $ move ! (1 ∷ []) $ fsplit ! $ block_out R Z LZ g ! v z.0.4.0 (λ b o h at fits is.
    let w : Val = two (vptr b o) h in let typed = two_good R Z LZ g b o h fits in let y : Boxes.Ghost = ((κs, qs, tt, (v.alloc, (block_ptr b o, tt)), (h ∷ [], (vptr b o ∷ [], tt))), x) in
    -- [the memory; the handle; nothing; the tokens; the facts]
    move ! (4 ∷ []) $ split3 ! $ move ! (2 ∷ []) $ drop ! $ move ! (1 ∷ 2 ∷ []) $ join ! $ move ! (1 ∷ 0 ∷ []) $ join ! $
    move ! (2 ∷ []) $ feq_i ! (List Val) (vptr b o ∷ []) (vptr b o ∷ []) refl $ fjoin ! $ move ! (2 ∷ 0 ∷ []) $ fjoin ! $ move ! (2 ∷ 0 ∷ []) $ join ! $ join ! $ use1 𝓛 (raw (Boxes.pre y)) (id⊢ 𝓤 _) $
    suffices ! (Run (w ∷ [])) (subst (λ (us : List Val). ent 𝓤 (Run (w ∷ [])) (Run us)) (sym (λ i. is i ++ [])) (id⊢ 𝓤 (Run (w ∷ [])))) $
    enter ! 𝓣.C 𝓣.Λ fn (w ∷ []) Post $ alloc_all ! (λ l. pass_all ! refl (typed, tt) $ let Ev = env fn.locals l in
    sets ! (of_opd ! (get_in ! (fld ! refl (stop !)) (sub ! 0 refl (whole !)))) refl (tt, tt) $ sets ! (of_opd ! (get_in ! (fld ! refl (stop !)) (sub ! 1 refl (whole !)))) refl fits $
    first ! $ blocks ! $ sets ! (of_opd ! (get ! refl)) refl fits $
    calls_at_last ! (framed 𝓤 H 𝓜 𝓣) Boxes known y (and_then ! (get ! refl) (and_then ! (get ! refl) (no_more !))) (λ u.
    use1 𝓛 (later (some (λ (r : B.Denot). (tokens ⊛ ‵ (B.own_val r (u ∷ []))) ⊛ some (λ (ls : Lasts Ce κs y.0.3). ‵ (lasts Ce κs y.0.3 ls) ⊛ raw (fact 𝓤 (r.value ≡ x)) ⊛ raw (fact 𝓤 (r.alloc ≡ v.alloc)))))) (id⊢ 𝓤 (Boxes.post y u)) $
    await ! tt $ pick ! (λ r. split ! $ move ! (1 ∷ []) $ pick ! (λ _. split3 ! $ drop ! $ move ! (2 ∷ []) $ split ! $ move ! (1 ∷ []) $
    box_out E ! r (u ∷ []) (λ b' o' h' at' is' fits'. box_in E ! r b' o' r.value at' refl $ rewrite ! 0 (λ (ws : List Val). ‵ (B.own_val r ws)) (sym is') refl $
    let good : Good (layout B) u = subst (Good (layout B)) (sym (ap only is')) (two_good R Z LZ g b' o' h' fits') in
    lands_last ! refl good $ exec ! 𝓣.C 𝓣.Λ Ev (after 3 fn.body) (at_ret Ev Post) $ sets ! (of_opd ! (get ! refl)) refl good $ nothing ! $ nothing ! $ fjoin ! $
    returns ! (look_at ! 0 refl) $ free_all ! refl $ keep ! (2 ∷ 0 ∷ 1 ∷ 3 ∷ []) $ by ! (leaves 𝓛 En hs c z u r ((tt, (tt, tt)), tt) (tt, tt)))))))))
