-- `value` shows what every owner sees. Assumes `Logic`.
use Rattle.std.proofs.Common.{◌≡◌, ℕ, ◌+◌, List, [], ◌∷◌, sym, refl, ap, ◌∙◌}
use base.Fml.{Lft, Fml, ftrue, fsep, flft, fhide}
use base.Logic.{SProp, emp, never, fst∗}
use contract.Monad.{fact, fact_i}
use contract.Running.{tables}
use mir.MapTy.{inst_fn}
use mir.Syntax.{a_type, named}
use mir.Val.{Val, vptr}
use types.ByLocal.{alloc_all, pass_all, free_all, look_at, get, through, sets, sets_last, env}
use types.Kit.{‵, raw, ◌⊛◌, at_ret, ◌$◌, ◌∵◌, !, qed, by, move, keep, drop, split, join, fsplit, fjoin, use0, use1, rewrite, feq_i}
use types.Logic.{sem}
use types.Part.{sub, whole, look_in}
use types.Run.{stop, fld, hop, addr, of_opd, first, blocks, exec, returns, enter}
use denote.Builtin.{RefOf}
use denote.Exit.{yes}
use denote.Laws.{Is, shows}
use denote.Memory.{cell_at, hidden_shr, shared_of}
use denote.Opens.{unhide, hide}
use denote.Param.{param, layouts}
use denote.Param.Laws.{param_laws}
use denote.RattleType.{RattleType, owns}
use denote.RawPtr.{Ptr, block_ptr, in_a_block, ◌+ₚ◌}
use denote.Ref.{shr_vals, shr_Tells}
use denote.Signature.{types_at, plain}
use denote.Steps.{nothing, looks, shuts, peeks}
use denote.Struct.Lending.{lent_at, lent_out}
use denote.Triple.Walked.{Stays, stay_dropped, walk_of, Goes-dropped}
use Rattle.core.proofs.alloc.Shapes.{after}
use Rattle.std.proofs.raw_atomic.Walks.{proved, leaves}
use Rattle.tt_shared.specs.Counting.{value_offset, sees, counted_shares}
use Rattle.tt_shared.proofs.CountedSteps.{Data, word, told, opened, counted_sees}
use Rattle.tt_shared.specs.contracts.counted.Counted as counted
use Rattle.tt_shared.specs.contracts.counted.Counted.value.{ended, clauses}
use Rattle.tt_shared.specs.contracts.counted.Counted.value.Key.{name as #self}
use Rattle.tt_shared.proofs.counted.Counted.value.Statement.{statement}
use Rattle.tt_shared.proofs.counted.Counted.value.Code as code

pub value_spec : {M : Type 1} → statement M
value_spec 𝓤 𝓛 𝓜 𝓡 wired X L =
    let H = 𝓛.H in let 𝓣 = tables 𝓤 H 𝓜 𝓡 𝓡.env in let R : RattleType = param 0 X in let laws = (param_laws 0 X L).shr_laws in let En = ended X in let given = layouts (a_type ∷ []) (X, tt) in let fn = inst_fn given code.function in
    let Row : RattleType = counted.the_row R in let D : RattleType = Data R in let c = clauses X 𝓛 𝓜.mem 𝓡.returns in
    let self = RefOf (0 ∷ []) tt (plain (λ _. Row)) (λ _. tt) in let hs : Stays En.signature.params En.kept = (stay_dropped self yes, tt) in
    proved 𝓛 En hs c 𝓜 𝓡 (Goes-dropped 𝓛 2 self yes (λ κs x f. refl), tt) (#self given) fn (code.unfolded 𝓤 H 𝓜 𝓡 wired (X, tt))
    (λ κs. (shr_vals, tt)) (λ κs. (shr_Tells (named 0) κs.0 Row, tt)) (λ κs qs bounds a ghost_value are.
    let b : ℕ = a.0.ref_ptr.0 in let o : ℕ = a.0.ref_ptr.1 in let κ : Lft = κs.0 in let d : Row.Denot = a.0.now in let p : Ptr = d.block in let x : X.Denot = d.value in let others : Fml = fsep (flft κs.1.0 qs.1.0) ftrue in
    let y : (walk_of 𝓛 En hs c).Ghost = ((κs, qs, bounds, a, (vptr b o ∷ [], tt)), ghost_value) in let Post : Val → SProp 𝓤 = (walk_of 𝓛 En hs c).post y in
    qed 𝓛 (((‵ (flft κ qs.0) ⊛ ‵ others) ⊛ ‵ (owns (types_at En.signature.params κs) a y.0.4)) ∷ raw ((c κs a).requires ghost_value) ∷ []) ∵
    split ! $ split ! $ move ! (2 ∷ []) $ fsplit ! $ fsplit ! $ keep ! (1 ∷ 3 ∷ 4 ∷ []) $
    enter ! 𝓣.C 𝓣.Λ fn (vptr b o ∷ []) Post $ alloc_all ! (λ l. pass_all ! refl ((tt, tt), tt) $ let Ev = env fn.locals l in
    use1 𝓛 (‵ (hidden_shr D κ (p, tt) b o) ⊛ ‵ (fhide (counted_shares R p x κ))) (lent_out 𝓛 (counted.struct R) (counted.the_codes X.Denot R.coded) (counted.the_heap R) (counted.the_lent R) κ d b o) $
    split ! $ move ! (1 ∷ []) $ unhide ! $ use1 𝓛 (‵ (sees R p x κ)) (counted_sees R laws p x 𝓛 κ) $
    in_a_block ! p (λ t. lent_at R (t +ₚ value_offset R) x κ) (fst∗ 𝓤 (never 𝓤) (sem 𝓛 (shared_of R x 0 0 κ))) (λ cb co e. fsplit ! $ drop ! $ hide ! $ let there : Val = vptr cb (co + value_offset R) in
    -- [what is seen; the word; the token; the other tokens]
    move ! (1 ∷ 2 ∷ []) $ looks ! tt D (opened R 𝓛) (p, tt) b o (λ q vs. move ! (1 ∷ []) $ peeks ! D (Is D) (shows 𝓛 D) (p, tt) vs (λ so.
    let now_word : vs ≡ word (block_ptr cb co) ∷ [] = told R p vs so ∙ ap (λ (t : Ptr). word t ∷ []) e in
    rewrite ! 1 (λ (ws : List Val). ‵ (cell_at q D.mir ws b o)) now_word refl $ first ! $ blocks ! $
    sets_last ! (addr ! (through ! refl (fld ! refl (hop ! (look_in ! 1 (sub ! 0 refl (whole !))) (fld ! refl (stop !)))))) refl (tt, tt) $ exec ! 𝓣.C 𝓣.Λ Ev (after 1 fn.body) (at_ret Ev Post) $ sets ! (of_opd ! (get ! refl)) refl (tt, tt) $
    rewrite ! 1 (λ (ws : List Val). ‵ (cell_at q D.mir ws b o)) (sym now_word) refl $ move ! (1 ∷ 0 ∷ 2 ∷ []) $ shuts ! tt D q (p, tt) vs b o $ move ! (0 ∷ 3 ∷ []) $ join ! $
    move ! (2 ∷ []) $ feq_i ! (List Val) (there ∷ []) (there ∷ []) refl $ fjoin ! $ use0 𝓛 (raw (fact 𝓤 (x ≡ x))) (fact_i 𝓤 (x ≡ x) (emp 𝓤) refl) $ nothing ! $ nothing ! $ fjoin ! $
    returns ! (look_at ! 0 refl) $ free_all ! refl $ keep ! (3 ∷ 0 ∷ 2 ∷ 1 ∷ []) $ by ! (leaves 𝓛 En hs c y there (record { ref_ptr = (cb, co + value_offset R); now = x }) (tt, tt) (tt, tt)))))))
