-- `keep` fills the count, if it is not full, and shows the value for ever. Assumes `Logic`.
use Rattle.std.proofs.Common.{ℕ, ◌+◌, ◌^◌, ◌<◌, List, [], ◌∷◌, ◌++◌, refl, ap, lit<, arith}
use base.Logic.{SProp}
use base.Mask.{every}
use base.Fml.{Lft, Share, Fml, ftrue, fsep, flft, fhide, ftok}
use mir.MapTy.{inst_fn}
use mir.Syntax.{a_type}
use mir.Val.{Val, vptr}
use prog.Wp.{WpFn}
use types.ByLocal.{alloc_all, pass_all, free_all, look_at, get, through, sets, sets_last, is, env}
use types.Kit.{‵, raw, ◌⊛◌, prop, at_ret, ◌$◌, ◌∵◌, !, qed, move, keep, drop, split, join, fsplit, fjoin, use1, rewrite, feq_i, regoal, suffices, frame, done}
use types.Part.{sub, whole, look_in}
use types.Run.{look, store, stop, fld, addr, load, neg_lit, bin, of_opd, assigns_last, first, blocks, skips, branches, exec, returns, enter}
use denote.Builtin.{RefOf}
use denote.Exit.{yes}
use denote.Memory.{hidden_shr}
use denote.Param.{param, layouts}
use denote.Param.Laws.{param_laws}
use denote.RattleType.{RattleType, owns}
use denote.RawPtr.{Ptr, ptr_val, ◌+ₚ◌}
use denote.Opens.{hide}
use denote.Signature.{types_at, plain}
use denote.Steps.{nothing}
use denote.Struct.Lending as lending
use denote.Struct.Lending.{lent_at}
use denote.Triple.Walked.{says, Stays, stay_dropped, walk_of, ends_at, Goes-dropped}
use Rattle.core.proofs.alloc.Shapes.{after, head, inside}
use Rattle.std_alloc.proofs.RcSteps.{is_not, is_so}
use Rattle.tt_shared.specs.Counting.{full, value_offset, counted_shares}
use Rattle.tt_shared.proofs.CountedSteps.{Data, lent_out, lent_back, word_back, kept}
use Rattle.tt_shared.proofs.ThreadToken.{with_token, token_proved, follows_arm}
use Rattle.tt_shared.specs.contracts.counted.Counted as counted
use Rattle.tt_shared.specs.contracts.counted.Counted.keep.{ended, clauses}
use Rattle.tt_shared.specs.contracts.counted.Counted.keep.Key.{name as #self}
use Rattle.tt_shared.proofs.counted.Counted.keep.Statement.{statement}
use Rattle.tt_shared.proofs.counted.Counted.keep.Code as compiled
use Rattle.tt_shared.proofs.counted.Counted.keep.Code.{code}

pub keep_spec : {M : Type 1} → statement M
unfolding code
keep_spec 𝓤 𝓛 𝓜 𝓡 wired X L =
    let H = 𝓛.H in let R : RattleType = param 0 X in let laws = (param_laws 0 X L).shr_laws in let En = ended X in let given = layouts (a_type ∷ []) (X, tt) in let fn = inst_fn given compiled.function in
    let Row : RattleType = counted.the_row R in let c₀ = clauses X 𝓛 𝓜.mem 𝓡.returns in
    let self = RefOf (0 ∷ []) tt (plain (λ _. Row)) (λ _. tt) in let hs : Stays En.signature.params En.kept = (stay_dropped self yes, tt) in let c = with_token 𝓛 En hs c₀ in
    token_proved 𝓛 En hs c₀ 𝓜 𝓡 (Goes-dropped 𝓛 2 self yes (λ κs x f. refl), tt) (#self given) fn (wired.0.0 (#self given) refl) (λ C Λ z are.
    let κs = z.0.0 in let qs = z.0.1 in let d : Row.Denot = z.0.3.0.now in let p : Ptr = d.block in let x : X.Denot = d.value in let b : ℕ = z.0.3.0.ref_ptr.0 in let o : ℕ = z.0.3.0.ref_ptr.1 in
    let κ : Lft = κs.0 in let q : Share = qs.0 in let others : Fml = fsep (flft κs.1.0 qs.1.0) ftrue in let Post : Val → SProp 𝓤 = (walk_of 𝓛 En hs c).post z in
    qed 𝓛 (((‵ (flft κ q) ⊛ ‵ others) ⊛ ‵ (owns (types_at En.signature.params κs) z.0.3 z.0.4)) ∷ (‵ (ftok every) ⊛ raw ((c₀ κs z.0.3).requires z.1)) ∷ []) ∵
    split ! $ split ! $ move ! (3 ∷ []) $ split ! $ move ! (4 ∷ []) $ fsplit ! $ fsplit ! $ keep ! (1 ∷ 5 ∷ 3 ∷ 6 ∷ []) $
    use1 𝓛 (‵ (hidden_shr (Data R) κ (p, tt) b o) ⊛ ‵ (fhide (counted_shares R p x κ))) (lending.lent_out 𝓛 (counted.struct R) (counted.the_codes X.Denot R.coded) (counted.the_heap R) (counted.the_lent R) κ d b o) $ split ! $
    regoal ! (λ (us : List Val). prop (WpFn 𝓤 H C Λ fn us Post)) (λ i. are.0.0 i ++ []) refl $
    enter ! C Λ fn (vptr b o ∷ []) Post $ alloc_all ! (λ l. pass_all ! refl ((tt, tt), tt) $ let Ev = env fn.locals l in let rest = follows_arm 𝓛 C Λ Ev (after 2 fn.body) (at_ret Ev Post) in let last = after 3 (inside (head (after 1 fn.body))) in
    lent_out R laws p x ! tt every refl κ q b o
    (λ r a s n cb co e some_n f. let fits : n < 2 ^ 64 = omega (arith, f) in let there : Val = vptr cb (co + value_offset R) in
    -- [the count; the parts; the invariant; what is seen; the word; what shuts it; the part; the other tokens]
    sets ! (is ! (of_opd ! (load ! (through ! refl (fld ! refl (stop !))) (look_in ! 4 (sub ! 0 refl (whole !))))) (ap ptr_val e)) refl (tt, tt) $ first ! $ blocks ! $
    sets ! (of_opd ! (load ! (through ! refl (fld ! refl (stop !))) (look ! 0 refl))) refl (tt, record { fits = fits }) $
    sets ! (bin ! (get ! refl) (neg_lit ! tt) tt) refl (tt, tt) $ first ! $ branches ! (get ! refl)
    (λ _. assigns_last ! (of_opd ! (neg_lit ! tt)) (through ! refl (fld ! refl (stop !))) (store ! 0 refl (tt, record { fits = lit< tt })) $ exec ! C Λ Ev last rest $
    sets_last ! (addr ! (through ! refl (fld ! refl (stop !)))) refl (tt, tt) $ exec ! C Λ Ev (after 2 fn.body) (at_ret Ev Post) $ sets ! (of_opd ! (get ! refl)) refl (tt, tt) $
    move ! (0 ∷ 1 ∷ 3 ∷ []) $ kept R laws p x ! tt a n cb co e f $ move ! (3 ∷ 4 ∷ 5 ∷ []) $ lent_back R p x ! tt r b o a s $ move ! (2 ∷ []) $ fsplit ! $ drop ! $
    rewrite ! 0 (λ (t : Ptr). ‵ (lent_at R (t +ₚ value_offset R) x [])) e refl $ fsplit ! $ drop ! $ hide ! $ feq_i ! (List Val) (there ∷ []) (there ∷ []) refl $ fjoin ! $
    -- [the reference; the token; the thread's token; the invariant; the other tokens]
    returns ! (look_at ! 0 refl) $ free_all ! refl $ keep ! (0 ∷ 1 ∷ 4 ∷ 2 ∷ []) $
    suffices ! _ (ends_at 𝓛 En hs c z there (record { ref_ptr = (cb, co + value_offset R); now = x }) (tt, tt) (tt, tt)) $ nothing ! $ nothing ! $ fjoin ! $ join ! $ move ! (1 ∷ 2 ∷ []) $ join ! $ join ! $ frame ! $ says ! refl $ done !)
    (λ stop. let is_full = is_so n full stop in absurd (omega (arith, f, is_full))))
    (λ r s cb co e. let there : Val = vptr cb (co + value_offset R) in
    -- [the count; what stays; the word; what shuts it; the rest of the token; the thread's token; the other tokens]
    sets ! (is ! (of_opd ! (load ! (through ! refl (fld ! refl (stop !))) (look_in ! 2 (sub ! 0 refl (whole !))))) (ap ptr_val e)) refl (tt, tt) $ first ! $ blocks ! $
    sets ! (of_opd ! (load ! (through ! refl (fld ! refl (stop !))) (look ! 0 refl))) refl (tt, record { fits = lit< tt }) $
    sets ! (bin ! (get ! refl) (neg_lit ! tt) tt) refl (tt, tt) $ first ! $ branches ! (get ! refl)
    (λ room. absurd (is_not full full room refl))
    (λ _. skips ! $ exec ! C Λ Ev last rest $ sets_last ! (addr ! (through ! refl (fld ! refl (stop !)))) refl (tt, tt) $ exec ! C Λ Ev (after 2 fn.body) (at_ret Ev Post) $ sets ! (of_opd ! (get ! refl)) refl (tt, tt) $
    move ! (2 ∷ 3 ∷ 4 ∷ []) $ word_back R p x ! tt r b o $ move ! (2 ∷ []) $ fsplit ! $ drop ! $
    rewrite ! 0 (λ (t : Ptr). ‵ (lent_at R (t +ₚ value_offset R) x [])) e refl $ fsplit ! $ drop ! $ hide ! $ feq_i ! (List Val) (there ∷ []) (there ∷ []) refl $ fjoin ! $
    -- [the reference; the token; the count; the thread's token; the other tokens]
    returns ! (look_at ! 0 refl) $ free_all ! refl $ keep ! (0 ∷ 1 ∷ 4 ∷ 3 ∷ []) $
    suffices ! _ (ends_at 𝓛 En hs c z there (record { ref_ptr = (cb, co + value_offset R); now = x }) (tt, tt) (tt, tt)) $ nothing ! $ nothing ! $ fjoin ! $ join ! $ move ! (1 ∷ 2 ∷ []) $ join ! $ join ! $ frame ! $ says ! refl $ done !))))
