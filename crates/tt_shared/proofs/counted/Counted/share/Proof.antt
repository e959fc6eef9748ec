-- `share` adds one to the count, or finds it full. Assumes `Logic`.
use Rattle.std.proofs.Common.{ℕ, ◌+◌, ◌^◌, ◌<◌, List, [], ◌∷◌, ◌++◌, sym, refl, ap, lit<, arith}
use base.Logic.{SProp}
use base.Mask.{every}
use base.Fml.{Lft, Share, Fml, ftrue, fsep, flft, fhide, ftok}
use mir.MapTy.{inst_fn}
use mir.Syntax.{Sym, a_type}
use mir.Val.{Val, vptr}
use prog.Wp.{WpFn}
use types.ByLocal.{alloc_all, pass_all, free_all, look_at, get, through, sets, is, env}
use types.Kit.{‵, raw, ◌⊛◌, prop, at_ret, ◌$◌, ◌∵◌, !, qed, move, keep, split, join, fsplit, fjoin, use1, regoal, suffices, frame, done}
use types.Part.{agg, sub, whole, look_in}
use types.Run.{look, store, stop, fld, load, lit, neg_lit, bin, of_opd, and_then, no_more, assigns_last, first, blocks, skips, branches, exec, returns, enter}
use denote.Builtin.{RefOf}
use denote.Exit.{yes}
use denote.Memory.{hidden_shr}
use denote.Param.{param, layouts}
use denote.Param.Laws.{param_laws}
use denote.RattleType.{RattleType, owns}
use denote.RawPtr.{Ptr, ptr_val}
use denote.Signature.{types_at, plain}
use denote.Steps.{nothing}
use denote.Struct.Lending as lending
use denote.Triple.Walked.{says, Stays, stay_dropped, walk_of, ends_at, Goes-dropped}
use Rattle.core.proofs.alloc.Shapes.{after}
use Rattle.std_alloc.proofs.RcSteps.{word-Good, is_not, is_so}
use Rattle.tt_shared.specs.Counting.{full, counted_shares}
use Rattle.tt_shared.proofs.CountedSteps.{Data, word, lent_out, lent_back, word_back, counted_up, made_full}
use Rattle.tt_shared.proofs.ThreadToken.{with_token, token_proved}
use Rattle.tt_shared.specs.contracts.counted.Counted as counted
use Rattle.tt_shared.specs.contracts.counted.Counted.share.{ended, clauses}
use Rattle.tt_shared.specs.contracts.counted.Counted.share.Key.{name as #self}
use Rattle.tt_shared.proofs.counted.Counted.share.Statement.{statement}
use Rattle.tt_shared.proofs.counted.Counted.share.Code as compiled
use Rattle.tt_shared.proofs.counted.Counted.share.Code.{code}

pub share_spec : {M : Type 1} → statement M
unfolding code
share_spec 𝓤 𝓛 𝓜 𝓡 wired X L =
    let H = 𝓛.H in let R : RattleType = param 0 X in let laws = (param_laws 0 X L).shr_laws in let En = ended X in let given = layouts (a_type ∷ []) (X, tt) in let fn = inst_fn given compiled.function in
    let Row : RattleType = counted.the_row R in let c₀ = clauses X 𝓛 𝓜.mem 𝓡.returns in let ν : Sym = (counted.the_type R).name in
    let self = RefOf (0 ∷ []) tt (plain (λ _. Row)) (λ _. tt) in let hs : Stays En.signature.params En.kept = (stay_dropped self yes, tt) in let c = with_token 𝓛 En hs c₀ in
    token_proved 𝓛 En hs c₀ 𝓜 𝓡 (Goes-dropped 𝓛 2 self yes (λ κs x f. refl), tt) (#self given) fn (wired.0.0 (#self given) refl) (λ C Λ z are.
    let κs = z.0.0 in let qs = z.0.1 in let d : Row.Denot = z.0.3.0.now in let p : Ptr = d.block in let x : X.Denot = d.value in let b : ℕ = z.0.3.0.ref_ptr.0 in let o : ℕ = z.0.3.0.ref_ptr.1 in
    let κ : Lft = κs.0 in let q : Share = qs.0 in let others : Fml = fsep (flft κs.1.0 qs.1.0) ftrue in let Post : Val → SProp 𝓤 = (walk_of 𝓛 En hs c).post z in
    qed 𝓛 (((‵ (flft κ q) ⊛ ‵ others) ⊛ ‵ (owns (types_at En.signature.params κs) z.0.3 z.0.4)) ∷ (‵ (ftok every) ⊛ raw ((c₀ κs z.0.3).requires z.1)) ∷ []) ∵
    split ! $ split ! $ move ! (3 ∷ []) $ split ! $ move ! (4 ∷ []) $ fsplit ! $ fsplit ! $ keep ! (1 ∷ 5 ∷ 3 ∷ 6 ∷ []) $
    use1 𝓛 (‵ (hidden_shr (Data R) κ (p, tt) b o) ⊛ ‵ (fhide (counted_shares R p x κ))) (lending.lent_out 𝓛 (counted.struct R) (counted.the_codes X.Denot R.coded) (counted.the_heap R) (counted.the_lent R) κ d b o) $ split ! $
    regoal ! (λ (us : List Val). prop (WpFn 𝓤 H C Λ fn us Post)) (λ i. are.0.0 i ++ []) refl $
    enter ! C Λ fn (vptr b o ∷ []) Post $ alloc_all ! (λ l. pass_all ! refl ((tt, tt), tt) $ let Ev = env fn.locals l in let made : Row.Denot = record { block = p; value = x } in
    lent_out R laws p x ! tt every refl κ q b o
    (λ r a s n cb co e some_n f. let fits : n < 2 ^ 64 = omega (arith, f) in let room : n + 1 < 2 ^ 64 = omega (arith, f) in
    -- [the count; the parts; the invariant; what is seen; the word; what shuts it; the part; the other tokens]
    sets ! (is ! (of_opd ! (load ! (through ! refl (fld ! refl (stop !))) (look_in ! 4 (sub ! 0 refl (whole !))))) (ap ptr_val e)) refl (tt, tt) $ first ! $ blocks ! $
    sets ! (of_opd ! (load ! (through ! refl (fld ! refl (stop !))) (look ! 0 refl))) refl (tt, record { fits = fits }) $
    sets ! (bin ! (get ! refl) (neg_lit ! tt) tt) refl (tt, tt) $ branches ! (get ! refl)
    (λ _. sets ! (bin ! (get ! refl) (lit ! tt) (record { fits = room })) refl (tt, record { fits = room }) $
    assigns_last ! (of_opd ! (get ! refl)) (through ! refl (fld ! refl (stop !))) (store ! 0 refl (tt, record { fits = room })) $ exec ! C Λ Ev (after 2 fn.body) (at_ret Ev Post) $
    sets ! (is ! (agg ! (and_then ! (get ! refl) (no_more !))) (ap word (sym e))) refl (word-Good ν p) $
    counted_up R laws p x ! tt a n cb co e f $ move ! (2 ∷ 3 ∷ 4 ∷ []) $ lent_back R p x ! tt r b o a s $
    -- [the token; the thread's token; the new owner; the other tokens]
    returns ! (look_at ! 0 refl) $ free_all ! refl $ keep ! (2 ∷ 0 ∷ 3 ∷ 1 ∷ []) $
    suffices ! _ (ends_at 𝓛 En hs c z (word p) made (tt, tt) (tt, tt)) $ nothing ! $ nothing ! $ fjoin ! $ join ! $ move ! (1 ∷ 2 ∷ []) $ join ! $ join ! $ frame ! $ says ! refl $ done !)
    (λ stop. let is_full = is_so n full stop in absurd (omega (arith, f, is_full))))
    (λ r s cb co e.
    -- [the count; what stays; the word; what shuts it; the rest of the token; the thread's token; the other tokens]
    sets ! (is ! (of_opd ! (load ! (through ! refl (fld ! refl (stop !))) (look_in ! 2 (sub ! 0 refl (whole !))))) (ap ptr_val e)) refl (tt, tt) $ first ! $ blocks ! $
    sets ! (of_opd ! (load ! (through ! refl (fld ! refl (stop !))) (look ! 0 refl))) refl (tt, record { fits = lit< tt }) $
    sets ! (bin ! (get ! refl) (neg_lit ! tt) tt) refl (tt, tt) $ branches ! (get ! refl)
    (λ room. absurd (is_not full full room refl))
    (λ _. skips ! $ exec ! C Λ Ev (after 2 fn.body) (at_ret Ev Post) $ sets ! (is ! (agg ! (and_then ! (get ! refl) (no_more !))) (ap word (sym e))) refl (word-Good ν p) $
    move ! (2 ∷ 3 ∷ 4 ∷ []) $ word_back R p x ! tt r b o $ move ! (2 ∷ []) $ made_full R p x ! $
    -- [the new owner; the token; the count; the thread's token; the other tokens]
    returns ! (look_at ! 0 refl) $ free_all ! refl $ keep ! (0 ∷ 1 ∷ 4 ∷ 3 ∷ []) $
    suffices ! _ (ends_at 𝓛 En hs c z (word p) made (tt, tt) (tt, tt)) $ nothing ! $ nothing ! $ fjoin ! $ join ! $ move ! (1 ∷ 2 ∷ []) $ join ! $ join ! $ frame ! $ says ! refl $ done !))))
