-- `release` finds the count full, takes one from it, or gets the block as the last owner. Assumes `Logic`.
use Rattle.std.proofs.Common.{◌≡◌, ℕ, ◌-◌, ◌^◌, ◌<◌, List, [], ◌∷◌, ◌++◌, refl, ap, lit<, arith}
use base.Fraction.{full_share}
use base.Fml.{ftrue, flft, ftok}
use base.Logic.{SProp}
use base.Mask.{every}
use lib.Dec.{eqb→eq}
use mir.MapTy.{inst_fn}
use mir.Syntax.{Sym, a_type, impl, tnil, dnil}
use mir.Val.{Val, vptr, vcons, vnil}
use prog.Wp.{WpFn}
use types.ByLocal.{alloc_all, pass_all, free_all, look_at, get, get_in, through, sets, is, env}
use types.Kit.{Item, ‵, raw, ◌⊛◌, prop, at_ret, ◌$◌, ◌∵◌, !, qed, move, keep, drop, split, join, fsplit, fsplit3, fjoin, use0, use1, rewrite, regoal, suffices, frame, done}
use types.Match.{live}
use types.Part.{agg, sub, whole}
use types.Run.{look, store, stop, fld, load, lit, neg_lit, bin, of_opd, and_then, no_more, assigns, first, blocks, skips, branches, exec, returns, returns_within, enter}
use denote.Exit.{yes, no}
use denote.Memory.{lone}
use denote.Param.{param, layouts}
use denote.Param.Laws.{param_laws}
use denote.RattleType.{RattleType, owns}
use denote.RawPtr.{Ptr, block_ptr, ptr_val}
use denote.Signature.{types_at, plain}
use denote.Steps.{nothing}
use denote.Triple.Walked.{says, Stays, stay_dropped, walk_of, ends_at, Goes-dropped}
use Rattle.core.proofs.alloc.Calls.{Al, handle_tells}
use Rattle.core.proofs.alloc.Shapes.{after, head, inside}
use Rattle.core.specs.contracts.option.Option as Opt
use Rattle.core.specs.declared.option.Option.TheVariants.{None, Some}
use Rattle.std.proofs.alloc.Global.TheLaws as heap
use Rattle.std.specs.contracts.alloc.Global as Heap
use Rattle.std.specs.contracts.impls.GlobalAllocator.TheImpl.{ghosts}
use Rattle.std_alloc.proofs.RcSteps.{some_Good, word-Good, is_not, is_so, Some-of, none_of}
use Rattle.tt_shared.specs.Counting as counting
use Rattle.tt_shared.specs.Counting.{full}
use Rattle.tt_shared.proofs.BlockSteps.{two, two_good, Block, block_in}
use Rattle.tt_shared.proofs.CountedSteps.{cell, word, told, Parts, owner_had, counted_down, ends}
use Rattle.tt_shared.proofs.ThreadToken.{with_token, token_proved, follows_arm}
use Rattle.tt_shared.specs.contracts.counted.Counted as counted
use Rattle.tt_shared.specs.contracts.counted.Counted.release.{ended, clauses}
use Rattle.tt_shared.specs.contracts.counted.Counted.release.Key.{name as #self}
use Rattle.tt_shared.proofs.counted.Counted.release.Statement.{statement}
use Rattle.tt_shared.proofs.counted.Counted.release.Code as compiled
use Rattle.tt_shared.proofs.counted.Counted.release.Code.{code}

abbrev global : Al
global = record { row = Heap.the_row; laws = heap.the_row_laws; g = ghosts; d = impl [] tnil dnil; drops = impl [] tnil dnil }

pub release_spec : {M : Type 1} → statement M
unfolding code
release_spec 𝓤 𝓛 𝓜 𝓡 wired X L =
    let H = 𝓛.H in let R : RattleType = param 0 X in let laws = (param_laws 0 X L).shr_laws in let Z = Heap.the_row in let B = counting.Block R in let Row : RattleType = counted.the_row R in let Out = Block B Z heap.the_row_laws ghosts in
    let En = ended X in let c₀ = clauses X 𝓛 𝓜.mem 𝓡.returns in let given = layouts (a_type ∷ []) (X, tt) in let fn = inst_fn given compiled.function in let ν : Sym = (counted.the_type R).name in
    let hs : Stays En.signature.params En.kept = (stay_dropped (plain (λ _. Row)) no, (stay_dropped (plain (λ _. Z)) yes, tt)) in let c = with_token 𝓛 En hs c₀ in
    token_proved 𝓛 En hs c₀ 𝓜 𝓡 (Goes-dropped 𝓛 1 (plain (λ _. Row)) no (λ κs x f. refl), (Goes-dropped 𝓛 1 (plain (λ _. Z)) yes (λ κs x f. refl), tt)) (#self given) fn (wired.0.0 (#self given) refl) (λ C Λ z are.
    let κs = z.0.0 in let qs = z.0.1 in let d : Row.Denot = z.0.3.0 in let by = z.0.3.1.0 in let p : Ptr = d.block in let x : X.Denot = d.value in let tokens : Item 𝓤 = ‵ (flft κs.0 qs.0) ⊛ ‵ ftrue in let Post : Val → SProp 𝓤 = (walk_of 𝓛 En hs c).post z in
    qed 𝓛 ((tokens ⊛ ‵ (owns (types_at En.signature.params κs) z.0.3 z.0.4)) ∷ (‵ (ftok every) ⊛ raw ((c₀ κs z.0.3).requires z.1)) ∷ []) ∵
    split ! $ move ! (1 ∷ []) $ fsplit3 ! $ fsplit ! $ drop ! $ move ! (1 ∷ []) $ handle_tells global ! by z.0.4.1.0 (λ h eh fits. move ! (4 ∷ []) $ split ! $ keep ! (3 ∷ 0 ∷ 2 ∷ 5 ∷ []) $
    let so : z.0.4.0 ≡ word p ∷ [] = told R p z.0.4.0 are.0.0 in
    regoal ! (λ (us : List Val). prop (WpFn 𝓤 H C Λ fn us Post)) (λ i. so i ++ (eh i ++ [])) refl $
    enter ! C Λ fn (word p ∷ h ∷ []) Post $ alloc_all ! (λ l. pass_all ! refl (word-Good ν p, (fits, tt)) $ let Ev = env fn.locals l in
    owner_had R laws p x ! tt
    (λ a n cb co e some_n f. let fits_n : n < 2 ^ 64 = omega (arith, f) in
    -- [the count; the parts; the part; the handle; the tokens]
    sets ! (is ! (of_opd ! (get_in ! (fld ! refl (stop !)) (sub ! 0 refl (whole !)))) (ap ptr_val e)) refl (tt, tt) $ first ! $ blocks ! $
    sets ! (of_opd ! (load ! (through ! refl (fld ! refl (stop !))) (look ! 0 refl))) refl (tt, record { fits = fits_n }) $
    sets ! (bin ! (get ! refl) (neg_lit ! tt) tt) refl (tt, tt) $ first ! $ branches ! (get ! refl)
    (λ stop. let is_full = eqb→eq n full stop in absurd (omega (arith, f, is_full)))
    (λ _. skips ! $ exec ! C Λ Ev (after 3 (inside (head (after 1 fn.body)))) (follows_arm 𝓛 C Λ Ev (after 2 fn.body) (at_ret Ev Post)) $
    sets ! (bin ! (get ! refl) (lit ! tt) tt) refl (tt, tt) $ branches ! (get ! refl)
    (λ others. let many : 1 < n = omega (arith, some_n, is_not n 1 others) in let less : n - 1 < 2 ^ 64 = omega (arith, f) in
    sets ! (bin ! (get ! refl) (lit ! tt) some_n) refl (tt, record { fits = less }) $ assigns ! (of_opd ! (get ! refl)) (through ! refl (fld ! refl (stop !))) (store ! 0 refl (tt, record { fits = less })) $
    sets ! (agg ! (and_then ! (lit ! tt) (no_more !))) refl (tt, (record { fits = lit< tt }, tt)) $ counted_down R laws p x ! tt a n cb co e many f $
    use0 𝓛 (‵ ((Opt.the_row Out).own_val None (live 0 vnil ∷ []))) (none_of 𝓛 Out) $ returns_within ! Post refl (look_at ! 0 refl) $ free_all ! refl $ keep ! (0 ∷ 3 ∷ 1 ∷ []) $
    suffices ! _ (ends_at 𝓛 En hs c z (live 0 vnil) None (tt, (tt, tt)) (tt, (tt, tt))) $ nothing ! $ nothing ! $ fjoin ! $ nothing ! $ fjoin ! $ join ! $ move ! (1 ∷ 0 ∷ []) $ join ! $ frame ! $ says ! tt $ done !)
    (λ alone. let last = is_so n 1 alone in let w : Val = two (vptr cb co) h in let good = two_good B Z heap.the_row_laws ghosts cb co h fits in let made : Out.Denot = record { at = block_ptr cb co; alloc = by; value = (1, x) } in
    rewrite ! 0 (λ (m : ℕ). ‵ (cell full_share cb co m)) last refl $ rewrite ! 1 (λ (m : ℕ). Parts R p x 𝓛 every a m) last refl $
    skips ! $ exec ! C Λ Ev (after 2 fn.body) (at_ret Ev Post) $ sets ! (agg ! (and_then ! (get ! refl) (and_then ! (get ! refl) (no_more !)))) refl good $
    sets ! (agg ! (and_then ! (lit ! tt) (and_then ! (get ! refl) (no_more !)))) refl (some_Good (lone Out.mir) w good) $
    ends R p x ! tt a cb co e $ move ! (0 ∷ 2 ∷ []) $ block_in B Z heap.the_row_laws ghosts ! cb co h by (1, x) $
    use1 𝓛 (‵ ((Opt.the_row Out).own_val (Some made) (live 1 (vcons w vnil) ∷ []))) (Some-of 𝓛 Out made w) $
    -- [the answer; the thread's token; the tokens]
    returns ! (look_at ! 0 refl) $ free_all ! refl $ keep ! (0 ∷ 2 ∷ 1 ∷ []) $
    suffices ! _ (ends_at 𝓛 En hs c z (live 1 (vcons w vnil)) (Some made) (tt, (tt, tt)) (tt, (tt, tt))) $ nothing ! $ nothing ! $ fjoin ! $ nothing ! $ fjoin ! $ join ! $ move ! (1 ∷ 0 ∷ []) $ join ! $ frame ! $ says ! refl $ done !)))
    (λ s cb co e.
    -- [the count; what stays; the thread's token; the handle; the tokens]
    sets ! (is ! (of_opd ! (get_in ! (fld ! refl (stop !)) (sub ! 0 refl (whole !)))) (ap ptr_val e)) refl (tt, tt) $ first ! $ blocks ! $
    sets ! (of_opd ! (load ! (through ! refl (fld ! refl (stop !))) (look ! 0 refl))) refl (tt, record { fits = lit< tt }) $
    sets ! (bin ! (get ! refl) (neg_lit ! tt) tt) refl (tt, tt) $ first ! $ branches ! (get ! refl)
    (λ _. sets ! (agg ! (and_then ! (lit ! tt) (no_more !))) refl (tt, (record { fits = lit< tt }, tt)) $
    use0 𝓛 (‵ ((Opt.the_row Out).own_val None (live 0 vnil ∷ []))) (none_of 𝓛 Out) $ returns_within ! Post refl (look_at ! 0 refl) $ free_all ! refl $ keep ! (0 ∷ 5 ∷ 3 ∷ []) $
    suffices ! _ (ends_at 𝓛 En hs c z (live 0 vnil) None (tt, (tt, tt)) (tt, (tt, tt))) $ nothing ! $ nothing ! $ fjoin ! $ nothing ! $ fjoin ! $ join ! $ move ! (1 ∷ 0 ∷ []) $ join ! $ frame ! $ says ! tt $ done !)
    (λ room. absurd (is_not full full room refl))))))
