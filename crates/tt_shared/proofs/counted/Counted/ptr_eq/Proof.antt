-- `ptr_eq` writes 0 to the first count and looks at the second. Assumes `Logic`, and that a cell that may be written has one owner.
use Rattle.std.proofs.Common.{◌≡◌, ℕ, IsTrue, ◌^◌, ◌<◌, Bool, true, false, List, [], ◌∷◌, ◌++◌, ◌∙◌, sym, refl, ap, subst, lit<, arith}
use lib.Dec.{T, eqb, eqb→eq}
use mathlib.Core.Bool.{true≢false}
use base.Logic.{SProp}
use base.Mask.{every, just, less, just_self, less_other, take}
use base.Share
use base.Fml.{Lft, Key, Mask, Share, Fml, ftrue, fsep, flft, fhide, ftok}
use mir.MapTy.{inst_fn}
use mir.Syntax.{a_type}
use mir.Val.{Val, vptr, vbool}
use prog.Wp.{WpFn}
use types.ByLocal.{alloc_all, pass_all, free_all, look_at, get, through, sets, sets_last, is, env}
use types.Kit.{Sq, ‵, raw, ◌⊛◌, prop, at_ret, ◌$◌, ◌∵◌, !, qed, move, keep, split, join, fsplit, fjoin, use1, use2, regoal, suffices, rewrite, frame, done}
use types.Part.{sub, whole, look_in}
use types.Run.{look, store, stop, fld, hop, load, lit, neg_lit, false_lit, bin, of_opd, assigns, first, blocks, skips, branches, exec, returns, returns_within, enter}
use denote.Builtin.{RefOf, bool}
use denote.Exit.{yes}
use denote.Memory.{cell_at, hidden_shr}
use denote.Param.{param, layouts}
use denote.Param.Laws.{param_laws}
use denote.Plain.{bool_Makes}
use denote.RattleType.{RattleType, owns}
use denote.RawPtr.{Ptr, block_ptr, ptr_val}
use denote.Signature.{types_at, plain}
use denote.Steps.{nothing, owned}
use denote.Struct.Lending as lending
use denote.Triple.Walked.{says, Stays, stay_dropped, walk_of, ends_at, Goes-dropped}
use Rattle.core.proofs.alloc.Shapes.{after, head, inside}
use Rattle.std_alloc.proofs.RcSteps.{is_not}
use Rattle.tt_shared.specs.Counting.{full, key, counted_shares}
use Rattle.tt_shared.proofs.CountedSteps.{Data, word, lent_out, lent_back, word_back, reads_word, shuts_below}
use Rattle.tt_shared.proofs.OneValue.{judges, knows}
use Rattle.tt_shared.proofs.ThreadToken.{with_token, token_proved, follows_arm}
use Rattle.tt_shared.specs.contracts.counted.Counted as counted
use Rattle.tt_shared.specs.contracts.counted.Counted.ptr_eq.{ended, clauses}
use Rattle.tt_shared.specs.contracts.counted.Counted.ptr_eq.Key.{name as #self}
use Rattle.tt_shared.proofs.counted.Counted.ptr_eq.Statement.{statement}
use Rattle.tt_shared.proofs.counted.Counted.ptr_eq.Code as compiled
use Rattle.tt_shared.proofs.counted.Counted.ptr_eq.Code.{code}

pub ptr_eq_spec : {M : Type 1} → statement M
unfolding code
ptr_eq_spec 𝓤 𝓛 𝓜 𝓡 wired X L =
    let H = 𝓛.H in let R : RattleType = param 0 X in let laws = (param_laws 0 X L).shr_laws in let En = ended X in let given = layouts (a_type ∷ []) (X, tt) in let fn = inst_fn given compiled.function in
    let Row : RattleType = counted.the_row R in let c₀ = clauses X 𝓛 𝓜.mem 𝓡.returns in
    let self = RefOf (0 ∷ []) tt (plain (λ _. Row)) (λ _. tt) in let other = RefOf (1 ∷ []) tt (plain (λ _. Row)) (λ _. tt) in
    let hs : Stays En.signature.params En.kept = (stay_dropped self yes, (stay_dropped other yes, tt)) in let c = with_token 𝓛 En hs c₀ in
    token_proved 𝓛 En hs c₀ 𝓜 𝓡 (Goes-dropped 𝓛 3 self yes (λ κs x f. refl), (Goes-dropped 𝓛 3 other yes (λ κs x f. refl), tt)) (#self given) fn (wired.0.0 (#self given) refl) (λ C Λ z are.
    let κs = z.0.0 in let qs = z.0.1 in let d : Row.Denot = z.0.3.0.now in let p : Ptr = d.block in let x : X.Denot = d.value in let b : ℕ = z.0.3.0.ref_ptr.0 in let o : ℕ = z.0.3.0.ref_ptr.1 in
    let d' : Row.Denot = z.0.3.1.0.now in let p' : Ptr = d'.block in let y : X.Denot = d'.value in let b' : ℕ = z.0.3.1.0.ref_ptr.0 in let o' : ℕ = z.0.3.1.0.ref_ptr.1 in
    let κ : Lft = κs.0 in let κ' : Lft = κs.1.0 in let q : Share = qs.0 in let q' : Share = qs.1.0 in let others : Fml = fsep (flft κs.1.1.0 qs.1.1.0) ftrue in let Post : Val → SProp 𝓤 = (walk_of 𝓛 En hs c).post z in
    let k : Key = key R p x in let all_but : Mask = less every k in
    let out : (answer : Bool) → (IsTrue answer → x ≡ y) → Sq 𝓛 (‵ (flft κ q) ∷ ‵ (flft κ' q') ∷ ‵ others ∷ ‵ (ftok every) ∷ []) (prop (Post (vbool answer))) = λ answer told.
    suffices ! _ (ends_at 𝓛 En hs c z (vbool answer) answer (tt, (tt, tt)) (tt, (tt, tt))) $ owned ! bool _ (bool_Makes 𝓛) answer _ refl $ nothing ! $ nothing ! $ fjoin ! $ nothing ! $ fjoin ! $ join ! $
    move ! (2 ∷ 3 ∷ []) $ fjoin ! $ move ! (2 ∷ 0 ∷ []) $ join ! $ join ! $ frame ! $ says ! told $ done ! in
    qed 𝓛 (((‵ (flft κ q) ⊛ ‵ (fsep (flft κ' q') others)) ⊛ ‵ (owns (types_at En.signature.params κs) z.0.3 z.0.4)) ∷ (‵ (ftok every) ⊛ raw ((c₀ κs z.0.3).requires z.1)) ∷ []) ∵
    split ! $ split ! $ move ! (1 ∷ []) $ fsplit ! $ move ! (4 ∷ []) $ split ! $ move ! (5 ∷ []) $ fsplit ! $ fsplit ! $ move ! (2 ∷ []) $ fsplit ! $ fsplit ! $ keep ! (4 ∷ 1 ∷ 9 ∷ 7 ∷ 5 ∷ 8 ∷ []) $
    -- [the first owner; the second; their tokens; the thread's token; the other tokens]
    use1 𝓛 (‵ (hidden_shr (Data R) κ (p, tt) b o) ⊛ ‵ (fhide (counted_shares R p x κ))) (lending.lent_out 𝓛 (counted.struct R) (counted.the_codes X.Denot R.coded) (counted.the_heap R) (counted.the_lent R) κ d b o) $ split ! $ move ! (2 ∷ []) $
    use1 𝓛 (‵ (hidden_shr (Data R) κ' (p', tt) b' o') ⊛ ‵ (fhide (counted_shares R p' y κ'))) (lending.lent_out 𝓛 (counted.struct R) (counted.the_codes X.Denot R.coded) (counted.the_heap R) (counted.the_lent R) κ' d' b' o') $ split ! $
    regoal ! (λ (us : List Val). prop (WpFn 𝓤 H C Λ fn us Post)) (λ i. are.0.0 i ++ (are.1.0.0 i ++ [])) refl $
    enter ! C Λ fn (vptr b o ∷ vptr b' o' ∷ []) Post $ alloc_all ! (λ l. pass_all ! refl ((tt, tt), ((tt, tt), tt)) $ let Ev = env fn.locals l in
    let rest = follows_arm 𝓛 C Λ Ev (after 2 fn.body) (at_ret Ev Post) in let last = after 3 (inside (head (after 1 fn.body))) in
    move ! (3 ∷ 1 ∷ 4 ∷ 5 ∷ 6 ∷ []) $ judges R laws p p' x y ! tt 𝓜 κ κ' q q' $ move ! (5 ∷ []) $
    use1 𝓛 (‵ (ftok (just k)) ⊛ ‵ (ftok all_but)) (𝓛.invs.tok_cut every (just k) all_but (take every k refl)) $ split ! $
    -- [the two parts of the thread's token; what is known; the owners, hidden; their tokens; the words; the other tokens]
    move ! (8 ∷ 3 ∷ 5 ∷ 0 ∷ []) $ lent_out R laws p x ! tt (just k) (just_self k) κ q b o
    (λ r a s n cb co e some_n f. let fits : n < 2 ^ 64 = omega (arith, f) in
    -- [the count; the parts; the invariant; what is seen; the word; what shuts it; the part; the rest of the thread's token; what is known; the second, hidden; its token; its word; the other tokens]
    sets ! (is ! (of_opd ! (load ! (through ! refl (fld ! refl (stop !))) (look_in ! 4 (sub ! 0 refl (whole !))))) (ap ptr_val e)) refl (tt, tt) $ first ! $ blocks ! $
    sets ! (of_opd ! (load ! (through ! refl (fld ! refl (stop !))) (look ! 0 refl))) refl (tt, record { fits = fits }) $
    sets ! (bin ! (get ! refl) (neg_lit ! tt) tt) refl (tt, tt) $ first ! $ branches ! (get ! refl)
    (λ stop. let is_full = eqb→eq n full stop in absurd (omega (arith, f, is_full)))
    (λ _. skips ! $ exec ! C Λ Ev last rest $
    assigns ! (of_opd ! (lit ! tt)) (through ! refl (fld ! refl (stop !))) (store ! 0 refl (tt, record { fits = lit< tt })) $
    move ! (8 ∷ 0 ∷ []) $ knows R laws p p' x y ! tt 𝓜 0 cb co e
    (λ apart. let has : all_but (key R p' y) ≡ true = less_other every k (key R p' y) apart in
    -- [the count; the parts; the invariant; what is seen; the word; what shuts it; the part; the rest of the thread's token; the second, hidden; its token; its word; the other tokens]
    move ! (10 ∷ 8 ∷ 9 ∷ 7 ∷ []) $ lent_out R laws p' y ! tt all_but has κ' q' b' o'
    (λ r' a' s' m cb' co' e' some_m f'. let fits' : m < 2 ^ 64 = omega (arith, f') in
    -- [the second's count, parts, invariant, what is seen, word, what shuts it, part; the first's; the other tokens]
    rewrite ! 4 (λ (t : Ptr). ‵ (cell_at r' (Data R).mir (word t ∷ []) b' o')) e' refl $
    sets ! (of_opd ! (load ! (through ! refl (fld ! refl (hop ! (look_in ! 4 (sub ! 0 refl (whole !))) (fld ! refl (stop !))))) (look ! 0 refl))) refl (tt, record { fits = fits' }) $
    sets ! (bin ! (get ! refl) (lit ! tt) tt) refl (tt, tt) $ assigns ! (of_opd ! (get ! refl)) (through ! refl (fld ! refl (stop !))) (store ! 7 refl (tt, record { fits = fits })) $
    sets_last ! (of_opd ! (get ! refl)) refl (tt, tt) $ exec ! C Λ Ev (after 2 fn.body) (at_ret Ev Post) $ sets ! (of_opd ! (get ! refl)) refl (tt, tt) $
    rewrite ! 4 (λ (t : Ptr). ‵ (cell_at r' (Data R).mir (word t ∷ []) b' o')) (sym e') refl $
    shuts_below R p' y ! tt all_but a' m cb' co' e' f' $ move ! (3 ∷ 4 ∷ 5 ∷ []) $ lent_back R p' y ! tt r' b' o' a' s' $
    move ! (4 ∷ 5 ∷ []) $ shuts_below R p x ! tt (just k) a n cb co e f $ move ! (7 ∷ 8 ∷ 9 ∷ []) $ lent_back R p x ! tt r b o a s $
    -- [the first's token; the thread's token at the key; the second's token; the rest of the thread's token; what is seen and the invariant, of both; the other tokens]
    move ! (1 ∷ 3 ∷ []) $ use2 𝓛 (‵ (ftok every)) (𝓛.invs.tok_glue every (just k) all_but (take every k refl)) $
    returns ! (look_at ! 0 refl) $ free_all ! refl $ keep ! (1 ∷ 2 ∷ 7 ∷ 0 ∷ []) $ out (eqb m 0) (λ zero_count. let none : m ≡ 0 = eqb→eq m 0 (subst T (sym zero_count) tt) in absurd (omega (arith, some_m, none))))
    (λ r' s' cb' co' e'.
    -- [the second's count, what stays, word, what shuts it, the rest of its token; the rest of the thread's token; the first's; the other tokens]
    rewrite ! 2 (λ (t : Ptr). ‵ (cell_at r' (Data R).mir (word t ∷ []) b' o')) e' refl $
    sets ! (of_opd ! (load ! (through ! refl (fld ! refl (hop ! (look_in ! 2 (sub ! 0 refl (whole !))) (fld ! refl (stop !))))) (look ! 0 refl))) refl (tt, record { fits = lit< tt }) $
    sets ! (bin ! (get ! refl) (lit ! tt) tt) refl (tt, tt) $ assigns ! (of_opd ! (get ! refl)) (through ! refl (fld ! refl (stop !))) (store ! 6 refl (tt, record { fits = fits })) $
    sets_last ! (of_opd ! (get ! refl)) refl (tt, tt) $ exec ! C Λ Ev (after 2 fn.body) (at_ret Ev Post) $ sets ! (of_opd ! (get ! refl)) refl (tt, tt) $
    rewrite ! 2 (λ (t : Ptr). ‵ (cell_at r' (Data R).mir (word t ∷ []) b' o')) (sym e') refl $ move ! (2 ∷ 3 ∷ 4 ∷ []) $ word_back R p' y ! tt r' b' o' $
    move ! (4 ∷ 5 ∷ []) $ shuts_below R p x ! tt (just k) a n cb co e f $ move ! (7 ∷ 8 ∷ 9 ∷ []) $ lent_back R p x ! tt r b o a s $
    -- [the first's token; the thread's token at the key; the second's token, count and what stays; the rest of the thread's token; the first's invariant and what is seen; the other tokens]
    move ! (1 ∷ 5 ∷ []) $ use2 𝓛 (‵ (ftok every)) (𝓛.invs.tok_glue every (just k) all_but (take every k refl)) $
    returns ! (look_at ! 0 refl) $ free_all ! refl $ keep ! (1 ∷ 2 ∷ 7 ∷ 0 ∷ []) $ out (eqb full 0) (λ never. absurd (true≢false (sym never)))))
    (λ same value. let e' : p' ≡ block_ptr cb co = sym same ∙ e in
    move ! (9 ∷ []) $ use1 𝓛 (‵ (flft κ' (Share.left q')) ⊛ ‵ (flft κ' (Share.right q'))) (𝓛.lfts.lft_split κ' q') $ split ! $ move ! (11 ∷ 0 ∷ []) $ reads_word R p' y ! tt b' o' (λ r'.
    -- [the second's word, what shuts it, the rest of its token; the first's count, parts, invariant, what is seen, word, what shuts it, part; the rest of the thread's token; the second, hidden; the other tokens]
    rewrite ! 0 (λ (t : Ptr). ‵ (cell_at r' (Data R).mir (word t ∷ []) b' o')) e' refl $
    sets ! (of_opd ! (load ! (through ! refl (fld ! refl (hop ! (look_in ! 0 (sub ! 0 refl (whole !))) (fld ! refl (stop !))))) (look ! 3 refl))) refl (tt, record { fits = lit< tt }) $
    sets ! (bin ! (get ! refl) (lit ! tt) tt) refl (tt, tt) $ assigns ! (of_opd ! (get ! refl)) (through ! refl (fld ! refl (stop !))) (store ! 3 refl (tt, record { fits = fits })) $
    sets_last ! (of_opd ! (get ! refl)) refl (tt, tt) $ exec ! C Λ Ev (after 2 fn.body) (at_ret Ev Post) $ sets ! (of_opd ! (get ! refl)) refl (tt, tt) $
    rewrite ! 0 (λ (t : Ptr). ‵ (cell_at r' (Data R).mir (word t ∷ []) b' o')) (sym e') refl $ word_back R p' y ! tt r' b' o' $
    move ! (1 ∷ 2 ∷ []) $ shuts_below R p x ! tt (just k) a n cb co e f $ move ! (4 ∷ 5 ∷ 6 ∷ []) $ lent_back R p x ! tt r b o a s $
    -- [the first's token; the thread's token at the key; the second's token; the invariant; what is seen; the rest of the thread's token; the second, hidden; the other tokens]
    move ! (1 ∷ 5 ∷ []) $ use2 𝓛 (‵ (ftok every)) (𝓛.invs.tok_glue every (just k) all_but (take every k refl)) $
    returns ! (look_at ! 0 refl) $ free_all ! refl $ keep ! (1 ∷ 2 ∷ 6 ∷ 0 ∷ []) $ out (eqb 0 0) (λ _. value)))))
    (λ r s cb co e.
    -- [the count; what stays; the word; what shuts it; the rest of the token; the thread's token, in two parts; what is known; the second, hidden; its token; its word; the other tokens]
    sets ! (is ! (of_opd ! (load ! (through ! refl (fld ! refl (stop !))) (look_in ! 2 (sub ! 0 refl (whole !))))) (ap ptr_val e)) refl (tt, tt) $ first ! $ blocks ! $
    sets ! (of_opd ! (load ! (through ! refl (fld ! refl (stop !))) (look ! 0 refl))) refl (tt, record { fits = lit< tt }) $
    sets ! (bin ! (get ! refl) (neg_lit ! tt) tt) refl (tt, tt) $ first ! $ branches ! (get ! refl)
    (λ _. sets ! (of_opd ! (false_lit !)) refl (tt, tt) $ move ! (2 ∷ 3 ∷ 4 ∷ []) $ word_back R p x ! tt r b o $ move ! (3 ∷ 4 ∷ []) $ use2 𝓛 (‵ (ftok every)) (𝓛.invs.tok_glue every (just k) all_but (take every k refl)) $
    -- [the thread's token; the first's token; the count; what stays; what is known; the second, hidden; its token; its word; the other tokens]
    returns_within ! Post refl (look_at ! 0 refl) $ free_all ! refl $ keep ! (1 ∷ 6 ∷ 8 ∷ 0 ∷ []) $ out false (λ never. absurd (true≢false (sym never))))
    (λ room. absurd (is_not full full room refl)))))
