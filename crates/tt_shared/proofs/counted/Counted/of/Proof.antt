-- `of` puts the block under the invariant. Assumes `Logic`.
use Rattle.std.proofs.Common.{◌≡◌, ℕ, List, [], ◌∷◌, ◌++◌, refl, sym, subst}
use base.Fraction.{full_share}
use base.Fml.{ftrue, flft}
use base.Logic.{SProp, ent, emp, id⊢}
use contract.BorrowLft.{◌⊑◌}
use contract.Monad.{fact, fact_i}
use contract.Running.{tables}
use mir.MapTy.{inst_fn}
use mir.Syntax.{a_type}
use mir.Val.{Val, vptr}
use prog.Wp.{WpFn}
use types.ByLocal.{alloc_all, pass_all, free_all, look_at, get, get_in, sets}
use types.Kit.{‵, raw, ◌⊛◌, later, ◌$◌, ◌∵◌, !, qed, by, move, keep, split, split3, join, fsplit, fjoin, fjoin3, use0, use1, use3, await, rewrite, suffices}
use types.Part.{agg, sub, whole}
use types.Run.{stop, fld, of_opd, no_more, and_then, returns, enter}
use denote.Exit.{no}
use denote.Memory.{part_at}
use denote.Param.{param, layouts}
use denote.RattleType.{RattleType, owns}
use denote.RawPtr.{Ptr, block_ptr}
use denote.Signature.{types_at, plain}
use denote.Steps.{nothing, heard}
use denote.Triple.Walked.{Stays, stay_dropped, walk_of}
use Rattle.core.proofs.alloc.Calls.{Goes-blank}
use Rattle.std.proofs.alloc.Global.TheLaws as heap
use Rattle.std.proofs.raw_atomic.Walks.{proved_at, leaves}
use Rattle.std.specs.contracts.alloc.Global as Heap
use Rattle.std.specs.contracts.impls.GlobalAllocator.TheImpl.{ghosts}
use Rattle.tt_shared.specs.Counting.{counts, lies, rejoins, counted_owns}
use Rattle.tt_shared.specs.Counting as counting
use Rattle.tt_shared.proofs.BlockSteps.{two, two_good, Block, block_out}
use Rattle.tt_shared.proofs.CountedSteps.{word, made_word}
use Rattle.tt_shared.proofs.FirstOwner.{block_cut, first_made}
use Rattle.tt_shared.specs.contracts.counted.Counted as counted
use Rattle.tt_shared.specs.contracts.counted.Counted.of.{ended, clauses}
use Rattle.tt_shared.specs.contracts.counted.Counted.of.Key.{name as #self}
use Rattle.tt_shared.proofs.counted.Counted.of.Statement.{statement}
use Rattle.tt_shared.proofs.counted.Counted.of.Code as code

pub of_spec : {M : Type 1} → statement M
of_spec 𝓤 𝓛 𝓜 𝓡 wired X L =
    let H = 𝓛.H in let 𝓣 = tables 𝓤 H 𝓜 𝓡 𝓡.env in let R : RattleType = param 0 X in let Z = Heap.the_row in let B = counting.Block R in let From = Block B Z heap.the_row_laws ghosts in let Row : RattleType = counted.the_row R in
    let En = ended X in let c = clauses X 𝓛 𝓜.mem 𝓡.returns in let given = layouts (a_type ∷ []) (X, tt) in let fn = inst_fn given code.function in
    let hs : Stays En.signature.params En.kept = (stay_dropped (plain (λ _. From)) no, tt) in
    proved_at 𝓛 En hs c 𝓜 𝓡 (Goes-blank 𝓛 1 (plain (λ _. From)) no (λ κs x f. tt), tt) (#self given) fn (code.unfolded 𝓤 H 𝓜 𝓡 wired (X, tt)) (λ z are.
    let κs = z.0.0 in let qs = z.0.1 in let v = z.0.3.0 in let x : X.Denot = v.value.1 in let Post : Val → SProp 𝓤 = (walk_of 𝓛 En hs c).post z in let Run : List Val → SProp 𝓤 = λ ws. WpFn 𝓤 H 𝓣.C 𝓣.Λ fn ws Post in
    let inX = κs.0 ⊑ X.lives in let One = v.value.0 ≡ 1 in
    qed 𝓛 (((‵ (flft κs.0 qs.0) ⊛ ‵ ftrue) ⊛ ‵ (owns (types_at En.signature.params κs) z.0.3 z.0.4)) ∷ (raw (fact 𝓤 inX) ⊛ raw (fact 𝓤 One)) ∷ []) ∵
    move ! (1 ∷ []) $ split ! $ heard ! inX (λ within. heard ! One (λ one. split ! $ move ! (1 ∷ []) $ fsplit ! $ block_out B Z heap.the_row_laws ghosts ! v z.0.4.0 (λ b o h at fits is.
    let p : Ptr = block_ptr b o in let w : Val = two (vptr b o) h in
    -- [the memory; the handle; nothing; the tokens]
    fsplit ! $ rewrite ! 0 (λ (y : ℕ × X.Denot). ‵ (part_at B full_share y b o)) (λ i. (one i, x)) refl $
    use1 𝓛 (‵ (counts R p x 1) ⊛ ‵ (lies R p x) ⊛ ‵ (rejoins R p x)) (block_cut X L 𝓛 b o x) $ split3 ! $ move ! (1 ∷ 2 ∷ 3 ∷ []) $ fjoin3 ! $ move ! (4 ∷ []) $ split ! $ move ! (3 ∷ 2 ∷ 0 ∷ []) $
    use3 𝓛 (later (‵ (counted_owns R p x) ⊛ ‵ (flft κs.0 qs.0))) (first_made X L p x 𝓛 κs.0 qs.0 within) $
    suffices ! (Run (w ∷ [])) (subst (λ (us : List Val). ent 𝓤 (Run (w ∷ [])) (Run us)) (sym (λ i. is i ++ [])) (id⊢ 𝓤 (Run (w ∷ [])))) $ keep ! (0 ∷ []) $
    enter ! 𝓣.C 𝓣.Λ fn (w ∷ []) Post $ alloc_all ! (λ l. pass_all ! refl (two_good B Z heap.the_row_laws ghosts b o h fits, tt) $ await ! tt $
    sets ! (of_opd ! (get_in ! (fld ! refl (stop !)) (sub ! 0 refl (whole !)))) refl (tt, tt) $ sets ! (agg ! (and_then ! (get ! refl) (no_more !))) refl (tt, (tt, tt)) $
    returns ! (look_at ! 0 refl) $ free_all ! refl $ split ! $ made_word R p x ! $
    -- [the owner; the token]
    nothing ! $ move ! (2 ∷ 0 ∷ []) $ join ! $ use0 𝓛 (raw (fact 𝓤 (x ≡ x))) (fact_i 𝓤 (x ≡ x) (emp 𝓤) refl) $ nothing ! $ nothing ! $ fjoin ! $ keep ! (2 ∷ 0 ∷ 3 ∷ 1 ∷ []) $
    by ! (leaves 𝓛 En hs c z (word p) (record { block = p; value = x }) (tt, tt) (tt, tt)))))))
