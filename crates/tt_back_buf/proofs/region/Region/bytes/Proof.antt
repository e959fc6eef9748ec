-- `bytes` shows what a `&` to the block lends. Assumes `Logic`.
use Rattle.std.proofs.Common.{◌≡◌, ℕ, ◌+◌, ◌*◌, ◌^◌, ◌<◌, List, [], ◌∷◌, ◌++◌, length, arith, refl, sym, ap, ◌∙◌}
use base.Fml.{Lft, Share, ftrue, flft, fhide}
use base.Logic.{emp, never, fst∗}
use contract.Monad.{fact, fact_i}
use contract.Running.{tables}
use mir.Syntax.{w64, named}
use mir.Val.{Val, vptr, vstruct, vcons, vnil, of_list}
use seplogic.Ra.Ura.{Ura}
use types.ByLocal.{alloc_all, pass_all, free_all, look_at, get, through, sets, sets_last, env}
use types.Kit.{‵, raw, ◌⊛◌, at_ret, ◌$◌, ◌∵◌, !, qed, by, move, keep, drop, use0, use1, split, join, fsplit, fjoin, feq_i, flt_i, rewrite}
use types.Logic.{Logic, sem}
use types.Part.{whole, sub, look_in, agg}
use types.Run.{enter, of_opd, and_then, no_more, bin, load, stop, fld, first, blocks, exec, returns}
use denote.Array.{Array}
use denote.Builtin.{u8, usize, RefOf}
use denote.Copied.{Struct-Copied}
use denote.Laws.{Is, shows}
use denote.Memory.{cell_at, hidden_shr, shared_of}
use denote.Opens.{Opens, unhide, hide}
use denote.Plain.{uint_vals, uint_Tells}
use denote.RattleType.{RattleType}
use denote.RawPtr.{Ptr, block_ptr, ptr_val, in_a_block, ◌+ₚ◌}
use denote.Ref.{ShrRef, shr_vals, shr_Tells}
use denote.Signature.{plain}
use denote.Slice.{slice_val, elements_shared}
use denote.Steps.{nothing, looks, shuts, peeks, heard}
use denote.Struct.Laws.{RawPtr-copy}
use denote.Struct.Lending.{lent_at, lent_out}
use denote.Struct.Owning.{shape}
use denote.Struct.Struct.{Struct}
use denote.Triple.Walked.{Stays, walk_of, stay_dropped, Goes-dropped}
use Rattle.core.proofs.alloc.Shapes.{after}
use Rattle.std.proofs.raw_atomic.Walks.{proved, leaves}
use Rattle.tt_back_buf.specs.Ownership.{region_lends}
use Rattle.tt_back_buf.specs.contracts.region.Region as region
use Rattle.tt_back_buf.specs.contracts.region.Region.{the_row as R}
use Rattle.tt_back_buf.specs.contracts.region.Region.bytes as f
use Rattle.tt_back_buf.proofs.region.Region.bytes.Statement.{statement}
use Rattle.tt_back_buf.proofs.region.Region.bytes.Code as code

-- the pointer alone
abbrev D : RattleType
D = Struct (shape region.the_type)

abbrev word : Ptr → Val
word p = vstruct (vcons (ptr_val p) vnil)

told : (p : Ptr) (vs : List Val) → Is D (p, tt) vs → vs ≡ word p ∷ []
told p vs is = is.1.0 ∙ ap (λ (ws : List Val). vstruct (of_list (ws ++ [])) ∷ []) is.1.1.0

opened : {M : Type 1} {𝓤 : Ura M} (𝓛 : Logic 𝓤) → Opens 𝓛 D
opened {M} {𝓤 = 𝓤} 𝓛 = (Struct-Copied 𝓛 (shape region.the_type) (refl, tt) (RawPtr-copy.copied M 𝓤 𝓛, tt)).opens

abbrev stayed : Stays f.ended.signature.params f.ended.kept
stayed = (stay_dropped (RefOf (0 ∷ []) tt (plain (λ _. R)) (λ _. tt)) f.ended.kept.0, (stay_dropped _ f.ended.kept.1.0, (stay_dropped _ f.ended.kept.1.1.0, tt)))

pub bytes_spec : {M : Type 1} → statement M
bytes_spec 𝓤 𝓛 𝓜 𝓡 wired =
    let c = f.clauses 𝓛 𝓜.mem 𝓡.returns in let W = walk_of 𝓛 f.ended stayed c in let 𝓣 = tables 𝓤 𝓛.H 𝓜 𝓡 𝓡.env in let fn = code.function in
    proved 𝓛 f.ended stayed c 𝓜 𝓡
    (Goes-dropped 𝓛 1 (RefOf (0 ∷ []) tt (plain (λ _. R)) (λ _. tt)) f.ended.kept.0 (λ κs x w. refl), (Goes-dropped 𝓛 1 (plain (λ _. usize)) f.ended.kept.1.0 (λ κs x w. refl), (Goes-dropped 𝓛 1 (plain (λ _. usize)) f.ended.kept.1.1.0 (λ κs x w. refl), tt)))
    f.Key.name fn (code.unfolded 𝓤 𝓛.H 𝓜 𝓡 wired)
    (λ κs. (shr_vals, (uint_vals w64, (uint_vals w64, tt)))) (λ κs. (shr_Tells (named 0) κs.0 R, (uint_Tells w64, (uint_Tells w64, tt)))) (λ κs qs bounds a _ are.
    let b = a.0.ref_ptr.0 in let o = a.0.ref_ptr.1 in let κ : Lft = κs.0 in let q : Share = qs.0 in let r = a.0.now in let xs : List ℕ = r.bytes in let room : ℕ = a.1.0 in let len : ℕ = a.1.1.0 in
    let y : W.Ghost = ((κs, qs, bounds, a, (shr_vals a.0, (uint_vals w64 room, (uint_vals w64 len, tt)))), tt) in let Asked : Type 0 = (room ≡ r.room) × (len ≡ length xs) in let fits_len : len < 2 ^ 64 = are.1.1.0.1 in
    qed 𝓛 (((‵ (flft κ q) ⊛ ‵ ftrue) ⊛ ‵ ((ShrRef (named 0) κ R).own_val a.0 (shr_vals a.0)) ⊛ ‵ (usize.own_val room (uint_vals w64 room)) ⊛ ‵ (usize.own_val len (uint_vals w64 len)) ⊛ ‵ ftrue) ∷ raw (fact 𝓤 Asked) ∷ []) ∵
    move ! (1 ∷ []) $ heard ! Asked (λ asked. split ! $ split ! $ move ! (2 ∷ []) $ split ! $ fsplit ! $ drop ! $ keep ! (0 ∷ 2 ∷ []) $
    enter ! 𝓣.C 𝓣.Λ fn (vptr b o ∷ uint_vals w64 room ++ uint_vals w64 len) (W.post y) $ alloc_all ! (λ l. pass_all ! refl ((tt, tt), ((tt, record { fits = are.1.0.1 }), ((tt, record { fits = fits_len }), tt))) $ let Ev = env fn.locals l in
    use1 𝓛 (‵ (hidden_shr D κ (r.at, tt) b o) ⊛ ‵ (fhide (region_lends r.at r.room xs κ))) (lent_out 𝓛 region.struct region.the_codes region.the_heap region.the_lent κ r b o) $ split ! $ move ! (1 ∷ []) $ unhide ! $
    in_a_block ! r.at (λ t. lent_at (Array u8 (length xs)) (t +ₚ r.room) xs κ) (fst∗ 𝓤 (never 𝓤) (sem 𝓛 (shared_of (Array u8 (length xs)) xs 0 0 κ))) (λ cb co e. fsplit ! $ drop ! $
    let there : co + r.room ≡ room + co = omega (arith, asked.0) in let long : length xs ≡ len = sym asked.1 in let at : ℕ × ℕ = (cb, room + co) in
    fsplit ! $ drop ! $ rewrite ! 0 (λ (k : ℕ). ‵ (elements_shared u8 xs cb k κ)) there refl $ hide ! $
    -- [the bytes; the pointer; the token]
    move ! (1 ∷ 2 ∷ []) $ looks ! tt D (opened 𝓛) (r.at, tt) b o (λ s vs. move ! (1 ∷ []) $ peeks ! D (Is D) (shows 𝓛 D) (r.at, tt) vs (λ so.
    let now_word : vs ≡ word (block_ptr cb co) ∷ [] = told r.at vs so ∙ ap (λ (t : Ptr). word t ∷ []) e in
    rewrite ! 1 (λ (ws : List Val). ‵ (cell_at s D.mir ws b o)) now_word refl $ first ! $ blocks ! $
    sets ! (of_opd ! (load ! (through ! refl (fld ! refl (stop !))) (look_in ! 1 (sub ! 0 refl (whole !))))) refl (tt, tt) $
    sets ! (bin ! (get ! refl) (get ! refl) tt) refl (tt, tt) $
    sets_last ! (agg ! (and_then ! (get ! refl) (and_then ! (get ! refl) (no_more !)))) refl (tt, (tt, (record { fits = fits_len }, tt))) $
    exec ! 𝓣.C 𝓣.Λ Ev (after 1 fn.body) (at_ret Ev (W.post y)) $ sets ! (of_opd ! (get ! refl)) refl (tt, (tt, (record { fits = fits_len }, tt))) $
    rewrite ! 1 (λ (ws : List Val). ‵ (cell_at s D.mir ws b o)) (sym now_word) refl $ move ! (1 ∷ 0 ∷ 2 ∷ []) $ shuts ! tt D s (r.at, tt) vs b o $
    -- [the token; the pointer; the bytes]
    move ! (2 ∷ []) $ flt_i ! (length xs * 1) (2 ^ 63) (omega (arith, r.fits)) $ flt_i ! (length xs) (2 ^ 64) (omega (arith, long)) $ fjoin ! $
    feq_i ! (List Val) (slice_val at len ∷ []) (slice_val at (length xs) ∷ []) (ap (λ k. slice_val at k ∷ []) asked.1) $ fjoin ! $ fjoin ! $
    returns ! (look_at ! 0 refl) $ free_all ! refl $
    -- [the slice; the token]
    use0 𝓛 (raw (fact 𝓤 (xs ≡ xs))) (fact_i 𝓤 (xs ≡ xs) (emp 𝓤) refl) $ nothing ! $ move ! (3 ∷ 0 ∷ []) $ join ! $ nothing ! $ nothing ! $ fjoin ! $ nothing ! $ fjoin ! $ nothing ! $ fjoin ! $
    keep ! (1 ∷ 0 ∷ 3 ∷ 2 ∷ []) $ by ! (leaves 𝓛 f.ended stayed c y (slice_val at len) (record { ref_ptr = at; now = xs }) (tt, (tt, (tt, tt))) (tt, (tt, (tt, tt))))))))))
