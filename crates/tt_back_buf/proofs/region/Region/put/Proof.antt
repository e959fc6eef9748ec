-- `put` takes the last place of the room, and writes there. Assumes `Logic`.
use Rattle.std.proofs.Common.{◌≡◌, ℕ, suc, ◌+◌, ◌^◌, ◌<◌, List, [], ◌∷◌, length, arith, refl, sym, ap, ◌∙◌}
use base.Fml.{ftrue, froom, flft}
use base.Fraction.{full_share}
use base.Logic.{emp, id⊢}
use contract.Monad.{fact, fact_i}
use contract.Running.{tables}
use mir.Syntax.{w8, w64, ty_int, named}
use mir.Val.{Val, vunit}
use types.ByLocal.{alloc_all, pass_all, free_all, look_at, get, through, sets, env}
use types.Kit.{‵, raw, ◌⊛◌, at_ret, ◌$◌, ◌∵◌, !, qed, by, move, keep, use0, use1, use2, split, join, fsplit, fsplit3, fjoin, fjoin3, feq_i, rewrite}
use types.Part.{whole, sub, look_in}
use types.Run.{enter, of_opd, unit_lit, bin, load, init, stop, fld, assigns_last, first, blocks, exec, returns}
use denote.Array.{Array}
use denote.Builtin.{u8, usize}
use denote.Laws.{shows}
use denote.Memory.{cell_at, part_at}
use denote.Plain.{uint_in, uint_vals, uint_Tells}
use denote.RawPtr.{Ptr, block_ptr, lies_at, room_for, in_a_block, ◌+ₚ◌}
use denote.Ref.{MutRef, mut_vals, mut_Tells}
use denote.Signature.{plain}
use denote.Steps.{nothing, opens, closes, heard, peeks}
use denote.Triple.Walked.{Stays, walk_of, stay_dropped, Goes-dropped, stay_ref, Goes-ref}
use Rattle.core.proofs.alloc.Shapes.{after}
use Rattle.std.proofs.raw_atomic.Walks.{proved, leaves}
use Rattle.tt_back_buf.proofs.RegionSteps.{last_place, one_more}
use Rattle.tt_back_buf.specs.Ownership.{block_type}
use Rattle.tt_back_buf.specs.contracts.region.Region.{the_row as R}
use Rattle.tt_back_buf.specs.contracts.region.Region.put as f
use Rattle.tt_back_buf.proofs.region.Region.TheLaws.{lowers}
use Rattle.tt_back_buf.proofs.region.Region.put.Statement.{statement}
use Rattle.tt_back_buf.proofs.region.Region.put.Code as code

abbrev stayed : Stays f.ended.signature.params f.ended.kept
stayed = (stay_ref (0 ∷ []) tt (plain (λ _. R)), (stay_dropped _ f.ended.kept.1.0, (stay_dropped _ f.ended.kept.1.1.0, tt)))

pub put_spec : {M : Type 1} → statement M
put_spec 𝓤 𝓛 𝓜 𝓡 wired =
    let c = f.clauses 𝓛 𝓜.mem 𝓡.returns in let W = walk_of 𝓛 f.ended stayed c in let 𝓣 = tables 𝓤 𝓛.H 𝓜 𝓡 𝓡.env in
    proved 𝓛 f.ended stayed c 𝓜 𝓡
    (Goes-ref 𝓛 1 0 tt (plain (λ _. R)), (Goes-dropped 𝓛 1 (plain (λ _. usize)) f.ended.kept.1.0 (λ κs x w. refl), (Goes-dropped 𝓛 1 (plain (λ _. u8)) f.ended.kept.1.1.0 (λ κs x w. refl), tt)))
    f.Key.name code.function (code.unfolded 𝓤 𝓛.H 𝓜 𝓡 wired)
    (λ κs. (mut_vals, (uint_vals w64, (uint_vals w8, tt)))) (λ κs. (mut_Tells (named 0) κs.0 R, (uint_Tells w64, (uint_Tells w8, tt)))) (λ κs qs bounds a _ are.
    let b = a.0.ref_ptr.0 in let o = a.0.ref_ptr.1 in let r = a.0.now in let place : ℕ = a.1.0 in let byte : ℕ = a.1.1.0 in let vs = mut_vals a.0 in
    let y : W.Ghost = ((κs, qs, bounds, a, (vs, (uint_vals w64 place, (uint_vals w8 byte, tt)))), tt) in let Asked : Type 0 = place + 1 ≡ r.room in
    qed 𝓛 (((‵ (flft κs.0 qs.0) ⊛ ‵ ftrue) ⊛ ‵ ((MutRef (named 0) κs.0 R).own_val a.0 vs) ⊛ ‵ (usize.own_val place (uint_vals w64 place)) ⊛ ‵ (u8.own_val byte (uint_vals w8 byte)) ⊛ ‵ ftrue) ∷ raw (fact 𝓤 Asked) ∷ []) ∵
    move ! (1 ∷ []) $ heard ! Asked (λ asked. split ! $ split ! $ move ! (2 ∷ []) $ split ! $ keep ! (0 ∷ 2 ∷ []) $
    enter ! _ _ _ _ _ $ alloc_all ! (λ l. pass_all ! refl ((tt, tt), ((tt, record { fits = are.1.0.1 }), ((tt, record { fits = are.1.1.0.1 }), tt))) $
    fsplit3 ! $ move ! (1 ∷ 2 ∷ 3 ∷ []) $ opens ! tt R b o (λ us. move ! (1 ∷ []) $ peeks ! R _ (shows 𝓛 R) r us (λ is. fsplit ! $ move ! (1 ∷ []) $ fsplit ! $ move ! (1 ∷ []) $
    in_a_block ! r.at (λ p. room_for (block_type r.room) p) (id⊢ 𝓤 _) (λ b' o' e.
    rewrite ! 0 (λ (n : ℕ). ‵ (froom (block_type n) b' o')) (sym asked) refl $
    use1 𝓛 (‵ (froom (ty_int w8) b' (place + o')) ⊛ ‵ (froom (block_type (place)) b' o')) (last_place 𝓛 b' o' (place + 1) (place) (place + o') (omega arith) (omega arith)) $ split ! $ move ! (1 ∷ []) $
    let there : place + o' ≡ o' + place = omega arith in
    let word = lowers.val_is r us is ∙ ap (λ (p : Ptr). lowers.lowered (record r { at = p }) ∷ []) e in let Cell = λ (ws : List Val). ‵ (cell_at full_share R.mir ws b o) in
    rewrite ! 4 Cell word refl $
    -- [the room before the places; the places; the bytes; what the fields own; the struct's cell; the open borrow, in three entries]
    first ! $ blocks ! $
    sets ! (of_opd ! (load ! (through ! refl (fld ! refl (stop !))) (look_in ! 4 (sub ! 0 refl (whole !))))) refl (tt, tt) $
    sets ! (bin ! (get ! refl) (get ! refl) tt) refl (tt, tt) $
    assigns_last ! (of_opd ! (get ! refl)) (through ! refl (stop !)) (init ! 1 refl (tt, record { fits = are.1.1.0.1 })) $
    exec ! 𝓣.C 𝓣.Λ (env code.Mir.locals l) (after 1 (code.function).body) (at_ret _ (W.post y)) $
    sets ! (of_opd ! (unit_lit !)) refl (tt, tt) $
    move ! (2 ∷ []) $ rewrite ! 0 (λ (z : Ptr × ℕ). ‵ (lies_at (Array u8 (length r.bytes)) full_share (z.0 +ₚ z.1) r.bytes)) (λ i. (e i, sym asked i)) refl $
    move ! (2 ∷ []) $ use1 𝓛 (‵ (part_at u8 full_share byte b' (place + o'))) (uint_in 𝓛 full_share w8 byte b' (place + o')) $
    use2 𝓛 (‵ (part_at (Array u8 (suc (length r.bytes))) full_share (byte ∷ r.bytes) b' (place + o'))) (one_more 𝓛 b' o' (place + o') (o' + (place + 1)) byte (r.bytes) (omega arith)) $
    rewrite ! 0 (λ (k : ℕ). ‵ (part_at (Array u8 (suc (length r.bytes))) full_share (byte ∷ r.bytes) b' k)) there refl $
    rewrite ! 0 (λ (p : Ptr). ‵ (lies_at (Array u8 (suc (length r.bytes))) full_share (p +ₚ place) (byte ∷ r.bytes))) (sym e) refl $
    rewrite ! 1 (λ (p : Ptr). ‵ (room_for (block_type place) p)) (sym e) refl $ fjoin ! $
    rewrite ! 2 Cell (sym word) refl $ move ! (1 ∷ []) $ fjoin ! $ move ! (1 ∷ []) $
    let new : R.Denot = record r { room = place; bytes = byte ∷ r.bytes; fits = omega (arith, r.fits, asked) } in
    closes ! tt R new us b o $
    -- [two parts of self; the token; self's first part]
    returns ! (look_at ! 0 refl) $ free_all ! refl $ move ! (3 ∷ 0 ∷ 1 ∷ []) $ fjoin3 ! $ nothing ! $ nothing ! $ fjoin ! $ nothing ! $ fjoin ! $ move ! (1 ∷ 0 ∷ []) $ fjoin ! $
    nothing ! $ move ! (2 ∷ 0 ∷ []) $ join ! $ let Said : Type 0 = (r.at ≡ r.at) × (place ≡ place) × (new.bytes ≡ byte ∷ r.bytes) in
    use0 𝓛 (raw (fact 𝓤 Said)) (fact_i 𝓤 Said (emp 𝓤) (refl, refl, refl)) $ feq_i ! _ (vunit ∷ []) _ refl $ keep ! (2 ∷ 3 ∷ 0 ∷ 1 ∷ []) $
    by ! (leaves 𝓛 f.ended stayed c y vunit tt (new, (tt, (tt, tt))) (tt, (tt, (tt, tt))))))))))
