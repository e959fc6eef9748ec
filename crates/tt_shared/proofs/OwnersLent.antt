-- A `&` to an owner (`specs/Counting.antt`): it can be had twice and for a shorter time, and is made of a borrow of the owner. Assumes `Logic`.
use Rattle.std.proofs.Common.{Bool, true, false, [], ◌∷◌}
use seplogic.Ra.Ura.{Ura}
use base.Logic.{ent, sep, wand, snd∗, apply∗}
use base.Before.{before}
use base.Fml.{Lft, Fml, ftrue, fsep, fbor, fnamed, fres}
use mir.Syntax.{w64}
use types.Logic.{Logic, sem, lfts}
use types.Kit.{‵, raw, ◌⊛◌, later, ◌$◌, ◌∵◌, !, qed, move, drop, use1, use2, await, split, fsplit, fjoin, fpick, fpack, updating, now, done}
use denote.Builtin.{usize}
use denote.Model.Laws.{Lends-some}
use denote.Plain.{uint_row_laws}
use denote.RattleType.{RattleType, RowLaws}
use denote.RawPtr.{Ptr, ◌+ₚ◌}
use denote.RcWeak.{rc_shr_laws, Lends-rc}
use denote.Sharing.{ShrLaws, beside, ends, held, said}
use denote.SharingLaws.{contraction, beside_shr_laws, ends_shr_laws, held_shr_laws, some_shr_laws}
use denote.Struct.Lending.{Lends, lent_at, lent_at_shr_laws}
use Rattle.tt_shared.specs.Counting.{full, value_offset, key, there, sees, stays, strong, weak, IsNumberOf, Names, inside, marked, mark, marked_sees, owner, counted_owns, lent_owner, counted_shares}

module _ (R : RattleType) (L : RowLaws R) (c : Ptr) (x : R.Denot) where
  pub sees_laws : ShrLaws (sees R c x)
  sees_laws = lent_at_shr_laws R L (c +ₚ value_offset R) x

  pub stays_laws : ShrLaws (stays R c x)
  stays_laws = beside_shr_laws (lent_at usize (c +ₚ 0) full) (sees R c x) (lent_at_shr_laws usize (uint_row_laws w64) (c +ₚ 0) full) sees_laws

  marked_twice : {M : Type 1} {𝓤 : Ura M} (𝓛 : Logic 𝓤) (n : Names) → ent 𝓤 (sem 𝓛 (marked R c x n)) (sep 𝓤 (sem 𝓛 (marked R c x n)) (sem 𝓛 (marked R c x n)))
  marked_twice {𝓤 = 𝓤} 𝓛 n = let P : Fml = inside R c x n.0 n.1 in let both : IsNumberOf n.2 n.3 → Fml = λ _. fsep (fnamed n.3 P) (fres n.2 (R.coded.code x)) in
      qed 𝓛 (‵ (marked R c x n) ∷ []) ∵ fpick ! (λ its. fsplit ! $ use1 𝓛 (‵ (fnamed n.3 P) ⊛ ‵ (fnamed n.3 P)) (𝓛.invs.named_dup n.3 P) $ split ! $ move ! (2 ∷ []) $
      use1 𝓛 (‵ (fres n.2 (R.coded.code x)) ⊛ ‵ (fres n.2 (R.coded.code x))) (𝓛.names.res_dup n.2 (R.coded.code x)) $ split ! $ move ! (2 ∷ 0 ∷ []) $ fjoin ! $ fpack ! (IsNumberOf n.2 n.3) both its $
      move ! (2 ∷ 1 ∷ []) $ fjoin ! $ fpack ! (IsNumberOf n.2 n.3) both its $ done !)

  marked_laws : (n : Names) → ShrLaws (said (marked R c x n))
  marked_laws n = record { contraction = λ M 𝓤 𝓛 κ. marked_twice 𝓛 n; mono = λ M 𝓤 𝓛 κ' κ. snd∗ 𝓤 (sem 𝓛 (before κ' κ)) (sem 𝓛 (marked R c x n)) }

  pub mark_laws : ShrLaws (mark R c x)
  mark_laws = some_shr_laws Names (λ n. beside (ends (n.0.0 ∷ [])) (said (marked R c x n))) (λ n. beside_shr_laws (ends (n.0.0 ∷ [])) (said (marked R c x n)) (ends_shr_laws (n.0.0 ∷ [])) (marked_laws n))

  pub marked_sees_laws : ShrLaws (marked_sees R c x)
  marked_sees_laws = beside_shr_laws (mark R c x) (sees R c x) mark_laws sees_laws

  owner_laws : (counted : Bool) → ShrLaws (lent_owner R c x counted)
  owner_laws true = rc_shr_laws 64 (key R c x) (strong R c x) weak (there R c x) ftrue ftrue (marked_sees R c x) marked_sees_laws
  owner_laws false = held_shr_laws [] (stays R c x) stays_laws

  pub counted_laws : ShrLaws (counted_shares R c x)
  counted_laws = some_shr_laws Bool (lent_owner R c x) owner_laws

  module _ {M : Type 1} {𝓤 : Ura M} (𝓛 : Logic 𝓤) (l : Lft) where
    open 𝓛 use {H, A}

    stays_lends : Lends 𝓛 (stays R c x []) (held [] (stays R c x)) l
    stays_lends κ ts inc sp = let P : Fml = stays R c x [] in qed 𝓛 (‵ (fbor κ P) ∷ raw (lfts 𝓛 ts) ∷ []) {P = H.⇛ (sep 𝓤 (sem 𝓛 P) (lfts 𝓛 ts))} (
        updating ! $ use2 𝓛 (later (‵ P ⊛ raw (wand 𝓤 (sem 𝓛 P) (H.⇛ (sep 𝓤 (A.bor κ P) (lfts 𝓛 ts)))))) (𝓛.more.bor_acc_by κ ts P sp) $ await ! tt $ split ! $
        use1 𝓛 (‵ P ⊛ ‵ P) (contraction 𝓛 (stays R c x) stays_laws []) $ split ! $ move ! (0 ∷ 2 ∷ []) $
        use2 𝓛 (later (‵ (fbor κ P) ⊛ raw (lfts 𝓛 ts))) (apply∗ 𝓤 (sem 𝓛 P) (H.⇛ (sep 𝓤 (A.bor κ P) (lfts 𝓛 ts)))) $ await ! tt $ split ! $ drop ! $ move ! (1 ∷ 0 ∷ []) $ now ! $ done !)

    owner_lends : (counted : Bool) → Lends 𝓛 (owner R c x counted) (lent_owner R c x counted) l
    owner_lends true = Lends-rc 64 (key R c x) (strong R c x) weak (there R c x) ftrue ftrue (marked_sees R c x) 𝓛 marked_sees_laws l
    owner_lends false = stays_lends

    pub counted_lends : Lends 𝓛 (counted_owns R c x) (counted_shares R c x) l
    counted_lends = Lends-some 𝓛 Bool (owner R c x) (lent_owner R c x) l owner_lends
