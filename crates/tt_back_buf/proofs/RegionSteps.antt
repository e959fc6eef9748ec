-- Room and bytes of one block, side by side. Assumes `Logic`.
--     last_place      room is the place of its last byte, and the room before that
--     one_more        a byte in a place is the first of the bytes after it
--     no_bytes        no bytes lie anywhere
--     all_room        room, and the bytes after it, are room for all
use Rattle.std.proofs.Common.{◌≡◌, ℕ, suc, ◌+◌, List, [], ◌∷◌, length, arith, refl, sym, ap, subst, ◌∙◌}
use seplogic.Ra.Ura.{Ura}
use base.Fml.{ftrue, fsep, feq, froom}
use base.Fraction.{full_share}
use base.Logic.{ent, sep, emp}
use mir.Syntax.{w8, ty_int}
use types.Kit.{‵, ◌⊛◌, ◌$◌, ◌∵◌, !, qed, by, move, keep, drop, split, fsplit, fjoin, feq_i, feq_l, use0, use1, use2, rewrite, done}
use types.Logic.{Logic, sem}
use denote.Array.{Array}
use denote.Builtin.{u8}
use denote.Memory.{part_at}
use denote.RawPtr.Bytes.{bytes, bytes_apart, bytes_whole, bytes-room}
use denote.RawPtr.Room.{past, past_bytes, room_cut, room_glue}
use denote.Steps.{nothing}
use Rattle.tt_back_buf.specs.Ownership.{block_type}

module _ {M : Type 1} {𝓤 : Ura M} (𝓛 : Logic 𝓤) (b o : ℕ) where
  open 𝓛 use {H}

  pub last_place : (room place at : ℕ) → place + 1 ≡ room → place + o ≡ at → ent 𝓤 (H.room (block_type room) b o) (sep 𝓤 (H.room (ty_int w8) b at) (H.room (block_type place) b o))
  last_place room place at more there =
      let here : past (ty_int w8) place o ≡ at = past_bytes place o ∙ omega (arith, there) in
      qed 𝓛 (‵ (froom (block_type room) b o) ∷ []) ∵ rewrite ! 0 (λ (n : ℕ). ‵ (froom (block_type n) b o)) (sym more) refl $
      use1 𝓛 (‵ (froom (block_type place) b o) ⊛ ‵ (froom (block_type 1) b (past (ty_int w8) place o))) (room_cut 𝓛 (ty_int w8) place 1 b o) $ split ! $
      rewrite ! 1 (λ (k : ℕ). ‵ (froom (block_type 1) b k)) here refl $ move ! (1 ∷ []) $
      use1 𝓛 (‵ (froom (ty_int w8) b at) ⊛ ‵ (froom (block_type 0) b (at + 1))) (𝓛.laws.room_uncons (ty_int w8) 0 b at) $ split ! $
      keep ! (0 ∷ 2 ∷ []) $ done !

  pub one_more : (at behind byte : ℕ) (xs : List ℕ) → at + 1 ≡ behind
      → ent 𝓤 (sep 𝓤 (sem 𝓛 (part_at u8 full_share byte b at)) (sem 𝓛 (part_at (Array u8 (length xs)) full_share xs b behind)))
      (sem 𝓛 (part_at (Array u8 (suc (length xs))) full_share (byte ∷ xs) b at))
  one_more at behind byte xs next =
      qed 𝓛 (‵ (part_at u8 full_share byte b at) ∷ ‵ (part_at (Array u8 (length xs)) full_share xs b behind) ∷ []) ∵ move ! (1 ∷ []) $
      use1 𝓛 (‵ (fsep (feq ℕ (length xs) (length xs)) (bytes full_share xs b behind))) (bytes_apart 𝓛 full_share (length xs) xs b behind) $ fsplit ! $ drop ! $
      rewrite ! 0 (λ (k : ℕ). ‵ (bytes full_share xs b k)) (sym next) refl $ move ! (1 ∷ 0 ∷ []) $ fjoin ! $
      feq_i ! ℕ (suc (length xs)) (suc (length xs)) refl $ fjoin ! $ by ! (bytes_whole 𝓛 full_share (suc (length xs)) (byte ∷ xs) b at)

  pub no_bytes : (k : ℕ) → ent 𝓤 (emp 𝓤) (sem 𝓛 (part_at (Array u8 0) full_share [] b k))
  no_bytes k = qed 𝓛 [] ∵ nothing ! $ feq_i ! ℕ 0 0 refl $ fjoin ! $ by ! (bytes_whole 𝓛 full_share 0 [] b k)

  pub all_room : (room : ℕ) (xs : List ℕ)
      → ent 𝓤 (sep 𝓤 (sem 𝓛 (part_at (Array u8 (length xs)) full_share xs b (o + room))) (H.room (block_type room) b o)) (H.room (block_type (room + length xs)) b o)
  all_room room xs =
      qed 𝓛 (‵ (part_at (Array u8 (length xs)) full_share xs b (o + room)) ∷ ‵ (froom (block_type room) b o) ∷ []) ∵
      use1 𝓛 (‵ (fsep (feq ℕ (length xs) (length xs)) (bytes full_share xs b (o + room)))) (bytes_apart 𝓛 full_share (length xs) xs b (o + room)) $ fsplit ! $ drop ! $
      use1 𝓛 (‵ (froom (block_type (length xs)) b (o + room))) (bytes-room 𝓛 xs b (o + room)) $
      rewrite ! 0 (λ (k : ℕ). ‵ (froom (block_type (length xs)) b k)) (sym (past_bytes room o)) refl $ move ! (1 ∷ 0 ∷ []) $
      by ! (room_glue 𝓛 (ty_int w8) room (length xs) b o)
