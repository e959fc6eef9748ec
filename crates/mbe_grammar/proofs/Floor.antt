-- The front of the log stays while frames wait that do not cut it.
use Rattle.std.proofs.Common.{◌≡◌, inl, inr, ◌≤◌, ℕ, List, [], ◌∷◌, length, take, sym, subst, ◌∙◌, arith}
use Rattle.mbe_grammar.specs.declared.entry.Entry.{Entry}
use Rattle.mbe_grammar.specs.declared.machine.Frame.{Frame}
use Rattle.mbe_grammar.specs.declared.machine.Frame.TheVariants as frame
use Rattle.mbe_grammar.specs.Running.{room_of, left_in, HasRoom, HasFloor, Extends}
use Rattle.mbe_grammar.proofs.Log.{IsNew, take_part, longer, left_length, extends_same, extends_part}

below : (floor now : ℕ) (frames : List Frame) → HasRoom now frames → HasFloor floor now frames → floor ≤ now
below floor now [] h k = k
below floor now (it ∷ older) h k = omega (arith, h.0, below floor (room_of now it) older h.1 k)

more_floor : (floor n m : ℕ) (frames : List Frame) → n ≤ m → HasFloor floor n frames → HasFloor floor m frames
more_floor floor n m [] le h = omega (arith, le, h)
more_floor floor n m (frame.InName since ∷ older) le h = h
more_floor floor n m (frame.InSequence second ∷ older) le h = more_floor floor n m older le h
more_floor floor n m (frame.InChoice other kept ∷ older) le h = h
more_floor floor n m (frame.InRepetition at kept ∷ older) le h = h
more_floor floor n m (frame.InNot kept ∷ older) le h = h

left_front : (log : List Entry) (it : Frame) → room_of (length log) it ≤ length log → Extends (left_in log it) log
left_front log (frame.InName since) le = extends_part log since le
left_front log (frame.InSequence second) le = extends_same log
left_front log (frame.InChoice other kept) le = extends_part log kept.taken le
left_front log (frame.InRepetition at kept) le = extends_part log kept.taken le
left_front log (frame.InNot kept) le = extends_part log kept.taken le

module _ (floor : ℕ) (old new : List Entry) where
  -- The log grows.
  pub floor_same : (frames : List Frame) → Extends old new → HasFloor floor (length old) frames → HasFloor floor (length new) frames
  floor_same frames e h = more_floor floor (length old) (length new) frames (longer old new e) h

  pub kept_same : (frames : List Frame) → Extends old new → HasRoom (length old) frames → HasFloor floor (length old) frames → take floor new ≡ take floor old
  kept_same frames e room h = take_part floor old new (below floor (length old) frames room h) e

  -- A frame is added.
  pub floor_pushed : (it : Frame) (frames after : List Frame) → after ≡ it ∷ frames → IsNew old new it → Extends old new → HasFloor floor (length old) frames → HasFloor floor (length new) after
  floor_pushed it frames after more (inl is) e h = subst (HasFloor floor (length new)) (sym more) (subst (λ n. HasFloor floor n frames) (sym is) h)
  floor_pushed it frames after more (inr is) e h = subst (HasFloor floor (length new)) (sym more) (subst (λ n. HasFloor floor n frames) (sym is) (floor_same frames e h))

  -- A frame is removed.
  floor_less : (it : Frame) (frames : List Frame) → Extends (left_in old it) new → HasRoom (length old) (it ∷ frames) → HasFloor floor (length old) (it ∷ frames) → HasFloor floor (length new) frames
  floor_less it frames e room h =
      more_floor floor (length (left_in old it)) (length new) frames (longer (left_in old it) new e) (subst (λ n. HasFloor floor n frames) (sym (left_length old it room.0)) h)

  kept_less : (it : Frame) (frames : List Frame) → Extends (left_in old it) new → HasRoom (length old) (it ∷ frames) → HasFloor floor (length old) (it ∷ frames) → take floor new ≡ take floor old
  kept_less it frames e room h =
      let fits : floor ≤ length (left_in old it) = omega (arith, below floor (room_of (length old) it) frames room.1 h, left_length old it room.0) in
      take_part floor (left_in old it) new fits e ∙ sym (take_part floor (left_in old it) old fits (left_front old it room.0))

  pub floor_popped : (it : Frame) (before frames : List Frame) → before ≡ it ∷ frames → Extends (left_in old it) new → HasRoom (length old) before → HasFloor floor (length old) before
      → HasFloor floor (length new) frames
  floor_popped it before frames was e room h = floor_less it frames e (subst (HasRoom (length old)) was room) (subst (HasFloor floor (length old)) was h)

  pub kept_popped : (it : Frame) (before frames : List Frame) → before ≡ it ∷ frames → Extends (left_in old it) new → HasRoom (length old) before → HasFloor floor (length old) before
      → take floor new ≡ take floor old
  kept_popped it before frames was e room h = kept_less it frames e (subst (HasRoom (length old)) was room) (subst (HasFloor floor (length old)) was h)
