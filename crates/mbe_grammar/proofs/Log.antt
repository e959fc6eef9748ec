-- The waiting frames keep their meaning while the log grows.
use Rattle.std.proofs.Common.{◌≡◌, inl, inr, ◌≤◌, ℕ, suc, zero, List, [], ◌∷◌, ◌++◌, length, take, refl, sym, subst, ap, ◌∙◌, arith}
use Rattle.std.proofs.lemmas.List.{length-take-le}
use Rattle.std.proofs.Math.Seq.{take-length}
use Rattle.std.specs.Prelude.{◌⊎◌}
use Rattle.tt.specs.Forest.{Forest}
use Rattle.mbe_grammar.specs.declared.entry.Entry.{Entry}
use Rattle.mbe_grammar.specs.declared.machine.Frame.{Frame}
use Rattle.mbe_grammar.specs.declared.machine.Frame.TheVariants as frame
use Rattle.mbe_grammar.specs.Machine as machine
use Rattle.mbe_grammar.specs.Places.{position_of}
use Rattle.mbe_grammar.specs.Running.{frame_of, room_of, left_in, frames_of, HasRoom, Extends}

-- The front of an old log is the front of a log that extends it.
pub take_part : (k : ℕ) (old new : List Entry) → k ≤ length old → Extends old new → take k new ≡ take k old
take_part zero old new le e = refl
take_part (suc k) [] new le e = absurd (omega (arith, le))
take_part (suc k) (x ∷ old) [] le e = absurd (cc e)
take_part (suc k) (x ∷ old) (y ∷ new) le e =
    let same : y ≡ x = cc e in
    let others : take (length old) new ≡ old = cc e in
    ap (λ (h : Entry). h ∷ take k new) same ∙ ap (λ t. x ∷ t) (take_part k old new (omega (arith, le)) others)

pub longer : (old new : List Entry) → Extends old new → length old ≤ length new
longer [] new e = omega arith
longer (x ∷ old) [] e = absurd (cc e)
longer (x ∷ old) (y ∷ new) e =
    let others : take (length old) new ≡ old = cc e in
    omega (arith, longer old new others)

pub more_room : (n m : ℕ) (frames : List Frame) → n ≤ m → HasRoom n frames → HasRoom m frames
more_room n m [] le h = tt
more_room n m (frame.InName since ∷ older) le h = (omega (arith, le, h.0), h.1)
more_room n m (frame.InSequence second ∷ older) le h = (omega arith, more_room n m older le h.1)
more_room n m (frame.InChoice other kept ∷ older) le h = (omega (arith, le, h.0), h.1)
more_room n m (frame.InRepetition at kept ∷ older) le h = (omega (arith, le, h.0), h.1)
more_room n m (frame.InNot kept ∷ older) le h = (omega (arith, le, h.0), h.1)

pub frames_kept : (trees : Forest) (old new : List Entry) (frames : List Frame) → Extends old new → HasRoom (length old) frames → frames_of trees new frames ≡ frames_of trees old frames
frames_kept trees old new [] e h = refl
frames_kept trees old new (frame.InName since ∷ older) e h =
    ap (λ (log : List Entry). machine.in_name since ∷ frames_of trees log older) (take_part since old new h.0 e)
frames_kept trees old new (frame.InSequence second ∷ older) e h = ap (λ t. machine.in_sequence second ∷ t) (frames_kept trees old new older e h.1)
frames_kept trees old new (frame.InChoice other kept ∷ older) e h =
    ap (λ (log : List Entry). machine.in_choice other (position_of trees log kept.passed) ∷ frames_of trees log older) (take_part kept.taken old new h.0 e)
frames_kept trees old new (frame.InRepetition at kept ∷ older) e h =
    ap (λ (log : List Entry). machine.in_repetition at (position_of trees log kept.passed) ∷ frames_of trees log older) (take_part kept.taken old new h.0 e)
frames_kept trees old new (frame.InNot kept ∷ older) e h =
    ap (λ (log : List Entry). machine.in_not (position_of trees log kept.passed) ∷ frames_of trees log older) (take_part kept.taken old new h.0 e)

-- a frame begins to wait: the log has now the length that it has with the frame, or it had that length before the step
abbrev pub IsNew : (old new : List Entry) (it : Frame) → Type 0
IsNew old new it = (room_of (length new) it ≡ length old) ⊎ (room_of (length new) it ≡ length new)

left_old : (old new : List Entry) (n : ℕ) → n ≡ length old → Extends old new → Extends old (take n new)
left_old old new n is e = subst (Extends old) (sym (ap (λ k. take k new) is ∙ e)) (take-length old)

left_new : (old new : List Entry) (n : ℕ) → n ≡ length new → Extends old new → Extends old (take n new)
left_new old new n is e = subst (Extends old) (sym (ap (λ k. take k new) is ∙ take-length new)) e

cut_extends : (old new : List Entry) (n : ℕ) → (n ≡ length old) ⊎ (n ≡ length new) → Extends old new → Extends old (take n new)
cut_extends old new n (inl is) e = left_old old new n is e
cut_extends old new n (inr is) e = left_new old new n is e

-- The log with a new frame extends the log before the step.
left_extends : (old new : List Entry) (it : Frame) → Extends old new → IsNew old new it → Extends old (left_in new it)
left_extends old new (frame.InSequence second) e w = e
left_extends old new (frame.InName since) e w = cut_extends old new since w e
left_extends old new (frame.InChoice other kept) e w = cut_extends old new kept.taken w e
left_extends old new (frame.InRepetition at kept) e w = cut_extends old new kept.taken w e
left_extends old new (frame.InNot kept) e w = cut_extends old new kept.taken w e

fits_new : (old new : List Entry) (it : Frame) → Extends old new → IsNew old new it → room_of (length new) it ≤ length new
fits_new old new it e (inl is) = omega (arith, is, longer old new e)
fits_new old new it e (inr is) = omega (arith, is)

-- the length of the log when the frame began to wait
pub left_length : (log : List Entry) (it : Frame) → room_of (length log) it ≤ length log → length (left_in log it) ≡ room_of (length log) it
left_length log (frame.InName since) le = length-take-le since log le
left_length log (frame.InSequence second) le = refl
left_length log (frame.InChoice other kept) le = length-take-le kept.taken log le
left_length log (frame.InRepetition at kept) le = length-take-le kept.taken log le
left_length log (frame.InNot kept) le = length-take-le kept.taken log le

-- After a frame is added, the others keep their meaning.
pub frames_more : (trees : Forest) (old new : List Entry) (it : Frame) (frames : List Frame) → Extends old new → IsNew old new it → HasRoom (length old) frames
    → frames_of trees new (it ∷ frames) ≡ frame_of trees new it ∷ frames_of trees old frames
frames_more trees old new it frames e w h = ap (λ t. frame_of trees new it ∷ t) (frames_kept trees old (left_in new it) frames (left_extends old new it e w) h)

pub room_same : (old new : List Entry) (frames : List Frame) → Extends old new → HasRoom (length old) frames → HasRoom (length new) frames
room_same old new frames e h = more_room (length old) (length new) frames (longer old new e) h

pub room_more : (old new : List Entry) (it : Frame) (frames : List Frame) → Extends old new → IsNew old new it → HasRoom (length old) frames
    → HasRoom (length new) (it ∷ frames)
room_more old new it frames e w h =
    let fits = fits_new old new it e w in
    (fits, subst (λ n. HasRoom n frames) (left_length new it fits) (room_same old (left_in new it) frames (left_extends old new it e w) h))

-- After a frame is removed, the others keep their meaning.
pub frames_less : (trees : Forest) (log new : List Entry) (it : Frame) (frames : List Frame) → Extends (left_in log it) new → HasRoom (length log) (it ∷ frames)
    → frames_of trees new frames ≡ frames_of trees (left_in log it) frames
frames_less trees log new it frames e h =
    frames_kept trees (left_in log it) new frames e (subst (λ n. HasRoom n frames) (sym (left_length log it h.0)) h.1)

pub room_less : (log new : List Entry) (it : Frame) (frames : List Frame) → Extends (left_in log it) new → HasRoom (length log) (it ∷ frames)
    → HasRoom (length new) frames
room_less log new it frames e h =
    more_room (length (left_in log it)) (length new) frames (longer (left_in log it) new e) (subst (λ n. HasRoom n frames) (sym (left_length log it h.0)) h.1)

-- A log extends itself and each of its fronts.
pub extends_same : (log : List Entry) → Extends log log
extends_same log = take-length log

pub extends_push : (log : List Entry) (it : Entry) → Extends log (log ++ it ∷ [])
extends_push [] it = refl
extends_push (x ∷ log) it = ap (λ t. x ∷ t) (extends_push log it)

pub extends_part : (log : List Entry) (k : ℕ) → k ≤ length log → Extends (take k log) log
extends_part log k le = ap (λ n. take n log) (length-take-le k log le)
