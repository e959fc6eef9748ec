-- A step of the running machine, which has a log, is a step of the definition.
use Rattle.std.proofs.Common.{◌≡◌, inl, inr, ℕ, true, false, List, [], ◌∷◌, ◌++◌, length, map, reverse, refl, sym, subst, ap, ◌∙◌}
use Rattle.std.proofs.lemmas.List.{length-map, reverse-append}
use Rattle.std.specs.Prelude.{◌⊎◌, Option, Bool, None, Some, option_map, slice_get}
use Rattle.tt.specs.Forest.{Forest}
use Rattle.mbe_grammar.specs.declared.entry.Entry.{Entry}
use Rattle.mbe_grammar.specs.declared.known.Glance.{Glance}
use Rattle.mbe_grammar.specs.declared.known.Glance.TheVariants as glance
use Rattle.mbe_grammar.specs.declared.machine.Begun.{Begun}
use Rattle.mbe_grammar.specs.declared.machine.Frame.{Frame}
use Rattle.mbe_grammar.specs.declared.machine.State.{State}
use Rattle.mbe_grammar.specs.declared.machine.State.TheVariants as state
use Rattle.mbe_grammar.specs.declared.machine.Waiting.{Waiting}
use Rattle.mbe_grammar.specs.declared.machine.Waiting.TheVariants as waiting
use Rattle.mbe_grammar.specs.declared.rule.Rule.{Rule}
use Rattle.mbe_grammar.specs.declared.rule.Rule.TheVariants as rule
use Rattle.mbe_grammar.specs.Machine as machine
use Rattle.mbe_grammar.specs.Machine.{awaited, begun_name, begun_behind, begun_first, begun_sequence, begun_try, begun_choice, begun_by, begun, resumed, IsStep}
use Rattle.mbe_grammar.specs.Places.{entry, position_of}
use Rattle.mbe_grammar.specs.Positions.{Position, takes}
use Rattle.mbe_grammar.specs.Running.{answer_at, state_at, frame_of, room_of, waiting_room, left_in, frames_of, HasRoom, Extends, waiting_at, begun_at}
use Rattle.mbe_grammar.proofs.Log.{IsNew, frames_kept, frames_more, frames_less, room_more, room_less}

pub pushed : (frames : List Frame) (it : Frame) → reverse (frames ++ it ∷ []) ≡ it ∷ reverse frames
pushed frames it = reverse-append frames (it ∷ [])

module _ (noting : Bool) (looks : ℕ → Position → Glance) (rules : List Rule) where
  pub reads : (trees : Forest) (old new : List Entry) (here there : ℕ) (now : State) (at : ℕ) → now ≡ state.Reading at → (it : Begun) (frames after : List Frame)
      → begun_at (position_of trees new there) it ≡ begun noting looks rules at (position_of trees old here)
      → frames_of trees new after ≡ awaited (option_map (waiting_at (position_of trees new there)) it.waiting) (frames_of trees old frames)
      → IsStep noting looks rules (state_at (position_of trees old here) now) (frames_of trees old frames) (machine.goes (state_at (position_of trees new there) it.state)) (frames_of trees new after)
  reads trees old new here there now at is it frames after e then =
      subst (λ s. IsStep noting looks rules (state_at (position_of trees old here) s) (frames_of trees old frames) (machine.goes (state_at (position_of trees new there) it.state)) (frames_of trees new after)) (sym is) (
        ap (λ (b : machine.Begun). machine.goes b.state) e,
        then ∙ ap (λ (b : machine.Begun). awaited b.waiting (frames_of trees old frames)) e,
      )

  pub pops : (trees : Forest) (old new : List Entry) (here there : ℕ) (now : State) (ends : Bool) → now ≡ state.Answered ends → (it : Frame) (before frames : List Frame) → before ≡ it ∷ frames
      → (next : State) → state_at (position_of trees new there) next ≡ resumed looks (frame_of trees old it) (answer_at (position_of trees old here) ends) → Extends (left_in old it) new → HasRoom (length old) before
      → IsStep noting looks rules (state_at (position_of trees old here) now) (frames_of trees old before) (machine.goes (state_at (position_of trees new there) next)) (frames_of trees new frames)
  pops trees old new here there now ends is it before frames was next e x h =
      subst (λ s. IsStep noting looks rules (state_at (position_of trees old here) s) (frames_of trees old before) (machine.goes (state_at (position_of trees new there) next)) (frames_of trees new frames)) (sym is)
      (subst (λ b. IsStep noting looks rules (machine.answered (answer_at (position_of trees old here) ends)) (frames_of trees old b) (machine.goes (state_at (position_of trees new there) next)) (frames_of trees new frames)) (sym was) (
        ap machine.goes e,
        frames_less trees old new it frames x (subst (HasRoom (length old)) was h),
      ))

-- a name waits with this length of the log
abbrev OwnName : (before : ℕ) → Option machine.Frame → Type 0
OwnName before (Some (machine.in_name since)) = since ≡ before
OwnName before _ = Unit {0}

module _ (noting : Bool) (looks : ℕ → Position → Glance) (rules : List Rule) (from : Position) where
  abbrev Owns : machine.Begun → Type 0
  Owns begun = OwnName (length from.log) begun.waiting

  owns_name : (b : Bool) (at other : ℕ) → Owns (begun_name b at other from)
  owns_name true at other = refl
  owns_name false at other = tt

  owns_behind : (second : ℕ) (answer : Option Position) → Owns (begun_behind looks second answer)
  owns_behind second None = tt
  owns_behind second (Some middle) = tt

  owns_first : (first second : ℕ) (look : Glance) → Owns (begun_first first second from look)
  owns_first first second glance.Fails = tt
  owns_first first second glance.Idles = tt
  owns_first first second glance.Open = tt

  owns_sequence : (first second : ℕ) (it : Option Rule) → Owns (begun_sequence noting looks first second from it)
  owns_sequence first second (Some (rule.Unit wanted)) = owns_behind second (takes noting wanted from)
  owns_sequence first second None = owns_first first second (looks first from)
  owns_sequence first second (Some rule.Empty) = owns_first first second (looks first from)
  owns_sequence first second (Some (rule.Name x)) = owns_first first second (looks first from)
  owns_sequence first second (Some (rule.Sequence x y)) = owns_first first second (looks first from)
  owns_sequence first second (Some (rule.Choice x y)) = owns_first first second (looks first from)
  owns_sequence first second (Some (rule.ZeroOrMore x)) = owns_first first second (looks first from)
  owns_sequence first second (Some (rule.Not x)) = owns_first first second (looks first from)

  owns_try : (first other : ℕ) (look : Glance) → Owns (begun_try first other from look)
  owns_try first other glance.Fails = tt
  owns_try first other glance.Idles = tt
  owns_try first other glance.Open = tt

  owns_choice : (first other : ℕ) (look of_other : Glance) → Owns (begun_choice first other from look of_other)
  owns_choice first other glance.Fails of_other = tt
  owns_choice first other glance.Idles of_other = owns_try first other of_other
  owns_choice first other glance.Open of_other = owns_try first other of_other

  owns_by : (at : ℕ) (it : Option Rule) → Owns (begun_by noting looks rules at from it)
  owns_by at None = tt
  owns_by at (Some rule.Empty) = tt
  owns_by at (Some (rule.Unit wanted)) = tt
  owns_by at (Some (rule.Name other)) = owns_name noting at other
  owns_by at (Some (rule.Sequence first second)) = owns_sequence first second (slice_get rules first)
  owns_by at (Some (rule.Choice first other)) = owns_choice first other (looks first from) (looks other from)
  owns_by at (Some (rule.ZeroOrMore part)) = tt
  owns_by at (Some (rule.Not part)) = tt

  -- A name begins to wait with the length that the log has before it.
  owns : (at : ℕ) → Owns (begun noting looks rules at from)
  owns at = owns_by at (slice_get rules at)

own_room : (old new : List Entry) (here there : Position) (it : Waiting) → OwnName (length old) (Some (waiting_at there it)) → (waiting_room (length new) it ≡ length old) ⊎ (waiting_room (length new) it ≡ length new)
own_room old new here there (waiting.InName since) e = inl e
own_room old new here there (waiting.InSequence second) e = inr refl
own_room old new here there (waiting.InChoice other) e = inr refl
own_room old new here there (waiting.InRepetition at) e = inr refl
own_room old new here there waiting.InNot e = inr refl

-- So a frame that begins to wait is new.
pub is_new : (trees : Forest) (noting : Bool) (looks : ℕ → Position → Glance) (rules : List Rule) (old new : List Entry) (here there : ℕ) (at : ℕ) (starts : Begun) (it : Waiting) (frame : Frame)
    → begun_at (position_of trees new there) starts ≡ machine.begun noting looks rules at (position_of trees old here) → starts.waiting ≡ Some it
    → room_of (length new) frame ≡ waiting_room (length new) it → IsNew old new frame
is_new trees noting looks rules old new here there at starts it frame e is room =
    let waits : option_map (waiting_at (position_of trees new there)) starts.waiting ≡ (machine.begun noting looks rules at (position_of trees old here)).waiting = ap (λ (b : machine.Begun). b.waiting) e in
    let some : Some (waiting_at (position_of trees new there) it) ≡ (machine.begun noting looks rules at (position_of trees old here)).waiting = sym (ap (option_map (waiting_at (position_of trees new there))) is) ∙ waits in
    let own : OwnName (length (map entry old)) (Some (waiting_at (position_of trees new there) it)) = subst (λ w. OwnName (length (map entry old)) w) (sym some) (owns noting looks rules (position_of trees old here) at) in
    subst (λ n. (n ≡ length old) ⊎ (n ≡ length new)) (sym room)
    (own_room old new (position_of trees old here) (position_of trees new there) it (subst (λ n. OwnName n (Some (waiting_at (position_of trees new there) it))) (length-map old entry) own))

-- Nothing waits more than before.
pub waits_none : (trees : Forest) (old new : List Entry) (there : Position) (waiting : Option Waiting) (frames : List Frame) → waiting ≡ None → Extends old new → HasRoom (length old) frames
    → frames_of trees new frames ≡ awaited (option_map (waiting_at there) waiting) (frames_of trees old frames)
waits_none trees old new there waiting frames is x h =
    frames_kept trees old new frames x h ∙ ap (λ w. awaited (option_map (waiting_at there) w) (frames_of trees old frames)) (sym is)

-- A frame waits more than before.
pub waits_some : (trees : Forest) (old new : List Entry) (there : Position) (waiting : Option Waiting) (it : Waiting) (frame : Frame) (frames after : List Frame) → waiting ≡ Some it → after ≡ frame ∷ frames
    → frame_of trees new frame ≡ waiting_at there it → IsNew old new frame → Extends old new → HasRoom (length old) frames
    → frames_of trees new after ≡ awaited (option_map (waiting_at there) waiting) (frames_of trees old frames)
waits_some trees old new there waiting it frame frames after is more same room x h =
    ap (frames_of trees new) more ∙ frames_more trees old new frame frames x room h ∙ ap (λ (f : machine.Frame). f ∷ frames_of trees old frames) same
    ∙ ap (λ w. awaited (option_map (waiting_at there) w) (frames_of trees old frames)) (sym is)

pub room_pushed : (old new : List Entry) (it : Frame) (frames after : List Frame) → after ≡ it ∷ frames → IsNew old new it → Extends old new → HasRoom (length old) frames
    → HasRoom (length new) after
room_pushed old new it frames after more room x h = subst (HasRoom (length new)) (sym more) (room_more old new it frames x room h)

pub room_popped : (old new : List Entry) (it : Frame) (before frames : List Frame) → before ≡ it ∷ frames → Extends (left_in old it) new → HasRoom (length old) before → HasRoom (length new) frames
room_popped old new it before frames was x h = room_less old new it frames x (subst (HasRoom (length old)) was h)
