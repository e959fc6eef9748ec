-- The running machine, in the terms of its definitions.
use Rattle.std.specs.Prelude.{◌≡◌, ◌≤◌, ℕ, Bool, true, false, List, [], ◌∷◌, take, length, Option, None, Some, option_map}
use Rattle.tt.specs.Forest.{Forest}
use Rattle.mbe_grammar.specs.declared.entry.Entry.{Entry}
use Rattle.mbe_grammar.specs.declared.machine.Begun.{Begun}
use Rattle.mbe_grammar.specs.declared.machine.Frame.{Frame}
use Rattle.mbe_grammar.specs.declared.machine.Frame.TheVariants as frame
use Rattle.mbe_grammar.specs.declared.machine.Kept.{Kept}
use Rattle.mbe_grammar.specs.declared.machine.Next.{Next}
use Rattle.mbe_grammar.specs.declared.machine.Next.TheVariants as next
use Rattle.mbe_grammar.specs.declared.machine.State.{State}
use Rattle.mbe_grammar.specs.declared.machine.State.TheVariants as state
use Rattle.mbe_grammar.specs.declared.machine.Waiting.{Waiting}
use Rattle.mbe_grammar.specs.declared.machine.Waiting.TheVariants as waiting
use Rattle.mbe_grammar.specs.Machine as machine
use Rattle.mbe_grammar.specs.Places.{position_of}
use Rattle.mbe_grammar.specs.Positions.{Position}

-- the answer of an expression that ends at the machine's place, or fails
abbrev pub answer_at : (here : Position) → (ends : Bool) → Option Position
answer_at here true = Some here
answer_at here false = None

-- what the machine does next there
abbrev pub state_at : (here : Position) → State → machine.State
state_at here (state.Reading at) = machine.reading at here
state_at here (state.Answered ends) = machine.answered (answer_at here ends)

-- a place to return to, with the log cut to the length that it had there
abbrev pub kept_at : (trees : Forest) → (log : List Entry) → Kept → Position
kept_at trees log kept = position_of trees (take kept.taken log) kept.passed

-- what waits
abbrev pub frame_of : (trees : Forest) → (log : List Entry) → Frame → machine.Frame
frame_of trees log (frame.InName since) = machine.in_name since
frame_of trees log (frame.InSequence second) = machine.in_sequence second
frame_of trees log (frame.InChoice other kept) = machine.in_choice other (kept_at trees log kept)
frame_of trees log (frame.InRepetition at kept) = machine.in_repetition at (kept_at trees log kept)
frame_of trees log (frame.InNot kept) = machine.in_not (kept_at trees log kept)

-- the length of the log when the frame began to wait; that of now if the frame does not cut it back
abbrev pub room_of : (now : ℕ) → Frame → ℕ
room_of now (frame.InName since) = since
room_of now (frame.InSequence second) = now
room_of now (frame.InChoice other kept) = kept.taken
room_of now (frame.InRepetition at kept) = kept.taken
room_of now (frame.InNot kept) = kept.taken

-- the length of the log when that began to wait, which has that length now
abbrev pub waiting_room : (now : ℕ) → Waiting → ℕ
waiting_room now (waiting.InName since) = since
waiting_room now _ = now

-- the log when the frame began to wait
abbrev pub left_in : (log : List Entry) → Frame → List Entry
left_in log (frame.InName since) = take since log
left_in log (frame.InSequence second) = log
left_in log (frame.InChoice other kept) = take kept.taken log
left_in log (frame.InRepetition at kept) = take kept.taken log
left_in log (frame.InNot kept) = take kept.taken log

-- all that waits, the newest first; each frame with the log of its time
abbrev pub frames_of : (trees : Forest) → (log : List Entry) → List Frame → List machine.Frame
frames_of trees log [] = []
frames_of trees log (frame ∷ older) = frame_of trees log frame ∷ frames_of trees (left_in log frame) older

-- no frame has a longer log than a newer one
abbrev pub HasRoom : (now : ℕ) → List Frame → Type 0
HasRoom now [] = Unit {0}
HasRoom now (frame ∷ older) = (room_of now frame ≤ now) × HasRoom (room_of now frame) older

-- no frame cuts the log to fewer entries than that
abbrev pub HasFloor : (floor now : ℕ) → List Frame → Type 0
HasFloor floor now [] = floor ≤ now
HasFloor floor now (frame ∷ older) = HasFloor floor (room_of now frame) older

-- the old log is the front of the new one
abbrev pub Extends : (old new : List Entry) → Type 0
Extends old new = take (length old) new ≡ old

-- what begins to wait there
abbrev pub waiting_at : (here : Position) → Waiting → machine.Frame
waiting_at here (waiting.InName since) = machine.in_name since
waiting_at here (waiting.InSequence second) = machine.in_sequence second
waiting_at here (waiting.InChoice other) = machine.in_choice other here
waiting_at here (waiting.InRepetition at) = machine.in_repetition at here
waiting_at here waiting.InNot = machine.in_not here

-- how an expression begins
abbrev pub begun_at : (here : Position) → Begun → machine.Begun
begun_at here begun = record { state = state_at here begun.state; waiting = option_map (waiting_at here) begun.waiting }

-- the outcome of a step
abbrev pub next_at : (here : Position) → Next → machine.Next
next_at here (next.Goes state) = machine.goes (state_at here state)
next_at here (next.Ends ends) = machine.ends (answer_at here ends)
